-- What holds of chains and rings. Assumes nothing.
use Rattle.std.specs.Prelude.{◌≡◌, ℕ, ◌<◌, ◌≤◌, List, ◌++◌, length, pos, ◌+ℤ◌, ◌≤ℤ◌, ◌<ℤ◌}
use Rattle.rules.specs.declared.records.Rule.{Rule}
use Rattle.rules.specs.Meets.{◌∈◌, Times, lead, Meets, EventsBelow}
use Rattle.rules.specs.Chains.{Chain, sum, Simple}
use Rattle.rules.specs.Rings.{Negative, NegativeRingBetween}

-- along a chain, times that meet the rules lead by at most its sum
abbrev pub ChainsBoundLeads : Type 0
ChainsBoundLeads = (rules : List Rule) (t : Times) → Meets rules t → (a b : ℕ) (path : List Rule) → Chain rules a b path → lead t a b ≤ℤ sum path

-- chains one after the other are a chain, and their sums add
abbrev pub ChainsJoin : Type 0
ChainsJoin = (rules : List Rule) (a b c : ℕ) (p q : List Rule) → Chain rules a b p → Chain rules b c q → Chain rules a c (p ++ q) × (sum (p ++ q) ≡ sum p +ℤ sum q)

-- over n events, a chain with no negative ring on its way can be shortened to one that visits no event twice, with no larger sum, no more rules, and fewer rules than n
abbrev pub ChainsShorten : Type 0
ChainsShorten = (n : ℕ) (rules : List Rule) → EventsBelow n rules → (a b : ℕ) → a < n → ¬ NegativeRingBetween rules a b → (path : List Rule) → Chain rules a b path → (short : List Rule) × Simple rules a b short × (sum short ≤ℤ sum path) × (length short ≤ length path) × (length short < n)

-- a closed chain with a sum below 0 holds a negative ring: one of rules on the chain
abbrev pub ClosedChainsHoldRings : Type 0
ClosedChainsHoldRings = (rules : List Rule) (a : ℕ) (path : List Rule) → Chain rules a a path → sum path <ℤ pos 0 → (ring : List Rule) × Negative rules ring × ((r : Rule) → r ∈ ring → r ∈ path)
