-- Chains of rules. Assumes nothing.
use Rattle.std.specs.Prelude.{◌≡◌, ℕ, List, [], ◌∷◌, ℤ, pos, ◌+ℤ◌}
use Rattle.rules.specs.declared.records.Rule.{Rule}
use Rattle.rules.specs.Meets.{◌∈◌}

-- the path is a chain from a to b: each of its rules stands among the rules and starts at the event where the one before ends; the empty chain goes from an event to itself
abbrev pub Chain : List Rule → ℕ → ℕ → List Rule → Type 0
Chain rules a b [] = a ≡ b
Chain rules a b (r ∷ path) = r ∈ rules × (a ≡ r.first) × Chain rules r.second b path

-- the sum of a path's limits
abbrev pub sum : List Rule → ℤ
sum [] = pos 0
sum (r ∷ path) = r.limit +ℤ sum path

-- the events that a path comes to, one after each rule
abbrev pub stops : List Rule → List ℕ
stops [] = []
stops (r ∷ path) = r.second ∷ stops path

-- a reaches b: some chain leads from a to b
abbrev pub Reaches : List Rule → ℕ → ℕ → Type 0
Reaches rules a b = (path : List Rule) × Chain rules a b path

-- no number stands twice in the list
abbrev pub Distinct : List ℕ → Type 0
Distinct [] = Unit {0}
Distinct (x ∷ xs) = (¬ (x ∈ xs)) × Distinct xs

-- the path is a chain from a to b that visits no event twice, a among them
pub record Simple (rules : List Rule) (a b : ℕ) (path : List Rule) : Type 0 where
  pub chain : Chain rules a b path
  pub once : Distinct (a ∷ stops path)
