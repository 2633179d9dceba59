-- Shortest chains and distances. Assumes nothing.
use Rattle.std.specs.Prelude.{◌≡◌, ℕ, ◌+◌, ◌<◌, ◌≤◌, List, [], ◌∷◌, ◌++◌, length, ℤ, pos, negsuc, ◌≤ℤ◌, slice_index_or}
use Rattle.rules.specs.declared.records.Rule.{Rule}
use Rattle.rules.specs.Meets.{◌∈◌, Times, lead}
use Rattle.rules.specs.Chains.{Chain, sum, Reaches}

-- the path is a shortest chain from a to b: no chain from a to b has a smaller sum
pub record Shortest (rules : List Rule) (a b : ℕ) (path : List Rule) : Type 0 where
  pub chain : Chain rules a b path
  pub least : (other : List Rule) → Chain rules a b other → sum path ≤ℤ sum other

-- d is the distance from a to b, the sum of a shortest chain; where there is no shortest chain there is no distance
abbrev pub Distance : List Rule → ℕ → ℕ → ℤ → Type 0
Distance rules a b d = (path : List Rule) × Shortest rules a b path × (sum path ≡ d)

-- no chain leads from a to b
abbrev pub Unreached : List Rule → ℕ → ℕ → Type 0
Unreached rules a b = ¬ Reaches rules a b

-- of the shortest chains from a to b, the path is one with fewest rules
pub record FewestRules (rules : List Rule) (a b : ℕ) (path : List Rule) : Type 0 where
  pub shortest : Shortest rules a b path
  pub fewest : (other : List Rule) → Shortest rules a b other → length path ≤ length other

-- 1 for a limit below 0, and else 0
abbrev pub below_zero : ℤ → ℕ
below_zero (pos n) = 0
below_zero (negsuc n) = 1

-- how many rules of a path have a limit below 0
abbrev pub negatives : List Rule → ℕ
negatives [] = 0
negatives (r ∷ path) = below_zero r.limit + negatives path

-- k is the fewest limits below 0 that a shortest chain from a to b has
pub record FewestNegatives (rules : List Rule) (a b k : ℕ) : Type 0 where
  pub attained : (path : List Rule) × Shortest rules a b path × (negatives path ≡ k)
  pub fewest : (other : List Rule) → Shortest rules a b other → k ≤ negatives other

-- k is the rounds from a source: the largest, over the events that it reaches, of the fewest limits below 0
pub record Rounds (rules : List Rule) (source k : ℕ) : Type 0 where
  pub attained : (v : ℕ) × FewestNegatives rules source v k
  pub bound : (v j : ℕ) → FewestNegatives rules source v j → j ≤ k

-- the rule at the place, counted from 0, is r
abbrev pub StandsAt : List Rule → ℕ → Rule → Type 0
StandsAt rules place r = (place < length rules) × ((other : Rule) → slice_index_or rules place other ≡ r)

-- the rule at the place ends a shortest chain with fewest rules from a to b
pub record Ends (rules : List Rule) (a b place : ℕ) : Type 0 where
  pub rule : Rule
  pub stands : StandsAt rules place rule
  pub before : List Rule
  pub fewest : FewestRules rules a b (before ++ rule ∷ [])

-- of the places whose rule ends a shortest chain with fewest rules from a to b, this is the lowest
pub record LowestEnd (rules : List Rule) (a b place : ℕ) : Type 0 where
  pub ends : Ends rules a b place
  pub lowest : (other : ℕ) → Ends rules a b other → place ≤ other

-- times meet the rules that concern a source: those whose first event it reaches
abbrev pub MeetsFrom : List Rule → ℕ → Times → Type 0
MeetsFrom rules source t = (r : Rule) → r ∈ rules → Reaches rules source r.first → lead t r.first r.second ≤ℤ r.limit

-- the rules that concern a source can be met together
abbrev pub MeetableFrom : List Rule → ℕ → Type 0
MeetableFrom rules source = (t : Times) × MeetsFrom rules source t
