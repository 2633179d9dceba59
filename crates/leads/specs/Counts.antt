-- What is counted along chains, whatever it is, and the least of it: Tellings has the same for rules and for limits below 0, in their own words. Assumes nothing.
use Rattle.std.specs.Prelude.{◌≡◌, ℕ, ◌+◌, ◌≤◌, List, [], ◌∷◌, ℤ, Some, None, Option}
use Rattle.rules.specs.declared.records.Rule.{Rule}
use Rattle.rules.specs.Chains.{Reaches}
use Rattle.rules.specs.Distances.{Distance, Unreached, Shortest}
use Rattle.search.specs.Forests.{Forest, Traced, rules_at}
use Rattle.leads.specs.declared.records.Measure.{Measure}

-- what the rules of a path count together, where each counts so much by its limit
abbrev pub tally : (ℤ → ℕ) → List Rule → ℕ
tally counts [] = 0
tally counts (r ∷ path) = counts r.limit + tally counts path

-- of the shortest chains from a to b, the path is one that counts least
pub record CountsLeast (counts : ℤ → ℕ) (rules : List Rule) (a b : ℕ) (path : List Rule) : Type 0 where
  pub shortest : Shortest rules a b path
  pub least : (other : List Rule) → Shortest rules a b other → tally counts path ≤ tally counts other

-- none where no chain leads from a to b, and else the distance and the least count of a shortest chain
abbrev pub Told : (ℤ → ℕ) → List Rule → ℕ → ℕ → Option Measure → Type 0
Told counts rules a b None = Unreached rules a b
Told counts rules a b (Some m) = (path : List Rule) × CountsLeast counts rules a b path × Distance rules a b m.distance × (tally counts path ≡ m.count)

-- chains by parents are shortest: to an event that a reaches each leads from a, and of the shortest chains it is one that counts least
pub record Parents (counts : ℤ → ℕ) (rules : List Rule) (a : ℕ) (parents : List (Option ℕ)) : Type 0 where
  pub forest : Forest rules parents
  pub least : (v : ℕ) → Reaches rules a v → (places : List ℕ) (t : Traced rules parents v places) → (t.start ≡ a) × CountsLeast counts rules a v (rules_at rules places)
