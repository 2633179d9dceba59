-- Chains by parents. An event's parent is the place of a rule that leads to it, or none. Assumes nothing.
use Rattle.std.specs.Prelude.{◌≡◌, ℕ, ◌<◌, ◌⊎◌, List, [], ◌∷◌, ◌++◌, map, length, drop, Some, None, Option, slice_index_or}
use Rattle.rules.specs.declared.records.Rule.{Rule}
use Rattle.rules.specs.Meets.{◌∈◌}
use Rattle.rules.specs.Chains.{Distinct, Simple}
use Rattle.rules.specs.Places.{rule_at, first_of, second_of}

-- the parent of an event
abbrev pub parent_in : List (Option ℕ) → ℕ → Option ℕ
parent_in parents v = slice_index_or parents v None

-- v has no parent, or its parent is a rule that leads to v from one of these events
abbrev pub Rooted : List Rule → List (Option ℕ) → List ℕ → ℕ → Type 0
Rooted rules parents events v = (parent_in parents v ≡ None) ⊎ ((place : ℕ) × (parent_in parents v ≡ Some place) × (place < length rules) × (second_of rules place ≡ v) × (first_of rules place ∈ events))

-- the parent of each event leads from one that comes later in the list
abbrev pub Backward : List Rule → List (Option ℕ) → List ℕ → Type 0
Backward rules parents [] = Unit {0}
Backward rules parents (v ∷ events) = Rooted rules parents events v × Backward rules parents events

-- the parents make a forest: the events that have one stand in a list, each once, in which parents lead forward only
pub record Forest (rules : List Rule) (parents : List (Option ℕ)) : Type 0 where
  pub events : List ℕ
  pub once : Distinct events
  pub below : (v : ℕ) → v ∈ events → v < length parents
  pub backward : Backward rules parents events
  pub all : (v place : ℕ) → parent_in parents v ≡ Some place → v ∈ events

-- the rules at these places
abbrev pub rules_at : List Rule → List ℕ → List Rule
rules_at rules places = map (rule_at rules) places

-- the rules at these places are a chain by parents: it leads from an event that has no parent to v, visits no event twice, and each
-- of its rules is the parent of the event that it ends at
pub record Traced (rules : List Rule) (parents : List (Option ℕ)) (v : ℕ) (places : List ℕ) : Type 0 where
  pub start : ℕ
  pub root : parent_in parents start ≡ None
  pub below : start < length parents
  pub simple : Simple rules start v (rules_at rules places)
  pub within : (place : ℕ) → place ∈ places → place < length rules
  pub parental : (place : ℕ) → place ∈ places → parent_in parents (second_of rules place) ≡ Some place

-- so many rule numbers are written at the start of a list, in order of travel along a chain by parents to v; its other entries stay
pub record Written (rules : List Rule) (parents : List (Option ℕ)) (v count : ℕ) (before after : List ℕ) : Type 0 where
  pub places : List ℕ
  pub traced : Traced rules parents v places
  pub counted : length places ≡ count
  pub numbers : after ≡ map (λ r. r.number) (rules_at rules places) ++ drop count before
