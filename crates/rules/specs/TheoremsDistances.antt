-- Distances between events, and from one source, whatever rings there are elsewhere. Assumes nothing.
use Rattle.std.specs.Prelude.{◌≡◌, ℕ, ◌-◌, ◌<◌, ◌≤◌, ◌⊎◌, ◌↔◌, List, length, ℤ, pos}
use Rattle.rules.specs.declared.records.Rule.{Rule}
use Rattle.rules.specs.Meets.{EventsBelow}
use Rattle.rules.specs.Chains.{Reaches}
use Rattle.rules.specs.Rings.{NegativeRingFrom, NegativeRingBetween}
use Rattle.rules.specs.Distances.{Distance, Unreached, FewestRules, FewestNegatives, Rounds, LowestEnd, MeetableFrom}

-- for any two events it is decided which: no chain leads from one to the other, there is a distance, or a negative ring is on the way
abbrev pub DistancesDecided : Type 0
DistancesDecided = (rules : List Rule) (a b : ℕ) → Unreached rules a b ⊎ (((d : ℤ) × Distance rules a b d) ⊎ NegativeRingBetween rules a b)

-- chains lead from one event to another and none is shortest exactly when a negative ring is on the way
abbrev pub NoShortestExactly : Type 0
NoShortestExactly = (rules : List Rule) (a b : ℕ) → (Reaches rules a b × (¬ ((d : ℤ) × Distance rules a b d))) ↔ NegativeRingBetween rules a b

-- there is at most one distance
abbrev pub DistancesAlike : Type 0
DistancesAlike = (rules : List Rule) (a b : ℕ) (d e : ℤ) → Distance rules a b d → Distance rules a b e → d ≡ e

-- for every source it is decided which: times meet the rules that concern it, or it reaches a negative ring
abbrev pub SourcesDecided : Type 0
SourcesDecided = (rules : List Rule) (source : ℕ) → MeetableFrom rules source ⊎ NegativeRingFrom rules source

-- times meet the rules that concern a source exactly when it reaches no negative ring
abbrev pub SourcesExactly : Type 0
SourcesExactly = (rules : List Rule) (source : ℕ) → MeetableFrom rules source ↔ (¬ NegativeRingFrom rules source)

-- a source that reaches no negative ring is at distance 0 from itself, and has a distance to every event that it reaches
abbrev pub SourceDistances : Type 0
SourceDistances = (rules : List Rule) (source : ℕ) → ¬ NegativeRingFrom rules source → Distance rules source source (pos 0) × ((v : ℕ) → Reaches rules source v → (d : ℤ) × Distance rules source v d)

-- where there is a distance, there is a shortest chain with fewest rules
abbrev pub FewestRulesExist : Type 0
FewestRulesExist = (rules : List Rule) (a b : ℕ) (d : ℤ) → Distance rules a b d → (path : List Rule) × FewestRules rules a b path

-- over n events, such a chain has fewer than n rules
abbrev pub FewestRulesBounded : Type 0
FewestRulesBounded = (n : ℕ) (rules : List Rule) → EventsBelow n rules → (a b : ℕ) → a < n → (path : List Rule) → FewestRules rules a b path → length path < n

-- where there is a distance between different events, there is a lowest place whose rule ends a shortest chain with fewest rules
abbrev pub LowestEndsExist : Type 0
LowestEndsExist = (rules : List Rule) (a b : ℕ) (d : ℤ) → Distance rules a b d → ¬ (a ≡ b) → (place : ℕ) × LowestEnd rules a b place

-- where there is a distance, there is a fewest number of limits below 0
abbrev pub FewestNegativesExist : Type 0
FewestNegativesExist = (rules : List Rule) (a b : ℕ) (d : ℤ) → Distance rules a b d → (k : ℕ) × FewestNegatives rules a b k

-- a source that reaches no negative ring has rounds
abbrev pub RoundsExist : Type 0
RoundsExist = (rules : List Rule) (source : ℕ) → ¬ NegativeRingFrom rules source → (k : ℕ) × Rounds rules source k

-- over n events, rounds are at most n less 1
abbrev pub RoundsBounded : Type 0
RoundsBounded = (n : ℕ) (rules : List Rule) → EventsBelow n rules → (source : ℕ) → source < n → (k : ℕ) → Rounds rules source k → k ≤ n - 1

-- there is at most one number of rounds
abbrev pub RoundsAlike : Type 0
RoundsAlike = (rules : List Rule) (source j k : ℕ) → Rounds rules source j → Rounds rules source k → j ≡ k
