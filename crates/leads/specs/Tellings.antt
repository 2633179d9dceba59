-- What is told of a source: distances and least counts, chains, and the events that it reaches. Assumes nothing.
use Rattle.std.specs.Prelude.{◌≡◌, ℕ, Bool, false, ◌↔◌, List, ◌++◌, map, length, drop, Some, None, Decides, Option, slice_index_or}
use Rattle.rules.specs.declared.records.Rule.{Rule}
use Rattle.rules.specs.Meets.{◌∈◌}
use Rattle.rules.specs.Chains.{Reaches, Distinct, Simple}
use Rattle.rules.specs.Distances.{Distance, Unreached, FewestRules, FewestNegatives}
use Rattle.queues.specs.Contents.{Contents, capacity_of}
use Rattle.queues.specs.Sorts.{taken_out}
use Rattle.search.specs.Forests.{Forest, Traced, rules_at}
use Rattle.leads.specs.declared.records.Measure.{Measure}

-- none where no chain leads from a to b, and else the distance and the fewest rules of a shortest chain
abbrev pub LeadTold : List Rule → ℕ → ℕ → Option Measure → Type 0
LeadTold rules a b None = Unreached rules a b
LeadTold rules a b (Some m) = Distance rules a b m.distance × ((path : List Rule) × FewestRules rules a b path × (length path ≡ m.count))

-- the same for each event
abbrev pub LeadsTold : List Rule → ℕ → List (Option Measure) → Type 0
LeadsTold rules a measures = (v : ℕ) → LeadTold rules a v (slice_index_or measures v None)

-- none where no chain leads from a to b, and else the distance and the fewest limits below 0 of a shortest chain
abbrev pub CountTold : List Rule → ℕ → ℕ → Option Measure → Type 0
CountTold rules a b None = Unreached rules a b
CountTold rules a b (Some m) = Distance rules a b m.distance × FewestNegatives rules a b m.count

-- the same for each event
abbrev pub CountsTold : List Rule → ℕ → List (Option Measure) → Type 0
CountsTold rules a measures = (v : ℕ) → CountTold rules a v (slice_index_or measures v None)

-- chains by parents are shortest: to an event that a reaches each leads from a, and of the shortest chains it is one with fewest rules
pub record LeadParents (rules : List Rule) (a : ℕ) (parents : List (Option ℕ)) : Type 0 where
  pub forest : Forest rules parents
  pub fewest : (v : ℕ) → Reaches rules a v → (places : List ℕ) (t : Traced rules parents v places) → (t.start ≡ a) × FewestRules rules a v (rules_at rules places)

-- nothing waits in the queue after, its capacity is that before, and its count is the number of events that a reaches
pub record CountsReached {K : Type 0} (rules : List Rule) (a : ℕ) (before after : Contents K) : Type 0 where
  pub events : List ℕ
  pub once : Distinct events
  pub exactly : (v : ℕ) → (v ∈ events) ↔ Reaches rules a v
  pub left : after ≡ taken_out (capacity_of before) (length events)

-- flags for events: true exactly for those that a reaches
abbrev pub ReachTold : List Rule → ℕ → List Bool → Type 0
ReachTold rules a flags = (v : ℕ) → Decides (slice_index_or flags v false) (Reaches rules a v)

-- the numbers of the k rules of a chain from a to b stand at the start of a list, in order of travel, and its other entries stay; of the
-- shortest chains it is one with fewest rules, and it visits no event twice
pub record ChainShown (rules : List Rule) (a b k : ℕ) (before after : List ℕ) : Type 0 where
  pub path : List Rule
  pub fewest : FewestRules rules a b path
  pub simple : Simple rules a b path
  pub counted : length path ≡ k
  pub numbers : after ≡ map (λ r. r.number) path ++ drop k before

-- the k numbers written are those of a chain to b by these parents: so much is shown of every source that reaches b and has its shortest chains by them
abbrev pub ChainTold : List Rule → List (Option ℕ) → ℕ → ℕ → List ℕ → List ℕ → Type 0
ChainTold rules parents b k before after = (source : ℕ) → LeadParents rules source parents → Reaches rules source b → ChainShown rules source b k before after
