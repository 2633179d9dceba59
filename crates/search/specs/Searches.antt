-- What a search starts from, and what it comes to. Assumes nothing.
use Rattle.std.specs.Prelude.{◌≡◌, ℕ, ◌+◌, ◌*◌, ◌<◌, ◌≤◌, false, ◌⊎◌, ◌↔◌, List, [], ◌∷◌, length, Some, None}
use Rattle.delays.specs.Exactness.{exact_size}
use Rattle.rules.specs.Bounds.{max_count}
use Rattle.rules.specs.Meets.{◌∈◌, EventsBelow}
use Rattle.rules.specs.Chains.{Distinct}
use Rattle.rules.specs.Places.{first_of, second_of}
use Rattle.queues.specs.Contents.{capacity_of}
use Rattle.queues.specs.Sorts.{taken_out}
use Rattle.search.specs.Networks.{Network, Labelling, events_of, label_of, parent_of, key_of, weight_of, Waits, HasParent, Route, total}
use Rattle.search.specs.Forests.{Forest, Traced}

-- what a search changes belongs together: rules between the events, a parent for each event, and a queue in which each event
-- can wait
pub record Fitting {K : Type 0} (g : Network K) (s : Labelling K) : Type 0 where
  pub few : events_of s ≤ max_count
  pub events : EventsBelow (events_of s) g.rules
  pub parents : length s.parents ≡ events_of s
  pub capacity : events_of s ≤ capacity_of s.queue

-- no weight is below zero
abbrev pub NoneNegative : {K : Type 0} → Network K → Type 0
NoneNegative g = (place : ℕ) → place < length g.rules → g.less (weight_of g place) g.zero ≡ false

-- sizes: of labels at most b, and of weights at most w
pub record Within {K : Type 0} (g : Network K) (s : Labelling K) (b w : ℕ) : Type 0 where
  pub labels : (v : ℕ) (k : K) → label_of s v ≡ Some k → g.size k ≤ b
  pub weights : (place : ℕ) → place < length g.rules → g.size (weight_of g place) ≤ w

-- every sum of a label and a weight for each event is exact
pub record Exact {K : Type 0} (g : Network K) (s : Labelling K) : Type 0 where
  pub b : ℕ
  pub w : ℕ
  pub within : Within g s b w
  pub room : b + w * events_of s ≤ exact_size

-- the rule at a place is respected where its first event has the label k: its second event has a label, and not a larger one than k and the weight
pub record Respected {K : Type 0} (g : Network K) (s : Labelling K) (place : ℕ) (k : K) : Type 0 where
  pub label : K
  pub is : label_of s (second_of g.rules place) ≡ Some label
  pub small : g.less (g.plus k (weight_of g place)) label ≡ false

-- a search can start here: events wait under their labels, every rule that leaves a labelled event that does not wait is
-- respected, no event has a parent, and nothing was taken yet
pub record Ready {K : Type 0} (g : Network K) (s : Labelling K) : Type 0 where
  pub agree : (v : ℕ) (k : K) → key_of s v ≡ Some k → label_of s v ≡ Some k
  pub respected : (place : ℕ) → place < length g.rules → (k : K) → label_of s (first_of g.rules place) ≡ Some k → key_of s (first_of g.rules place) ≡ None → Respected g s place k
  pub parentless : (v : ℕ) → parent_of s v ≡ None
  pub uncounted : s.queue.count ≡ 0

-- v has the label of the first event of its parent rule and the rule's weight, and that event is one of these
pub record ByParent {K : Type 0} (g : Network K) (events : List ℕ) (s : Labelling K) (v : ℕ) : Type 0 where
  pub place : ℕ
  pub parent : parent_of s v ≡ Some place
  pub within : place < length g.rules
  pub ends : second_of g.rules place ≡ v
  pub begins : first_of g.rules place ∈ events
  pub key : K
  pub before : label_of s (first_of g.rules place) ≡ Some key
  pub is : label_of s v ≡ Some (g.plus key (weight_of g place))

-- v has no parent and its label at the start, or its label by its parent from one of these events
abbrev pub Given : {K : Type 0} → Network K → Labelling K → List ℕ → Labelling K → ℕ → Type 0
Given g start events s v = ((parent_of s v ≡ None) × (label_of s v ≡ label_of start v)) ⊎ ByParent g events s v

-- k is not less than the labels of these events
abbrev pub NotBelow : {K : Type 0} → Network K → Labelling K → List ℕ → K → Type 0
NotBelow {K} g s events k = (v : ℕ) → v ∈ events → (j : K) → label_of s v ≡ Some j → g.less k j ≡ false

-- events in the order in which they were taken, the latest first: each has its label at the start or by a parent taken before, and labels do not fall
abbrev pub Taken : {K : Type 0} → Network K → Labelling K → Labelling K → List ℕ → Type 0
Taken g start s [] = Unit {0}
Taken {K} g start s (v ∷ events) = Given g start events s v × ((k : K) → label_of s v ≡ Some k → NotBelow g s events k) × Taken g start s events

-- no route from a label at the start leads to a smaller sum than the label where it ends
abbrev pub Least : {K : Type 0} → Network K → Labelling K → Labelling K → Type 0
Least {K} g start s = (a b : ℕ) (places : List ℕ) (k : K) → Route g a b places → label_of start a ≡ Some k → (j : K) × (label_of s b ≡ Some j) × (g.less (g.plus k (total g places)) j ≡ false)

-- v's label j is one at the start and the sum of a route from there
abbrev pub Attained : {K : Type 0} → Network K → Labelling K → ℕ → K → Type 0
Attained {K} g start v j = (u : ℕ) × (places : List ℕ) × (k : K) × Route g u v places × (label_of start u ≡ Some k) × (j ≡ g.plus k (total g places))

-- along every chain by parents to v, its label j is the one at the chain's start and the sum of the weights
abbrev pub Along : {K : Type 0} → Network K → Labelling K → Labelling K → ℕ → K → Type 0
Along {K} g start s v j = (places : List ℕ) (t : Traced g.rules s.parents v places) → (k : K) × (label_of start t.start ≡ Some k) × (j ≡ g.plus k (total g places))

-- what a search comes to: labels are the least sums of routes from those at the start, every rule is respected, the queue is empty, and
-- its count is that of the events taken, each once, which are those that waited and those that have a parent
pub record Searched {K : Type 0} (g : Network K) (start s : Labelling K) : Type 0 where
  pub least : Least g start s
  pub attained : (v : ℕ) (j : K) → label_of s v ≡ Some j → Attained g start v j
  pub respected : (place : ℕ) → place < length g.rules → (k : K) → label_of s (first_of g.rules place) ≡ Some k → Respected g s place k
  pub taken : List ℕ
  pub once : Distinct taken
  pub below : (v : ℕ) → v ∈ taken → v < events_of start
  pub exactly : (v : ℕ) → (v ∈ taken) ↔ (Waits start v ⊎ HasParent s v)
  pub ordered : Taken g start s taken
  pub given : (v : ℕ) → Given g start taken s v
  pub forest : Forest g.rules s.parents
  pub along : (v : ℕ) (j : K) → label_of s v ≡ Some j → Along g start s v j
  pub sized : (b w : ℕ) → Within g start b w → (v : ℕ) (k : K) → label_of s v ≡ Some k → g.size k ≤ b + w * length taken
  pub left : s.queue ≡ taken_out (capacity_of start.queue) (length taken)
