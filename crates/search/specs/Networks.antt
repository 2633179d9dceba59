-- Rules with weights, and the labels, parents and waiting keys that a search works on. Assumes nothing.
use Rattle.std.specs.Prelude.{◌≡◌, ℕ, ◌<◌, Bool, List, [], ◌∷◌, length, Some, None, Option, slice_index_or}
use Rattle.delays.specs.declared.Delay.{Ghosts}
use Rattle.rules.specs.declared.records.Rule.{Rule}
use Rattle.rules.specs.Places.{first_of, second_of}
use Rattle.queues.specs.Contents.{Contents}
use Rattle.search.specs.Forests.{parent_in}

-- what a search goes by: how a kind of delay is compared, added and measured, the rules, and the weight of the rule at each place
pub record Network (K : Type 0) : Type 0 where
  pub less : K → K → Bool
  pub plus : K → K → K
  pub zero : K
  pub size : K → ℕ
  pub rules : List Rule
  pub weights : List K

abbrev pub network : {K : Type 0} → Ghosts K → List Rule → List K → Network K
network kind rules weights = record { less = kind.less; plus = kind.plus; zero = kind.zero; size = kind.size; rules = rules; weights = weights }

-- the weight of the rule at a place
abbrev pub weight_of : {K : Type 0} → Network K → ℕ → K
weight_of g place = slice_index_or g.weights place g.zero

-- what a search changes: the label of each event, if it has one; its parent, the place of the rule that gave the label, if
-- one did; and the queue
pub record Labelling (K : Type 0) : Type 0 where
  pub labels : List (Option K)
  pub parents : List (Option ℕ)
  pub queue : Contents K

abbrev pub labelling : {K : Type 0} → List (Option K) → List (Option ℕ) → Contents K → Labelling K
labelling labels parents queue = record { labels = labels; parents = parents; queue = queue }

-- how many events there are
abbrev pub events_of : {K : Type 0} → Labelling K → ℕ
events_of s = length s.labels

abbrev pub label_of : {K : Type 0} → Labelling K → ℕ → Option K
label_of s v = slice_index_or s.labels v None

abbrev pub parent_of : {K : Type 0} → Labelling K → ℕ → Option ℕ
parent_of s v = parent_in s.parents v

abbrev pub HasParent : {K : Type 0} → Labelling K → ℕ → Type 0
HasParent s v = (place : ℕ) × (parent_of s v ≡ Some place)

-- the key under which an event waits, if it does
abbrev pub key_of : {K : Type 0} → Labelling K → ℕ → Option K
key_of s v = slice_index_or s.queue.waiting v None

abbrev pub Waits : {K : Type 0} → Labelling K → ℕ → Type 0
Waits {K} s v = (k : K) × (key_of s v ≡ Some k)

-- the rules at these places lead from a to b, one after the other
abbrev pub Route : {K : Type 0} → Network K → ℕ → ℕ → List ℕ → Type 0
Route g a b [] = a ≡ b
Route g a b (place ∷ places) = (place < length g.rules) × (a ≡ first_of g.rules place) × Route g (second_of g.rules place) b places

-- the sum of the weights at these places
abbrev pub total : {K : Type 0} → Network K → List ℕ → K
total g [] = g.zero
total g (place ∷ places) = g.plus (weight_of g place) (total g places)
