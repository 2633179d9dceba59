-- Where a search stands on its way. Assumes nothing.
use Rattle.std.specs.Prelude.{◌≡◌, ℕ, ◌+◌, ◌*◌, ◌<◌, ◌≤◌, Bool, true, false, cond, ◌⊎◌, List, ◌∷◌, length, Some, None, Option, slice_set}
use Rattle.delays.specs.Exactness.{exact_size}
use Rattle.rules.specs.Meets.{◌∈◌}
use Rattle.rules.specs.Chains.{Distinct}
use Rattle.rules.specs.Places.{first_of}
use Rattle.links.specs.Links.{After}
use Rattle.queues.specs.Contents.{holds, offered, capacity_of}
use Rattle.search.specs.Networks.{Network, Labelling, labelling, events_of, label_of, key_of, weight_of, Waits, HasParent}
use Rattle.search.specs.Searches.{Within, Respected, Given, NotBelow, Taken}

-- whether a key is smaller than a label, or there is none yet
abbrev pub betters : {K : Type 0} → (K → K → Bool) → Option K → K → Bool
betters less None k = true
betters less (Some j) k = less k j

-- the event has the key as its label, by the parent, and waits under it
abbrev pub relabelled : {K : Type 0} → (K → K → Bool) → Labelling K → ℕ → ℕ → K → Labelling K
relabelled less s v parent k = labelling (slice_set s.labels v (Some k)) (slice_set s.parents v (Some parent)) (holds (offered less s.queue.waiting v k) s.queue.count)

-- that where the key is smaller than the event's label or there is none, and else no change
abbrev pub improved : {K : Type 0} → (K → K → Bool) → Labelling K → ℕ → ℕ → K → Labelling K
improved less s v parent k = cond (betters less (label_of s v) k) (relabelled less s v parent k) s

-- the key and the weight of each rule add exactly
abbrev pub Adds : {K : Type 0} → Network K → K → Type 0
Adds g k = (place : ℕ) → place < length g.rules → g.size k + g.size (weight_of g place) ≤ exact_size

-- a search from start has taken these events, and of the rules that leave u it has seen to those after the place that is held,
-- or to all where none is held
pub record Midway {K : Type 0} (g : Network K) (start : Labelling K) (u : ℕ) (held : Option ℕ) (taken : List ℕ) (s : Labelling K) : Type 0 where
  pub agree : (v : ℕ) (k : K) → key_of s v ≡ Some k → label_of s v ≡ Some k
  pub respected : (place : ℕ) → place < length g.rules → (first_of g.rules place ≡ u → After held place) → (k : K) → label_of s (first_of g.rules place) ≡ Some k → key_of s (first_of g.rules place) ≡ None → Respected g s place k
  pub floor : (v : ℕ) (k : K) → key_of s v ≡ Some k → NotBelow g s taken k
  pub once : Distinct taken
  pub below : (v : ℕ) → v ∈ taken → v < events_of start
  pub rests : (v : ℕ) → v ∈ taken → key_of s v ≡ None
  pub known : (v : ℕ) → v ∈ taken → (k : K) × (label_of s v ≡ Some k)
  pub ordered : Taken g start s taken
  pub given : (v : ℕ) → Given g start taken s v
  pub due : (v : ℕ) → Waits start v ⊎ HasParent s v → (v ∈ taken) ⊎ Waits s v
  pub only : (v : ℕ) → (v ∈ taken) ⊎ Waits s v → Waits start v ⊎ HasParent s v
  pub lower : (v : ℕ) (k : K) → label_of start v ≡ Some k → (j : K) × (label_of s v ≡ Some j) × (g.less k j ≡ false)
  pub sized : (b w : ℕ) → Within g start b w → (v : ℕ) (k : K) → label_of s v ≡ Some k → g.size k ≤ b + w * length taken
  pub events : events_of s ≡ events_of start
  pub parents : length s.parents ≡ length start.parents
  pub capacity : capacity_of s.queue ≡ capacity_of start.queue
  pub counted : s.queue.count ≡ length taken

-- u was taken last, with the key k, which no label of the taken events is above
pub record Leaving {K : Type 0} (g : Network K) (start : Labelling K) (u : ℕ) (k : K) (held : Option ℕ) (taken : List ℕ) (s : Labelling K) : Type 0 where
  pub midway : Midway g start u held taken s
  pub at : label_of s u ≡ Some k
  pub member : u ∈ taken
  pub top : NotBelow g s taken k
  pub room : (b w : ℕ) → Within g start b w → g.size k + w ≤ b + w * length taken

-- a turn takes one more event, or finds that none waits
abbrev pub Turned : {K : Type 0} → Network K → Labelling K → List ℕ → Labelling K → Bool → Type 0
Turned g start taken s true = (v : ℕ) × Midway g start 0 None (v ∷ taken) s
Turned g start taken s false = Midway g start 0 None taken s × ((v : ℕ) → key_of s v ≡ None)
