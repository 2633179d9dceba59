-- What a queue means, and what its calls answer and leave. Assumes nothing.
use Rattle.std.specs.Prelude.{◌≡◌, ℕ, ◌+◌, ◌<◌, min, Bool, false, cond, List, [], ◌∷◌, length, replicate, Some, None, Ok, Err, Option, Result, slice_index_or, slice_set}
use Rattle.rules.specs.Questions.{Question, ask}

-- the meaning of a queue: for each event below the capacity the key under which it waits, if it does,
-- and the count of takings since the queue was emptied
pub record Contents (K : Type 0) : Type 0 where
  pub waiting : List (Option K)
  pub count : ℕ

-- these keys wait, after so many takings
abbrev pub holds : {K : Type 0} → List (Option K) → ℕ → Contents K
holds waiting count = record { waiting = waiting; count = count }

-- one place for each event that can wait
abbrev pub capacity_of : {K : Type 0} → Contents K → ℕ
capacity_of q = length q.waiting

-- takings are counted up to this, the largest number of 32 bits
abbrev pub max_takings : ℕ
max_takings = 4_294_967_295

-- nothing waits, and nothing was taken
abbrev pub empty : {K : Type 0} → ℕ → Contents K
empty capacity = holds (replicate capacity None) 0

-- an offer asks whether the event is below the capacity
abbrev pub offer_questions : {K : Type 0} → Contents K → ℕ → List Question
offer_questions q event = ask 16 0 (event < capacity_of q) ∷ []

-- the key offered, unless one waits that is not larger
abbrev pub lesser : {K : Type 0} → (K → K → Bool) → Option K → K → K
lesser less None key = key
lesser less (Some old) key = cond (less key old) key old

-- the event waits under the lesser of its key and the one offered; all else stays
abbrev pub offered : {K : Type 0} → (K → K → Bool) → List (Option K) → ℕ → K → List (Option K)
offered less waiting event key = slice_set waiting event (Some (lesser less (slice_index_or waiting event None) key))

-- a refused offer leaves the queue as it was
abbrev pub left_by_offer : {K U E : Type 0} → (K → K → Bool) → Contents K → ℕ → K → Result U E → Contents K
left_by_offer less q event key (Ok _) = holds (offered less q.waiting event key) q.count
left_by_offer less q event key (Err _) = q

-- none where nothing waits, and else an event with the key under which it waits, no waiting key being less
abbrev pub Least : {K : Type 0} → (K → K → Bool) → List (Option K) → Option (ℕ × K) → Type 0
Least less waiting None = (event : ℕ) → slice_index_or waiting event None ≡ None
Least {K} less waiting (Some p) = (p.0 < length waiting) × (slice_index_or waiting p.0 None ≡ Some p.1)
    × ((event : ℕ) (key : K) → slice_index_or waiting event None ≡ Some key → less key p.1 ≡ false)

-- the event answered waits no more, and its taking is counted; a take that answers none leaves the queue as it was
abbrev pub left_by_take : {K : Type 0} → Contents K → Option (ℕ × K) → Contents K
left_by_take q None = q
left_by_take q (Some p) = holds (slice_set q.waiting p.0 None) (min max_takings (q.count + 1))
