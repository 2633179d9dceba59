-- What the names of a file that passes are. Assumes nothing.
use Rattle.std.proofs.Common.{◌≡◌, ℕ, zero, suc, ◌+◌, ◌<◌, ◌≤◌, List, length, get_or, drop, ⊎_elim, arith, length-take}
use Rattle.std.proofs.lemmas.List.{get_or-take, get_or-drop}
use Rattle.std.proofs.ByRecursion.{All-from_get_or}
use Rattle.std.proofs.lemmas.Bool.{cases_eq}
use Rattle.rules.specs.Questions.{AllYes}
use Rattle.rules.proofs.Asking.{yes_left, yes_right}
use Rattle.books.specs.Layout.{events_start, max_name, byte_at, u16_at, name_start, part}
use Rattle.books.specs.Files.{Letter, letter_questions, name_questions, names_questions, head_questions, file_questions, name_of, Spelled}

letters : (file : List ℕ) (k at j : ℕ) → j < k → AllYes (letter_questions file k at) → Letter (byte_at file (at + j))
unfolding letter_questions
letters file zero at j h a = absurd (omega arith)
letters file (suc k) at zero h a = let e : at + 0 ≡ at = omega arith in rw e a.0
letters file (suc k) at (suc j) h a = let e : at + suc j ≡ at + 1 + j = omega arith in rw e (letters file k (at + 1) j (omega arith) a.1)

letter_of : (file : List ℕ) (at i : ℕ) → i < length (part file (at + 1) (byte_at file at)) → AllYes (name_questions file at) → Letter (get_or (part file (at + 1) (byte_at file at)) i 0)
unfolding name_questions
letter_of file at i h a =
    let low : i < byte_at file at = omega (arith, simp length-take at h) in
    rw (get_or-take (byte_at file at) (drop (at + 1) file) i 0 low, get_or-drop) (letters file (byte_at file at) (at + 1) i low a.1)

spelled_at : (file : List ℕ) (at : ℕ) → AllYes (name_questions file at) → Spelled (part file (at + 1) (byte_at file at))
unfolding name_questions
spelled_at file at a =
    let short : byte_at file at ≤ max_name = a.0.1 in
    (simp length-take (omega arith), All-from_get_or Letter (part file (at + 1) (byte_at file at)) 0 (λ i h. letter_of file at i h a))

names : (file : List ℕ) (k i event : ℕ) → i ≤ event → event < i + k → AllYes (names_questions file k (name_start file i)) → Spelled (name_of file event)
unfolding names_questions
names file zero i event h l a = absurd (omega arith)
names file (suc k) i event h l a =
    let at = name_start file i in
    ⊎_elim
    (λ (same : i ≡ event). rw (← same) (spelled_at file at (yes_left (name_questions file at) (names_questions file k (at + 1 + byte_at file at)) a)))
    (λ (other : i ≡ event → ⊥). names file k (suc i) event (omega arith) (omega arith) (yes_right (name_questions file at) (names_questions file k (at + 1 + byte_at file at)) a))
    (cases_eq i event)

pub spelled : (file : List ℕ) (event : ℕ) → event < u16_at file events_start → AllYes (file_questions file) → Spelled (name_of file event)
unfolding file_questions
spelled file event h a = names file (u16_at file events_start) 0 event (omega arith) (omega arith) (yes_right (head_questions file) (names_questions file (u16_at file events_start) (name_start file 0)) a)
