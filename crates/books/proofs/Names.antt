-- How far the names of a file were asked about. Assumes nothing.
use Rattle.std.proofs.Common.{◌≡◌, ℕ, zero, suc, ◌+◌, ◌-◌, ◌<◌, List, length, get_or, drop, Option, None, Some, MatchOption, refl, inl, inr, arith, length-take, length-drop}
use Rattle.std.specs.List.{AllWithin, HoldsAt}
use Rattle.std.proofs.lemmas.List.{get_or-take, get_or-drop}
use Rattle.rules.specs.Questions.{AllYes, FirstNo}
use Rattle.rules.proofs.Asking.{Left, begin, next, stop, past, within, no_left}
use Rattle.books.specs.Layout.{events_start, byte_at, u16_at, name_start, part}
use Rattle.books.specs.Files.{HasName, Letter, letter_questions, name_questions, names_questions, head_questions, file_questions}

letters_yes : (file : List ℕ) (k at : ℕ) → ((j : ℕ) → j < k → Letter (byte_at file (at + j))) → AllYes (letter_questions file k at)
unfolding letter_questions
letters_yes file zero at good = tt
letters_yes file (suc k) at good =
    let e : at + 0 ≡ at = omega arith in
    (rw (e) at (good 0 (omega arith)), letters_yes file k (at + 1) (λ j h. let n : at + suc j ≡ at + 1 + j = omega arith in rw (n) at (good (suc j) (omega arith))))

letters_no : (file : List ℕ) (k at j : ℕ) → j < k → ((i : ℕ) → i < j → Letter (byte_at file (at + i))) → (Letter (byte_at file (at + j)) → ⊥) → FirstNo (letter_questions file k at) 28 (at + j)
unfolding letter_questions
letters_no file zero at j h good bad = absurd (omega arith)
letters_no file (suc k) at zero h good bad = let e : at + 0 ≡ at = omega arith in inl (rw (e) at bad, refl, e)
letters_no file (suc k) at (suc j) h good bad =
    let e : at + 0 ≡ at = omega arith in
    let n : at + suc j ≡ at + 1 + j = omega arith in
    let later = letters_no file k (at + 1) j (omega arith) (λ i l. let m : at + suc i ≡ at + 1 + i = omega arith in rw (m) at (good (suc i) (omega arith))) (rw (n) at bad) in
    inr (rw (e) at (good 0 (omega arith)), rw n later)

name_byte : (file : List ℕ) (at : ℕ) (name : List ℕ) → name ≡ part file (at + 1) (byte_at file at) → (i : ℕ) → i < byte_at file at → get_or name i 0 ≡ byte_at file (at + 1 + i)
name_byte file at name is i low = rw (is, get_or-take (byte_at file at) (drop (at + 1) file) i 0 low, get_or-drop) refl

pub name_no : (file : List ℕ) (at : ℕ) → (HasName file at → ⊥) → FirstNo (name_questions file at) 27 at
unfolding name_questions
name_no file at bad = stop (begin (name_questions file at)) bad

-- what a look for the first byte that is no letter tells, in a name that is there
pub name_told : (file : List ℕ) (at : ℕ) → HasName file at → (name : List ℕ) → name ≡ part file (at + 1) (byte_at file at) → (r : Option ℕ) → MatchOption r (AllWithin Letter name 0 (length name)) (λ i. (i < length name) × HoldsAt (λ b. ¬ Letter b) name i × AllWithin Letter name 0 i) → MatchOption r (AllYes (name_questions file at)) (λ i. FirstNo (name_questions file at) 28 (at + 1 + i))
unfolding name_questions
name_told file at there name is None all =
    let long : length name ≡ byte_at file at = rw is (simp (length-take, length-drop) (omega arith)) in
    (there, letters_yes file (byte_at file at) (at + 1) (λ j h. rw (← name_byte file at name is j h) (all j 0 (omega arith) (omega arith))))
name_told file at there name is (Some i) (h, bad, before) =
    let long : length name ≡ byte_at file at = rw is (simp (length-take, length-drop) (omega arith)) in
    inr (there, letters_no file (byte_at file at) (at + 1) i (omega arith) (λ j l. rw (← name_byte file at name is j (omega arith)) (before j 0 (omega arith) l)) (λ good. bad 0 (rw (name_byte file at name is i (omega arith)) good)))

-- of the file, the names from an event's on are left, its name being at that place
abbrev pub NamesLeft : List ℕ → ℕ → ℕ → Type 0
NamesLeft file event at = (k : ℕ) → event + k ≡ u16_at file events_start → Left (names_questions file k at) (file_questions file)

pub names_begin : (file : List ℕ) → AllYes (head_questions file) → NamesLeft file 0 (name_start file 0)
unfolding file_questions
names_begin file head k e = let s : k ≡ u16_at file events_start = omega arith in rw s (past (head_questions file) (names_questions file (u16_at file events_start) (name_start file 0)) (begin (file_questions file)) head)

pub names_more : (file : List ℕ) (event at end : ℕ) → end ≡ at + 1 + byte_at file at → AllYes (name_questions file at) → NamesLeft file event at → NamesLeft file (event + 1) end
unfolding names_questions
names_more file event at end s h left k e = rw s (past (name_questions file at) (names_questions file k (at + 1 + byte_at file at)) (left (suc k) (omega arith)) h)

pub names_no : (file : List ℕ) (event at n p : ℕ) → event < u16_at file events_start → FirstNo (name_questions file at) n p → NamesLeft file event at → FirstNo (file_questions file) n p
unfolding names_questions
names_no file event at n p h no' left =
    let k : ℕ = u16_at file events_start - suc event in
    within (name_questions file at) (names_questions file k (at + 1 + byte_at file at)) n p (left (suc k) (omega arith)) no'

pub end_no : (file : List ℕ) (event at : ℕ) → event ≡ u16_at file events_start → (at ≡ length file → ⊥) → NamesLeft file event at → FirstNo (file_questions file) 29 at
unfolding names_questions
end_no file event at e bad left = stop (left 0 (omega arith)) bad

pub end_yes : (file : List ℕ) (event at : ℕ) → event ≡ u16_at file events_start → at ≡ length file → NamesLeft file event at → AllYes (file_questions file)
unfolding names_questions
end_yes file event at e good left = (next (left 0 (omega arith)) good).all_yes tt

pub head_no : (file : List ℕ) (n p : ℕ) → FirstNo (head_questions file) n p → FirstNo (file_questions file) n p
unfolding file_questions
head_no file n p no' = no_left (head_questions file) (names_questions file (u16_at file events_start) (name_start file 0)) n p no'
