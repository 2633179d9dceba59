-- Questions that are left when those before them were answered yes. Assumes nothing.
use Rattle.std.proofs.Common.{ℕ, List, [], ◌∷◌, ◌++◌, refl, inl, inr}
use Rattle.rules.specs.Questions.{Question, AllYes, FirstNo, Outcome, accepted, refused, Answered}

-- the answer to the questions left is the answer to the whole
pub record Left (questions whole : List Question) : Type 0 where
  pub all_yes : AllYes questions → AllYes whole
  pub first_no : (number place : ℕ) → FirstNo questions number place → FirstNo whole number place

pub begin : (whole : List Question) → Left whole whole
begin whole = record { all_yes = λ h. h; first_no = λ n p h. h }

-- the next question is answered yes
pub next : {q : Question} {qs whole : List Question} → Left (q ∷ qs) whole → q.holds → Left qs whole
next left h = record { all_yes = λ k. left.all_yes (h, k); first_no = λ n p k. left.first_no n p (inr (h, k)) }

-- the next question is answered no
pub stop : {q : Question} {qs whole : List Question} → Left (q ∷ qs) whole → (q.holds → ⊥) → FirstNo whole q.number q.place
stop {q} left h = left.first_no q.number q.place (inl (h, refl, refl))

pub yes-++ : (qs rs : List Question) → AllYes qs → AllYes rs → AllYes (qs ++ rs)
yes-++ [] rs h k = k
yes-++ (q ∷ qs) rs h k = (h.0, yes-++ qs rs h.1 k)

pub yes_left : (qs rs : List Question) → AllYes (qs ++ rs) → AllYes qs
yes_left [] rs h = tt
yes_left (q ∷ qs) rs h = (h.0, yes_left qs rs h.1)

pub yes_right : (qs rs : List Question) → AllYes (qs ++ rs) → AllYes rs
yes_right [] rs h = h
yes_right (q ∷ qs) rs h = yes_right qs rs h.1

pub no_left : (qs rs : List Question) (n p : ℕ) → FirstNo qs n p → FirstNo (qs ++ rs) n p
no_left [] rs n p h = absurd h
no_left (q ∷ qs) rs n p (inl h) = inl h
no_left (q ∷ qs) rs n p (inr h) = inr (h.0, no_left qs rs n p h.1)

pub no_right : (qs rs : List Question) (n p : ℕ) → AllYes qs → FirstNo rs n p → FirstNo (qs ++ rs) n p
no_right [] rs n p h k = k
no_right (q ∷ qs) rs n p h k = inr (h.0, no_right qs rs n p h.1 k)

-- a stretch of questions is answered yes
pub past : (qs rs : List Question) {whole : List Question} → Left (qs ++ rs) whole → AllYes qs → Left rs whole
past qs rs left h = record { all_yes = λ k. left.all_yes (yes-++ qs rs h k); first_no = λ n p k. left.first_no n p (no_right qs rs n p h k) }

-- the first no is in a stretch of questions
pub within : (qs rs : List Question) {whole : List Question} (n p : ℕ) → Left (qs ++ rs) whole → FirstNo qs n p → FirstNo whole n p
within qs rs n p left h = left.first_no n p (no_left qs rs n p h)

-- the answer to the questions left answers the whole
pub answers : {A : Type 0} {questions whole : List Question} → Left questions whole → (o : Outcome A) → Answered questions o → Answered whole o
answers left (accepted answer) h = left.all_yes h
answers left (refused n p) h = left.first_no n p h
