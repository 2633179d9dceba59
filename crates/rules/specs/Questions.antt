-- Questions put in order, and the answer that they lead to. Assumes nothing.
use Rattle.std.specs.Prelude.{◌≡◌, ℕ, ◌⊎◌, List, [], ◌∷◌, Ok, Err, Result}
use Rattle.rules.specs.Refusals.{number_of, place_of}
use Rattle.rules.specs.declared.refusals.Refusal.{Refusal}
use Rattle.rules.specs.declared.faults.Fault.{Fault}

-- a question: the number and the place that a refusal at it carries, and what it asks
pub record Question : Type 1 where
  pub number : ℕ
  pub place : ℕ
  pub holds : Type 0

abbrev pub ask : ℕ → ℕ → Type 0 → Question
ask number place holds = record { number = number; place = place; holds = holds }

abbrev pub AllYes : List Question → Type 0
AllYes [] = Unit {0}
AllYes (q ∷ qs) = q.holds × AllYes qs

-- the first no is at a question with this number and place
abbrev pub FirstNo : List Question → ℕ → ℕ → Type 0
FirstNo [] number place = ⊥
FirstNo (q ∷ qs) number place = ((¬ q.holds) × (number ≡ q.number) × (place ≡ q.place)) ⊎ (q.holds × FirstNo qs number place)

-- what a call answers: accepted with a value, or refused with a question's number and a place
pub data Outcome (A : Type 0) : Type 0 where
  accepted : A → Outcome A
  refused : ℕ → ℕ → Outcome A

-- a call that puts these questions in this order is refused at the first no, and with every one answered yes it is accepted
abbrev pub Answered : {A : Type 0} → List Question → Outcome A → Type 0
Answered questions (accepted answer) = AllYes questions
Answered questions (refused number place) = FirstNo questions number place

-- the outcome that a result tells
abbrev pub outcome : {A : Type 0} → Result A Refusal → Outcome A
outcome (Ok answer) = accepted answer
outcome (Err refusal) = refused (number_of refusal) (place_of refusal)

-- the outcome that a load's result tells; the number tells the layer
abbrev pub load_outcome : {A : Type 0} → Result A Fault → Outcome A
load_outcome (Ok answer) = accepted answer
load_outcome (Err fault) = refused (number_of fault.refusal) (place_of fault.refusal)
