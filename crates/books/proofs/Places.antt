-- What a book answers of a place. Assumes nothing.
use Rattle.std.proofs.Common.{◌≡◌, ℕ, ◌<◌, ◌≤◌, List, length, Ok, Err}
use Rattle.std.proofs.lemmas.Bool.{cond-true, cond-false, lt-ltb, le-ltb}
use Rattle.rules.specs.declared.records.Rule.{Rule}
use Rattle.rules.specs.declared.refusals.Refusal.TheVariants.{PlacePast}
use Rattle.rules.specs.Places.{rule_at}
use Rattle.books.specs.Contents.{answer_at}

pub answer_in : (rules : List Rule) (place : ℕ) → place < length rules → answer_at rules place ≡ Ok (rule_at rules place)
answer_in rules place h = cond-true _ _ _ (lt-ltb place (length rules) h)

pub answer_past : (rules : List Rule) (place : ℕ) → length rules ≤ place → answer_at rules place ≡ Err PlacePast
answer_past rules place h = cond-false _ _ _ (le-ltb place (length rules) h)
