-- What a book means. Assumes nothing.
use Rattle.std.specs.Prelude.{ℕ, cond, List, length, Ok, Err, Result, nat_lt}
use Rattle.rules.specs.declared.records.Rule.{Rule}
use Rattle.rules.specs.Places.{rule_at}
use Rattle.rules.specs.declared.refusals.Refusal.{Refusal}
use Rattle.rules.specs.declared.refusals.Refusal.TheVariants.{PlacePast}

-- an event count, and rules in order of place
pub record BookContents : Type 0 where
  pub events : ℕ
  pub rules : List Rule

-- what a book answers when it is asked for the rule at a place; 17 where it has no such place
abbrev pub answer_at : List Rule → ℕ → Result Rule Refusal
answer_at rules place = cond (nat_lt place (length rules)) (Ok (rule_at rules place)) (Err PlacePast)
