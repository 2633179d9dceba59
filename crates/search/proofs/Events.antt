-- Events of the rule at a place. Assumes nothing.
use Rattle.std.proofs.Common.{ℕ, ◌<◌, List, length}
use Rattle.rules.specs.declared.records.Rule.{Rule}
use Rattle.rules.specs.Meets.{EventsBelow}
use Rattle.rules.specs.Places.{no_rule, first_of, second_of}
use Rattle.rules.proofs.Members.{get_or_in}

pub events_below : (n : ℕ) (rules : List Rule) → EventsBelow n rules → (place : ℕ) → place < length rules → (first_of rules place < n) × (second_of rules place < n)
events_below n rules below place h = below _ (get_or_in rules place no_rule h)
