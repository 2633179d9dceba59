-- Numbers sorted by their remainders, so that those that are alike are found together. Assumes nothing.
use Rattle.std.specs.Prelude.{ℕ, ◌%◌, List}
use Rattle.rules.specs.declared.records.Rule.{Rule}
use Rattle.rules.specs.Places.{rule_at}

-- how many remainders there are
abbrev pub remainders : ℕ
remainders = 4_096

-- the remainder of the number at a place
abbrev pub remainder_of : List Rule → ℕ → ℕ
remainder_of rules place = (rule_at rules place).number % remainders
