-- Rules by their places in a list, counted from 0. Assumes nothing.
use Rattle.std.specs.Prelude.{ℕ, List, pos, slice_index_or}
use Rattle.rules.specs.declared.records.Rule.{Rule}

-- what stands past the last rule
abbrev pub no_rule : Rule
no_rule = record { number = 0; first = 0; second = 0; limit = pos 0 }

-- the rule at a place
abbrev pub rule_at : List Rule → ℕ → Rule
rule_at rules place = slice_index_or rules place no_rule

-- the first and the second event of the rule at a place
abbrev pub first_of : List Rule → ℕ → ℕ
first_of rules place = (rule_at rules place).first

abbrev pub second_of : List Rule → ℕ → ℕ
second_of rules place = (rule_at rules place).second
