-- Prices of events, and limits reduced or loosened. Assumes nothing.
use Rattle.std.specs.Prelude.{ℕ, List, [], ◌∷◌, map, ℤ, pos, ◌+ℤ◌, ◌-ℤ◌, ◌≤ℤ◌}
use Rattle.rules.specs.declared.records.Rule.{Rule}
use Rattle.rules.specs.Meets.{◌∈◌}

-- prices: a whole number for each event
abbrev pub Prices : Type 0
Prices = ℕ → ℤ

-- a rule's limit, more by the price of its first event and less by that of its second
abbrev pub reduced_limit : Prices → Rule → ℤ
reduced_limit p r = (r.limit +ℤ p r.first) -ℤ p r.second

-- the sum of a path's reduced limits
abbrev pub reduced_sum : Prices → List Rule → ℤ
reduced_sum p [] = pos 0
reduced_sum p (r ∷ path) = reduced_limit p r +ℤ reduced_sum p path

-- no reduced limit is below the bound
abbrev pub ReducedAtLeast : ℤ → List Rule → Prices → Type 0
ReducedAtLeast bound rules p = (r : Rule) → r ∈ rules → bound ≤ℤ reduced_limit p r

-- a rule with its limit made larger by so much
abbrev pub loosen : ℤ → Rule → Rule
loosen by r = record { number = r.number; first = r.first; second = r.second; limit = r.limit +ℤ by }

-- the rules, each loosened by so much
abbrev pub loosened : ℤ → List Rule → List Rule
loosened by rules = map (loosen by) rules
