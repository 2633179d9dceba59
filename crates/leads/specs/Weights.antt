-- Keys of a search, and the weights of rules under prices. Assumes nothing.
use Rattle.std.specs.Prelude.{◌≡◌, ℕ, ◌<◌, ◌≤◌, List, ℤ, pos, slice_index_or, unsigned_abs}
use Rattle.std.specs.Int.{int_max}
use Rattle.rules.specs.declared.records.Rule.{Rule}
use Rattle.rules.specs.Places.{rule_at}
use Rattle.rules.specs.Prices.{Prices, reduced_limit}
use Rattle.delays.specs.declared.pairs.Pair.{Pair}
use Rattle.delays.specs.Numbers.{Millis, Count, amount, amount_zero}
use Rattle.delays.specs.Pairs.{pair}

-- the largest size of a reduced limit
abbrev pub reduced_size : ℕ
reduced_size = 3_000_000_000_000_000

-- keys of a search: milliseconds, and where these are equal a count
abbrev pub Key : Type 0
Key = Pair Millis Count

abbrev pub key_zero : Key
key_zero = pair amount_zero amount_zero

-- the weight of a rule: its reduced limit, or 0 where that is below 0, and what it counts
abbrev pub weight : (ℤ → ℕ) → Prices → Rule → Key
weight counts p r = pair (amount (int_max (reduced_limit p r) (pos 0))) (amount (pos (counts r.limit)))

-- the first so many rules have their weights, none of which is too large
pub record Weighed (counts : ℤ → ℕ) (rules : List Rule) (p : Prices) (weights : List Key) (first : ℕ) : Type 0 where
  pub is : (place : ℕ) → place < first → slice_index_or weights place key_zero ≡ weight counts p (rule_at rules place)
  pub small : (place : ℕ) → place < first → unsigned_abs (reduced_limit p (rule_at rules place)) ≤ reduced_size
