-- Reduced limits as weights, and labels as times. Assumes nothing.
use Rattle.std.specs.Prelude.{◌≡◌, ℕ, ◌<◌, ◌≤◌, List, length, ℤ, ◌+ℤ◌, neg_ℤ, Some, None, Option, slice_index_or}
use Rattle.delays.specs.Numbers.{Millis, amount, amount_zero}
use Rattle.rules.specs.declared.records.Rule.{Rule}
use Rattle.rules.specs.Meets.{at}
use Rattle.rules.specs.Places.{rule_at}
use Rattle.rules.specs.Prices.{reduced_limit, loosen}

-- the weight at each rule's place is its loosened limit, reduced by the prices
abbrev pub Weighed : ℤ → List Rule → List ℤ → List Millis → Type 0
Weighed by rules prices weights = (place : ℕ) → place < length rules → slice_index_or weights place amount_zero ≡ amount (reduced_limit (at prices) (loosen by (rule_at rules place)))

-- each event is labelled with the opposite of its price
abbrev pub Opposed : List ℤ → List (Option Millis) → Type 0
Opposed prices labels = (v : ℕ) → v < length prices → slice_index_or labels v None ≡ Some (amount (neg_ℤ (at prices v)))

-- a price, more by the label if there is one
abbrev pub raised : Option Millis → ℤ → ℤ
raised None price = price
raised (Some key) price = key.0 +ℤ price

-- each event that has a price has the time that is its price, more by its label
abbrev pub Raised : List ℤ → List (Option Millis) → List ℤ → Type 0
Raised prices labels times = (v : ℕ) → v < length prices → at times v ≡ raised (slice_index_or labels v None) (at prices v)

-- the entries from n on are as they were
abbrev pub StaysFrom : ℕ → List ℤ → List ℤ → Type 0
StaysFrom n before after = (v : ℕ) → n ≤ v → at after v ≡ at before v
