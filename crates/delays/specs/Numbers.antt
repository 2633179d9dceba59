-- Amounts of a unit, as whole numbers without bound. Assumes nothing.
use Rattle.std.specs.Prelude.{Bool, ℕ, ℤ, pos, ◌+ℤ◌, neg_ℤ, nat_abs}
use Rattle.std.specs.Int.Signed.{lt_z}
use Rattle.delays.specs.declared.amounts.Amount.{Amount}
use Rattle.delays.specs.declared.amounts.Milliseconds.{Milliseconds}
use Rattle.delays.specs.declared.amounts.RuleCount.{RuleCount}

module _ {U : Type 0} where
  -- so many of the unit U, of which itself nothing is stored
  abbrev pub amount : ℤ → Amount U
  amount z = record { 0 = z; 1 = record {} }

  abbrev pub amount_zero : Amount U
  amount_zero = amount (pos 0)

  abbrev pub amount_plus : Amount U → Amount U → Amount U
  amount_plus x y = amount (x.0 +ℤ y.0)

  abbrev pub amount_negated : Amount U → Amount U
  amount_negated x = amount (neg_ℤ x.0)

  abbrev pub amount_less : Amount U → Amount U → Bool
  amount_less x y = lt_z x.0 y.0

  -- the size of a number is its distance from 0
  abbrev pub amount_size : Amount U → ℕ
  amount_size x = nat_abs x.0

-- whole milliseconds
abbrev pub Millis : Type 0
Millis = Amount Milliseconds

-- a signed count of rules
abbrev pub Count : Type 0
Count = Amount RuleCount
