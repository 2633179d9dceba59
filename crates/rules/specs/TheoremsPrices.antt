-- Reduced and loosened limits. Assumes nothing.
use Rattle.std.specs.Prelude.{◌≡◌, ℕ, ◌↔◌, List, ℤ, pos, ◌+ℤ◌, ◌-ℤ◌, neg_ℤ}
use Rattle.rules.specs.declared.records.Rule.{Rule}
use Rattle.rules.specs.Meets.{Meets}
use Rattle.rules.specs.Chains.{Chain, sum}
use Rattle.rules.specs.Rings.{Ring}
use Rattle.rules.specs.Prices.{Prices, reduced_sum, ReducedAtLeast, loosened}

-- prices change a chain's sum by those of its ends alone
abbrev pub ReducedSums : Type 0
ReducedSums = (rules : List Rule) (p : Prices) (a b : ℕ) (path : List Rule) → Chain rules a b path → reduced_sum p path ≡ (sum path +ℤ p a) -ℤ p b

-- and so they change no ring's
abbrev pub ReducedRings : Type 0
ReducedRings = (rules : List Rule) (p : Prices) (a : ℕ) (path : List Rule) → Ring rules a path → reduced_sum p path ≡ sum path

-- prices under which no reduced limit is below 0 are times that meet the rules
abbrev pub PricesAreTimes : Type 0
PricesAreTimes = (rules : List Rule) (p : Prices) → ReducedAtLeast (pos 0) rules p ↔ Meets rules p

-- prices are times that meet the loosened rules exactly when under them no reduced limit is below the opposite of the loosening
abbrev pub LoosenedExactly : Type 0
LoosenedExactly = (by : ℤ) (rules : List Rule) (p : Prices) → Meets (loosened by rules) p ↔ ReducedAtLeast (neg_ℤ by) rules p
