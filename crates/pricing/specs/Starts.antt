-- Prices to start from, and prices lowered on the way. Assumes nothing.
use Rattle.std.specs.Prelude.{◌≡◌, ℕ, ◌≤◌, List, length, ℤ, Ok, Err, Result, unsigned_abs}
use Rattle.rules.specs.declared.records.Rule.{Rule}
use Rattle.rules.specs.Meets.{Times, at, Meets}
use Rattle.rules.specs.Settled.{NotAfter, Latest}
use Rattle.rules.specs.Prices.{loosened}
use Rattle.settling.specs.Sizes.{Sized}
use Rattle.pricing.specs.declared.rings.Ring.{Ring}
use Rattle.pricing.specs.Repairs.{Shown}

-- a price to start from has at most this size
abbrev pub start_size : ℕ
start_size = 500_000_000_000_000

abbrev pub Small : List ℤ → Type 0
Small prices = (v : ℕ) → unsigned_abs (at prices v) ≤ start_size

-- no price is raised, and none is lowered past a time that its event has in any times that meet the loosened rules with no event after its old price
pub record Lowered (by : ℤ) (rules : List Rule) (old new : List ℤ) : Type 0 where
  pub early : NotAfter (length old) (at old) (at new)
  pub kept : (s : Times) → Meets (loosened by rules) s → NotAfter (length old) (at old) s → NotAfter (length old) (at new) s

-- ok: the new prices are the latest times, none after its old price, that meet the rules loosened by so much, their sizes allow a search, and the list stays;
-- a ring: a negative ring of that size of the loosened rules is shown
abbrev pub Priced : {U : Type 0} → ℤ → List Rule → List ℤ → List ℤ → List ℕ → List ℕ → Result U Ring → Type 0
Priced by rules old new before after (Ok done) = Latest (length old) (at old) (loosened by rules) (at new) × Sized rules new × (after ≡ before)
Priced by rules old new before after (Err ring) = Shown (loosened by rules) ring.size before after
