-- What the labels of a search by keys tell. Assumes nothing.
use Rattle.std.specs.Prelude.{◌≤◌, ℤ, pos, ◌+ℤ◌, ◌-ℤ◌, ◌≤ℤ◌, Some, None, Option, unsigned_abs}
use Rattle.rules.specs.Bounds.{max_count}
use Rattle.delays.specs.Exactness.{exact_size}
use Rattle.leads.specs.declared.records.Measure.{Measure}
use Rattle.leads.specs.Weights.{Key}

-- what a label says of an event with this price, from a source with that price
abbrev pub measured : Option Key → ℤ → ℤ → Option Measure
measured None price source = None
measured (Some key) price source = Some (record { distance = (key.first.0 +ℤ price) -ℤ source; count = unsigned_abs key.second.0 })

-- a label fits: it can be moved by prices, and its count is one of 16 bits
pub record Fits (key : Key) : Type 0 where
  pub millis : unsigned_abs key.first.0 ≤ exact_size
  pub least : pos 0 ≤ℤ key.second.0
  pub most : unsigned_abs key.second.0 ≤ max_count
