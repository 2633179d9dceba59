-- How far sums and opposites are exact. Assumes nothing.
use Rattle.std.specs.Prelude.{ℕ}

-- a machine's sum or opposite is exact while the sizes in it add to at most this, 4 × 10^18
abbrev pub exact_size : ℕ
exact_size = 4_000_000_000_000_000_000
