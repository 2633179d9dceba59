-- The largest sizes. Assumes nothing.
use Rattle.std.specs.Prelude.{ℕ, ℤ, pos, neg_ℤ}

-- a book has from 1 to so many events
abbrev pub max_events : ℕ
max_events = 1_024

-- a book has at most so many rules
abbrev pub max_rules : ℕ
max_rules = 4_096

-- a limit is from the opposite of this to this, in milliseconds
abbrev pub max_limit : ℤ
max_limit = pos 100_000_000

abbrev pub min_limit : ℤ
min_limit = neg_ℤ max_limit

-- counts of 16 bits tell at most so many
abbrev pub max_count : ℕ
max_count = 65_535
