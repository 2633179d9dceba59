-- Prices of events from which a search can start: their sizes, and that they are feasible. Assumes nothing.
use Rattle.std.specs.Prelude.{ℕ, ◌≤◌, List, length, ℤ, unsigned_abs}
use Rattle.rules.specs.declared.records.Rule.{Rule}
use Rattle.rules.specs.Meets.{◌∈◌, at, Meets, EventsBelow}
use Rattle.rules.specs.Prices.{loosened}

-- there is room for so many events and rules, a few more than a book has
abbrev pub max_nodes : ℕ
max_nodes = 1_032

abbrev pub max_edges : ℕ
max_edges = 8_192

-- a limit has at most this size, the largest number of 32 bits with a sign
abbrev pub limit_size : ℕ
limit_size = 2_147_483_647

-- rules are loosened by a number of at most this size
abbrev pub loosening_size : ℕ
loosening_size = 100_000_000_000

-- a price has at most this size
abbrev pub price_size : ℕ
price_size = 1_000_000_000_000_000

-- there is room for all the rules, and no limit is too large, nor the number by which they are loosened
pub record Limited (by : ℤ) (rules : List Rule) : Type 0 where
  pub few_rules : length rules ≤ max_edges
  pub limits : (r : Rule) → r ∈ rules → unsigned_abs r.limit ≤ limit_size
  pub loosening : unsigned_abs by ≤ loosening_size

-- there is a price for each event of the rules, there is room for all, and no price is too large
pub record Sized (rules : List Rule) (prices : List ℤ) : Type 0 where
  pub few_events : length prices ≤ max_nodes
  pub events : EventsBelow (length prices) rules
  pub prices_within : (v : ℕ) → unsigned_abs (at prices v) ≤ price_size

-- the prices are feasible for the rules loosened by so much: no reduced limit is below 0, which is to say that they are times that meet the loosened rules
abbrev pub Feasible : ℤ → List Rule → List ℤ → Type 0
Feasible by rules prices = Meets (loosened by rules) (at prices)
