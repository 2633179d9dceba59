-- Prices that a search can go by. Assumes nothing.
use Rattle.std.specs.Prelude.{ℕ, ◌≤◌, List, length, ℤ}
use Rattle.rules.specs.declared.records.Rule.{Rule}
use Rattle.rules.specs.Meets.{at}
use Rattle.rules.specs.Distances.{MeetsFrom}
use Rattle.settling.specs.Sizes.{max_edges, Sized}

-- a search from a source can go by these prices, one for each event: there is room, the rules are between the events, no price is too large, and the
-- prices are times that meet the rules that concern the source, so that no reduced limit of these is below 0
pub record Priced (rules : List Rule) (source : ℕ) (prices : List ℤ) : Type 0 where
  pub few_rules : length rules ≤ max_edges
  pub sized : Sized rules prices
  pub meets : MeetsFrom rules source (at prices)
