-- Networks with keys, and with milliseconds alone. Assumes nothing.
use Rattle.std.proofs.Common.{List}
use Rattle.rules.specs.declared.records.Rule.{Rule}
use Rattle.delays.specs.Numbers.{Millis, amount_zero, amount_plus, amount_less, amount_size}
use Rattle.delays.specs.Pairs.{pair_plus, pair_less, pair_size}
use Rattle.search.specs.Networks.{Network}
use Rattle.leads.specs.Weights.{Key, key_zero}

-- what a search goes by: keys, the rules and their weights
abbrev pub keyed : List Rule → List Key → Network Key
keyed rules weights = record { less = pair_less amount_less amount_less; plus = pair_plus amount_plus amount_plus; zero = key_zero; size = pair_size amount_size amount_size; rules = rules; weights = weights }

-- the same with milliseconds alone
abbrev pub timed : List Rule → List Millis → Network Millis
timed rules weights = record { less = amount_less; plus = amount_plus; zero = amount_zero; size = amount_size; rules = rules; weights = weights }
