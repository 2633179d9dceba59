use Rattle.std.proofs.iter.Serving.{serving}
use Rattle.leads.proofs.priced.PricedRules.measure_of.Goals as goal

pub map-requires : goal.map-requires
map-requires c = grind serving
