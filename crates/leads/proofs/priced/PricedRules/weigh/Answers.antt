use Rattle.rules.specs.Places.{no_rule}
use Rattle.rules.proofs.Members.{get_or_in}
use Rattle.std.proofs.Common.{arith}
use Rattle.leads.proofs.priced.PricedRules.weigh.Goals as goal

pub weight_of-requires : goal.weight_of-requires
weight_of-requires g c = get_or_in c.args.self.now.rules.now c.loop-place.place no_rule (omega arith)
