use Rattle.pricing.proofs.Steps.{priced_lowered}
use Rattle.pricing.proofs.feasible.prices.Goals as goal

pub returns-clause-priced : goal.returns-clause-priced
returns-clause-priced g c =
    priced_lowered c.args.loose.now.by.0 c.args.loose.now.rules.now c.args.prices.now c.relax_rounds.new.prices c.repair_all.new.prices c.args.ring.now c.repair_all.new.ring c.repair_all.result c.relax_rounds.auto.prices c.relax_rounds.ensures.lowered c.repair_all.ensures.priced
