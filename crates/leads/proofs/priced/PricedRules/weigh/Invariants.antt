use Rattle.rules.specs.Meets.{at}
use Rattle.leads.specs.Weights.{Weighed}
use Rattle.leads.proofs.priced.PricedRules.weigh.Given as goal

abbrev pub invariant-loop-place : goal.invariant-loop-place
invariant-loop-place g l = Weighed g.C.Counting.counts l.self.rules.now (at l.self.prices.now) l.weights l.place
