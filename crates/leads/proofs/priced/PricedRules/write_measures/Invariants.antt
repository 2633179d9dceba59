use Rattle.std.proofs.Common.{◌≡◌, ℕ, ◌<◌, get_or, None}
use Rattle.rules.specs.Meets.{at}
use Rattle.leads.specs.Labels.{measured}
use Rattle.leads.proofs.priced.PricedRules.write_measures.Given as goal

abbrev pub invariant-loop-event : goal.invariant-loop-event
invariant-loop-event l = (v : ℕ) → v < l.event → get_or l.measures v None ≡ measured (get_or l.labels v None) (at l.self.prices.now v) (at l.self.prices.now l.self.source)
