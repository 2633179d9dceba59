use Rattle.pricing.specs.Starts.{Small, Lowered}
use Rattle.pricing.proofs.relaxing.relax_round.Given as goal

abbrev pub invariant-loop-rule : goal.invariant-loop-rule
invariant-loop-rule l = Small l.prices × Lowered l.loose.by.0 l.loose.rules.now l.initial.prices l.prices
