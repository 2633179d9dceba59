use Rattle.pricing.specs.Starts.{Small, Lowered}
use Rattle.pricing.proofs.relaxing.relax_rounds.Given as goal

abbrev pub invariant-loop : goal.invariant-loop
invariant-loop l = Small l.prices × Lowered l.loose.by.0 l.loose.rules.now l.initial.prices l.prices
