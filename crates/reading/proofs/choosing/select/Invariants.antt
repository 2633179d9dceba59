use Rattle.reading.proofs.Chosen.{Choosing}
use Rattle.reading.proofs.choosing.select.Given as goal

abbrev pub invariant-loop-rule : goal.invariant-loop-rule
invariant-loop-rule l = Choosing l.rules l.flags l.initial.chosen l.chosen l.count l.rule-iterator.a.rest.now l.rule-iterator.b.rest.now
