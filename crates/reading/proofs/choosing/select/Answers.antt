use Rattle.reading.proofs.Chosen.{choosing_more}
use Rattle.reading.proofs.choosing.select.Goals as goal

pub loop-rule-preserved-then-flag : goal.loop-rule-preserved-then-flag
loop-rule-preserved-then-flag c =
    let s = c.in-Some.ensures.steps in
    choosing_more c.args.rules.now c.args.flags.now c.args.chosen.now _ _ c.in-Some.rule.now _ _ (rw (s.0, s.1, c.if-flag.true) at c.loop-rule.invariant)
