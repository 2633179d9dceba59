use Rattle.rules.specs.Places.{no_rule}
use Rattle.rules.proofs.Members.{get_or_in}
use Rattle.pricing.proofs.relaxing.relax_round.Goals as goal

pub relax-changed-requires-clause-rule : goal.relax-changed-requires-clause-rule
relax-changed-requires-clause-rule c = get_or_in c.args.loose.now.rules.now c.loop-rule.rule-index no_rule c.loop-rule-test.true
