use Rattle.rules.specs.Places.{no_rule}
use Rattle.rules.proofs.Members.{get_or_in}
use Rattle.settling.proofs.loosened.Loosened.weigh.Goals as goal

pub reduced_limit-requires-clause-rule : goal.reduced_limit-requires-clause-rule
reduced_limit-requires-clause-rule c = get_or_in c.args.self.now.rules.now c.loop-place.place no_rule c.loop-place-test.true
