use Rattle.std.proofs.Common.{rules}
use borrow.Author.Tests.{tests}
use Rattle.std.proofs.lemmas.Iterator.{cases_from_all, YieldsList-from_slice}
use Rattle.rules.specs.Meets.{at}
use Rattle.rules.proofs.Members.{Met, meets_decided}
use Rattle.rules.proofs.times.meets.Goals as goal

pub returns : goal.returns
returns c =
    let t = at c.args.times.now in
    meets_decided c.args.rules.now t _ (cases_from_all _ _ _ (Met t) (λ r. ¬ Met t r) c.all.ensures.ran (YieldsList-from_slice c.args.rules.now cc) (λ x q k. search (rules, tests)) (λ x q k. search (rules, tests)))
