use Rattle.std.proofs.Common.{arith, w32, SFits, rules}
use Rattle.std.proofs.lemmas.Int.{ints}
use Rattle.leads.proofs.priced.PricedRules.reduced.Goals as goal

pub overflow_sub-result : goal.overflow_sub-result
overflow_sub-result c =
    let f : SFits w32 c.args.rule.limit = search rules in
    let x = c.args.self.now.priced.sized.prices_within c.args.rule.first in
    let y = c.args.self.now.priced.sized.prices_within c.args.rule.second in
    omega (arith, ints)

pub returns : goal.returns
returns c =
    let f : SFits w32 c.args.rule.limit = search rules in
    let x = c.args.self.now.priced.sized.prices_within c.args.rule.first in
    let y = c.args.self.now.priced.sized.prices_within c.args.rule.second in
    record { is = omega (arith, ints); small = omega (arith, ints) }
