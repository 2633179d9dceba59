use Rattle.std.proofs.Common.{List, ℤ, ◌+ℤ◌, ◌≤ℤ◌, ap, arith, w64, to_z, of_z}
use Rattle.std.proofs.lemmas.Int.{ints}
use Rattle.delays.specs.Numbers.{Millis}
use Rattle.rules.specs.declared.records.Rule.{Rule}
use Rattle.rules.specs.Meets.{at}
use Rattle.rules.specs.Prices.{reduced_limit, loosen}
use Rattle.pricing.proofs.Lowers.{lowered_one}
use Rattle.pricing.proofs.relaxing.relax.Goals as goal

pub returns-then-reduced-lt0-clause-lowered : goal.returns-then-reduced-lt0-clause-lowered
returns-then-reduced-lt0-clause-lowered c =
    let rules : List Rule = c.args.loose.now.rules.now in
    let prices : List ℤ = c.args.prices.now in
    let rule : Rule = c.args.rule in
    let ends = c.requires.sized.events rule c.requires.rule in
    let price : ℤ = to_z w64 (of_z w64 c.fall.result) in
    let w = ap (λ (m : Millis). m.0) c.reduced_limit-reduced.ensures in
    let near = c.fall.ensures.small in
    let early = c.fall.ensures.early in
    let kept = c.fall.ensures.kept in
    let down : price ≤ℤ at prices rule.second = omega (arith, ints) in
    let up : (at prices rule.second +ℤ reduced_limit (at prices) (loosen c.args.loose.now.by.0 rule)) ≤ℤ price = omega (arith, ints) in
    lowered_one c.args.loose.now.by.0 rules prices rule c.requires.rule price ends.1 down up ends.0
