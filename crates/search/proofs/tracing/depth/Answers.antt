use Rattle.std.proofs.Common.{◌-◌, length, arith}
use Rattle.search.proofs.Walking.{chain_to, chain_few, back_begin, back_some, back_none}
use Rattle.search.proofs.tracing.depth.Goals as goal

pub loop-at-init : goal.loop-at-init
loop-at-init c =
    let t = chain_to c.args.rules.now c.args.parents.now c.args.event c.requires.event c.requires.forest in
    (t.0, length t.0, omega arith, back_begin c.args.rules.now c.args.parents.now c.args.event t.0 c.requires.event t.1)

pub bounds-rules-place : goal.bounds-rules-place
bounds-rules-place c =
    let inv = c.loop-at.invariant in
    (back_some c.args.rules.now c.args.parents.now c.args.event inv.0 inv.1 c.loop-at.at c.in-Some.place c.requires.events c.in-Some.is inv.3).2

pub overflow_add-count : goal.overflow_add-count
overflow_add-count c =
    let inv = c.loop-at.invariant in
    let few = chain_few c.args.rules.now c.args.parents.now c.requires.events c.args.event inv.0 inv.3.traced in
    omega (arith, inv.2)

pub loop-at-preserved : goal.loop-at-preserved
loop-at-preserved c =
    let inv = c.loop-at.invariant in
    let (some, _, _, next) = back_some c.args.rules.now c.args.parents.now c.args.event inv.0 inv.1 c.loop-at.at c.in-Some.place c.requires.events c.in-Some.is inv.3 in
    (inv.0, inv.1 - 1, omega (arith, inv.2), next)

pub loop-at-smaller : goal.loop-at-smaller
loop-at-smaller c =
    let inv = c.loop-at.invariant in
    let few = chain_few c.args.rules.now c.args.parents.now c.requires.events c.args.event inv.0 inv.3.traced in
    omega (arith, inv.2)

pub returns : goal.returns
returns c =
    let rules = c.args.rules.now in
    let parents = c.args.parents.now in
    let inv = c.loop-at.invariant in
    let few = chain_few rules parents c.requires.events c.args.event inv.0 inv.3.traced in
    let none = back_none rules parents c.args.event inv.0 inv.1 c.loop-at.at c.requires.events c.in_default.is inv.3 in
    record { few = omega (arith, inv.2); traced = (inv.0, inv.3.traced, omega (arith, inv.2)) }
