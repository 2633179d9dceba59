use Rattle.std.proofs.Common.{◌<◌, length, refl, arith}
use Rattle.rules.specs.Places.{first_of}
use Rattle.links.proofs.Grows.{linked_more}
use Rattle.search.proofs.Events.{events_below}
use Rattle.search.proofs.networks.link_rules.Goals as goal

pub link-requires-clause-label : goal.link-requires-clause-label
link-requires-clause-label c =
    omega (arith, (events_below _ c.args.rules.now c.requires.events c.loop-place.place (omega arith)).0, c.loop-place.auto.heads, c.fill.auto.self)

pub loop-place-preserved : goal.loop-place-preserved
loop-place-preserved c =
    let rules = c.args.rules.now in
    let place = c.loop-place.place in
    let h = events_below _ rules c.requires.events place (omega arith) in
    let fit : first_of rules place < length c.loop-place.heads = omega (arith, h.0, c.loop-place.auto.heads, c.fill.auto.self) in
    rw (c.link.ensures.heads, c.link.ensures.nexts) (linked_more (first_of rules) place c.loop-place.heads c.loop-place.nexts _ refl fit (omega arith) c.loop-place.invariant)
