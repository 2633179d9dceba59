use Rattle.std.proofs.Common.{[], ◌∷◌, length, arith}
use Rattle.rules.proofs.Lengths.{at_most}
use Rattle.queues.proofs.Order.{order}
use Rattle.search.specs.Networks.{Network, Labelling, labelling}
use Rattle.search.specs.Meanings.{network_of}
use Rattle.search.proofs.Keys.{Laws}
use Rattle.search.proofs.Taking.{begins, adds, waiting_below}
use Rattle.search.proofs.Sums.{ends}
use Rattle.search.proofs.networks.Network.search.Goals as goal

pub loop-init : goal.loop-init
loop-init g c = ([], begins _ _ g.met.K.Delay.irreflexive c.requires.ready)

pub turn-requires-clause-adds : goal.turn-requires-clause-adds
turn-requires-clause-adds g c =
    let start : Labelling g.row.K.Denot = labelling c.args.labels.now c.args.parents.now (g.Q.Queue.contents c.args.queue.now) in
    let s : Labelling g.row.K.Denot = labelling c.loop.labels c.loop.parents (g.Q.Queue.contents c.loop.queue) in
    let (taken, m) = c.loop.invariant in
    λ v k w. (waiting_below _ start taken s m v k w, adds _ start c.requires.exact taken s m v k w)

pub loop-smaller : goal.loop-smaller
loop-smaller g c =
    let start : Labelling g.row.K.Denot = labelling c.args.labels.now c.args.parents.now (g.Q.Queue.contents c.args.queue.now) in
    let m = c.loop.invariant.1 in
    let after = c.loop-test.ensures start c.loop.invariant.0 m in
    let few = at_most (length c.args.labels.now) (after.0 ∷ c.loop.invariant.0) after.1.once after.1.below in
    omega (arith, m.counted, after.1.counted)

pub returns : goal.returns
returns g c =
    let N : Network g.row.K.Denot = network_of c.args.self.now in
    let start : Labelling g.row.K.Denot = labelling c.args.labels.now c.args.parents.now (g.Q.Queue.contents c.args.queue.now) in
    let s : Labelling g.row.K.Denot = labelling c.turn.new.labels c.turn.new.parents (g.Q.Queue.contents c.turn.new.queue) in
    let met = g.met.K.Delay in
    let laws : Laws N = search order in
    let after = c.loop-test.ensures start c.loop.invariant.0 c.loop.invariant.1 in
    ends N laws start s c.loop.invariant.0 after.0 after.1 c.requires.fitting.parents
