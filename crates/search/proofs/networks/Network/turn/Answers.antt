use Rattle.std.proofs.Common.{ℕ, ◌≤◌, ◌∷◌, get_or, None, Option, sym, subst, arith}
use Rattle.rules.specs.Bounds.{max_count}
use Rattle.queues.specs.Contents.{Contents}
use Rattle.search.specs.Networks.{Network, Labelling, labelling, events_of}
use Rattle.search.specs.Meanings.{network_of}
use Rattle.search.specs.Progress.{Leaving}
use Rattle.search.proofs.Taking.{any, took}
use Rattle.search.proofs.networks.Network.turn.Goals as goal

pub returns-in-Some : goal.returns-in-Some
returns-in-Some g c = λ start taken m.
    let N : Network g.row.K.Denot = network_of c.args.self.now in
    let s : Labelling g.row.K.Denot = labelling c.args.labels.now c.args.parents.now (g.Q.Queue.contents c.args.queue.now) in
    let u : ℕ = c.in-Some.first.0 in
    let k : g.row.K.Denot = c.in-Some.first.1 in
    let head : Option ℕ = get_or c.args.self.now.links.heads.now u None in
    let least = c.in-Some.ensures.least in
    let known = c.requires.adds u k least.1 in
    let linked = c.args.self.now.linked.last u (omega (arith, known.0, c.requires.heads)) in
    let few : events_of start ≤ max_count = let f = c.requires.fitting.few in let e = m.events in omega arith in (
      u,
      any N start u 0 (u ∷ taken) _ (c.relax.ensures start (u ∷ taken)
          (subst (λ (q : Contents g.row.K.Denot). Leaving N start u k head (u ∷ taken) (labelling c.args.labels.now c.args.parents.now q)) (sym c.in-Some.ensures.left)
          (took N start taken s u k head m few least.0 least.1 least.2 linked))),
    )
