use Rattle.std.proofs.Common.{◌≡◌, ℕ, ◌+◌, ◌<◌, ◌≤◌, length, get_or, None, Option, sym, refl, ap, ◌∙◌, subst, arith}
use Rattle.std.proofs.lemmas.List.{get_or_read}
use Rattle.delays.specs.Exactness.{exact_size}
use Rattle.rules.specs.Places.{first_of, second_of}
use Rattle.links.specs.Links.{Last}
use Rattle.queues.specs.Contents.{capacity_of}
use Rattle.queues.proofs.Order.{order}
use Rattle.search.specs.Networks.{Network, Labelling, labelling, weight_of}
use Rattle.search.specs.Meanings.{network_of}
use Rattle.search.specs.Progress.{Midway, Leaving}
use Rattle.search.proofs.Events.{events_below}
use Rattle.search.proofs.Keys.{Laws}
use Rattle.search.proofs.Relaxing.{relaxed_as, capacity_kept}
use Rattle.search.proofs.networks.Network.relax.Goals as goal

pub loop-place-init : goal.loop-place-init
loop-place-init g c =
    let N : Network g.row.K.Denot = network_of c.args.self.now in
    let s : Labelling g.row.K.Denot = labelling c.args.labels.now c.args.parents.now (g.Q.Queue.contents c.args.queue.now) in
    let is : c.into_iter-place-iterator.result ≡ c.places-place-items.result = c.into_iter-place-iterator.ensures.into_iter_gives in
    let held : c.into_iter-place-iterator.result.held ≡ get_or c.args.self.now.links.heads.now c.args.event None = ap (λ p. p.held) is ∙ c.places-place-items.ensures.held in
    let last = c.args.self.now.linked.last c.args.event (omega (arith, c.requires.event, c.requires.heads)) in
    (ap (λ p. p.nexts.now) is ∙ c.places-place-items.ensures.nexts, (λ q e. last.bears q (sym held ∙ e)), refl, λ start taken go. subst (λ (h : Option ℕ). Leaving N start c.args.event c.args.key h taken s) (sym held) go)

pub bounds-self-place : goal.bounds-self-place
bounds-self-place g c = (c.loop-place.invariant.1 c.in-Some.place (sym c.in-Some.ensures.steps.comes)).0

pub improve-requires : goal.improve-requires
improve-requires g c =
    let known = c.loop-place.invariant.1 c.in-Some.place (sym c.in-Some.ensures.steps.comes) in
    let below = events_below _ c.args.self.now.rules.now c.requires.fitting.events c.in-Some.place known.0 in
    record {
      labels = omega (arith, below.1, c.loop-place.auto.labels);
      parents = omega (arith, below.1, c.loop-place.auto.parents, c.requires.fitting.parents);
      capacity = omega (arith, below.1, c.loop-place.invariant.2, c.requires.fitting.capacity);
    }

pub loop-place-preserved : goal.loop-place-preserved
loop-place-preserved g c =
    let rules = c.args.self.now.rules.now in
    let weights = c.args.self.now.weights.now in
    let event : ℕ = c.args.event in
    let place : ℕ = c.in-Some.place in
    let next : Option ℕ = c.next.new.self.held in
    let step = c.in-Some.ensures.steps in
    let inv = c.loop-place.invariant in
    let known = inv.1 place (sym step.comes) in
    let last : Last (first_of rules) place event next =
    subst (λ (e : ℕ). Last (first_of rules) place e next) known.1 (subst (λ (h : Option ℕ). Last (first_of rules) place (first_of rules place) h) (sym (step.next place refl ∙ ap (λ ns. get_or ns place None) inv.0)) (c.args.self.now.linked.before place known.0)) in
    let below : second_of rules place < length c.args.labels.now = (events_below _ rules c.requires.fitting.events place known.0).1 in
    let N : Network g.row.K.Denot = network_of c.args.self.now in
    let s : Labelling g.row.K.Denot = labelling c.loop-place.labels c.loop-place.parents (g.Q.Queue.contents c.loop-place.queue) in
    let met = g.met.K.Delay in
    let laws : Laws N = search order in
    let read = get_or_read weights place c.index-self-place.result (omega (arith, known.0, c.args.self.now.weighed)) c.index-self-place.is in
    let weight : get_or weights place c.index-self-place.result ≡ weight_of N place = sym (read c.index-self-place.result) ∙ read g.K.Delay.zero in (
      step.nexts ∙ inv.0,
      (λ q e. let b = last.bears q e in let l = b.0 in let h = known.0 in (omega arith, b.1)),
      ap (λ a. capacity_of a.queue) c.improve.ensures ∙ capacity_kept g.K.Delay.less s _ _ _ ∙ inv.2,
      λ start taken go. relaxed_as N laws start event c.args.key place next taken s known.0 known.1 last (c.args.self.now.rising place known.0)
          (omega (arith, c.loop-place.auto.labels)) (omega (arith, c.loop-place.auto.parents, c.requires.fitting.parents)) (omega (arith, inv.2, c.requires.fitting.capacity))
          (subst (λ (h : Option ℕ). Leaving N start event c.args.key h taken s) (sym step.comes) (inv.3 start taken go))
          _ (get_or weights place c.index-self-place.result) c.sum-reached.result _ refl weight
          (c.sum-reached.ensures (subst (λ (w : g.row.K.Denot). g.K.Delay.size c.args.key + g.K.Delay.size w ≤ exact_size) (sym weight) (c.requires.adds place known.0)))
          c.improve.ensures,
    )

pub returns : goal.returns
returns g c = λ start taken go.
    subst (λ (h : Option ℕ). Midway (network_of c.args.self.now) start c.args.event h taken (labelling c.loop-place.labels c.loop-place.parents (g.Q.Queue.contents c.loop-place.queue))) (sym c.in-None.ensures.steps.comes) (c.loop-place.invariant.3 start taken go).midway
