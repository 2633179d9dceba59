use Rattle.std.proofs.Common.{◌≡◌, ℕ, length, set, replicate, Some, None, rules, refl, sym, ap, ◌∙◌, subst}
use Rattle.std.proofs.lemmas.List.{length-replicate, length-set}
use Rattle.queues.specs.Contents.{holds, capacity_of}
use Rattle.queues.proofs.Order.{order}
use Rattle.rules.specs.Meets.{EventsBelow}
use Rattle.search.specs.Networks.{Network, Labelling, labelling, network, events_of}
use Rattle.search.specs.Searches.{Ready}
use Rattle.search.specs.Beginnings.{alone}
use Rattle.search.proofs.Keys.{Laws}
use Rattle.search.proofs.Begins.{ready_alone}
use Rattle.search.proofs.Fills.{all_return}
use Rattle.search.proofs.starts.start_alone.Goals as goal

pub returns : goal.returns
returns g c =
    let n : ℕ = capacity_of (g.Q.Queue.contents c.args.queue.now) in
    let event : ℕ = c.args.event in
    let key : g.row.K.Denot = c.args.key in
    let events : ℕ = length c.args.labels.now in
    let labels = set (replicate events c.args.label) event (Some key) in
    let filled : c.fill_with.new.self ≡ replicate events c.args.label = all_return _ (λ f. f.0 ≡ c.args.label) c.args.label (λ f y h i r. search rules) _ _ _ refl c.fill_with.ensures.ran.1 ∙ ap (λ m. replicate m c.args.label) c.fill_with.ensures.len in
    let none : c.fill.new.self ≡ replicate (length c.args.parents.now) None = search rules in
    let queue = c.offer_label.ensures ∙ ap (λ p. holds (set p.waiting event (Some key)) p.count) c.clear.ensures in
    let started : labelling (set c.fill_with.new.self event (Some key)) c.fill.new.self (g.Q.Queue.contents c.offer_label.new.queue) ≡ alone events n event key c.args.label =
    ap (λ ls. labelling (set ls event (Some key)) c.fill.new.self (g.Q.Queue.contents c.offer_label.new.queue)) filled
    ∙ ap (λ ps. labelling labels ps (g.Q.Queue.contents c.offer_label.new.queue)) (none ∙ ap (λ m. replicate m None) c.requires.parents)
    ∙ ap (labelling labels (replicate events None)) queue in
    let met = g.met.K.Delay in
    record {
      started = started;
      ready = λ small rules weights below rising.
          let N : Network g.row.K.Denot = network g.K.Delay rules weights in
          let laws : Laws N = search order in
          let fits : EventsBelow events rules = subst (λ (k : ℕ). EventsBelow k rules) (ap events_of started ∙ length-set (replicate events c.args.label) event (Some key) ∙ length-replicate events c.args.label) below in
          subst (λ (s : Labelling g.row.K.Denot). Ready N s) (sym started) (ready_alone N laws rising events n event key c.args.label fits c.requires.event c.requires.capacity small);
    }
