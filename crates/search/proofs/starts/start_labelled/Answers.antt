use Rattle.std.proofs.Common.{◌≡◌, ℕ, ◌-◌, ◌++◌, length, replicate, set, None, rules, sym, ap, ◌∙◌, subst, arith}
use Rattle.std.proofs.lemmas.List.{take_all, get_or_read}
use Rattle.queues.specs.Contents.{holds, capacity_of}
use Rattle.search.specs.Networks.{Labelling, labelling, network}
use Rattle.search.specs.Searches.{Ready}
use Rattle.search.specs.Beginnings.{all_waiting}
use Rattle.search.proofs.Begins.{first_more, ready_all}
use Rattle.search.proofs.starts.start_labelled.Goals as goal

pub loop-event-preserved : goal.loop-event-preserved
loop-event-preserved g c =
    let labels = c.args.labels.now in
    let i : ℕ = c.loop-event.event in
    let n : ℕ = capacity_of (g.Q.Queue.contents c.args.queue.now) in
    let label = c.index-labels-event.result in
    c.offer_label.ensures ∙ ap (λ q. holds (set q.waiting i label) q.count) c.loop-event.invariant
    ∙ ap (λ ws. holds ws 0) (first_more labels n i label (omega arith) (omega (arith, c.requires.capacity)) (get_or_read labels i _ (omega arith) c.index-labels-event.is None))

pub returns : goal.returns
returns g c =
    let labels = c.args.labels.now in
    let i : ℕ = c.loop-event.event in
    let n : ℕ = capacity_of (g.Q.Queue.contents c.args.queue.now) in
    let filled : c.fill.new.self ≡ replicate (length c.args.parents.now) None = search rules in
    let all : i ≡ length labels = omega arith in
    let started : labelling labels c.fill.new.self (g.Q.Queue.contents c.loop-event.queue) ≡ all_waiting labels n =
    ap (λ ps. labelling labels ps (g.Q.Queue.contents c.loop-event.queue)) (filled ∙ ap (λ k. replicate k None) c.requires.parents)
    ∙ ap (labelling labels (replicate (length labels) None)) (c.loop-event.invariant ∙ ap (λ ls. holds (ls ++ replicate (n - i) None) 0) (take_all i labels (omega arith)) ∙ ap (λ k. holds (labels ++ replicate (n - k) None) 0) all) in
    record {
      started = started;
      ready = λ rules weights below rising. subst (λ (s : Labelling g.row.K.Denot). Ready (network g.K.Delay rules weights) s) (sym started) (ready_all (network g.K.Delay rules weights) labels n);
    }
