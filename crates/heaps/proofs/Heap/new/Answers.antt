use Rattle.std.proofs.Common.{replicate, None, ap, ◌∙◌, arith}
use Rattle.std.proofs.lemmas.List.{length-take}
use Rattle.queues.specs.Contents.{holds}
use Rattle.heaps.specs.HeapOrder.{waiting}
use Rattle.heaps.proofs.Waits.{none_waiting}
use Rattle.heaps.proofs.Heap.new.Goals as goal

pub returns : goal.returns
returns g c =
    let t = c.over.result in
    ap (λ ws. holds ws 0) (ap (waiting t.entries.now) c.over.ensures.none ∙ none_waiting t.entries.now ∙ ap (λ n. replicate n None) (omega (arith, c.over.ensures.size, length-take c.min-n.result c.args.entries.now, c.min-n.ensures)))
