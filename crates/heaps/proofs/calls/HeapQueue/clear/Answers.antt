use Rattle.std.proofs.Common.{replicate, None, sym, ap, ◌∙◌}
use Rattle.queues.specs.Contents.{holds}
use Rattle.heaps.proofs.Waits.{length-waiting, none_waiting}
use Rattle.heaps.proofs.calls.HeapQueue.clear.Goals as goal

pub returns : goal.returns
returns g c =
    let t = c.args.self.now.tree in
    ap (λ ws. holds ws 0) (none_waiting t.entries.now ∙ ap (λ m. replicate m None) (sym (length-waiting t.entries.now t.len)))
