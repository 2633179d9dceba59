use Rattle.std.proofs.Common.{sym}
use Rattle.heaps.proofs.Waits.{length-waiting}
use Rattle.heaps.proofs.calls.HeapQueue.capacity.Goals as goal

pub returns : goal.returns
returns g c = let t = c.args.self.now.tree in sym (length-waiting t.entries.now t.len)
