use Rattle.std.proofs.Common.{length, None, ⊎_elim, arith}
use Rattle.std.proofs.lemmas.Bool.{cases_lt}
use Rattle.std.proofs.lemmas.List.{get_or_past}
use Rattle.heaps.specs.HeapOrder.{waiting}
use Rattle.heaps.proofs.Waits.{length-waiting, not_waiting}
use Rattle.heaps.proofs.calls.HeapQueue.take.Goals as goal

pub returns-then-self-eq0-clause-least : goal.returns-then-self-eq0-clause-least
returns-then-self-eq0-clause-least g c = λ e.
    let t = c.args.self.now.tree in
    let es = t.entries.now in
    ⊎_elim (λ l. not_waiting es t.len e l (omega arith)) (λ l. get_or_past (waiting es t.len) e None (omega (arith, length-waiting es t.len))) (cases_lt e (length es))
