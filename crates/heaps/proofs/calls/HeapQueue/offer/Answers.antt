use Rattle.std.proofs.Common.{refl, inl, arith}
use Rattle.heaps.proofs.Waits.{length-waiting}
use Rattle.heaps.proofs.calls.HeapQueue.offer.Goals as goal

pub returns-then-event-self-clause-answered : goal.returns-then-event-self-clause-answered
returns-then-event-self-clause-answered g c = let t = c.args.self.now.tree in inl ((λ h. omega (arith, h, length-waiting t.entries.now t.len)), refl, refl)

pub returns-clause-answered : goal.returns-clause-answered
returns-clause-answered g c = let t = c.args.self.now.tree in (omega (arith, length-waiting t.entries.now t.len), tt)
