use Rattle.std.proofs.Common.{arith}
use Rattle.std.proofs.lemmas.List.{length-map, map-set}
use Rattle.heaps.specs.HeapOrder.{events, places}
use Rattle.heaps.proofs.Numbered.{numbered_more}
use Rattle.heaps.proofs.entries.number_all.Goals as goal

pub loop-i-preserved : goal.loop-i-preserved
loop-i-preserved g c =
    let es = c.loop-i.entries in
    let i = c.loop-i.i in
    let v = c.loop-i.invariant in (
      numbered_more (events es) _ i (omega (arith, c.loop-i-test.true, c.loop-i.auto.entries, length-map es (λ e. e.event))) (map-set (λ e. e.event) es i _) v.0,
      numbered_more (places es) _ i (omega (arith, c.loop-i-test.true, c.loop-i.auto.entries, length-map es (λ e. e.place))) (map-set (λ e. e.place) es i _) v.1,
    )
