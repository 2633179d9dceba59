use Rattle.std.proofs.Common.{◌≡◌, ℕ, ◌<◌, get_or}
use Rattle.heaps.specs.HeapOrder.{events, places}
use Rattle.heaps.proofs.entries.number_all.Given as goal

abbrev pub invariant-loop-i : goal.invariant-loop-i
invariant-loop-i g l = ((k : ℕ) → k < l.i → get_or (events l.entries) k 0 ≡ k) × ((k : ℕ) → k < l.i → get_or (places l.entries) k 0 ≡ k)
