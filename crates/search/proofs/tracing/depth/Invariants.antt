use Rattle.std.proofs.Common.{◌≡◌, ℕ, ◌+◌, ◌-◌, List, length}
use Rattle.search.proofs.Walking.{Back}
use Rattle.search.proofs.tracing.depth.Given as goal

abbrev pub invariant-loop-at : goal.invariant-loop-at
invariant-loop-at l = (places : List ℕ) × (left : ℕ) × (left + l.count ≡ length places) × Back l.rules l.parents l.event places left l.at

abbrev pub decreases-loop-at : goal.decreases-loop-at
decreases-loop-at l = length l.parents - l.count
