use Rattle.std.proofs.Common.{◌≡◌, ℕ, List, length}
use Rattle.search.proofs.Walking.{Back, half_written}
use Rattle.search.proofs.tracing.trace.Given as goal

abbrev pub invariant-loop-left : goal.invariant-loop-left
invariant-loop-left l = (places : List ℕ) × (length places ≡ l.count) × Back l.rules l.parents l.event places l.left l.at × (l.numbers ≡ half_written l.rules l.initial.numbers places l.left)
