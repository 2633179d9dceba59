use Rattle.std.proofs.Common.{◌≡◌, ℕ, ◌<◌, get_or, neg_ℤ, Some, None}
use Rattle.delays.specs.Numbers.{amount}
use Rattle.rules.specs.Meets.{at}
use Rattle.settling.proofs.times.oppose.Given as goal

abbrev pub invariant-loop-event : goal.invariant-loop-event
invariant-loop-event l = (v : ℕ) → v < l.event → get_or l.labels v None ≡ Some (amount (neg_ℤ (at l.prices v)))
