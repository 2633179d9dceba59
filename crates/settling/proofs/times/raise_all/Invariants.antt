use Rattle.std.proofs.Common.{◌≡◌, ℕ, ◌<◌, ◌≤◌, get_or, None}
use Rattle.rules.specs.Meets.{at}
use Rattle.settling.specs.Weights.{raised}
use Rattle.settling.proofs.times.raise_all.Given as goal

abbrev pub invariant-loop-event : goal.invariant-loop-event
invariant-loop-event l = ((v : ℕ) → v < l.event → at l.prices v ≡ raised (get_or l.labels v None) (at l.initial.prices v)) × ((v : ℕ) → l.event ≤ v → at l.prices v ≡ at l.initial.prices v)
