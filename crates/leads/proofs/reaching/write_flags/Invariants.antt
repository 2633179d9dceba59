use Rattle.std.proofs.Common.{◌≡◌, ℕ, ◌<◌, false, get_or, is_some, None}
use Rattle.leads.proofs.reaching.write_flags.Given as goal

abbrev pub invariant-loop-event : goal.invariant-loop-event
invariant-loop-event l = (v : ℕ) → v < l.event → get_or l.reached v false ≡ is_some (get_or l.labels v None)
