use Rattle.std.proofs.Common.{ℕ, ◌-◌, List, length, None}
use Rattle.search.specs.Networks.{labelling}
use Rattle.search.specs.Meanings.{network_of}
use Rattle.search.specs.Progress.{Midway}
use Rattle.search.proofs.networks.Network.search.Given as goal

abbrev pub invariant-loop : goal.invariant-loop
invariant-loop g l = (taken : List ℕ) × Midway (network_of l.self) (labelling l.initial.labels l.initial.parents (g.Q.Queue.contents l.initial.queue)) 0 None taken (labelling l.labels l.parents (g.Q.Queue.contents l.queue))

abbrev pub decreases-loop : goal.decreases-loop
decreases-loop g l = length l.initial.labels - (g.Q.Queue.contents l.queue).count
