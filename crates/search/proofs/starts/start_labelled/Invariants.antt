use Rattle.std.proofs.Common.{◌≡◌, ◌-◌, ◌++◌, take, replicate, None}
use Rattle.queues.specs.Contents.{capacity_of, holds}
use Rattle.search.proofs.starts.start_labelled.Given as goal

abbrev pub invariant-loop-event : goal.invariant-loop-event
invariant-loop-event g l = g.Q.Queue.contents l.queue ≡ holds (take l.event l.labels ++ replicate (capacity_of (g.Q.Queue.contents l.fn.queue) - l.event) None) 0
