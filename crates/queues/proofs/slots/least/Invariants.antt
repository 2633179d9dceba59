use Rattle.queues.specs.SlotKeys.{slot_keys}
use Rattle.queues.proofs.Scans.{LeastBelow}
use Rattle.queues.proofs.slots.least.Given as goal

abbrev pub invariant-loop-event : goal.invariant-loop-event
invariant-loop-event g l = LeastBelow g.K.Delay.less (slot_keys l.slots) l.event l.best
