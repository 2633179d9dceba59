use Rattle.std.proofs.Common.{◌≡◌, length, take}
use Rattle.rules.specs.Meets.{at}
use Rattle.rules.specs.Settled.{Latest}
use Rattle.rules.specs.Prices.{loosened}
use Rattle.queues.specs.Contents.{capacity_of, empty}
use Rattle.pricing.proofs.feasible.repair_all.Given as goal

abbrev pub invariant-loop-place : goal.invariant-loop-place
invariant-loop-place g l =
    (g.Q.Queue.contents l.queue ≡ empty (capacity_of (g.Q.Queue.contents l.initial.queue)))
    × (l.ring ≡ l.initial.ring)
    × Latest (length l.initial.prices) (at l.initial.prices) (loosened l.loose.by.0 (take l.place l.loose.rules.now)) (at l.prices)
