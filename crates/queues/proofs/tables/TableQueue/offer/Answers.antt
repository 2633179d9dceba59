use Rattle.std.proofs.Common.{ap, arith}
use Rattle.queues.specs.Contents.{holds}
use Rattle.queues.proofs.Keyed.{slot_offered}
use Rattle.queues.proofs.tables.TableQueue.offer.Goals as goal

pub returns-clause-left : goal.returns-clause-left
returns-clause-left g c =
    ap (λ ws. holds ws c.args.self.now.count) (slot_offered c.args.self.now.slots.now c.args.event g.K.Delay.less c.index-slots-event.result c.offer.new.self c.args.key (omega arith) c.offer.ensures)
