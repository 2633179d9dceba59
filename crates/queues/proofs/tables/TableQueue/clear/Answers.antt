use Rattle.std.proofs.Common.{rules, ap, ◌∙◌}
use Rattle.queues.specs.Contents.{holds}
use Rattle.queues.specs.SlotKeys.{slot_keys}
use Rattle.queues.proofs.Keyed.{slots_cleared}
use Rattle.queues.proofs.tables.TableQueue.clear.Goals as goal

pub returns : goal.returns
returns g c = ap (λ ss. holds (slot_keys ss) 0) (c.fill.ensures.after (λ y h. search rules)) ∙ ap (λ ws. holds ws 0) (slots_cleared c.args.self.now.slots.now)
