-- What a table means. Assumes nothing.
use Rattle.queues.specs.Contents.{Contents, holds}
use Rattle.queues.specs.SlotKeys.{slot_keys}
use Rattle.queues.specs.declared.tables.Table.{Table}

-- each event waits under the key in its slot
abbrev pub table_contents : {K : Type 0} → Table K → Contents K
table_contents t = holds (slot_keys t.slots.now) t.count
