-- The slots of a table. Assumes nothing.
use Rattle.std.specs.Prelude.{List, map, Option}
use Rattle.queues.specs.declared.slots.Slot.{Slot}

-- for each event the key under which it waits, if it does
abbrev pub slot_keys : {K : Type 0} → List (Slot K) → List (Option K)
slot_keys slots = map (λ s. s.key) slots
