use Rattle.std.proofs.Common.{◌≡◌, ◌+◌, ◌*◌, ◌≤◌}
use Rattle.books.specs.Layout.{name_start}
use Rattle.books.proofs.files.start_of_name.Given as goal

-- the place stays far below the largest number
abbrev pub invariant-loop : goal.invariant-loop
invariant-loop l = (l.at ≡ name_start l.bytes l.counter) × (l.at ≤ 1_000_000 + 256 * l.counter)
