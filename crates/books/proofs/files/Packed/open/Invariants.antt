use Rattle.std.proofs.Common.{◌≤◌, length}
use Rattle.books.proofs.Names.{NamesLeft}
use Rattle.books.proofs.files.Packed.open.Given as goal

abbrev pub invariant-loop : goal.invariant-loop
invariant-loop l = NamesLeft l.bytes l.counter l.at × (l.at ≤ length l.bytes)
