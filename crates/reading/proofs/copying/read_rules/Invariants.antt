use Rattle.std.proofs.Common.{◌≡◌, ◌++◌, take, drop}
use Rattle.reading.proofs.copying.read_rules.Given as goal

abbrev pub invariant-loop-place : goal.invariant-loop-place
invariant-loop-place g l = l.records ≡ take l.place (g.B.Book.meaning l.book).rules ++ drop l.place l.initial.records
