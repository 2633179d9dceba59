use Rattle.std.proofs.Common.{◌≡◌}
use Rattle.books.proofs.Frees.{Sought}
use Rattle.books.proofs.checks.is_free.Given as goal

abbrev pub invariant-loop-earlier : goal.invariant-loop-earlier
invariant-loop-earlier g l =
    (l.earlier-iterator.nexts.now ≡ l.links.nexts.now)
    × Sought (g.B.Book.meaning l.book).rules l.number l.place l.earlier-iterator.held
