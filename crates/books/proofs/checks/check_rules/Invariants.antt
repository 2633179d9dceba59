use Rattle.std.proofs.Common.{◌≡◌, length}
use Rattle.rules.specs.Bounds.{max_rules}
use Rattle.links.specs.Links.{Linked}
use Rattle.books.specs.Numbering.{remainders, remainder_of}
use Rattle.books.proofs.Putting.{RulesLeft}
use Rattle.books.proofs.checks.check_rules.Given as goal

abbrev pub invariant-loop-place : goal.invariant-loop-place
invariant-loop-place g l =
    (length l.heads ≡ remainders)
    × (length l.nexts ≡ max_rules)
    × Linked (remainder_of (g.B.Book.meaning l.book).rules) l.place l.heads l.nexts
    × RulesLeft (g.B.Book.meaning l.book).events (g.B.Book.meaning l.book).rules l.place
