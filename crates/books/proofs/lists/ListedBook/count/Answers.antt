use Rattle.std.proofs.Common.{arith, length-take}
use Rattle.books.proofs.lists.ListedBook.count.Goals as goal

pub returns : goal.returns
returns c = simp length-take (omega arith)
