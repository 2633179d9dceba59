use Rattle.std.proofs.Common.{sym, ◌∙◌}
use Rattle.books.proofs.Parts.{count_is}
use Rattle.books.proofs.files.PackedBook.count.Goals as goal

pub returns : goal.returns
returns c = c.rule_count.ensures ∙ sym (count_is c.args.self.now.bytes.now)
