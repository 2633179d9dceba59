use Rattle.std.proofs.Common.{ℕ, ◌<◌, length, Ok, sym, ap, ◌∙◌, arith}
use Rattle.books.specs.Layout.{count_start, u16_at}
use Rattle.books.specs.Files.{rule_from, book_of}
use Rattle.books.proofs.Places.{answer_in}
use Rattle.books.proofs.Parts.{count_is, rule_is}
use Rattle.books.proofs.files.PackedBook.rule.Goals as goal

pub returns-then-place-count : goal.returns-then-place-count
returns-then-place-count c =
    let bytes = c.args.self.now.bytes.now in
    let low : c.args.place < length (book_of bytes).rules = omega (arith, c.count.ensures) in
    let few : c.args.place < u16_at bytes count_start = omega (arith, count_is bytes) in
    ap Ok (c.read_rule.ensures ∙ ap (λ (at : ℕ). rule_from bytes at) c.start_of.ensures ∙ sym (rule_is bytes c.args.place few)) ∙ sym (answer_in _ _ low)
