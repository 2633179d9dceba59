use Rattle.std.proofs.Common.{◌<◌, length, take, Ok, sym, ap, ◌∙◌, arith, length-take}
use Rattle.std.proofs.lemmas.List.{get_or-take}
use Rattle.rules.specs.Bounds.{max_count}
use Rattle.books.proofs.Places.{answer_in, answer_past}
use Rattle.books.proofs.lists.ListedBook.rule.Goals as goal

pub bounds-self-place : goal.bounds-self-place
bounds-self-place c = omega (arith, simp length-take at c.count.ensures)

pub returns-then-place-count : goal.returns-then-place-count
returns-then-place-count c =
    let rules = c.args.self.now.rules.now in
    let h : c.args.place < length (take max_count rules) = omega (arith, c.count.ensures) in
    let low : c.args.place < max_count = omega (arith, simp length-take at h) in
    sym (answer_in _ _ h ∙ ap Ok (get_or-take max_count rules _ _ low))

pub returns-else-place-count : goal.returns-else-place-count
returns-else-place-count c = sym (answer_past (take max_count c.args.self.now.rules.now) _ (omega (arith, c.count.ensures)))
