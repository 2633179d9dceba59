use Rattle.std.proofs.Common.{◌%◌, ◌<◌, length, sym, refl, ap, arith}
use Rattle.std.proofs.lemmas.Result.{err_from_is_err_and}
use Rattle.rules.specs.declared.records.Rule.{Rule}
use Rattle.links.proofs.Grows.{linked_none, linked_more, linked_falls}
use Rattle.books.specs.Numbering.{remainders, remainder_of}
use Rattle.books.proofs.Putting.{rules_begin, rules_more, rules_no, rules_all}
use Rattle.books.proofs.checks.check_rules.Goals as goal

pub loop-place-init : goal.loop-place-init
loop-place-init g c =
    let book = g.B.Book.meaning c.args.book.now in
    (refl, refl, linked_none (remainder_of book.rules) remainders _, rules_begin book.events book.rules)

pub invariant_of-links : goal.invariant_of-links
invariant_of-links g c =
    let book = g.B.Book.meaning c.args.book.now in
    record { falling = linked_falls (remainder_of book.rules) c.loop-place.place _ _ c.loop-place.invariant.2 (omega arith) }

pub returns-in_err-check_rule : goal.returns-in_err-check_rule
returns-in_err-check_rule g c =
    let book = g.B.Book.meaning c.args.book.now in
    let p = err_from_is_err_and c.from_residual.result c.from_residual.ensures.1 in
    rw (p.1, p.2) (rules_no book.events book.rules c.loop-place.place _ _ (omega arith) c.loop-place.invariant.3 c.in_err-check_rule.ensures)

pub loop-place-preserved : goal.loop-place-preserved
loop-place-preserved g c =
    let book = g.B.Book.meaning c.args.book.now in
    let is = ap (λ (r : Rule). r.number % remainders) (sym c.known-remainder.ensures) in
    let fit : c.known-remainder.result.number % remainders < length c.loop-place.heads = omega arith in
    let room : c.loop-place.place < length c.loop-place.nexts = omega arith in
    let linked = linked_more (remainder_of book.rules) c.loop-place.place c.loop-place.heads c.loop-place.nexts _ is fit room c.loop-place.invariant.2 in
    (omega arith, omega arith, rw (c.link.ensures.heads, c.link.ensures.nexts) linked, rules_more book.events book.rules c.loop-place.place (omega arith) c.loop-place.invariant.3 c.in_ok-check_rule.ensures)

pub returns : goal.returns
returns g c =
    let book = g.B.Book.meaning c.args.book.now in
    rules_all book.events book.rules c.loop-place.place (omega arith) c.loop-place.invariant.3
