use Rattle.std.proofs.Common.{◌≤◌, length, refl, arith}
use Rattle.std.proofs.lemmas.Result.{err_from_is_err_and}
use Rattle.books.specs.Layout.{count_start, rule_start, u16_at}
use Rattle.books.proofs.Names.{names_begin, head_no, names_more, names_no, end_no, end_yes}
use Rattle.books.proofs.Spells.{spelled}
use Rattle.books.proofs.files.Packed.open.Goals as goal

pub returns-in_err-check_head : goal.returns-in_err-check_head
returns-in_err-check_head c =
    let p = err_from_is_err_and c.from_residual.result c.from_residual.ensures.1 in
    rw (p.1, p.2) (record { answer = head_no c.args.bytes.now _ _ c.in_err-check_head.ensures; file = tt; names = tt })

pub loop-init : goal.loop-init
loop-init c =
    let file = c.args.bytes.now in
    let head = c.in_ok-check_head.ensures in
    let fits : rule_start (u16_at file count_start) ≤ length file = head.1.1.1.1.1.0 in
    rw (c.start_of-at.ensures, c.rule_count.ensures) (names_begin file head, fits)

pub returns-in_err-at : goal.returns-in_err-at
returns-in_err-at c =
    let file = c.args.bytes.now in
    let p = err_from_is_err_and c.from_residual-in_err-at.result c.from_residual-in_err-at.ensures.1 in
    rw (p.1, p.2) (record { answer = names_no file c.loop.counter c.loop.at _ _ (omega arith) c.in_err-at.ensures.answer c.loop.invariant.0; file = tt; names = tt })

pub loop-preserved : goal.loop-preserved
loop-preserved c =
    let told = c.in_ok-at.ensures in
    (names_more c.args.bytes.now c.loop.counter c.loop.at c.in_ok-at.at told.next.0 told.answer c.loop.invariant.0, told.next.1)

pub returns-then-at-bytes : goal.returns-then-at-bytes
returns-then-at-bytes c = record { answer = end_no c.args.bytes.now c.loop.counter c.loop.at (omega arith) c.if-at-bytes.true c.loop.invariant.0; file = tt; names = tt }

pub returns : goal.returns
returns c =
    let passed = end_yes c.args.bytes.now c.loop.counter c.loop.at (omega arith) (omega arith) c.loop.invariant.0 in
    record { answer = passed; file = refl; names = λ event below. spelled c.args.bytes.now event below passed }
