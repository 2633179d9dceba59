use Rattle.std.proofs.lemmas.Result.{err_from_is_err_and}
use Rattle.rules.proofs.Asking.{yes-++, no_left, no_right}
use Rattle.books.specs.Files.{file_questions, book_of}
use Rattle.books.specs.Checks.{book_questions}
use Rattle.sheet.proofs.read_book.Goals as goal

pub returns-in_err-book : goal.returns-in_err-book
returns-in_err-book c =
    let file = c.args.bytes.now in
    let p = err_from_is_err_and c.from_residual.result c.from_residual.ensures.1 in
    rw (p.1, p.2) (record { answer = no_left (file_questions file) (book_questions (book_of file)) _ _ c.in_err-book.ensures.answer; file = tt })

pub returns-in_err-check : goal.returns-in_err-check
returns-in_err-check c =
    let file = c.args.bytes.now in
    let opened = c.in_ok-book.ensures in
    let p = err_from_is_err_and c.from_residual-in_err-check.result c.from_residual-in_err-check.ensures.1 in
    rw (p.1, p.2) (record { answer = no_right (file_questions file) (book_questions (book_of file)) _ _ opened.answer (rw opened.file at c.in_err-check.ensures); file = tt })

pub returns : goal.returns
returns c =
    let file = c.args.bytes.now in
    let opened = c.in_ok-book.ensures in
    record { answer = yes-++ (file_questions file) (book_questions (book_of file)) opened.answer (rw opened.file at c.in_ok-check.ensures); file = opened.file }
