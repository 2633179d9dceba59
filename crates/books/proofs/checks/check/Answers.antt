use Rattle.std.proofs.lemmas.Result.{err_from_is_err_and}
use Rattle.rules.specs.Questions.{outcome}
use Rattle.rules.proofs.Asking.{begin, past, no_left, answers}
use Rattle.books.specs.Checks.{count_questions, book_questions}
use Rattle.books.proofs.checks.check.Goals as goal

pub returns-in_err-check_counts : goal.returns-in_err-check_counts
unfolding book_questions
returns-in_err-check_counts g c =
    let book = g.B.Book.meaning c.args.book.now in
    let p = err_from_is_err_and c.from_residual.result c.from_residual.ensures.1 in
    rw (p.1, p.2) (no_left (count_questions book) _ _ _ c.in_err-check_counts.ensures)

pub returns : goal.returns
unfolding book_questions
returns g c =
    let book = g.B.Book.meaning c.args.book.now in
    answers (past (count_questions book) _ (begin (book_questions book)) c.in_ok-check_counts.ensures) (outcome c.check_rules.result) c.check_rules.ensures
