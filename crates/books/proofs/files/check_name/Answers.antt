use Rattle.std.proofs.Common.{rules, ◌+◌, MatchOption}
use borrow.Author.Tests.{tests}
use Rattle.std.proofs.lemmas.Bool.{false≢true}
use Rattle.std.proofs.lemmas.Iterator.{IsFirst-from_position, YieldsList-from_slice}
use Rattle.rules.specs.Questions.{AllYes, FirstNo}
use Rattle.books.specs.Files.{Letter, name_questions}
use Rattle.books.proofs.Names.{name_no, name_told}
use Rattle.books.proofs.files.check_name.Goals as goal
use Rattle.books.proofs.files.check_name.Goals.{After-position}

told : (c : After-position) → MatchOption c.position.result (AllYes (name_questions c.args.bytes.now c.args.at)) (λ i. FirstNo (name_questions c.args.bytes.now c.args.at) 28 (c.args.at + 1 + i))
told c = name_told c.args.bytes.now c.args.at (c.has_name.ensures.0 c.if-not-has_name.false) c.name_at-name.result.now c.name_at-name.ensures c.position.result (IsFirst-from_position _ _ _ (λ b. ¬ Letter b) Letter c.position.ensures.ran (YieldsList-from_slice c.name_at-name.result.now cc) (λ x q k. search (rules, tests)) (λ x q k. search (rules, tests)))

pub returns-then-not-has_name-clause-answer : goal.returns-then-not-has_name-clause-answer
returns-then-not-has_name-clause-answer c = name_no c.args.bytes.now c.args.at (λ there. false≢true (c.if-not-has_name.ensures.1 there))

pub returns-in-Some-clause-answer : goal.returns-in-Some-clause-answer
returns-in-Some-clause-answer c = rw (c.in-Some.is) at (told (goal.at.returns-in-Some-clause-answer c).After-position)

pub returns-in-None-clause-answer : goal.returns-in-None-clause-answer
returns-in-None-clause-answer c = rw (c.in-None.is) at (told (goal.at.returns-in-None-clause-answer c).After-position)
