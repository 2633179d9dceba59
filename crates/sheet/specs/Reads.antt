-- The questions that a file and then its book are put. Assumes nothing.
use Rattle.std.specs.Prelude.{ℕ, List, ◌++◌}
use Rattle.rules.specs.Questions.{Question}
use Rattle.books.specs.Files.{file_questions, book_of}
use Rattle.books.specs.Checks.{book_questions}

-- 21 to 29 of the file, then 1 to 6 of the book that it holds
abbrev pub read_questions : List ℕ → List Question
read_questions file = file_questions file ++ book_questions (book_of file)
