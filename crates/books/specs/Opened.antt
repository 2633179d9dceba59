-- The file that a packed book stands over. Assumes nothing.
use Rattle.std.specs.Prelude.{ℕ, List}
use Rattle.books.specs.declared.files.Packed.{Packed}

-- the bytes of its file
abbrev pub file_of : Packed → List ℕ
file_of book = book.bytes.now
