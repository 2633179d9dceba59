-- Where the parts of a packed book lie. Assumes nothing.
use Rattle.std.proofs.Common.{◌≡◌, ℕ, ◌<◌, List, length, arith}
use Rattle.std.proofs.lemmas.List.FromFn.{length-map-range_with_len, get_or-map-range_with_len}
use Rattle.rules.specs.Places.{rule_at, no_rule}
use Rattle.books.specs.Layout.{count_start, rule_start, u16_at}
use Rattle.books.specs.Files.{rule_from, book_of}

pub count_is : (file : List ℕ) → length (book_of file).rules ≡ u16_at file count_start
count_is file = length-map-range_with_len _ 0 (u16_at file count_start)

pub rule_is : (file : List ℕ) (place : ℕ) → place < u16_at file count_start → rule_at (book_of file).rules place ≡ rule_from file (rule_start place)
rule_is file place h = get_or-map-range_with_len (λ k. rule_from file (rule_start k)) 0 (u16_at file count_start) place place no_rule h (omega arith)
