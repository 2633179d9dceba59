-- The book and the names that a packed file holds, and the questions that the file is put, 21 to 29. Assumes nothing.
use Rattle.std.specs.Prelude.{◌≡◌, ℕ, zero, suc, ◌+◌, ◌<◌, ◌≤◌, List, [], ◌∷◌, ◌++◌, map, length, take}
use Rattle.std.specs.List.{AllByRecursion, range_with_len}
use Rattle.rules.specs.Bounds.{max_events, max_rules}
use Rattle.rules.specs.Questions.{Question, ask}
use Rattle.rules.specs.declared.records.Rule.{Rule}
use Rattle.books.specs.Contents.{BookContents}
use Rattle.books.specs.Layout.{mark, version, version_start, events_start, count_start, head_size, rule_start, first_field, second_field, limit_field, max_name, min_letter, max_letter, byte_at, u16_at, u32_at, signed, name_start, part}

-- the rule whose bytes start at a place
abbrev pub rule_from : List ℕ → ℕ → Rule
rule_from file at = record { number = u16_at file at; first = u16_at file (at + first_field); second = u16_at file (at + second_field); limit = signed (u32_at file (at + limit_field)) }

-- the book that a file holds
abbrev pub book_of : List ℕ → BookContents
book_of file = record { events = u16_at file events_start; rules = map (λ place. rule_from file (rule_start place)) (range_with_len 0 (u16_at file count_start)) }

-- the name of an event
abbrev pub name_of : List ℕ → ℕ → List ℕ
name_of file event = part file (name_start file event + 1) (byte_at file (name_start file event))

-- a byte that names are made of
abbrev pub Letter : ℕ → Type 0
Letter byte = (min_letter ≤ byte) × (byte ≤ max_letter)

-- what every name of a file that passes is
abbrev pub Spelled : List ℕ → Type 0
Spelled name = (length name ≤ max_name) × AllByRecursion Letter name

-- the name whose length byte is at that place is there whole, with a lawful length
abbrev pub HasName : List ℕ → ℕ → Type 0
HasName file at = (at < length file) × (byte_at file at ≤ max_name) × (at + 1 + byte_at file at ≤ length file)

-- 28, of so many bytes of a name, the first at that place
unfoldable pub letter_questions : List ℕ → ℕ → ℕ → List Question
letter_questions file zero at = []
letter_questions file (suc k) at = ask 28 at (Letter (byte_at file at)) ∷ letter_questions file k (at + 1)

-- 27 and 28, of the name whose length byte is at that place
unfoldable pub name_questions : List ℕ → ℕ → List Question
name_questions file at =
    ask 27 at (HasName file at)
    ∷ letter_questions file (byte_at file at) (at + 1)

-- 27 and 28 of so many names, the first at that place; then 29
unfoldable pub names_questions : List ℕ → ℕ → ℕ → List Question
names_questions file zero at = ask 29 at (at ≡ length file) ∷ []
names_questions file (suc k) at = name_questions file at ++ names_questions file k (at + 1 + byte_at file at)

-- 21 to 26
abbrev pub head_questions : List ℕ → List Question
head_questions file =
    ask 21 (length file) (head_size ≤ length file)
    ∷ ask 22 0 (take 3 file ≡ mark)
    ∷ ask 23 version_start (u16_at file version_start ≡ version)
    ∷ ask 24 events_start ((1 ≤ u16_at file events_start) × (u16_at file events_start ≤ max_events))
    ∷ ask 25 count_start (u16_at file count_start ≤ max_rules)
    ∷ ask 26 (length file) (rule_start (u16_at file count_start) ≤ length file)
    ∷ []

-- 21 to 29
unfoldable pub file_questions : List ℕ → List Question
file_questions file = head_questions file ++ names_questions file (u16_at file events_start) (name_start file 0)
