-- The questions that every book is put, 1 to 6. Assumes nothing.
use Rattle.std.specs.Prelude.{◌≡◌, ℕ, ◌<◌, ◌≤◌, List, [], ◌∷◌, ◌++◌, length, ◌≤ℤ◌}
use Rattle.rules.specs.Bounds.{max_events, max_rules, min_limit, max_limit}
use Rattle.rules.specs.Questions.{Question, ask}
use Rattle.rules.specs.declared.records.Rule.{Rule}
use Rattle.rules.specs.Places.{rule_at}
use Rattle.books.specs.Contents.{BookContents}

-- no rule among these bears the number
abbrev pub Free : ℕ → List Rule → Type 0
Free number rules = (place : ℕ) → place < length rules → ¬ ((rule_at rules place).number ≡ number)

-- 3 to 6, of a rule at a place, among so many events and beside these rules
abbrev pub rule_questions : ℕ → ℕ → List Rule → Rule → List Question
rule_questions events place others r =
    ask 3 place (1 ≤ r.number)
    ∷ ask 4 place ((r.first < events) × (r.second < events))
    ∷ ask 5 place ((min_limit ≤ℤ r.limit) × (r.limit ≤ℤ max_limit))
    ∷ ask 6 place (Free r.number others)
    ∷ []

-- 3 to 6, of one rule before the next; earlier are the rules at the places before
unfoldable pub rules_questions : ℕ → List Rule → List Rule → List Question
rules_questions events earlier [] = []
rules_questions events earlier (r ∷ rules) = rule_questions events (length earlier) earlier r ++ rules_questions events (earlier ++ (r ∷ [])) rules

-- 1 and 2
abbrev pub count_questions : BookContents → List Question
count_questions book =
    ask 1 0 ((1 ≤ book.events) × (book.events ≤ max_events))
    ∷ ask 2 0 (length book.rules ≤ max_rules)
    ∷ []

-- 1 to 6
unfoldable pub book_questions : BookContents → List Question
book_questions book = count_questions book ++ rules_questions book.events [] book.rules
