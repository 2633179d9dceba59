-- What questions 1 to 6 leave of a book. Assumes nothing.
use Rattle.std.proofs.Common.{ℕ, ◌<◌, List, [], ◌∷◌, ◌++◌, length, ◌≤ℤ◌, sym, subst}
use mathlib.Core.List.Memᴰ
use Rattle.rules.specs.declared.records.Rule.{Rule}
use Rattle.rules.specs.Bounds.{min_limit, max_limit}
use Rattle.rules.specs.Meets.{◌∈◌}
use Rattle.rules.specs.Questions.{AllYes}
use Rattle.rules.proofs.Asking.{yes_left, yes_right}
use Rattle.books.specs.Contents.{BookContents}
use Rattle.books.specs.Checks.{rule_questions, rules_questions, count_questions, book_questions}
use Rattle.reading.specs.Checked.{Checked}

-- what 4 and 5 leave of a rule
abbrev Kept : ℕ → Rule → Type 0
Kept events r = ((r.first < events) × (r.second < events)) × ((min_limit ≤ℤ r.limit) × (r.limit ≤ℤ max_limit))

-- every rule was asked about
asked : (events : ℕ) (earlier rules : List Rule) → AllYes (rules_questions events earlier rules) → (r : Rule) → r ∈ rules → Kept events r
unfolding rules_questions
asked events earlier [] yeses r m = elim m [ ]
asked events earlier (q ∷ rules) yeses r (Memᴰ.head e) =
    let own = yes_left (rule_questions events (length earlier) earlier q) (rules_questions events (earlier ++ (q ∷ [])) rules) yeses in
    subst (Kept events) (sym e) (own.1.0, own.1.1.0)
asked events earlier (q ∷ rules) yeses r (Memᴰ.tail m) = asked events (earlier ++ (q ∷ [])) rules (yes_right (rule_questions events (length earlier) earlier q) _ yeses) r m

pub checked : (book : BookContents) → AllYes (book_questions book) → Checked book
unfolding book_questions
checked book yeses =
    let counts = yes_left (count_questions book) (rules_questions book.events [] book.rules) yeses in
    let each = asked book.events [] book.rules (yes_right (count_questions book) _ yeses) in
    record { some_events = counts.0.0; few_events = counts.0.1; few_rules = counts.1.0; between = λ r m. (each r m).0; limits = λ r m. (each r m).1 }
