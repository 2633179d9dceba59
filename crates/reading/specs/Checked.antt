-- What questions 1 to 6 leave of a book. Assumes nothing.
use Rattle.std.specs.Prelude.{◌≤◌, length, ◌≤ℤ◌}
use Rattle.rules.specs.declared.records.Rule.{Rule}
use Rattle.rules.specs.Bounds.{max_events, max_rules, min_limit, max_limit}
use Rattle.rules.specs.Meets.{◌∈◌, EventsBelow}
use Rattle.books.specs.Contents.{BookContents}

-- the counts are within their bounds, the rules are between the book's events, and the limits are within theirs
pub record Checked (book : BookContents) : Type 0 where
  pub some_events : 1 ≤ book.events
  pub few_events : book.events ≤ max_events
  pub few_rules : length book.rules ≤ max_rules
  pub between : EventsBelow book.events book.rules
  pub limits : (r : Rule) → r ∈ book.rules → (min_limit ≤ℤ r.limit) × (r.limit ≤ℤ max_limit)
