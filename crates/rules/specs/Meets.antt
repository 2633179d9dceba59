-- Times of events, and when they meet rules. Assumes nothing.
use Rattle.std.specs.Prelude.{ℕ, ◌<◌, ◌↔◌, List, ℤ, pos, ◌-ℤ◌, ◌≤ℤ◌, slice_index_or}
use mathlib.Core.List.{Memᴰ}
use Rattle.rules.specs.declared.records.Rule.{Rule}

-- x stands in the list
infix 50 ◌∈◌
abbrev pub ◌∈◌ : {A : Type 0} → A → List A → Type 0
x ∈ xs = Memᴰ x xs

-- times: a whole number of milliseconds for each event
abbrev pub Times : Type 0
Times = ℕ → ℤ

-- the times that a list holds, one for each event in order; an event past its end has time 0
abbrev pub at : List ℤ → Times
at times v = slice_index_or times v (pos 0)

-- the lead of b over a: b's time less a's
abbrev pub lead : Times → ℕ → ℕ → ℤ
lead t a b = t b -ℤ t a

-- times meet the rules: in each, the second event leads the first by at most the limit
abbrev pub Meets : List Rule → Times → Type 0
Meets rules t = (r : Rule) → r ∈ rules → lead t r.first r.second ≤ℤ r.limit

-- the rules can be met together
abbrev pub Meetable : List Rule → Type 0
Meetable rules = (t : Times) × Meets rules t

-- every rule's events are below n
abbrev pub EventsBelow : ℕ → List Rule → Type 0
EventsBelow n rules = (r : Rule) → r ∈ rules → (r.first < n) × (r.second < n)

-- the same rules stand in both lists, in whatever order and however often
abbrev pub SameRules : List Rule → List Rule → Type 0
SameRules rules others = (r : Rule) → (r ∈ rules) ↔ (r ∈ others)
