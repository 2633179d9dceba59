-- Places that bear one label, linked from the last to the first. Assumes nothing.
use Rattle.std.specs.Prelude.{◌≡◌, ℕ, ◌<◌, ◌≤◌, List, length, None, Option, slice_index_or}
use Rattle.std.specs.Option.{ForSome}

-- a place after the one that is held, or any place where none is held
abbrev pub After : Option ℕ → ℕ → Type 0
After held place = ForSome held (λ q. q < place)

-- held is the last place below count that bears the label, or none where none does
pub record Last (label_of : ℕ → ℕ) (count label : ℕ) (held : Option ℕ) : Type 0 where
  pub bears : ForSome held (λ place. (place < count) × (label_of place ≡ label))
  pub none : (place : ℕ) → place < count → After held place → ¬ (label_of place ≡ label)

-- of the places below count: heads has the last that bears each label, and nexts the one before each place that bears the same
pub record Linked (label_of : ℕ → ℕ) (count : ℕ) (heads nexts : List (Option ℕ)) : Type 0 where
  pub last : (label : ℕ) → label < length heads → Last label_of count label (slice_index_or heads label None)
  pub before : (place : ℕ) → place < count → Last label_of place (label_of place) (slice_index_or nexts place None)

-- from held on, each place has an entry in nexts, which is a place before it or none
abbrev pub Falling : List (Option ℕ) → Option ℕ → Type 0
Falling nexts held = ForSome held (λ top. (top < length nexts) × ((place : ℕ) → place ≤ top → ForSome (slice_index_or nexts place None) (λ next. next < place)))
