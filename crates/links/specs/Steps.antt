-- How the places of one list come. Assumes nothing.
use Rattle.std.specs.Prelude.{◌≡◌, ℕ, ◌+◌, Some, None, Option, slice_index_or}
use Rattle.std.specs.Option.{ForSome}
use Rattle.std.specs.Iterator.{Count, at_most}
use Rattle.links.specs.declared.Places.{Places}

-- the place that is held comes, and the next one in its list is held then; none comes where none is held
pub record Steps (before : Places) (place : Option ℕ) (after : Places) : Type 0 where
  pub comes : place ≡ before.held
  pub next : ForSome place (λ q. after.held ≡ slice_index_or before.nexts.now q None)
  pub nexts : after.nexts.now ≡ before.nexts.now

-- so many places are at most left: the one that is held, and those before it
abbrev pub most_from : Option ℕ → ℕ
most_from None = 0
most_from (Some place) = place + 1

abbrev pub places_left : Places → Count
places_left p = at_most (most_from p.held)
