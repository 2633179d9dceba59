-- Rings: closed chains that visit no event twice. Assumes nothing.
use Rattle.std.specs.Prelude.{ℕ, ◌<◌, List, length, pos, ◌<ℤ◌}
use Rattle.rules.specs.declared.records.Rule.{Rule}
use Rattle.rules.specs.Chains.{Chain, sum, stops, Reaches, Distinct}

-- the path is a ring from a: a chain of one rule or more that ends where it began and visits no event twice on the way
pub record Ring (rules : List Rule) (a : ℕ) (path : List Rule) : Type 0 where
  pub chain : Chain rules a a path
  pub some : 0 < length path
  pub once : Distinct (stops path)

-- the path is a negative ring: a ring with a sum below 0
pub record Negative (rules path : List Rule) : Type 0 where
  pub start : ℕ
  pub ring : Ring rules start path
  pub below : sum path <ℤ pos 0

-- some ring of the rules is negative
abbrev pub NegativeRing : List Rule → Type 0
NegativeRing rules = (path : List Rule) × Negative rules path

-- a reaches a negative ring: a chain leads from a to an event of the ring, taken as the ring's start
abbrev pub NegativeRingFrom : List Rule → ℕ → Type 0
NegativeRingFrom rules a = (path : List Rule) × (ring : Negative rules path) × Reaches rules a ring.start

-- a negative ring is on the way from a to b: a reaches it, and its event reaches b
abbrev pub NegativeRingBetween : List Rule → ℕ → ℕ → Type 0
NegativeRingBetween rules a b = (path : List Rule) × (ring : Negative rules path) × Reaches rules a ring.start × Reaches rules ring.start b
