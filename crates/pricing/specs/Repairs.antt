-- Prices repaired for one more rule, or a ring that shows that there are none. Assumes nothing.
use Rattle.std.specs.Prelude.{◌≡◌, ℕ, ◌+◌, Bool, false, List, ◌∷◌, ◌++◌, map, length, drop, ℤ, pos, Some, None, Ok, Err, Option, Result, int_lt}
use Rattle.delays.specs.Numbers.{Millis}
use Rattle.rules.specs.declared.records.Rule.{Rule}
use Rattle.rules.specs.Meets.{at}
use Rattle.rules.specs.Rings.{Negative}
use Rattle.rules.specs.Settled.{Latest}
use Rattle.rules.specs.Prices.{loosened}
use Rattle.search.specs.Forests.{Traced, rules_at}
use Rattle.pricing.specs.declared.rings.Ring.{Ring}

-- a negative ring of so many rules is shown: their numbers stand in order at the start of a list, and its other entries are as before
pub record Shown (rules : List Rule) (count : ℕ) (before after : List ℕ) : Type 0 where
  pub path : List Rule
  pub negative : Negative rules path
  pub counted : length path ≡ count
  pub numbers : after ≡ map (λ r. r.number) path ++ drop count before

-- ok: the new prices are the latest times, none after its old price, that meet the rules loosened by so much, and the list stays;
-- a ring: a negative ring of that size of the loosened rules is shown, and the prices stay
abbrev pub Repaired : {U : Type 0} → ℤ → List Rule → List ℤ → List ℤ → List ℕ → List ℕ → Result U Ring → Type 0
Repaired by rules old new before after (Ok done) = Latest (length old) (at old) (loosened by rules) (at new) × (after ≡ before)
Repaired by rules old new before after (Err ring) = Shown (loosened by rules) ring.size before after × (new ≡ old)

-- a label below 0
abbrev pub fallen : Option Millis → Bool
fallen None = false
fallen (Some key) = int_lt key.0 (pos 0)

-- a rule's number and those of a chain by parents to its first event are written at the start of a list, so many, and its other entries stay
pub record Closed (rules : List Rule) (rule : Rule) (parents : List (Option ℕ)) (count : ℕ) (before after : List ℕ) : Type 0 where
  pub places : List ℕ
  pub traced : Traced rules parents rule.first places
  pub counted : length places + 1 ≡ count
  pub numbers : after ≡ map (λ r. r.number) (rule ∷ rules_at rules places) ++ drop count before
