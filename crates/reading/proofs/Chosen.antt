-- Which rules are chosen. Assumes nothing.
use Rattle.std.proofs.Common.{◌≡◌, ℕ, zero, suc, ◌+◌, ◌<◌, ◌≤◌, Bool, true, false, List, [], ◌∷◌, ◌++◌, length, get_or, drop, set, sym, refl, ap, ◌∙◌, arith}
use mathlib.Core.List.Memᴰ
use Rattle.std.proofs.lemmas.List.{append_assoc, length_push}
use Rattle.std.proofs.lemmas.Bool.{false≢true}
use Rattle.rules.specs.declared.records.Rule.{Rule}
use Rattle.rules.specs.Meets.{◌∈◌}
use Rattle.rules.specs.Places.{rule_at}
use Rattle.reading.specs.Choices.{selected}
use Rattle.reading.proofs.Fronts.{front_more}

-- no more are chosen than there are
pub selected_few : (rules : List Rule) (flags : List Bool) → length (selected rules flags) ≤ length rules
selected_few [] flags = omega arith
selected_few (r ∷ rules) [] = omega arith
selected_few (r ∷ rules) (true ∷ flags) = omega (arith, selected_few rules flags)
selected_few (r ∷ rules) (false ∷ flags) = omega (arith, selected_few rules flags)

-- a rule that is chosen stands at a place whose flag is true
pub record Place (rules : List Rule) (flags : List Bool) (r : Rule) : Type 0 where
  pub place : ℕ
  pub within : place < length rules
  pub flag : get_or flags place false ≡ true
  pub is : rule_at rules place ≡ r

pub selected_place : (rules : List Rule) (flags : List Bool) (r : Rule) → r ∈ selected rules flags → Place rules flags r
selected_place [] flags r m = elim m [ ]
selected_place (q ∷ rules) [] r m = elim m [ ]
selected_place (q ∷ rules) (true ∷ flags) r (Memᴰ.head e) = record { place = 0; within = omega arith; flag = refl; is = sym e }
selected_place (q ∷ rules) (true ∷ flags) r (Memᴰ.tail m) =
    let p = selected_place rules flags r m in
    record { place = suc p.place; within = omega (arith, p.within); flag = p.flag; is = p.is }
selected_place (q ∷ rules) (false ∷ flags) r m =
    let p = selected_place rules flags r m in
    record { place = suc p.place; within = omega (arith, p.within); flag = p.flag; is = p.is }

-- and the rule at a place whose flag is true is chosen
pub selected_in : (rules : List Rule) (flags : List Bool) (place : ℕ) → place < length rules → get_or flags place false ≡ true → rule_at rules place ∈ selected rules flags
selected_in [] flags place h e = absurd (omega arith)
selected_in (q ∷ rules) [] place h e = absurd (false≢true e)
selected_in (q ∷ rules) (true ∷ flags) zero h e = Memᴰ.head refl
selected_in (q ∷ rules) (false ∷ flags) zero h e = absurd (false≢true e)
selected_in (q ∷ rules) (true ∷ flags) (suc place) h e = Memᴰ.tail (selected_in rules flags place (omega arith) e)
selected_in (q ∷ rules) (false ∷ flags) (suc place) h e = selected_in rules flags place (omega arith) e

-- so many of the rules are chosen and written at the start of a list, and these rules and flags are left
pub record Choosing (rules : List Rule) (flags : List Bool) (old chosen : List Rule) (count : ℕ) (left : List Rule) (left_flags : List Bool) : Type 0 where
  pub front : List Rule
  pub counted : length front ≡ count
  pub list : chosen ≡ front ++ drop count old
  pub whole : selected rules flags ≡ front ++ selected left left_flags
  pub room : count + length left ≤ length old
  pub flagged : length left ≤ length left_flags

module _ (rules : List Rule) (flags : List Bool) (old : List Rule) where
  -- the next rule is chosen
  pub choosing_more : (chosen : List Rule) (count : ℕ) (r : Rule) (left : List Rule) (left_flags : List Bool) → Choosing rules flags old chosen count (r ∷ left) (true ∷ left_flags) → Choosing rules flags old (set chosen count r) (count + 1) left left_flags
  choosing_more chosen count r left left_flags c = record {
    front = c.front ++ r ∷ [];
    counted = length_push c.front r ∙ ap (λ (n : ℕ). n + 1) c.counted;
    list = rw (c.list) (front_more c.front old count r c.counted (omega (arith, c.room)));
    whole = c.whole ∙ sym (append_assoc c.front (r ∷ []) (selected left left_flags));
    room = omega (arith, c.room);
    flagged = omega (arith, c.flagged);
  }
