-- Keys added along routes: reduced sums and tallies. Assumes nothing.
use Rattle.std.proofs.Common.{◌≡◌, ℕ, ◌<◌, ◌≤◌, max, true, false, cond, List, [], ◌∷◌, length, ℤ, pos, nat_abs, ◌≤ℤ◌, sym, refl, ap, subst, arith}
use mathlib.Core.List.Memᴰ
use lib.Signed.{lt_z}
use Rattle.std.specs.Int.{int_max}
use Rattle.std.proofs.lemmas.Int.{ints, int_max_is}
use Rattle.rules.specs.declared.records.Rule.{Rule}
use Rattle.rules.specs.Meets.{◌∈◌}
use Rattle.rules.specs.Places.{rule_at}
use Rattle.rules.specs.Prices.{Prices, reduced_limit, reduced_sum}
use Rattle.search.specs.Networks.{total, weight_of}
use Rattle.search.specs.Forests.{rules_at}
use Rattle.leads.specs.Counts.{tally}
use Rattle.leads.specs.Weights.{Key, Weighed, reduced_size}
use Rattle.leads.proofs.Keyed.{keyed}

-- a path counts at most its rules
pub tally_few : (counts : ℤ → ℕ) → ((limit : ℤ) → counts limit ≤ 1) → (path : List Rule) → tally counts path ≤ length path
tally_few counts slight [] = omega arith
tally_few counts slight (r ∷ path) = omega (arith, slight r.limit, tally_few counts slight path)

-- of two keys one is not less: its milliseconds are not fewer, and where they are equal its count is not
pub not_before : (a b c d : ℤ) → cond (lt_z a b) true (cond (lt_z b a) false (lt_z c d)) ≡ false → b ≤ℤ a
not_before a b c d h = grind (arith, ints)

pub not_fewer : (a b c d : ℤ) → cond (lt_z a b) true (cond (lt_z b a) false (lt_z c d)) ≡ false → a ≡ b → d ≤ℤ c
not_fewer a b c d h e = grind (arith, ints)

small_pair : (z : ℤ) (k : ℕ) → nat_abs z ≤ reduced_size → k ≤ 1 → max (nat_abs (int_max z (pos 0))) (nat_abs (pos k)) ≤ reduced_size
small_pair z k h l = omega (arith, ints, int_max_is)

stays : (z : ℤ) → pos 0 ≤ℤ z → int_max z (pos 0) ≡ z
stays z h = omega (arith, ints, int_max_is)

module _ (counts : ℤ → ℕ) (slight : (limit : ℤ) → counts limit ≤ 1) (rules : List Rule) (p : Prices) (weights : List Key) (weighed : Weighed counts rules p weights (length rules)) where
  pub weights_small : (place : ℕ) → place < length rules → (keyed rules weights).size (weight_of (keyed rules weights) place) ≤ reduced_size
  weights_small place h =
      let r : Rule = rule_at rules place in
      subst (λ (w : Key). (keyed rules weights).size w ≤ reduced_size) (sym (weighed.is place h)) (small_pair (reduced_limit p r) (counts r.limit) (weighed.small place h) (slight r.limit))

  pub totals : (places : List ℕ) → ((place : ℕ) → place ∈ places → place < length rules) → ((place : ℕ) → place ∈ places → pos 0 ≤ℤ reduced_limit p (rule_at rules place))
      → ((total (keyed rules weights) places).first.0 ≡ reduced_sum p (rules_at rules places)) × ((total (keyed rules weights) places).second.0 ≡ pos (tally counts (rules_at rules places)))
  totals [] within good = (refl, refl)
  totals (place ∷ places) within good =
      let h = weighed.is place (within place (Memᴰ.head refl)) in
      let (x, y) = totals places (λ q m. within q (Memᴰ.tail m)) (λ q m. good q (Memᴰ.tail m)) in
      let z = stays (reduced_limit p (rule_at rules place)) (good place (Memᴰ.head refl)) in
      let v = ap (λ (w : Key). w.first.0) h in
      let w = ap (λ (w : Key). w.second.0) h in
      (omega (arith, ints), omega (arith, ints))
