-- A scan for a least key, one slot after another.
use Rattle.std.proofs.Common.{◌≡◌, ℕ, ◌+◌, ◌<◌, Bool, true, false, true≢false, List, length, get_or, Some, None, Option, sym, ◌∙◌, subst, ⊎_elim, arith, below_more}
use Rattle.std.specs.Cmp.{IsStrictWeakOrder}
use Rattle.std.proofs.lemmas.Bool.{cases_lt}
use Rattle.std.proofs.lemmas.List.{get_or_past}
use Rattle.queues.specs.Contents.{Least}
use Rattle.std.specs.Option.{MatchOption}
use Rattle.queues.proofs.Order.{itself, nearer}

module _ {K : Type 0} (less : K → K → Bool) where
  -- no key that waits at i is less than k
  abbrev Above : List (Option K) → K → ℕ → Type 0
  Above ws k i = (j : K) → get_or ws i None ≡ Some j → less j k ≡ false

  -- an entry with the least key of the first n slots
  abbrev pub LeastBelow : List (Option K) → ℕ → Option (ℕ × K) → Type 0
  LeastBelow ws n None = (i : ℕ) → i < n → get_or ws i None ≡ None
  LeastBelow ws n (Some p) = (p.0 < n) × (get_or ws p.0 None ≡ Some p.1) × ((i : ℕ) → i < n → Above ws p.1 i)

  never : {k : K} → ◌≡◌ {A = Option K} None (Some k) → ⊥
  never z = let n : ◌≡◌ {A = ℕ} 0 1 = cc in omega arith

  pub scan_none : (ws : List (Option K)) (i : ℕ) (best : Option (ℕ × K)) → LeastBelow ws i best → get_or ws i None ≡ None → LeastBelow ws (i + 1) best
  scan_none ws i None h e = below_more _ _ h e
  scan_none ws i (Some p) h e = (omega arith, h.1, below_more (Above ws p.1) i h.2 (λ j q. absurd (never (sym e ∙ q))))

  -- whether a key is less than the one of the best entry so far, if there is one
  abbrev pub Lower : Option (ℕ × K) → K → Bool → Type 0
  Lower best k r = MatchOption best (r ≡ true) (λ p. r ≡ less k p.1)

  own : (ws : List (Option K)) (i : ℕ) (k m : K) → get_or ws i None ≡ Some k → less k m ≡ false → Above ws m i
  own ws i k m e f j q = let w : ◌≡◌ {A = Option K} (Some k) (Some j) = sym e ∙ q in let s : k ≡ j = cc in subst (λ (x : K). less x m ≡ false) s f

  pub scan_lower : IsStrictWeakOrder less → (ws : List (Option K)) (i : ℕ) (best : Option (ℕ × K)) (k : K) (r : Bool) → LeastBelow ws i best → get_or ws i None ≡ Some k → Lower best k r → r ≡ true → LeastBelow ws (i + 1) (Some (i, k))
  scan_lower o ws i None k r h e l t = (omega arith, e, below_more (Above ws k) i (λ n l j q. absurd (never (sym (h n l) ∙ q))) (own ws i k k e (itself less o k)))
  scan_lower o ws i (Some p) k r h e l t = (omega arith, e, below_more (Above ws k) i (λ n l' j q. nearer less o j k p.1 (h.2 n l' j q) (sym l ∙ t)) (own ws i k k e (itself less o k)))

  pub scan_kept : (ws : List (Option K)) (i : ℕ) (best : Option (ℕ × K)) (k : K) (r : Bool) → LeastBelow ws i best → get_or ws i None ≡ Some k → Lower best k r → r ≡ false → LeastBelow ws (i + 1) best
  scan_kept ws i None k r h e l f = absurd (true≢false (sym l ∙ f))
  scan_kept ws i (Some p) k r h e l f = (omega arith, h.1, below_more (Above ws p.1) i h.2 (own ws i k p.1 e (sym l ∙ f)))

  pub scan_all : (ws : List (Option K)) (n : ℕ) (best : Option (ℕ × K)) → n ≡ length ws → LeastBelow ws n best → Least less ws best
  scan_all ws n None e h = λ i. ⊎_elim (λ l. h i l) (λ l. get_or_past ws i None (omega arith)) (cases_lt i n)
  scan_all ws n (Some p) e h = (omega (arith, h.0), h.1, λ i j q. ⊎_elim (λ l. h.2 i l j q) (λ l. absurd (never (sym (get_or_past ws i None (omega arith)) ∙ q))) (cases_lt i n))
