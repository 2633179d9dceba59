-- What the laws of a kind of delay give, and keys that there may be.
use Rattle.std.proofs.Common.{◌≡◌, ℕ, ◌+◌, ◌≤◌, Bool, true, false, Some, None, Option, refl, ◌∙◌, subst, arith}
use Rattle.std.specs.Cmp.{IsStrictWeakOrder}
use Rattle.std.proofs.lemmas.Bool.{both_ways}
use Rattle.links.specs.Links.{After}
use Rattle.search.specs.Networks.{Network}
use Rattle.search.specs.Progress.{betters}

pub same : {K : Type 0} {x y : K} → ◌≡◌ {A = Option K} (Some x) (Some y) → x ≡ y
same q = cc

pub clash : {K : Type 0} {x : K} (o : Option K) → o ≡ Some x → o ≡ None → ⊥
clash o p q = let z : ◌≡◌ {A = ℕ} 0 1 = cc in omega arith

pub not_better : {K : Type 0} (less : K → K → Bool) (o : Option K) (k : K) → betters less o k ≡ false → (j : K) × (o ≡ Some j) × (less k j ≡ false)
not_better less None k e = absurd (both_ways true e refl)
not_better less (Some j) k e = (j, refl, e)

-- every place comes after none
pub after_none : (place : ℕ) → After None place
after_none place = λ q s. absurd (clash {K = ℕ} None s refl)

-- the laws that a search uses
pub record Laws {K : Type 0} (g : Network K) : Type 0 where
  pub ranks : IsStrictWeakOrder g.less
  pub identity : (x : K) → g.plus g.zero x ≡ x
  pub associative : (x y z : K) → g.plus (g.plus x y) z ≡ g.plus x (g.plus y z)
  pub commutative : (x y : K) → g.plus x y ≡ g.plus y x
  pub shifted : (x y z : K) → g.less (g.plus z x) (g.plus z y) ≡ g.less x y
  pub size_plus : (x y : K) → g.size (g.plus x y) ≤ g.size x + g.size y

module _ {K : Type 0} (g : Network K) (a : Laws g) where
  pub right : (k : K) → g.plus k g.zero ≡ k
  right k = a.commutative k g.zero ∙ a.identity k

  -- a weight that is not below zero takes no key below itself
  pub rises : (k w : K) → g.less w g.zero ≡ false → g.less (g.plus k w) k ≡ false
  rises k w h = subst (λ (x : K). g.less (g.plus k w) x ≡ false) (right k) (a.shifted w g.zero k ∙ h)

  pub adds_both : (x y w : K) → g.less x y ≡ false → g.less (g.plus x w) (g.plus y w) ≡ false
  adds_both x y w h = subst (λ (p : K). g.less p (g.plus y w) ≡ false) (a.commutative w x) (subst (λ (p : K). g.less (g.plus w x) p ≡ false) (a.commutative w y) (a.shifted x y w ∙ h))
