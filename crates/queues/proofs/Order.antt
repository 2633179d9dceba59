-- What the laws of a kind's order give.
use Rattle.std.proofs.Common.{◌≡◌, Bool, true, false, ap, ◌∙◌, subst, ⊎_elim}
use Rattle.std.specs.Cmp.{IsStrictWeakOrder}
use Rattle.std.proofs.lemmas.Bool.{cases_Bool, both_ways}

module _ {K : Type 0} (less : K → K → Bool) where
  not_so : (x y : K) → (less x y ≡ true → ⊥) → less x y ≡ false
  not_so x y f = ⊎_elim (λ t. absurd (f t)) (λ n. n) (cases_Bool (less x y))

  pub order : ((x : K) → less x x ≡ false) → ((x y z : K) → less x y ≡ true → less y z ≡ true → less x z ≡ true) → ((x y : K) → less x y ≡ false → less y x ≡ false → x ≡ y) → IsStrictWeakOrder less
  order irreflexive transitive total = record {
    one_way = λ x y t. not_so y x (λ u. both_ways (less x x) (irreflexive x) (transitive x y x t u));
    chain = λ x y z p q. not_so x z (λ t. ⊎_elim
        (λ u. both_ways (less y z) q (transitive y x z u t))
        (λ u. both_ways (less y z) q (subst (λ (v : K). less v z ≡ true) (total x y p u) t))
        (cases_Bool (less y x)));
  }

  -- at equal values
  pub via : {a b x y : K} → a ≡ x → b ≡ y → less x y ≡ false → less a b ≡ false
  via {a} {b} {x} {y} p q h = ap (λ v. less v b) p ∙ ap (less x) q ∙ h

  pub itself : IsStrictWeakOrder less → (x : K) → less x x ≡ false
  itself o x = not_so x x (λ t. both_ways (less x x) (o.one_way x x t) t)

  pub nearer : IsStrictWeakOrder less → (x y z : K) → less x z ≡ false → less y z ≡ true → less x y ≡ false
  nearer o x y z p t = o.chain x z y p (o.one_way y z t)
