-- What stays where only other events change. Assumes nothing.
use Rattle.std.proofs.Common.{◌≡◌, ℕ, List, [], ◌∷◌, sym, refl, ◌∙◌, inl, inr}
use mathlib.Core.List.Memᴰ
use Rattle.rules.specs.Meets.{◌∈◌}
use Rattle.search.specs.Networks.{Network, Labelling, label_of, parent_of}
use Rattle.search.specs.Searches.{Given, Taken}

module _ {K : Type 0} (g : Network K) (start : Labelling K) where
  pub given_same : (d d' : List ℕ) (s s' : Labelling K) (v : ℕ) → label_of s' v ≡ label_of s v → parent_of s' v ≡ parent_of s v → ((w : ℕ) → w ∈ d → (w ∈ d') × (label_of s' w ≡ label_of s w)) → Given g start d s v → Given g start d' s' v
  given_same d d' s s' v a b all (inl h) = inl (b ∙ h.0, a ∙ h.1)
  given_same d d' s s' v a b all (inr l) = inr (record { place = l.place; parent = b ∙ l.parent; within = l.within; ends = l.ends; begins = (all _ l.begins).0; key = l.key; before = (all _ l.begins).1 ∙ l.before; is = a ∙ l.is })

  pub taken_same : (d : List ℕ) (s s' : Labelling K) → ((w : ℕ) → w ∈ d → (label_of s' w ≡ label_of s w) × (parent_of s' w ≡ parent_of s w)) → Taken g start s d → Taken g start s' d
  taken_same [] s s' all t = tt
  taken_same (v ∷ d) s s' all t = (
    given_same d d s s' v (all v (Memᴰ.head refl)).0 (all v (Memᴰ.head refl)).1 (λ w m. (m, (all w (Memᴰ.tail m)).0)) t.0,
    (λ k e w m j l. t.1 k (sym (all v (Memᴰ.head refl)).0 ∙ e) w m j (sym (all w (Memᴰ.tail m)).0 ∙ l)),
    taken_same d s s' (λ w m. all w (Memᴰ.tail m)) t.2,
  )
