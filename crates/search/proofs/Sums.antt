-- What a search comes to, once nothing waits: labels are least sums of routes.
use Rattle.std.proofs.Common.{◌≡◌, ℕ, ◌<◌, false, ◌⊎◌, List, [], ◌∷◌, length, Some, None, sym, refl, ap, ◌∙◌, subst, inl, inr, ⊎_elim, arith}
use mathlib.Core.List.Memᴰ
use Rattle.std.proofs.lemmas.Bool.{cases_lt}
use Rattle.std.proofs.lemmas.List.{ext_get_or, get_or_past, length-replicate, get_or-replicate}
use Rattle.rules.specs.Meets.{◌∈◌}
use Rattle.rules.specs.Chains.{Chain}
use Rattle.rules.specs.Places.{first_of, second_of}
use Rattle.queues.specs.Contents.{holds, capacity_of}
use Rattle.queues.specs.Sorts.{taken_out}
use Rattle.queues.proofs.Order.{itself}
use Rattle.search.specs.Networks.{Network, Labelling, events_of, label_of, parent_of, key_of, weight_of, Waits, HasParent, Route, total}
use Rattle.search.specs.Forests.{Backward, Forest, rules_at}
use Rattle.search.specs.Searches.{Respected, Taken, Least, Attained, Along, Searched}
use Rattle.search.specs.Progress.{Midway}
use Rattle.search.proofs.Walking.{chain_to}
use Rattle.search.proofs.Routes.{route_along}
use Rattle.search.proofs.Keys.{same, clash, after_none, Laws, right, adds_both}

module _ {K : Type 0} (g : Network K) (a : Laws g) where
  module _ (start s : Labelling K) (taken : List ℕ) (m : Midway g start 0 None taken s) (empty : (v : ℕ) → key_of s v ≡ None) where
    respects : (place : ℕ) → place < length g.rules → (k : K) → label_of s (first_of g.rules place) ≡ Some k → Respected g s place k
    respects place h k l = m.respected place h (λ q. after_none place) k l (empty (first_of g.rules place))

    onward : (u v : ℕ) (places : List ℕ) (k : K) → Route g u v places → label_of s u ≡ Some k → (j : K) × (label_of s v ≡ Some j) × (g.less (g.plus k (total g places)) j ≡ false)
    onward u v [] k e l = (k, sym (ap (label_of s) e) ∙ l, subst (λ (x : K). g.less x k ≡ false) (sym (right g a k)) (itself g.less a.ranks k))
    onward u v (i ∷ places) k p l =
        let f = respects i p.0 k (sym (ap (label_of s) p.1) ∙ l) in
        let n = onward (second_of g.rules i) v places f.label p.2 f.is in (
          n.0,
          n.1,
          subst (λ (x : K). g.less x n.0 ≡ false) (a.associative k (weight_of g i) (total g places))
              (a.ranks.chain (g.plus (g.plus k (weight_of g i)) (total g places)) (g.plus f.label (total g places)) n.0 (adds_both g a (g.plus k (weight_of g i)) f.label (total g places) f.small) n.2),
        )

    least : Least g start s
    least u v places k p l =
        let f = m.lower u k l in
        let n = onward u v places f.0 p f.1 in
        (n.0, n.1, a.ranks.chain (g.plus k (total g places)) (g.plus f.0 (total g places)) n.0 (adds_both g a k f.0 (total g places) f.2) n.2)

    -- the label of an event whose parent is the rule at the place
    step : (v place : ℕ) → parent_of s v ≡ Some place → (key : K) × (label_of s (first_of g.rules place) ≡ Some key) × (label_of s v ≡ Some (g.plus key (weight_of g place)))
    step v place e = ⊎_elim
        (λ z. absurd (clash (parent_of s v) e z.0))
        (λ l. let i : l.place ≡ place = same (sym l.parent ∙ e) in (l.key, sym (ap (λ p. label_of s (first_of g.rules p)) i) ∙ l.before, l.is ∙ ap (λ p. Some (g.plus l.key (weight_of g p))) i))
        (m.given v)

    steps : (u v : ℕ) (places : List ℕ) (k : K) → Chain g.rules u v (rules_at g.rules places) → ((place : ℕ) → place ∈ places → parent_of s (second_of g.rules place) ≡ Some place) → label_of s u ≡ Some k → label_of s v ≡ Some (g.plus k (total g places))
    steps u v [] k c parental l = sym (ap (label_of s) c) ∙ l ∙ ap Some (sym (right g a k))
    steps u v (place ∷ places) k c parental l =
        let f = step (second_of g.rules place) place (parental place (Memᴰ.head refl)) in
        let q : f.0 ≡ k = same (sym f.1 ∙ sym (ap (label_of s) c.1) ∙ l) in
        steps (second_of g.rules place) v places (g.plus f.0 (weight_of g place)) c.2 (λ p h. parental p (Memᴰ.tail h)) f.2
        ∙ ap Some (a.associative f.0 (weight_of g place) (total g places) ∙ ap (λ x. g.plus x (g.plus (weight_of g place) (total g places))) q)

    first_label : (u v : ℕ) (places : List ℕ) (j : K) → Chain g.rules u v (rules_at g.rules places) → ((place : ℕ) → place ∈ places → parent_of s (second_of g.rules place) ≡ Some place) → label_of s v ≡ Some j → (k : K) × (label_of s u ≡ Some k)
    first_label u v [] j c parental l = (j, ap (label_of s) c ∙ l)
    first_label u v (place ∷ places) j c parental l = let f = step (second_of g.rules place) place (parental place (Memᴰ.head refl)) in (f.0, ap (label_of s) c.1 ∙ f.1)

    along : (v : ℕ) (j : K) → label_of s v ≡ Some j → Along g start s v j
    along v j e places t =
        let f = first_label t.start v places j t.simple.chain t.parental e in
        let kept : label_of s t.start ≡ label_of start t.start = ⊎_elim (λ z. z.1) (λ l. absurd (clash (parent_of s t.start) l.parent t.root)) (m.given t.start) in
        (f.0, sym kept ∙ f.1, same (sym e ∙ steps t.start v places f.0 t.simple.chain t.parental f.1))

    backward : (d : List ℕ) → Taken g start s d → Backward g.rules s.parents d
    backward [] t = tt
    backward (v ∷ d) t = (⊎_elim (λ q. inl q.0) (λ l. inr (l.place, l.parent, l.within, l.ends, l.begins)) t.0, backward d t.2)

    due : (v : ℕ) → Waits start v ⊎ HasParent s v → v ∈ taken
    due v h = ⊎_elim (λ d. d) (λ w. absurd (clash (key_of s v) w.1 (empty v))) (m.due v h)

    forest : length start.parents ≡ events_of start → Forest g.rules s.parents
    forest long = record {
      events = taken;
      once = m.once;
      below = λ v h. let l = m.below v h in let e = m.parents in omega arith;
      backward = backward taken m.ordered;
      all = λ v place p. due v (inr (place, p));
    }

    attained : length start.parents ≡ events_of start → (v : ℕ) (j : K) → label_of s v ≡ Some j → Attained g start v j
    attained long v j e =
        let (places, t) = chain_to g.rules s.parents v below (forest long) in
        let (k, l, q) = along v j e places t in
        (t.start, places, k, route_along g t.start v places t.within t.simple.chain, l, q)
      where
        below : v < length s.parents
        below = ⊎_elim (λ h. h) (λ h. absurd (clash (label_of s v) e (get_or_past s.labels v None (omega (arith, m.events, m.parents))))) (cases_lt v (length s.parents))

    pub ends : length start.parents ≡ events_of start → Searched g start s
    ends long = record {
      least = least;
      attained = attained long;
      respected = respects;
      taken = taken;
      once = m.once;
      below = m.below;
      exactly = λ v. ((λ d. m.only v (inl d)), due v);
      ordered = m.ordered;
      given = m.given;
      forest = forest long;
      along = along;
      sized = m.sized;
      left = ap (λ ws. holds ws s.queue.count) (ext_get_or None _ _ (m.capacity ∙ sym (length-replicate (capacity_of start.queue) None)) (λ i h. let e = m.capacity in empty i ∙ sym (get_or-replicate (capacity_of start.queue) i None None (omega arith))))
          ∙ ap (λ n. taken_out (capacity_of start.queue) n) m.counted;
    }
