-- An event with a least key is taken; the start and the end of a search.
use Rattle.std.proofs.Common.{◌≡◌, ℕ, ◌<◌, ◌≤◌, false, ◌≢◌, List, [], ◌∷◌, length, Some, None, Option, sym, refl, ap, ◌∙◌, subst, inl, inr, ⊎_elim, mul-le-mul_left, mul-suc, arith}
use mathlib.Core.List.Memᴰ
use Rattle.std.proofs.lemmas.Bool.{cases_eq, cases_lt}
use Rattle.std.proofs.lemmas.List.{get_or-set_same, get_or-set_other, get_or_past, length-set}
use Rattle.rules.specs.Meets.{◌∈◌}
use Rattle.rules.specs.Bounds.{max_count}
use Rattle.rules.specs.Places.{first_of}
use Rattle.rules.proofs.Lengths.{at_most}
use Rattle.links.specs.Links.{Last}
use Rattle.queues.specs.Contents.{capacity_of, left_by_take}
use Rattle.search.specs.Networks.{Network, Labelling, labelling, events_of, label_of, parent_of, key_of}
use Rattle.search.specs.Searches.{Ready, Exact, NotBelow}
use Rattle.search.specs.Progress.{Adds, Midway, Leaving}
use Rattle.search.proofs.Keys.{same, clash, after_none}
use Rattle.search.proofs.Keeping.{given_same, taken_same}

module _ {K : Type 0} (g : Network K) (start : Labelling K) where
  pub any : (u w : ℕ) (taken : List ℕ) (s : Labelling K) → Midway g start u None taken s → Midway g start w None taken s
  any u w taken s m = record {
    agree = m.agree;
    respected = λ i h c. m.respected i h (λ e. after_none i);
    floor = m.floor;
    once = m.once;
    below = m.below;
    rests = m.rests;
    known = m.known;
    ordered = m.ordered;
    given = m.given;
    due = m.due;
    only = m.only;
    lower = m.lower;
    sized = m.sized;
    events = m.events;
    parents = m.parents;
    capacity = m.capacity;
    counted = m.counted;
  }

  module _ (taken : List ℕ) (s : Labelling K) (m : Midway g start 0 None taken s) (u : ℕ) (k : K) (waits : key_of s u ≡ Some k) where
    fresh : u ∈ taken → ⊥
    fresh h = clash (key_of s u) waits (m.rests u h)

    below_start : u < events_of start
    below_start = ⊎_elim (λ h. h) (λ h. absurd (clash (label_of s u) (m.agree u k waits) (get_or_past s.labels u None (let e = m.events in omega arith)))) (cases_lt u (events_of start))

    pub waiting_below : u < events_of s
    waiting_below = let h = below_start in let e = m.events in omega arith

    below_more : (v : ℕ) → v ∈ (u ∷ taken) → v < events_of start
    below_more v h = ⊎_elim (λ q. subst (λ (a : ℕ). a < events_of start) (sym q) below_start) (λ d. m.below v d) (Memᴰ.cases_cons h)

    -- an event that waits is one more than those taken
    one_more : length taken < events_of start
    one_more = at_most (events_of start) (u ∷ taken) (fresh, m.once) below_more

  pub adds : Exact g start → (taken : List ℕ) (s : Labelling K) → Midway g start 0 None taken s → (v : ℕ) (k : K) → key_of s v ≡ Some k → Adds g k
  adds r taken s m v k e i h =
      let a = m.sized r.b r.w r.within v k (m.agree v k e) in
      let b = r.within.weights i h in
      let c = mul-le-mul_left r.w (one_more taken s m v k e) in
      let d = mul-suc r.w (length taken) in
      omega (arith, r.room)

  module _ (taken : List ℕ) (s : Labelling K) (u : ℕ) (k : K) (held : Option ℕ) (m : Midway g start 0 None taken s) (few : events_of start ≤ max_count) (fit : u < capacity_of s.queue) (waits : key_of s u ≡ Some k)
      (least : (v : ℕ) (j : K) → key_of s v ≡ Some j → g.less j k ≡ false) (head : Last (first_of g.rules) (length g.rules) u held) where
    abbrev s' : Labelling K
    s' = labelling s.labels s.parents (left_by_take s.queue (Some (u, k)))

    key_u : key_of s' u ≡ None
    key_u = get_or-set_same s.queue.waiting u None None fit

    key_o : (v : ℕ) → v ≢ u → key_of s' v ≡ key_of s v
    key_o v ne = get_or-set_other s.queue.waiting u v None None ne

    other : (v : ℕ) (j : K) → key_of s' v ≡ Some j → v ≢ u
    other v j e q = clash (key_of s' v) e (ap (key_of s') q ∙ key_u)

    was : (v : ℕ) (j : K) → key_of s' v ≡ Some j → key_of s v ≡ Some j
    was v j e = sym (key_o v (other v j e)) ∙ e

    at : label_of s u ≡ Some k
    at = m.agree u k waits

    more : length taken < events_of start
    more = one_more taken s m u k waits

    not_below : (j : K) → g.less j k ≡ false → NotBelow g s taken j → NotBelow g s (u ∷ taken) j
    not_below j low old v h i l = ⊎_elim
        (λ q. subst (λ (a : K). g.less j a ≡ false) (same (sym at ∙ sym (ap (label_of s) q) ∙ l)) low)
        (λ d. old v d i l)
        (Memᴰ.cases_cons h)

    pub took : Leaving g start u k held (u ∷ taken) s'
    took = record {
      midway = record {
        agree = λ v j e. m.agree v j (was v j e);
        respected = λ i h d j l w. ⊎_elim
            (λ q. absurd (head.none i h (d q) q))
            (λ ne. let r = m.respected i h (λ q. after_none i) j l (sym (key_o (first_of g.rules i) ne) ∙ w) in record { label = r.label; is = r.is; small = r.small })
            (cases_eq (first_of g.rules i) u);
        floor = λ y ky e. not_below ky (least y ky (was y ky e)) (m.floor y ky (was y ky e));
        once = (fresh taken s m u k waits, m.once);
        below = below_more taken s m u k waits;
        rests = λ v h. ⊎_elim
            (λ q. ap (key_of s') q ∙ key_u)
            (λ ne. key_o v ne ∙ ⊎_elim (λ q. absurd (ne q)) (λ d. m.rests v d) (Memᴰ.cases_cons h))
            (cases_eq v u);
        known = λ v h. ⊎_elim (λ q. (k, ap (label_of s) q ∙ at)) (λ d. m.known v d) (Memᴰ.cases_cons h);
        ordered = (
          given_same g start taken taken s s' u refl refl (λ w h. (h, refl)) (m.given u),
          (λ j e v d a l. subst (λ (b : K). g.less b a ≡ false) (same (sym at ∙ e)) (m.floor u k waits v d a l)),
          taken_same g start taken s s' (λ w h. (refl, refl)) m.ordered,
        );
        given = λ v. given_same g start taken (u ∷ taken) s s' v refl refl (λ w h. (Memᴰ.tail h, refl)) (m.given v);
        due = λ v h. ⊎_elim
            (λ d. inl (Memᴰ.tail d))
            (λ w. ⊎_elim (λ q. inl (Memᴰ.head q)) (λ ne. inr (w.0, key_o v ne ∙ w.1)) (cases_eq v u))
            (m.due v h);
        only = λ v h. m.only v (⊎_elim
            (λ d. ⊎_elim (λ q. inr (k, ap (key_of s) q ∙ waits)) (λ e. inl e) (Memᴰ.cases_cons d))
            (λ w. inr (w.0, was v w.0 w.1))
            h);
        lower = m.lower;
        sized = λ b w f v j e. let z = m.sized b w f v j e in let y = mul-suc w (length taken) in omega arith;
        events = m.events;
        parents = m.parents;
        capacity = length-set s.queue.waiting u None ∙ m.capacity;
        counted = let e = m.counted in let l = more in omega arith;
      };
      at = at;
      member = Memᴰ.head refl;
      top = not_below k (least u k waits) (m.floor u k waits);
      room = λ b w f. let z = m.sized b w f u k at in let y = mul-suc w (length taken) in omega arith;
    }

  pub begins : ((x : K) → g.less x x ≡ false) → Ready g start → Midway g start 0 None [] start
  begins irreflexive r = record {
    agree = r.agree;
    respected = λ i h c. r.respected i h;
    floor = λ x k e v h. absurd (Memᴰ.not-nil h);
    once = tt;
    below = λ v h. absurd (Memᴰ.not-nil h);
    rests = λ v h. absurd (Memᴰ.not-nil h);
    known = λ v h. absurd (Memᴰ.not-nil h);
    ordered = tt;
    given = λ v. inl (r.parentless v, refl);
    due = λ v h. ⊎_elim (λ w. inr w) (λ p. absurd (clash (parent_of start v) p.1 (r.parentless v))) h;
    only = λ v h. ⊎_elim (λ d. absurd (Memᴰ.not-nil d)) (λ w. inl w) h;
    lower = λ v k e. (k, e, irreflexive k);
    sized = λ b w f v k e. let z = f.labels v k e in omega arith;
    events = refl;
    parents = refl;
    capacity = refl;
    counted = r.uncounted;
  }
