-- One more rule of the event that was taken last is seen to.
use Rattle.std.proofs.Common.{◌≡◌, ℕ, ◌+◌, ◌*◌, ◌<◌, ◌≤◌, Bool, true, false, ◌≢◌, List, length, Some, None, Option, sym, refl, ap, ◌∙◌, subst, inl, inr, ⊎_elim, arith}
use Rattle.std.proofs.lemmas.Bool.{cases_eq, cases_lt, both_ways, cond_both, cond-true}
use Rattle.std.proofs.lemmas.List.{get_or-set_same, get_or-set_other, length-set}
use Rattle.rules.specs.Meets.{◌∈◌}
use Rattle.rules.specs.Places.{first_of, second_of}
use Rattle.links.specs.Links.{Last}
use Rattle.queues.specs.Contents.{lesser, capacity_of}
use Rattle.queues.proofs.Order.{itself, nearer}
use Rattle.search.specs.Networks.{Network, Labelling, label_of, parent_of, key_of, weight_of}
use Rattle.search.specs.Searches.{Respected, Given}
use Rattle.search.specs.Progress.{betters, relabelled, improved, Midway, Leaving}
use Rattle.search.proofs.Keys.{same, clash, not_better, Laws, rises}
use Rattle.search.proofs.Keeping.{given_same, taken_same}

module _ {K : Type 0} (g : Network K) (start : Labelling K) (u : ℕ) (k : K) (place : ℕ) (next : Option ℕ) (taken : List ℕ) (s : Labelling K) where
  -- the next rule of u is the last before this one
  cursor : first_of g.rules place ≡ u → Last (first_of g.rules) place u next → label_of s u ≡ Some k → Respected g s place k → Midway g start u (Some place) taken s → Midway g start u next taken s
  cursor from last at here m = record {
    agree = m.agree;
    respected = λ j h c k' l w. ⊎_elim
        (λ q. subst (λ (x : K). Respected g s j x) (same (sym at ∙ sym (ap (label_of s) (ap (first_of g.rules) q ∙ from)) ∙ l)) (subst (λ (y : ℕ). Respected g s y k) (sym q) here))
        (λ ne. m.respected j h (λ e. ⊎_elim (λ lt. absurd (last.none j lt (c e) e)) (λ ge q is. let d : j ≡ place → ⊥ = ne in let t = same is in omega arith) (cases_lt j place)) k' l w)
        (cases_eq j place);
    floor = m.floor;
    once = m.once;
    below = m.below;
    rests = m.rests;
    known = m.known;
    ordered = m.ordered;
    given = m.given;
    due = m.due;
    only = m.only;
    lower = m.lower;
    sized = m.sized;
    events = m.events;
    parents = m.parents;
    capacity = m.capacity;
    counted = m.counted;
  }

module _ {K : Type 0} (g : Network K) (a : Laws g) (start : Labelling K) (u : ℕ) (k : K) (place : ℕ) (next : Option ℕ) (taken : List ℕ) (s : Labelling K) where
  module _ (within : place < length g.rules) (from : first_of g.rules place ≡ u) (last : Last (first_of g.rules) place u next)
      (rising : g.less (weight_of g place) g.zero ≡ false)
      (fit_l : second_of g.rules place < length s.labels) (fit_p : second_of g.rules place < length s.parents) (fit_w : second_of g.rules place < capacity_of s.queue)
      (go : Leaving g start u k (Some place) taken s) where
    abbrev x : ℕ
    x = second_of g.rules place

    abbrev new : K
    new = g.plus k (weight_of g place)

    abbrev s' : Labelling K
    s' = relabelled g.less s x place new

    m : Midway g start u (Some place) taken s
    m = go.midway

    module _ (up : betters g.less (label_of s x) new ≡ true) where
      lab_x : label_of s' x ≡ Some new
      lab_x = get_or-set_same s.labels x (Some new) None fit_l

      lab_o : (v : ℕ) → v ≢ x → label_of s' v ≡ label_of s v
      lab_o v ne = get_or-set_other s.labels x v (Some new) None ne

      par_x : parent_of s' x ≡ Some place
      par_x = get_or-set_same s.parents x (Some place) None fit_p

      par_o : (v : ℕ) → v ≢ x → parent_of s' v ≡ parent_of s v
      par_o v ne = get_or-set_other s.parents x v (Some place) None ne

      over : (j : K) → label_of s x ≡ Some j → g.less new j ≡ true
      over j e = subst (λ (a : Option K). betters g.less a new ≡ true) e up

      lesser_new : (a : Option K) → key_of s x ≡ a → lesser g.less a new ≡ new
      lesser_new None e = refl
      lesser_new (Some j) e = cond-true (g.less new j) new j (over j (m.agree x j e))

      key_x : key_of s' x ≡ Some new
      key_x = get_or-set_same s.queue.waiting x (Some (lesser g.less (key_of s x) new)) None fit_w ∙ ap Some (lesser_new (key_of s x) refl)

      key_o : (v : ℕ) → v ≢ x → key_of s' v ≡ key_of s v
      key_o v ne = get_or-set_other s.queue.waiting x v (Some (lesser g.less (key_of s x) new)) None ne

      above : (v : ℕ) → v ∈ taken → (j : K) → label_of s v ≡ Some j → g.less new j ≡ false
      above v h j e = a.ranks.chain new k j (rises g a k (weight_of g place) rising) (go.top v h j e)

      fresh : (v : ℕ) → v ∈ taken → v ≢ x
      fresh v h q = let f = m.known v h in both_ways (g.less new f.0) (above v h f.0 f.1) (over f.0 (sym (ap (label_of s) q) ∙ f.1))

      lowers : (j : ℕ) (k' : K) → Respected g s j k' → Respected g s' j k'
      lowers j k' r = ⊎_elim
          (λ q. record { label = new; is = ap (label_of s') q ∙ lab_x; small = nearer g.less a.ranks (g.plus k' (weight_of g j)) new r.label r.small (over r.label (sym (ap (label_of s) q) ∙ r.is)) })
          (λ ne. record { label = r.label; is = lab_o (second_of g.rules j) ne ∙ r.is; small = r.small })
          (cases_eq (second_of g.rules j) x)

      wrote : Midway g start u (Some place) taken s'
      wrote = record {
        agree = λ v k' e. ⊎_elim
            (λ q. ap (label_of s') q ∙ lab_x ∙ sym key_x ∙ sym (ap (key_of s') q) ∙ e)
            (λ ne. lab_o v ne ∙ m.agree v k' (sym (key_o v ne) ∙ e))
            (cases_eq v x);
        respected = λ j h c k' l w.
            let ne : first_of g.rules j ≢ x = λ q. clash (key_of s' x) key_x (sym (ap (key_of s') q) ∙ w) in
            lowers j k' (m.respected j h c k' (sym (lab_o (first_of g.rules j) ne) ∙ l) (sym (key_o (first_of g.rules j) ne) ∙ w));
        floor = λ y ky e v h j l. ⊎_elim
            (λ q. subst (λ (a : K). g.less a j ≡ false) (same (sym key_x ∙ sym (ap (key_of s') q) ∙ e)) (above v h j (sym (lab_o v (fresh v h)) ∙ l)))
            (λ ne. m.floor y ky (sym (key_o y ne) ∙ e) v h j (sym (lab_o v (fresh v h)) ∙ l))
            (cases_eq y x);
        once = m.once;
        below = m.below;
        rests = λ v h. key_o v (fresh v h) ∙ m.rests v h;
        known = λ v h. ((m.known v h).0, lab_o v (fresh v h) ∙ (m.known v h).1);
        ordered = taken_same g start taken s s' (λ v h. (lab_o v (fresh v h), par_o v (fresh v h))) m.ordered;
        given = λ v. ⊎_elim
            (λ q. subst (λ (a : ℕ). Given g start taken s' a) (sym q) (inr (record { place = place; parent = par_x; within = within; ends = refl; begins = subst (λ (a : ℕ). a ∈ taken) (sym from) go.member; key = k; before = ap (label_of s') from ∙ lab_o u (fresh u go.member) ∙ go.at; is = lab_x })))
            (λ ne. given_same g start taken taken s s' v (lab_o v ne) (par_o v ne) (λ w h. (h, lab_o w (fresh w h))) (m.given v))
            (cases_eq v x);
        due = λ v h. ⊎_elim
            (λ q. inr (new, ap (key_of s') q ∙ key_x))
            (λ ne. ⊎_elim (λ d. inl d) (λ w. inr (w.0, key_o v ne ∙ w.1)) (m.due v (⊎_elim (λ a. inl a) (λ p. inr (p.0, sym (par_o v ne) ∙ p.1)) h)))
            (cases_eq v x);
        only = λ v h. ⊎_elim
            (λ q. inr (place, ap (parent_of s') q ∙ par_x))
            (λ ne. ⊎_elim (λ a. inl a) (λ p. inr (p.0, par_o v ne ∙ p.1)) (m.only v (⊎_elim (λ d. inl d) (λ w. inr (w.0, sym (key_o v ne) ∙ w.1)) h)))
            (cases_eq v x);
        lower = λ v k' e. let f = m.lower v k' e in ⊎_elim
            (λ q. (new, ap (label_of s') q ∙ lab_x, nearer g.less a.ranks k' new f.0 f.2 (over f.0 (sym (ap (label_of s) q) ∙ f.1))))
            (λ ne. (f.0, lab_o v ne ∙ f.1, f.2))
            (cases_eq v x);
        sized = λ b w f v k' e. ⊎_elim
            (λ q. subst (λ (z : K). g.size z ≤ b + w * length taken) (same (sym lab_x ∙ sym (ap (label_of s') q) ∙ e))
            (let j = a.size_plus k (weight_of g place) in let y = f.weights place within in let l = go.room b w f in omega arith))
            (λ ne. m.sized b w f v k' (sym (lab_o v ne) ∙ e))
            (cases_eq v x);
        events = length-set s.labels x (Some new) ∙ m.events;
        parents = length-set s.parents x (Some place) ∙ m.parents;
        capacity = length-set s.queue.waiting x (Some (lesser g.less (key_of s x) new)) ∙ m.capacity;
        counted = m.counted;
      }

      better_way : Leaving g start u k next taken s'
      better_way = record {
        midway = cursor g start u k place next taken s' from last (lab_o u (fresh u go.member) ∙ go.at) (record { label = new; is = lab_x; small = itself g.less a.ranks new }) wrote;
        at = lab_o u (fresh u go.member) ∙ go.at;
        member = go.member;
        top = λ v h j l. go.top v h j (sym (lab_o v (fresh v h)) ∙ l);
        room = go.room;
      }

    worse_way : betters g.less (label_of s x) new ≡ false → Leaving g start u k next taken s
    worse_way e =
        let f = not_better g.less (label_of s x) new e in
        record {
          midway = cursor g start u k place next taken s from last go.at (record { label = f.0; is = f.1; small = f.2 }) m;
          at = go.at;
          member = go.member;
          top = go.top;
          room = go.room;
        }

    relaxed : Leaving g start u k next taken (improved g.less s x place new)
    relaxed = cond_both (betters g.less (label_of s x) new) s' s (λ a. Leaving g start u k next taken a) better_way worse_way

    pub relaxed_as : (v : ℕ) (w key : K) (after : Labelling K) → v ≡ x → w ≡ weight_of g place → key ≡ g.plus k w → after ≡ improved g.less s v place key → Leaving g start u k next taken after
    relaxed_as v w key after a b d e = subst (λ (z : Labelling K). Leaving g start u k next taken z) (sym (e ∙ ap (λ q. improved g.less s q place key) a ∙ ap (λ q. improved g.less s x place q) (d ∙ ap (g.plus k) b))) relaxed

pub capacity_kept : {K : Type 0} (less : K → K → Bool) (s : Labelling K) (v parent : ℕ) (k : K) → capacity_of (improved less s v parent k).queue ≡ capacity_of s.queue
capacity_kept less s v parent k = cond_both (betters less (label_of s v) k) (relabelled less s v parent k) s (λ a. capacity_of a.queue ≡ capacity_of s.queue) (λ e. length-set s.queue.waiting v (Some (lesser less (key_of s v) k))) (λ e. refl)
