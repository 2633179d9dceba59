-- Events that begin to wait, and searches that can start so.
use Rattle.std.proofs.Common.{◌≡◌, ℕ, suc, ◌+◌, ◌-◌, ◌<◌, ◌≤◌, false, ◌≢◌, List, [], ◌∷◌, ◌++◌, length, get_or, take, set, replicate, Some, None, Option, sym, refl, ap, ◌∙◌, ⊎_elim, arith}
use Rattle.std.proofs.lemmas.List.{append_assoc, take_more, set_at, get_or_append_left, get_or-append_right, get_or-set_same, get_or-set_other, get_or_past, get_or-replicate, length-take-le, length-replicate}
use Rattle.std.proofs.lemmas.Bool.{cases_eq, cases_lt}
use Rattle.rules.specs.Meets.{EventsBelow}
use Rattle.rules.specs.Places.{first_of, second_of}
use Rattle.search.specs.Networks.{Network, Labelling, label_of, key_of, weight_of}
use Rattle.search.specs.Searches.{NoneNegative, Ready}
use Rattle.search.specs.Beginnings.{alone, all_waiting}
use Rattle.search.proofs.Events.{events_below}
use Rattle.search.proofs.Keys.{clash, Laws, rises}

-- a list of one value has it at every place
pub all_same : {A : Type 0} (n k : ℕ) (x : A) → get_or (replicate n x) k x ≡ x
all_same n k x = ⊎_elim (λ h. get_or-replicate n k x x h) (λ h. get_or_past (replicate n x) k x (let l = length-replicate n x in omega arith)) (cases_lt k n)

module _ {A : Type 0} (labels : List (Option A)) (n i : ℕ) where
  -- labels of the first events wait, and nothing else
  abbrev pub first_labels : List (Option A)
  first_labels = take i labels ++ replicate (n - i) None

  more : i < n → first_labels ≡ take i labels ++ None ∷ replicate (n - (i + 1)) None
  more h = let e : n - i ≡ suc (n - (i + 1)) = omega arith in ap (λ m. take i labels ++ replicate m None) e

  pub first_more : (label : Option A) → i < length labels → i < n → label ≡ get_or labels i None → set first_labels i label ≡ take (i + 1) labels ++ replicate (n - (i + 1)) None
  first_more label h room is =
      ap (λ ws. set ws i label) (more room)
      ∙ set_at (take i labels) None rest label i (length-take-le i labels (omega arith))
      ∙ sym (append_assoc (take i labels) (label ∷ []) rest)
      ∙ ap (λ front. front ++ rest) (ap (λ x. take i labels ++ x ∷ []) is ∙ sym (take_more labels i None h))
    where
      rest : List (Option A)
      rest = replicate (n - (i + 1)) None

module _ {K : Type 0} (g : Network K) where
  -- a search can start where every labelled event waits under its label
  pub ready_all : (labels : List (Option K)) (capacity : ℕ) → Ready g (all_waiting labels capacity)
  ready_all labels capacity = record {
    agree = λ v k e. sym (alike v) ∙ e;
    respected = λ place h k l w. absurd (clash (label_of s (first_of g.rules place)) l (sym (alike (first_of g.rules place)) ∙ w));
    parentless = λ v. all_same {A = Option ℕ} (length labels) v None;
    uncounted = refl;
  }
    where
      s : Labelling K
      s = all_waiting labels capacity

      alike : (v : ℕ) → get_or (labels ++ replicate (capacity - length labels) None) v None ≡ get_or labels v None
      alike v = ⊎_elim
          (λ h. get_or_append_left labels (replicate (capacity - length labels) None) None v h)
          (λ h. get_or-append_right labels (replicate (capacity - length labels) None) (length labels) v None refl h ∙ all_same (capacity - length labels) (v - length labels) None ∙ sym (get_or_past labels v None h))
          (cases_lt v (length labels))

  -- and where one event waits alone, under a key that is not larger than the label of the others
  pub ready_alone : Laws g → NoneNegative g → (events capacity event : ℕ) (key : K) (label : Option K) → EventsBelow events g.rules → event < events → events ≤ capacity
      → ((z : K) → label ≡ Some z → g.less z key ≡ false) → Ready g (alone events capacity event key label)
  ready_alone a rising events capacity event key label below h room small = record {
    agree = λ v k e. ⊎_elim
        (λ q. ap (label_of s) q ∙ lab_here ∙ sym key_here ∙ sym (ap (key_of s) q) ∙ e)
        (λ ne. absurd (clash (key_of s v) e (key_other v ne)))
        (cases_eq v event);
    respected = λ place lt k l w.
        let ne : first_of g.rules place ≢ event = λ q. clash (key_of s event) key_here (sym (ap (key_of s) q) ∙ w) in
        let is : label ≡ Some k = sym (lab_other (first_of g.rules place) (events_below events g.rules below place lt).0 ne) ∙ l in
        let up = rises g a k (weight_of g place) (rising place lt) in
        ⊎_elim
        (λ q. record { label = key; is = ap (label_of s) q ∙ lab_here; small = a.ranks.chain (g.plus k (weight_of g place)) k key up (small k is) })
        (λ no. record { label = k; is = lab_other (second_of g.rules place) (events_below events g.rules below place lt).1 no ∙ is; small = up })
        (cases_eq (second_of g.rules place) event);
    parentless = λ v. all_same {A = Option ℕ} events v None;
    uncounted = refl;
  }
    where
      s : Labelling K
      s = alone events capacity event key label

      lab_here : label_of s event ≡ Some key
      lab_here = get_or-set_same (replicate events label) event (Some key) None (let l = length-replicate events label in omega arith)

      lab_other : (v : ℕ) → v < events → v ≢ event → label_of s v ≡ label
      lab_other v lt ne = get_or-set_other (replicate events label) event v (Some key) None ne ∙ get_or-replicate events v label None lt

      key_here : key_of s event ≡ Some key
      key_here = get_or-set_same (replicate capacity None) event (Some key) None (let l = length-replicate {A = Option K} capacity None in omega arith)

      key_other : (v : ℕ) → v ≢ event → key_of s v ≡ None
      key_other v ne = get_or-set_other (replicate capacity None) event v (Some key) None ne ∙ all_same capacity v None
