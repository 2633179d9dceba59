-- No place linked yet, and one more; and why a list of places ends. Assumes nothing.
use Rattle.std.proofs.Common.{◌≡◌, ℕ, ◌+◌, ◌<◌, ◌≤◌, List, length, get_or, set, replicate, Some, None, Option, sym, ap, ◌∙◌, subst, refl, ⊎_elim, arith}
use Rattle.std.proofs.lemmas.List.{get_or-set_same, get_or-set_other, length-set, get_or-replicate, length-replicate}
use Rattle.std.proofs.lemmas.Bool.{cases_eq}
use Rattle.links.specs.Links.{Last, Linked, Falling}

same : {x y : ℕ} → ◌≡◌ {A = Option ℕ} (Some x) (Some y) → x ≡ y
same q = cc

not_some : {x : ℕ} {P : Type 0} → ◌≡◌ {A = Option ℕ} None (Some x) → P
not_some q = absurd (let z : ◌≡◌ {A = ℕ} 0 1 = cc in omega arith)

pub linked_none : (label_of : ℕ → ℕ) (labels : ℕ) (nexts : List (Option ℕ)) → Linked label_of 0 (replicate labels None) nexts
linked_none label_of labels nexts = record {
  last = λ label h.
      let n = length-replicate {A = Option ℕ} labels None in
      let z = get_or-replicate {A = Option ℕ} labels label None None (omega arith) in
      subst (λ (x : Option ℕ). Last label_of 0 label x) (sym z) (record { bears = λ q e. not_some e; none = λ j b a. absurd (omega arith) });
  before = λ place h. absurd (omega arith);
}

module _ (label_of : ℕ → ℕ) (count : ℕ) where
  last_same : (label : ℕ) → label_of count ≡ label → Last label_of (count + 1) label (Some count)
  last_same label e = record {
    bears = λ q s. let k = same s in (omega arith, sym (ap label_of k) ∙ e);
    none = λ j b a. absurd (let l = a count refl in omega arith);
  }

  last_other : (label : ℕ) (held : Option ℕ) → ¬ (label_of count ≡ label) → Last label_of count label held → Last label_of (count + 1) label held
  last_other label held ne l = record {
    bears = λ q s. let b = l.bears q s in let lt = b.0 in (omega arith, b.1);
    none = λ j b a q. ⊎_elim (λ k. ne (sym (ap label_of k) ∙ q)) (λ k. l.none j (let n : j ≡ count → ⊥ = k in omega arith) a q) (cases_eq j count);
  }

  last_more : (heads : List (Option ℕ)) (at : ℕ) → label_of count ≡ at → at < length heads → ((label : ℕ) → label < length heads → Last label_of count label (get_or heads label None)) → (label : ℕ) → label < length (set heads at (Some count)) → Last label_of (count + 1) label (get_or (set heads at (Some count)) label None)
  last_more heads at is fit all label h = ⊎_elim
      (λ k. subst (λ (x : Option ℕ). Last label_of (count + 1) label x) (sym (ap (λ x. get_or (set heads at (Some count)) x None) k ∙ get_or-set_same heads at (Some count) None fit)) (last_same label (is ∙ sym k)))
      (λ k. subst (λ (x : Option ℕ). Last label_of (count + 1) label x) (sym (get_or-set_other heads at label (Some count) None k)) (last_other label (get_or heads label None) (λ q. k (sym q ∙ is)) (all label (let n = length-set heads at (Some count) in omega arith))))
      (cases_eq label at)

  before_more : (nexts : List (Option ℕ)) (held : Option ℕ) → count < length nexts → Last label_of count (label_of count) held → ((place : ℕ) → place < count → Last label_of place (label_of place) (get_or nexts place None)) → (place : ℕ) → place < count + 1 → Last label_of place (label_of place) (get_or (set nexts count held) place None)
  before_more nexts held fit here all place h = ⊎_elim
      (λ k. subst (λ (m : ℕ). Last label_of m (label_of m) (get_or (set nexts count held) m None)) (sym k) (subst (λ (y : Option ℕ). Last label_of count (label_of count) y) (sym (get_or-set_same nexts count held None fit)) here))
      (λ k. subst (λ (y : Option ℕ). Last label_of place (label_of place) y) (sym (get_or-set_other nexts count place held None k)) (all place (let n : place ≡ count → ⊥ = k in omega arith)))
      (cases_eq place count)

  pub linked_more : (heads nexts : List (Option ℕ)) (label : ℕ) → label_of count ≡ label → label < length heads → count < length nexts → Linked label_of count heads nexts → Linked label_of (count + 1) (set heads label (Some count)) (set nexts count (get_or heads label None))
  linked_more heads nexts label is fit room linked = record {
    last = last_more heads label is fit linked.last;
    before = before_more nexts (get_or heads label None) room (subst (λ (y : ℕ). Last label_of count y (get_or heads label None)) (sym is) (linked.last label fit)) linked.before;
  }

  -- each list of linked places ends
  pub linked_falls : (heads nexts : List (Option ℕ)) → Linked label_of count heads nexts → count ≤ length nexts → (label : ℕ) → label < length heads → Falling nexts (get_or heads label None)
  linked_falls heads nexts linked room label h top is =
      let below = ((linked.last label h).bears top is).0 in
      (omega arith, λ place low next e. ((linked.before place (omega arith)).bears next e).0)
