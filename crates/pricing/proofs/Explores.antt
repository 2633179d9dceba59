-- What a search from the second event of a rule with a negative reduced limit comes to. Assumes nothing.
use Rattle.std.proofs.Common.{◌≡◌, ℕ, ◌+◌, ◌*◌, ◌<◌, ◌≤◌, true, false, ◌≢◌, ◌⊎◌, List, [], ◌∷◌, length, get_or, replicate, ℤ, pos, ◌+ℤ◌, ◌-ℤ◌, nat_abs, ◌≤ℤ◌, ◌<ℤ◌, Some, None, Option, sym, refl, ap, ◌∙◌, subst, inl, inr, ⊎_elim, arith}
use mathlib.Core.List.Memᴰ
use lib.Signed.{lt_z}
use Rattle.std.proofs.lemmas.Int.{ints}
use Rattle.std.proofs.lemmas.Bool.{cases_eq}
use Rattle.std.proofs.lemmas.List.{get_or-set_same, get_or-set_other, get_or-replicate, length-set, length-replicate}
use Rattle.delays.specs.Numbers.{Millis, amount, amount_zero}
use Rattle.delays.specs.Exactness.{exact_size}
use Rattle.rules.specs.declared.records.Rule.{Rule}
use Rattle.rules.specs.Meets.{at, lead, Meets}
use Rattle.rules.specs.Chains.{Chain, stops, Distinct}
use Rattle.rules.specs.Rings.{Negative}
use Rattle.rules.specs.Settled.{NotAfter, Latest, Attained}
use Rattle.rules.specs.Prices.{reduced_limit, loosen, loosened}
use Rattle.rules.proofs.Along.{along}
use Rattle.rules.proofs.Among.{on_chain, chain_of}
use Rattle.rules.proofs.Lengths.{at_most}
use Rattle.rules.proofs.Latest.{latest_by_chains}
use Rattle.search.specs.Networks.{Labelling, label_of, events_of}
use Rattle.search.specs.Forests.{Forest, Traced, rules_at}
use Rattle.search.specs.Searches.{Within, Exact, Searched}
use Rattle.search.specs.Beginnings.{alone}
use Rattle.search.proofs.Keys.{same}
use Rattle.search.proofs.Routes.{route_along}
use Rattle.settling.specs.Sizes.{limit_size, Limited, Sized, Feasible}
use Rattle.settling.specs.Weights.{Weighed, Raised, raised}
use Rattle.pricing.specs.Repairs.{fallen}
use Rattle.settling.proofs.Reductions.{net, not_below, labelled_below, weight_size, weight_within, reduced_within, route_chain, labels_meet, labels_attained}

-- the label of the events that do not wait
abbrev pub resting : Option Millis
resting = Some amount_zero

-- what a search from a rule's second event leaves. Where the label of its first event is not below 0, prices more by labels meet the rule too, and
-- where it is, the chain by parents to that event closes a negative ring with the rule
pub record Explored (by : ℤ) (rules : List Rule) (rule : Rule) (prices : List ℤ) (labels : List (Option Millis)) (parents : List (Option ℕ)) : Type 0 where
  pub exact : (v : ℕ) (k : Millis) → get_or labels v None ≡ Some k → nat_abs k.0 ≤ exact_size
  pub forest : Forest rules parents
  pub mends : fallen (get_or labels rule.first None) ≡ false → (new : List ℤ) → Raised prices labels new → Latest (length prices) (at prices) (loosened by (rule ∷ rules)) (at new)
  pub rings : fallen (get_or labels rule.first None) ≡ true → (places : List ℕ) → Traced rules parents rule.first places → Negative (loosened by (rule ∷ rules)) (loosened by (rule ∷ rules_at rules places))

pub is_below : (a b : ℤ) → lt_z a b ≡ true → a <ℤ b
is_below a b h = grind (arith, ints)

-- loosening leaves a path's events as they are
stops_loosened : (by : ℤ) (path : List Rule) → stops (loosened by path) ≡ stops path
stops_loosened by [] = refl
stops_loosened by (r ∷ path) = ap (λ vs. r.second ∷ vs) (stops_loosened by path)

pub sized_rest : (rule : Rule) (rules : List Rule) (prices : List ℤ) → Sized (rule ∷ rules) prices → Sized rules prices
sized_rest rule rules prices s = record { few_events = s.few_events; events = λ r m. s.events r (Memᴰ.tail m); prices_within = s.prices_within }

module _ (by : ℤ) (rules : List Rule) (rule : Rule) (prices : List ℤ) (weights : List Millis) (weighed : Weighed by rules prices weights)
    (limited : Limited by rules) (limit : nat_abs rule.limit ≤ limit_size) (sized : Sized (rule ∷ rules) prices) (feasible : Feasible by rules prices) (key : Millis) (is_key : key ≡ amount (reduced_limit (at prices) (loosen by rule))) (negative : key.0 <ℤ pos 0)
    (n capacity : ℕ) (long : n ≡ length prices) (start : Labelling Millis) (begun : start ≡ alone n capacity rule.second key resting) where
  small : Sized rules prices
  small = sized_rest rule rules prices sized

  first_in : rule.first < length prices
  first_in = (sized.events rule (Memᴰ.head refl)).0

  second_in : rule.second < length prices
  second_in = (sized.events rule (Memᴰ.head refl)).1

  reduced : key.0 ≡ ((rule.limit +ℤ by) +ℤ at prices rule.first) -ℤ at prices rule.second
  reduced = ap (λ (m : Millis). m.0) is_key

  here : label_of start rule.second ≡ Some key
  here = ap (λ (x : Labelling Millis). label_of x rule.second) begun ∙ get_or-set_same (replicate n resting) rule.second (Some key) None (let l = length-replicate n resting in let h = second_in in omega arith)

  other : (v : ℕ) → v < length prices → v ≢ rule.second → label_of start v ≡ Some amount_zero
  other v h ne = ap (λ (x : Labelling Millis). label_of x v) begun ∙ get_or-set_other (replicate n resting) rule.second v (Some key) None ne ∙ get_or-replicate n v resting None (omega arith)

  pub start_events : events_of start ≡ length prices
  start_events = ap (λ (x : Labelling Millis). events_of x) begun ∙ length-set (replicate n resting) rule.second (Some key) ∙ length-replicate n resting ∙ long

  -- what a label at the start is
  start_of : (v : ℕ) (k : Millis) → label_of start v ≡ Some k → (v < length prices) × (((v ≡ rule.second) × (k.0 ≡ key.0)) ⊎ (k.0 ≡ pos 0))
  start_of v k e =
      let h : v < length prices = let l = labelled_below start.labels v k e in let q = start_events in omega arith in (
        h,
        ⊎_elim
            (λ q. inl (q, ap (λ (m : Millis). m.0) (same (sym e ∙ ap (label_of start) q ∙ here))))
            (λ ne. inr (ap (λ (m : Millis). m.0) (same (sym e ∙ other v h ne))))
            (cases_eq v rule.second),
      )

  key_within : nat_abs key.0 ≤ weight_size
  key_within = subst (λ (m : Millis). nat_abs m.0 ≤ weight_size) (sym is_key)
      (reduced_within rule.limit by (at prices rule.first) (at prices rule.second) limit limited.loosening (sized.prices_within _) (sized.prices_within _))

  within : Within (net by rules prices weights weighed) start weight_size weight_size
  within = record {
    labels = λ v k e. ⊎_elim (λ q. let z = q.1 in let w = key_within in omega (arith, ints)) (λ z. omega (arith, ints)) (start_of v k e).1;
    weights = weight_within by rules prices weights weighed limited small;
  }

  pub start_exact : Exact (net by rules prices weights weighed) start
  start_exact = record { b = weight_size; w = weight_size; within = within; room = let few = sized.few_events in let e = start_events in omega arith }

  module _ (s : Labelling Millis) (found : Searched (net by rules prices weights weighed) start s) where
    abbrev whole : List Rule
    whole = loosened by (rule ∷ rules)

    exact : (v : ℕ) (k : Millis) → label_of s v ≡ Some k → nat_abs k.0 ≤ exact_size
    exact v k e =
        let h : nat_abs k.0 ≤ weight_size + weight_size * length found.taken = found.sized weight_size weight_size within v k e in
        let few = sized.few_events in
        let taken = at_most (length prices) found.taken found.once (λ u m. let b = found.below u m in let q = start_events in omega arith) in
        omega arith

    -- a label comes to be no larger than at the start
    lowered : (v : ℕ) (k : Millis) → label_of start v ≡ Some k → (j : Millis) × (label_of s v ≡ Some j) × (j.0 ≤ℤ k.0)
    lowered v k e = let f = found.least v v [] k refl e in let b = not_below (k.0 +ℤ pos 0) f.0.0 f.2 in (f.0, f.1, omega (arith, ints))

    low : (v : ℕ) → v < length prices → (j : Millis) × (label_of s v ≡ Some j) × (j.0 ≤ℤ pos 0)
    low v h = ⊎_elim
        (λ q. let f = lowered v key (ap (label_of start) q ∙ here) in let b = f.2 in (f.0, f.1, omega (arith, ints)))
        (λ ne. let f = lowered v amount_zero (other v h ne) in (f.0, f.1, f.2))
        (cases_eq v rule.second)

    known : (v : ℕ) → v < length prices → (j : Millis) × (label_of s v ≡ Some j)
    known v h = let f = low v h in (f.0, f.1)

    wider : (a b : ℕ) (path : List Rule) → Chain (loosened by rules) a b path → Chain whole a b path
    wider a b path c = chain_of (loosened by rules) whole a b path c (λ r m. Memᴰ.tail (on_chain (loosened by rules) a b path c r m).0)

    module _ (held : fallen (label_of s rule.first) ≡ false) (new : List ℤ) (is : Raised prices s.labels new) where
      time_of : (v : ℕ) (k : Millis) → v < length prices → label_of s v ≡ Some k → at new v ≡ k.0 +ℤ at prices v
      time_of v k h e = is v h ∙ ap (λ o. raised o (at prices v)) e

      meets_rule : lead (at new) rule.first rule.second ≤ℤ (rule.limit +ℤ by)
      meets_rule =
          let k = low rule.first first_in in
          let j = lowered rule.second key here in
          let a = time_of rule.first k.0 first_in k.1 in
          let b = time_of rule.second j.0 second_in j.1 in
          let c = j.2 in
          let d = not_below k.0.0 (pos 0) (ap fallen (sym k.1) ∙ held) in
          let e = reduced in
          omega (arith, ints)

      meets : Meets whole (at new)
      meets r m = ⊎_elim
          (λ e. subst (λ (x : Rule). lead (at new) x.first x.second ≤ℤ x.limit) (sym e) meets_rule)
          (labels_meet by rules prices weights weighed small start s found (at new) time_of known r)
          (Memᴰ.cases_cons m)

      early : NotAfter (length prices) (at prices) (at new)
      early v h = let k = low v h in let a = time_of v k.0 h k.1 in let b = k.2 in omega (arith, ints)

      attained : (v : ℕ) → v < length prices → Attained (length prices) (at prices) whole (at new) v
      attained v h =
          let (u, k, path, from, chain, sums) = labels_attained by rules prices weights weighed small start s found (at new) time_of known v h in
          let o = start_of u k from in
          ⊎_elim
          (λ q.
          let p : at prices u ≡ at prices rule.second = ap (at prices) q.0 in
          let z = q.1 in
          let e = reduced in
          (rule.first, loosen by rule ∷ path, first_in, (Memᴰ.head refl, refl, subst (λ (x : ℕ). Chain whole x v path) q.0 (wider u v path chain)), omega (arith, ints)))
          (λ z. (u, path, o.0, wider u v path chain, omega (arith, ints)))
          o.1

      mended : Latest (length prices) (at prices) whole (at new)
      mended = latest_by_chains (length prices) (at prices) whole (at new) meets early attained

    closes : fallen (label_of s rule.first) ≡ true → (places : List ℕ) → Traced rules s.parents rule.first places → Negative whole (loosened by (rule ∷ rules_at rules places))
    closes fell places t =
        let k = low rule.first first_in in
        let down = is_below k.0.0 (pos 0) (ap fallen (sym k.1) ∙ fell) in
        let (j, from, is) = found.along rule.first k.0 k.1 places t in
        let way = route_chain by rules prices weights weighed t.start rule.first places (route_along (net by rules prices weights weighed) t.start rule.first places t.within t.simple.chain) in
        let up = along (loosened by rules) (at prices) feasible t.start rule.first (loosened by (rules_at rules places)) way.0 in
        let a : k.0.0 ≡ j.0 +ℤ _ = ap (λ (m : Millis). m.0) is in
        let b = way.1 in
        let e = reduced in
        ⊎_elim
        (λ q.
        let p : at prices t.start ≡ at prices rule.second = ap (at prices) q.0 in
        let z = q.1 in
        record {
          start = rule.first;
          ring = record {
            chain = (Memᴰ.head refl, refl, subst (λ (x : ℕ). Chain whole x rule.first (loosened by (rules_at rules places))) q.0 (wider t.start rule.first (loosened by (rules_at rules places)) way.0));
            some = omega arith;
            once = subst (λ (x : ℕ). Distinct (x ∷ stops (loosened by (rules_at rules places)))) q.0 (subst (λ (vs : List ℕ). Distinct (t.start ∷ vs)) (sym (stops_loosened by (rules_at rules places))) t.simple.once);
          };
          below = omega (arith, ints);
        })
        (λ z. absurd (omega (arith, ints)))
        (start_of t.start j from).1

    pub explored : Explored by rules rule prices s.labels s.parents
    explored = record { exact = exact; forest = found.forest; mends = mended; rings = closes }
