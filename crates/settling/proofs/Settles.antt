-- A search in which each event waits under its price's opposite comes to the settled times. Assumes nothing.
use Rattle.std.proofs.Common.{◌≡◌, ℕ, zero, suc, ◌+◌, ◌*◌, ◌<◌, ◌≤◌, ◌≢◌, List, [], ◌∷◌, length, ℤ, pos, ◌+ℤ◌, neg_ℤ, nat_abs, ◌≤ℤ◌, Some, sym, refl, ap, ◌∙◌, subst, inl, ⊎_elim, arith}
use mathlib.Core.List.Memᴰ
use Rattle.std.proofs.lemmas.Int.{ints}
use Rattle.delays.specs.Numbers.{Millis, amount}
use Rattle.delays.specs.Exactness.{exact_size}
use Rattle.rules.specs.declared.records.Rule.{Rule}
use Rattle.rules.specs.Meets.{◌∈◌, at}
use Rattle.rules.specs.Prices.{loosened}
use Rattle.rules.specs.Settled.{NotAfter, Settled, Attained}
use Rattle.rules.proofs.Lengths.{at_most}
use Rattle.rules.proofs.Latest.{latest_by_chains}
use Rattle.search.specs.Networks.{Labelling, label_of, Waits, events_of}
use Rattle.search.specs.Searches.{Within, Exact, Searched}
use Rattle.search.proofs.Keys.{same}
use Rattle.settling.specs.Sizes.{price_size, Limited, Sized}
use Rattle.settling.specs.Weights.{Weighed, Opposed, Raised, raised}
use Rattle.settling.proofs.Reductions.{net, not_below, labelled_below, weight_size, weight_within, labels_meet, labels_attained}

-- xs without one x
less_one : (x : ℕ) (xs : List ℕ) → x ∈ xs → (ys : List ℕ) × (length xs ≡ suc (length ys)) × ((v : ℕ) → v ∈ xs → v ≢ x → v ∈ ys)
less_one x [] m = absurd (Memᴰ.not-nil m)
less_one x (y ∷ xs) m = ⊎_elim
    (λ e. (xs, refl, λ v k ne. ⊎_elim (λ q. absurd (ne (q ∙ sym e))) (λ j. j) (Memᴰ.cases_cons k)))
    (λ k. let f = less_one x xs k in (y ∷ f.0, ap suc f.1, λ v j ne. ⊎_elim (λ q. Memᴰ.head q) (λ i. Memᴰ.tail (f.2 v i ne)) (Memᴰ.cases_cons j)))
    (Memᴰ.cases_cons m)

-- a list in which every number below n stands has at least n entries
at_least : (n : ℕ) (xs : List ℕ) → ((v : ℕ) → v < n → v ∈ xs) → n ≤ length xs
at_least zero xs all = omega arith
at_least (suc n) xs all =
    let f = less_one n xs (all n (omega arith)) in
    let h = at_least n f.0 (λ v l. f.2 v (all v (omega arith)) (λ e. omega arith)) in
    omega (arith, f.1)

opposite_within : (z : ℤ) → nat_abs z ≤ price_size → nat_abs (neg_ℤ z) ≤ price_size
opposite_within z h = omega (arith, ints)

module _ (by : ℤ) (rules : List Rule) (prices : List ℤ) (weights : List Millis) (weighed : Weighed by rules prices weights) (limited : Limited by rules) (sized : Sized rules prices)
    (start : Labelling Millis) (long : events_of start ≡ length prices) (opposed : Opposed prices start.labels) where
  pub start_within : Within (net by rules prices weights weighed) start price_size weight_size
  start_within = record {
    labels = λ v k e.
        let h : v < length prices = let l = labelled_below start.labels v k e in omega arith in
        subst (λ (m : Millis). nat_abs m.0 ≤ price_size) (same (sym (opposed v h) ∙ e)) (opposite_within (at prices v) (sized.prices_within v));
    weights = weight_within by rules prices weights weighed limited sized;
  }

  pub start_exact : Exact (net by rules prices weights weighed) start
  start_exact = record { b = price_size; w = weight_size; within = start_within; room = let few = sized.few_events in omega arith }

  module _ (s : Labelling Millis) (found : Searched (net by rules prices weights weighed) start s) where
    few_taken : length found.taken ≤ length prices
    few_taken = at_most (length prices) found.taken found.once (λ v m. let h = found.below v m in omega arith)

    pub labels_exact : (v : ℕ) (k : Millis) → label_of s v ≡ Some k → nat_abs k.0 ≤ exact_size
    labels_exact v k e =
        let h : nat_abs k.0 ≤ price_size + weight_size * length found.taken = found.sized price_size weight_size start_within v k e in
        let few = sized.few_events in
        let taken = few_taken in
        omega arith

    pub all_taken : ((v : ℕ) → v < length prices → Waits start v) → length found.taken ≡ length prices
    all_taken waits =
        let least = at_least (length prices) found.taken (λ v h. (found.exactly v).1 (inl (waits v h))) in
        let most = few_taken in
        omega arith

    low : (v : ℕ) → v < length prices → (k : Millis) × (label_of s v ≡ Some k) × (k.0 ≤ℤ neg_ℤ (at prices v))
    low v h =
        let f = found.least v v [] (amount (neg_ℤ (at prices v))) refl (opposed v h) in
        let b = not_below (neg_ℤ (at prices v) +ℤ pos 0) f.0.0 f.2 in
        (f.0, f.1, omega (arith, ints))

    module _ (times : List ℤ) (is : Raised prices s.labels times) where
      time_of : (v : ℕ) (k : Millis) → v < length prices → label_of s v ≡ Some k → at times v ≡ k.0 +ℤ at prices v
      time_of v k h e = is v h ∙ ap (λ o. raised o (at prices v)) e

      known : (v : ℕ) → v < length prices → (k : Millis) × (label_of s v ≡ Some k)
      known v h = let f = low v h in (f.0, f.1)

      early : NotAfter (length prices) (λ v. pos 0) (at times)
      early v h = let f = low v h in let a = time_of v f.0 h f.1 in let b = f.2 in omega (arith, ints)

      attained : (v : ℕ) → v < length prices → Attained (length prices) (λ v. pos 0) (loosened by rules) (at times) v
      attained v h =
          let (u, key, path, from, chain, sums) = labels_attained by rules prices weights weighed sized start s found (at times) time_of known v h in
          let lt : u < length prices = let l = labelled_below start.labels u key from in omega arith in
          let k : neg_ℤ (at prices u) ≡ key.0 = ap (λ (m : Millis). m.0) (same (sym (opposed u lt) ∙ from)) in
          (u, path, lt, chain, omega (arith, ints))

      pub settles : Settled (length prices) (loosened by rules) (at times)
      settles = latest_by_chains (length prices) (λ v. pos 0) (loosened by rules) (at times) (labels_meet by rules prices weights weighed sized start s found (at times) time_of known) early attained
