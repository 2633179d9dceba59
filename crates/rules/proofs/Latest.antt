-- The latest times that meet rules, from the sums of chains. Assumes nothing.
use Rattle.std.proofs.Common.{◌≡◌, ℕ, ◌<◌, ◌≤◌, ◌⊎◌, List, [], ◌∷◌, ◌++◌, length, ◌+ℤ◌, ◌≤ℤ◌, sym, refl, ap, subst, inl, inr, ⊎_elim, arith}
use mathlib.Core.List.Memᴰ
use Rattle.std.proofs.lemmas.Int.{ints}
use Rattle.rules.specs.declared.records.Rule.{Rule}
use Rattle.rules.specs.Meets.{◌∈◌, Times, lead, Meets, EventsBelow}
use Rattle.rules.specs.Chains.{Chain, sum}
use Rattle.rules.specs.Rings.{NegativeRing, NegativeRingBetween}
use Rattle.rules.specs.Settled.{NotAfter, Latest, Attained}
use Rattle.rules.proofs.Along.{along, join, sum_join, starts_below}
use Rattle.rules.proofs.Shorten.{Short, shorten}
use Rattle.rules.proofs.Lengths.{few}
use Rattle.rules.proofs.Least.{Least, Over, least_path}
use Rattle.rules.proofs.Reach.{chain_over, decide_chain}

pub latest_alike : (n : ℕ) (z : Times) (rules : List Rule) (s t : Times) → Latest n z rules s → Latest n z rules t → (v : ℕ) → v < n → s v ≡ t v
latest_alike n z rules s t a b v h =
    let p = a.late t b.meets b.early v h in
    let q = b.late s a.meets a.early v h in
    omega (arith, ints)

pub latest_by_chains : (n : ℕ) (z : Times) (rules : List Rule) (t : Times) → Meets rules t → NotAfter n z t → ((v : ℕ) → v < n → Attained n z rules t v) → Latest n z rules t
latest_by_chains n z rules t m e c = record {
  meets = m;
  early = e;
  late = λ s k l v h.
      let w = c v h in
      let p = along rules s k w.0 v w.1 w.3 in
      let q = l w.0 w.2 in
      let o = w.4 in
      omega (arith, ints);
}

-- times that are the least sums of chains of at most k rules, each from the time in z of the event where it starts
record ByChains (rules : List Rule) (z : Times) (k : ℕ) : Type 0 where
  times : Times
  attained : (v : ℕ) → (u : ℕ) × (path : List Rule) × Chain rules u v path × (times v ≡ z u +ℤ sum path)
  bound : (u v : ℕ) (path : List Rule) → Chain rules u v path → length path ≤ k → times v ≤ℤ (z u +ℤ sum path)

-- where a chain to v starts
start : ℕ → List Rule → ℕ
start v [] = v
start v (r ∷ path) = r.first

start_is : (rules : List Rule) (u v : ℕ) (path : List Rule) → Chain rules u v path → u ≡ start v path
unfolding start
start_is rules u v [] e = e
start_is rules u v (r ∷ path) (i, e, c) = e

by_chains : (rules : List Rule) (z : Times) (k : ℕ) → ByChains rules z k
by_chains rules z k = record { times = λ v. z (best v).0 +ℤ sum (best v).1; attained = λ v. ((best v).0, (best v).1, (best v).2, refl); bound = λ u v path c h. (best v).3 u path c h }
  where
    Best : ℕ → Type 0
    Best v = (u : ℕ) × (path : List Rule) × Chain rules u v path × ((u' : ℕ) (q : List Rule) → Chain rules u' v q → length q ≤ k → (z u +ℤ sum path) ≤ℤ (z u' +ℤ sum q))

    pick : (v : ℕ) → Least (λ path. Over rules path × (length path ≤ k) × Chain rules (start v path) v path) (λ path. z (start v path) +ℤ sum path) → Best v
    pick v (inl none) = absurd (none ([], (tt, omega arith, sym (start_is rules v v [] refl))))
    pick v (inr (path, s, h)) = (
      start v path,
      path,
      s.2,
      λ u q c l.
          let e = start_is rules u v q c in
          let e' : z u ≡ z (start v q) = ap z e in
          let b = h q (chain_over rules u v q c, l, subst (λ (x : ℕ). Chain rules x v q) e c) in
          omega (arith, ints),
    )

    best : (v : ℕ) → Best v
    best v = pick v (least_path rules k (λ path. Chain rules (start v path) v path) (λ path. decide_chain rules (start v path) v path) (λ path. z (start v path) +ℤ sum path))

-- what holds of each member or else G holds, holds of all or else G holds
every_or : (G : Type 0) (Q : Rule → Type 0) (rules : List Rule) → ((r : Rule) → r ∈ rules → G ⊎ Q r) → G ⊎ ((r : Rule) → r ∈ rules → Q r)
every_or G Q [] each = inr (λ r m. absurd (Memᴰ.not-nil m))
every_or G Q (q ∷ rules) each = pick (each q (Memᴰ.head refl)) (every_or G Q rules (λ r m. each r (Memᴰ.tail m)))
  where
    pick : G ⊎ Q q → G ⊎ ((r : Rule) → r ∈ rules → Q r) → G ⊎ ((r : Rule) → r ∈ (q ∷ rules) → Q r)
    pick (inl g) b = inl g
    pick (inr h) (inl g) = inl g
    pick (inr h) (inr k) = inr (λ r m. ⊎_elim (λ e. subst Q (sym e) h) (k r) (Memᴰ.cases_cons m))

-- either a ring is negative, or there are latest times, each the sum of a chain
module _ (n : ℕ) (rules : List Rule) (w : EventsBelow n rules) (z : Times) where
  met : (t : ByChains rules z n) (r : Rule) → r ∈ rules → NegativeRing rules ⊎ (lead t.times r.first r.second ≤ℤ r.limit)
  met t r m = pick s.sums
    where
      f : (u : ℕ) × (path : List Rule) × Chain rules u r.first path × (t.times r.first ≡ z u +ℤ sum path)
      f = t.attained r.first

      s : Short rules f.0 r.second (f.1 ++ r ∷ [])
      s = shorten rules f.0 r.second (f.1 ++ r ∷ []) (join rules f.0 r.first r.second f.1 (r ∷ []) f.2 (m, refl, refl))

      pick : NegativeRingBetween rules f.0 r.second ⊎ (sum s.short ≤ℤ sum (f.1 ++ r ∷ [])) → NegativeRing rules ⊎ (lead t.times r.first r.second ≤ℤ r.limit)
      pick (inl g) = inl (g.0, g.1)
      pick (inr k) =
          let h = starts_below rules n w f.0 r.first f.1 f.2 (w r m).0 in
          let l = few rules n w f.0 r.second s.short h s.chain s.once in
          let b = t.bound f.0 r.second s.short s.chain (omega arith) in
          let j = sum_join f.1 (r ∷ []) in
          let e = f.3 in
          inr (omega (arith, ints))

  pub latest_or_ring : NegativeRing rules ⊎ ((t : Times) × Latest n z rules t × ((v : ℕ) → v < n → Attained n z rules t v))
  latest_or_ring = pick (by_chains rules z n)
    where
      Found : Type 0
      Found = (t : Times) × Latest n z rules t × ((v : ℕ) → v < n → Attained n z rules t v)

      pick : ByChains rules z n → NegativeRing rules ⊎ Found
      pick t = ⊎_elim inl (λ m. inr (t.times, latest_by_chains n z rules t.times m early attained, attained)) (every_or (NegativeRing rules) _ rules (met t))
        where
          early : NotAfter n z t.times
          early v h = let b = t.bound v v [] refl (omega arith) in omega (arith, ints)

          attained : (v : ℕ) → v < n → Attained n z rules t.times v
          attained v h = let f = t.attained v in (f.0, f.1, starts_below rules n w f.0 v f.1 f.2 h, f.2, f.3)
