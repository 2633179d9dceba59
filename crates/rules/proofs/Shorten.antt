-- Closed parts of a chain, taken out of it. Assumes nothing.
use Rattle.std.proofs.Common.{◌≡◌, ℕ, ◌≤◌, ◌⊎◌, List, [], ◌∷◌, length, pos, ◌+ℤ◌, ◌≤ℤ◌, sym, refl, subst, inl, inr, arith}
use mathlib.Core.List.Memᴰ
use native.Mathlib.Decide.{ℕ_discrete}
use Rattle.std.proofs.lemmas.Int.{ints, by_lt_z}
use Rattle.rules.specs.declared.records.Rule.{Rule}
use Rattle.rules.specs.Meets.{◌∈◌}
use Rattle.rules.specs.Chains.{Chain, sum, stops, Distinct}
use Rattle.rules.specs.Rings.{Ring, NegativeRingBetween}
use Rattle.rules.specs.Distances.{negatives}

pub among : (a : ℕ) (xs : List ℕ) → Dec (a ∈ xs)
among a [] = no Memᴰ.not-nil
among a (x ∷ xs) = pick (ℕ_discrete a x) (among a xs)
  where
    pick : Dec (a ≡ x) → Dec (a ∈ xs) → Dec (a ∈ (x ∷ xs))
    pick (yes e) d = yes (Memᴰ.head e)
    pick (no e) (yes m) = yes (Memᴰ.tail m)
    pick (no e) (no m) = no (λ k. neither (Memᴰ.cases_cons k))
      where
        neither : (a ≡ x) ⊎ a ∈ xs → ⊥
        neither (inl h) = e h
        neither (inr h) = m h

-- a chain from x to b that visits no event twice, parted at its event a
record Parts (rules : List Rule) (x a b : ℕ) (path : List Rule) : Type 0 where
  front : List Rule
  back : List Rule
  to_a : Chain rules x a front
  from_a : Chain rules a b back
  sums : sum path ≡ sum front +ℤ sum back
  lengths : length back ≤ length path
  counts : negatives back ≤ negatives path
  within : (v : ℕ) → v ∈ stops front → v ∈ stops path
  once_front : Distinct (stops front)
  once_back : Distinct (a ∷ stops back)

part : (rules : List Rule) (x a b : ℕ) (path : List Rule) → Chain rules x b path → Distinct (x ∷ stops path) → (a ≡ x) ⊎ a ∈ stops path → Parts rules x a b path
part rules x a b path c d (inl e) = record {
  front = [];
  back = path;
  to_a = sym e;
  from_a = subst (λ (y : ℕ). Chain rules y b path) (sym e) c;
  sums = omega (arith, ints);
  lengths = omega arith;
  counts = omega arith;
  within = λ v m. absurd (Memᴰ.not-nil m);
  once_front = tt;
  once_back = subst (λ (y : ℕ). Distinct (y ∷ stops path)) (sym e) d;
}
part rules x a b [] c d (inr m) = absurd (Memᴰ.not-nil m)
part rules x a b (r ∷ path) c d (inr m) =
    let p = part rules r.second a b path c.2 d.1 (Memᴰ.cases_cons m) in
    record {
      front = r ∷ p.front;
      back = p.back;
      to_a = (c.0, c.1, p.to_a);
      from_a = p.from_a;
      sums = let h = p.sums in omega (arith, ints);
      lengths = let h = p.lengths in omega arith;
      counts = let h = p.counts in omega arith;
      within = λ v k. later v (p.within v) (Memᴰ.cases_cons k);
      once_front = (λ k. d.1.0 (p.within r.second k), p.once_front);
      once_back = p.once_back;
    }
  where
    later : (v : ℕ) {xs ys : List ℕ} → (v ∈ xs → v ∈ ys) → (v ≡ r.second) ⊎ v ∈ xs → v ∈ (r.second ∷ ys)
    later v f (inl h) = Memᴰ.head h
    later v f (inr h) = Memᴰ.tail (f h)

-- a chain with the ends of the path that visits no event twice; its sum is no larger, or a negative ring is on the way
pub record Short (rules : List Rule) (a b : ℕ) (path : List Rule) : Type 0 where
  pub short : List Rule
  pub chain : Chain rules a b short
  pub once : Distinct (a ∷ stops short)
  pub sums : NegativeRingBetween rules a b ⊎ (sum short ≤ℤ sum path)
  pub lengths : length short ≤ length path
  pub counts : negatives short ≤ negatives path

pub shorten : (rules : List Rule) (a b : ℕ) (path : List Rule) → Chain rules a b path → Short rules a b path
shorten rules a b [] e = record { short = []; chain = e; once = (Memᴰ.not-nil, tt); sums = inr (omega (arith, ints)); lengths = omega arith; counts = omega arith }
shorten rules a b (r ∷ path) (i, e, c) = step (shorten rules r.second b path c)
  where
    -- what is known of the rest holds with a rule in front
    further : {P Q : Type 0} → (P → Q) → NegativeRingBetween rules r.second b ⊎ P → NegativeRingBetween rules a b ⊎ Q
    further f (inl (p, g, to, from)) = inl (p, g, (r ∷ to.0, (i, e, to.1)), from)
    further f (inr h) = inr (f h)

    found : (s : Short rules r.second b path) → Dec (a ∈ (r.second ∷ stops s.short)) → Short rules a b (r ∷ path)
    found s (no m) =
        let l = s.lengths in
        let n = s.counts in
        record {
          short = r ∷ s.short;
          chain = (i, e, s.chain);
          once = (m, s.once);
          sums = further (λ h. omega (arith, ints)) s.sums;
          lengths = omega arith;
          counts = omega arith;
        }
    found s (yes m) =
        let p = part rules r.second a b s.short s.chain s.once (Memᴰ.cases_cons m) in
        let l = s.lengths in
        let n = s.counts in
        let l' = p.lengths in
        let n' = p.counts in
        let u = p.sums in
        record {
          short = p.back;
          chain = p.from_a;
          once = p.once_back;
          sums =
              by_lt_z (sum (r ∷ p.front)) (pos 0)
              (λ h.
              let ring : Ring rules a (r ∷ p.front) = record { chain = (i, e, p.to_a); some = omega arith; once = (λ k. s.once.0 (p.within r.second k), p.once_front) } in
              inl (r ∷ p.front, record { start = a; ring = ring; below = h }, ([], refl), (p.back, p.from_a)))
              (λ h. further (λ k. omega (arith, ints)) s.sums);
          lengths = omega arith;
          counts = omega arith;
        }

    step : Short rules r.second b path → Short rules a b (r ∷ path)
    step s = found s (among a (r.second ∷ stops s.short))
