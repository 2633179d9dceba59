-- The largest lead of one event over another is the distance between them. Assumes nothing.
use Rattle.std.proofs.Common.{◌≡◌, ℕ, ◌<◌, ◌⊎◌, ◌↔◌, List, ℤ, pos, ◌+ℤ◌, ◌-ℤ◌, ◌≤ℤ◌, refl, ap, subst, inl, inr, arith}
use native.Mathlib.Decide.{ℕ_discrete}
use Rattle.std.proofs.lemmas.Int.{ints}
use Rattle.rules.specs.declared.records.Rule.{Rule}
use Rattle.rules.specs.Meets.{Times, lead, Meets, Meetable}
use Rattle.rules.specs.Chains.{Chain, sum, Reaches}
use Rattle.rules.specs.Settled.{Latest, Settled, Attained}
use Rattle.rules.specs.Leads.{LargestLead, Open}
use Rattle.rules.specs.Distances.{Distance, Unreached}
use Rattle.rules.proofs.Along.{along, no_negative_ring}
use Rattle.rules.proofs.Reach.{Bound, events_bound, decide_reach}
use Rattle.rules.proofs.Decided.{latest_exists}
use Rattle.rules.proofs.Distances.{distance_from}

-- 0 at a, and high at every other event
at_only : (a : ℕ) (high : ℤ) (v : ℕ) → Dec (v ≡ a) → ℤ
at_only a high v (yes e) = pos 0
at_only a high v (no n) = high

from : ℕ → ℤ → Times
from a high v = at_only a high v (ℕ_discrete v a)

from_there : (a : ℕ) (high : ℤ) → from a high a ≡ pos 0
unfolding from at_only
from_there a high = pick (ℕ_discrete a a)
  where
    pick : (d : Dec (a ≡ a)) → at_only a high a d ≡ pos 0
    pick (yes e) = refl
    pick (no n) = absurd (n refl)

from_cases : (a : ℕ) (high : ℤ) (v : ℕ) → (v ≡ a) ⊎ (from a high v ≡ high)
unfolding from at_only
from_cases a high v = pick (ℕ_discrete v a)
  where
    pick : (d : Dec (v ≡ a)) → (v ≡ a) ⊎ (at_only a high v d ≡ high)
    pick (yes e) = inl e
    pick (no n) = inr refl

module _ (rules : List Rule) (meetable : Meetable rules) (a b : ℕ) where
  -- where every chain allows the lead g, some times have it or a larger one: the latest times with a not after 0 and the others far off
  leads_by : (g : ℤ) → ((path : List Rule) → Chain rules a b path → g ≤ℤ sum path) → (t : Times) × Meets rules t × (g ≤ℤ lead t a b)
  leads_by g allowed = pick (events_bound rules a b)
    where
      Answer : Type 0
      Answer = (t : Times) × Meets rules t × (g ≤ℤ lead t a b)

      pick : Bound rules a b → Answer
      pick (n, w, h, k) = settled (latest_exists n rules w meetable (λ v. pos 0))
        where
          settled : ((s : Times) × Settled n rules s × ((v : ℕ) → v < n → Attained n (λ v. pos 0) rules s v)) → Answer
          settled (s, l, _) = far (latest_exists n rules w meetable (from a (g -ℤ s b)))
            where
              z : Times
              z = from a (g -ℤ s b)

              reached : (t : Times) (u : ℕ) (path : List Rule) → t a ≤ℤ pos 0 → u < n → Chain rules u b path → (t b ≡ z u +ℤ sum path) → (u ≡ a) ⊎ (z u ≡ g -ℤ s b) → g ≤ℤ lead t a b
              reached t u path e i c o (inl same) =
                  let f = allowed path (subst (λ (x : ℕ). Chain rules x b path) same c) in
                  let m : z u ≡ z a = ap z same in
                  let j = from_there a (g -ℤ s b) in
                  omega (arith, ints)
              reached t u path e i c o (inr other) =
                  let f = along rules s l.meets u b path c in
                  let m = l.early u i in
                  omega (arith, ints)

              far : ((t : Times) × Latest n z rules t × ((v : ℕ) → v < n → Attained n z rules t v)) → Answer
              far (t, m, attained) =
                  let o = attained b k in
                  let e : t a ≤ℤ pos 0 = let f = m.early a h in let j = from_there a (g -ℤ s b) in omega (arith, ints) in
                  (t, m.meets, reached t o.0 o.1 e o.2 o.3 o.4 (from_cases a (g -ℤ s b) o.0))

  pub open_exactly : Open rules a b ↔ Unreached rules a b
  open_exactly = (
    λ far chain.
        (let t = far (sum chain.0) in
        let h = along rules t.0 t.1 a b chain.0 chain.1 in
        let k = t.2 in
        omega (arith, ints)),
    λ none g. let t = leads_by (g +ℤ pos 1) (λ path c. absurd (none (path, c))) in let k = t.2 in (t.0, t.1, omega (arith, ints)),
  )

  pub largest_from_distance : (g : ℤ) → Distance rules a b g → LargestLead rules a b g
  largest_from_distance g (path, s, e) =
      let t = leads_by g (λ q c. let l = s.least q c in omega (arith, ints)) in
      let top : (o : Times) → Meets rules o → lead o a b ≤ℤ g = λ o m. (let h = along rules o m a b path s.chain in omega (arith, ints)) in
      record { bound = top; attained = (t.0, t.1, let h = top t.0 t.1 in let k = t.2 in omega (arith, ints)) }

  distance_there : Reaches rules a b → (g : ℤ) × Distance rules a b g
  distance_there p = distance_from rules a (λ g. no_negative_ring rules meetable.0 meetable.1 (g.0, g.1)) b p

  pub lead_decided : ((g : ℤ) × LargestLead rules a b g) ⊎ Open rules a b
  lead_decided = pick (decide_reach rules a b)
    where
      pick : Dec (Reaches rules a b) → ((g : ℤ) × LargestLead rules a b g) ⊎ Open rules a b
      pick (no none) = inr (open_exactly.1 none)
      pick (yes p) = let d = distance_there p in inl (d.0, largest_from_distance d.0 d.1)

  pub not_both : (g : ℤ) → LargestLead rules a b g → ¬ Open rules a b
  not_both g l far = let t = far g in let h = l.bound t.0 t.1 in let k = t.2 in omega (arith, ints)

  pub largest_exactly : (g : ℤ) → LargestLead rules a b g ↔ Distance rules a b g
  largest_exactly g = (λ l. pick l (decide_reach rules a b), largest_from_distance g)
    where
      pick : LargestLead rules a b g → Dec (Reaches rules a b) → Distance rules a b g
      pick l (no none) = absurd (not_both g l (open_exactly.1 none))
      pick l (yes p) =
          let d = distance_there p in
          let m = largest_from_distance d.0 d.1 in
          let h = l.bound m.attained.0 m.attained.1 in
          let h' = m.attained.2 in
          let k = m.bound l.attained.0 l.attained.1 in
          let k' = l.attained.2 in
          let e : d.0 ≡ g = omega (arith, ints) in
          subst (Distance rules a b) e d.1

  pub no_largest : (¬ ((g : ℤ) × LargestLead rules a b g)) ↔ Unreached rules a b
  no_largest = (
    λ none p. (let d = distance_there p in none (d.0, largest_from_distance d.0 d.1)),
    λ none l. not_both l.0 l.1 (open_exactly.1 none),
  )
