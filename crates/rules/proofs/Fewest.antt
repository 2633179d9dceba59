-- Shortest chains with fewest rules, with fewest limits below 0, and the rounds. Assumes nothing.
use Rattle.std.proofs.Common.{◌≡◌, ℕ, ◌-◌, ◌<◌, ◌≤◌, List, [], ◌∷◌, length, ℤ, pos, negsuc, neg_ℤ, ◌≤ℤ◌, refl, inl, inr, ⊎_elim, arith}
use Rattle.std.proofs.lemmas.Int.{ints, by_lt_z}
use Rattle.rules.specs.declared.records.Rule.{Rule}
use Rattle.rules.specs.Meets.{EventsBelow}
use Rattle.rules.specs.Chains.{Chain, sum, Reaches}
use Rattle.rules.specs.Rings.{NegativeRingFrom}
use Rattle.rules.specs.Distances.{Shortest, FewestRules, below_zero, negatives, FewestNegatives, Rounds}
use Rattle.rules.proofs.Along.{ends_below}
use Rattle.rules.proofs.Shorten.{Short, shorten}
use Rattle.rules.proofs.Lengths.{few}
use Rattle.rules.proofs.Least.{Least, Over, least_path, least_below}
use Rattle.rules.proofs.Reach.{Bound, events_bound, decide_chain, short_within, decide_reach}
use Rattle.rules.proofs.Distances.{distance_excludes_ring, distance_from}

-- a shortest chain, shortened, is a shortest chain
pub short_shortest : (rules : List Rule) (a b : ℕ) (path : List Rule) → Shortest rules a b path → (s : Short rules a b path) × Shortest rules a b s.short
short_shortest rules a b path p =
    let s = shorten rules a b path p.chain in
    let h : sum s.short ≤ℤ sum path = ⊎_elim (λ g. absurd (distance_excludes_ring rules a b (sum path) (path, p, refl) g)) (λ l. l) s.sums in
    (s, record { chain = s.chain; least = λ q c. let l = p.least q c in omega (arith, ints) })

-- of the shortest chains, one has the least count, if shortening a chain leaves no larger one
fewest_by : (count : List Rule → ℕ) (rules : List Rule) (a b : ℕ) → ((path : List Rule) (s : Short rules a b path) → count s.short ≤ count path) → (path : List Rule) → Shortest rules a b path → (best : List Rule) × Shortest rules a b best × ((q : List Rule) → Shortest rules a b q → count best ≤ count q)
fewest_by count rules a b falls path p = pick (events_bound rules a b)
  where
    Best : Type 0
    Best = (best : List Rule) × Shortest rules a b best × ((q : List Rule) → Shortest rules a b q → count best ≤ count q)

    AsShort : List Rule → Type 0
    AsShort q = Chain rules a b q × (sum q ≤ℤ sum path)

    decide : (q : List Rule) → Over rules q → Dec (AsShort q)
    decide q o = by_lt_z (sum path) (sum q) (λ h. no (λ k. let l = k.1 in omega (arith, ints))) (λ h. and h (decide_chain rules a b q o))
      where
        and : sum q ≤ℤ sum path → Dec (Chain rules a b q) → Dec (AsShort q)
        and h (yes c) = yes (c, h)
        and h (no n) = no (λ k. n k.0)

    pick : Bound rules a b → Best
    pick (n, w, h, _) = answer (least_path rules n AsShort decide (λ q. pos (count q)))
      where
        Of : List Rule → Type 0
        Of q = Over rules q × (length q ≤ n) × AsShort q

        within : (q : List Rule) → Shortest rules a b q → (s : Short rules a b q) × Of s.short
        within q m =
            let (s, k) = short_shortest rules a b q m in
            let o = short_within rules n w a b h q s in
            (s, (o.0, o.1, (o.2, k.least path p.chain)))

        answer : Least Of (λ q. pos (count q)) → Best
        answer (inl none) = let s = within path p in absurd (none (s.0.short, s.1))
        answer (inr (best, (o, l, (c, e)), least)) = (
          best,
          record { chain = c; least = λ q k. let m = p.least q k in omega (arith, ints) },
          λ q m.
              let (s, i) = within q m in
              let j = least s.short i in
              let f = falls q s in
              omega (arith, ints),
        )

module _ (rules : List Rule) (a b : ℕ) (path : List Rule) (p : Shortest rules a b path) where
  pub fewest_rules : (best : List Rule) × FewestRules rules a b best
  fewest_rules = let (best, s, f) = fewest_by length rules a b (λ q s. s.lengths) path p in (best, record { shortest = s; fewest = f })

  pub fewest_negatives : (k : ℕ) × FewestNegatives rules a b k
  fewest_negatives = let (best, s, f) = fewest_by negatives rules a b (λ q s. s.counts) path p in (negatives best, record { attained = (best, s, refl); fewest = f })

negatives_length : (path : List Rule) → negatives path ≤ length path
negatives_length [] = omega arith
negatives_length (r ∷ path) = let h = negatives_length path in let k = one r.limit in omega arith
  where
    one : (z : ℤ) → below_zero z ≤ 1
    one (pos n) = omega arith
    one (negsuc n) = omega arith

pub fewest_bound : (n : ℕ) (rules : List Rule) → EventsBelow n rules → (a b : ℕ) → a < n → (path : List Rule) → FewestRules rules a b path → length path < n
fewest_bound n rules w a b h path f =
    let (s, k) = short_shortest rules a b path f.shortest in
    let l = few rules n w a b s.short h s.chain s.once in
    let m = f.fewest s.short k in
    omega arith

pub rounds_bound : (n : ℕ) (rules : List Rule) → EventsBelow n rules → (source : ℕ) → source < n → (k : ℕ) → Rounds rules source k → k ≤ n - 1
rounds_bound n rules w source h k f =
    let (v, at) = f.attained in
    let (path, p, e) = at.attained in
    let (s, o) = short_shortest rules source v path p in
    let l = few rules n w source v s.short h s.chain s.once in
    let m = at.fewest s.short o in
    let c = negatives_length s.short in
    omega arith

pub rounds_alike : (rules : List Rule) (source j k : ℕ) → Rounds rules source j → Rounds rules source k → j ≡ k
rounds_alike rules source j k f g =
    let h = f.bound g.attained.0 k g.attained.1 in
    let l = g.bound f.attained.0 j f.attained.1 in
    omega arith

pub rounds_exist : (rules : List Rule) (source : ℕ) → ¬ NegativeRingFrom rules source → (k : ℕ) × Rounds rules source k
rounds_exist rules source none = pick (events_bound rules source source)
  where
    count : ℕ → ℤ
    count k = neg_ℤ (pos k)

    here : (v : ℕ) → Reaches rules source v → (k : ℕ) × FewestNegatives rules source v k
    here v r = let d = distance_from rules source none v r in fewest_negatives rules source v d.1.0 d.1.1

    each : (v : ℕ) → Dec (Reaches rules source v) → Least (FewestNegatives rules source v) count
    each v (no n) = inl (λ f. let (path, s, e) = f.1.attained in n (path, s.chain))
    each v (yes r) =
        let (k, f) = here v r in
        inr (k, f, λ j g. let (path, s, e) = f.attained in let l = g.fewest path s in omega (arith, ints))

    pick : Bound rules source source → (k : ℕ) × Rounds rules source k
    pick (n, w, h, _) = answer (least_below count n (FewestNegatives rules source) (λ v l. each v (decide_reach rules source v)))
      where
        Of : ℕ → Type 0
        Of k = (v : ℕ) × (v < n) × FewestNegatives rules source v k

        answer : Least Of count → (k : ℕ) × Rounds rules source k
        answer (inl nothing) = let (k, f) = here source ([], refl) in absurd (nothing (k, (source, h, f)))
        answer (inr (k, (v, l, f), least)) = (
          k,
          record {
            attained = (v, f);
            bound = λ u j g.
                let (path, s, e) = g.attained in
                let m = least j (u, ends_below rules n w source u path s.chain h, g) in
                omega (arith, ints);
          },
        )
