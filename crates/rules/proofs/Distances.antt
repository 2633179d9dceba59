-- Shortest chains, and distances. Assumes nothing.
use Rattle.std.proofs.Common.{◌≡◌, ℕ, zero, suc, ◌≤◌, ◌⊎◌, ◌↔◌, List, [], ◌∷◌, ◌++◌, length, ℤ, pos, negsuc, ◌+ℤ◌, ◌-ℤ◌, neg_ℤ, ◌≤ℤ◌, ◌<ℤ◌, sym, refl, subst, inl, inr, ⊎_elim, arith}
use Rattle.std.proofs.lemmas.Int.{ints, by_lt_z}
use Rattle.rules.specs.declared.records.Rule.{Rule}
use Rattle.rules.specs.Meets.{◌∈◌, Times, lead, Meets}
use Rattle.rules.specs.Chains.{Chain, sum, Reaches}
use Rattle.rules.specs.Rings.{Negative, NegativeRingFrom, NegativeRingBetween}
use Rattle.rules.specs.Distances.{Shortest, Distance, Unreached, MeetableFrom}
use Rattle.rules.proofs.Along.{along, join, sum_join}
use Rattle.rules.proofs.Shorten.{shorten}
use Rattle.rules.proofs.Least.{Least, Over, least_path}
use Rattle.rules.proofs.Reach.{Bound, events_bound, decide_chain, short_within, decide_reach}
use Rattle.rules.proofs.Decided.{closed_holds_ring}
use Rattle.rules.proofs.Among.{MeetableAmong, NegativeRingAmong, on_chain, reach_on, starts_with, ring_unmet, decided_among}

pub distance_alike : (rules : List Rule) (a b : ℕ) (d e : ℤ) → Distance rules a b d → Distance rules a b e → d ≡ e
distance_alike rules a b d e (p, s, i) (q, t, j) =
    let h = s.least q t.chain in
    let k = t.least p s.chain in
    omega (arith, ints)

-- a chain as short as the lead that some times have is a shortest one
pub shortest_by_times : (rules : List Rule) (t : Times) → Meets rules t → (a b : ℕ) (path : List Rule) → Chain rules a b path → sum path ≤ℤ lead t a b → Shortest rules a b path
shortest_by_times rules t m a b path c h = record { chain = c; least = λ q k. let l = along rules t m a b q k in omega (arith, ints) }

-- a negative ring, so many times over
repeated : (rules : List Rule) (a : ℕ) (path : List Rule) → Chain rules a a path → sum path <ℤ pos 0 → (k : ℕ) → (many : List Rule) × Chain rules a a many × (sum many ≤ℤ neg_ℤ (pos k))
repeated rules a path c h zero = ([], refl, omega (arith, ints))
repeated rules a path c h (suc k) =
    let m = repeated rules a path c h k in
    let l = m.2 in
    (path ++ m.0, join rules a a a path m.0 c m.1, let s = sum_join path m.0 in omega (arith, ints))

above : (d : ℤ) → (k : ℕ) × (d <ℤ pos k)
above (pos n) = (suc n, omega (arith, ints))
above (negsuc n) = (zero, omega (arith, ints))

pub distance_excludes_ring : (rules : List Rule) (a b : ℕ) (d : ℤ) → Distance rules a b d → ¬ NegativeRingBetween rules a b
distance_excludes_ring rules a b d (p, s, e) (path, g, (to, c), (from, c')) =
    let k = above ((sum to +ℤ sum from) -ℤ sum p) in
    let m = repeated rules g.start path g.ring.chain g.below k.0 in
    let l = s.least (to ++ (m.0 ++ from)) (join rules a g.start b to (m.0 ++ from) c (join rules g.start g.start b m.0 from m.1 c')) in
    let i = sum_join to (m.0 ++ from) in
    let j = sum_join m.0 from in
    let h = k.1 in
    let h' = m.2 in
    omega (arith, ints)

pub shortest_exists : (rules : List Rule) (a b : ℕ) → ¬ NegativeRingBetween rules a b → Reaches rules a b → (path : List Rule) × Shortest rules a b path
shortest_exists rules a b none (path, c) = pick (events_bound rules a b)
  where
    pick : Bound rules a b → (path : List Rule) × Shortest rules a b path
    pick (n, w, h, k) = answer (least_path rules n (Chain rules a b) (decide_chain rules a b) sum)
      where
        Of : List Rule → Type 0
        Of q = Over rules q × (length q ≤ n) × Chain rules a b q

        short : (q : List Rule) → Chain rules a b q → (s : List Rule) × Of s × (sum s ≤ℤ sum q)
        short q i = let s = shorten rules a b q i in (s.short, short_within rules n w a b h q s, ⊎_elim (λ g. absurd (none g)) (λ l. l) s.sums)

        answer : Least Of sum → (path : List Rule) × Shortest rules a b path
        answer (inl nothing) = let s = short path c in absurd (nothing (s.0, s.1))
        answer (inr (p, o, least)) = (p, record { chain = o.2; least = λ q i. let s = short q i in let m = least s.0 s.1 in let l = s.2 in omega (arith, ints) })

-- whether a negative ring is on the way
pub decide_ring_between : (rules : List Rule) (a b : ℕ) → Dec (NegativeRingBetween rules a b)
decide_ring_between rules a b = answer (decided_among Between decide rules)
  where
    Between : Rule → Type 0
    Between r = Reaches rules a r.first × Reaches rules r.second b

    decide : (r : Rule) → Dec (Between r)
    decide r = pick (decide_reach rules a r.first) (decide_reach rules r.second b)
      where
        pick : Dec (Reaches rules a r.first) → Dec (Reaches rules r.second b) → Dec (Between r)
        pick (yes p) (yes q) = yes (p, q)
        pick (yes p) (no n) = no (λ d. n d.1)
        pick (no n) q = no (λ d. n d.0)

    answer : MeetableAmong Between rules ⊎ NegativeRingAmong Between rules → Dec (NegativeRingBetween rules a b)
    answer (inl (t, m)) = no (λ g.
        let u = g.1.start in
        ring_unmet rules g.0 t g.1 (λ r i.
        let o = on_chain rules u u g.0 g.1.ring.chain r i in
        m r o.0 (reach_on rules a u r.first g.2 o.1, reach_on rules r.second u b o.2 g.3)))
    answer (inr (path, g, all)) =
        let (r, i, e) = starts_with rules g.start g.start path g.ring.chain g.ring.some in
        let on = on_chain rules g.start g.start path g.ring.chain r i in
        let w = all r i in
        yes (path, g, subst (Reaches rules a) (sym e) w.0, (r ∷ w.1.0, (on.0, e, w.1.1)))

pub distances_decided : (rules : List Rule) (a b : ℕ) → Unreached rules a b ⊎ (((d : ℤ) × Distance rules a b d) ⊎ NegativeRingBetween rules a b)
distances_decided rules a b = pick (decide_reach rules a b) (decide_ring_between rules a b)
  where
    pick : Dec (Reaches rules a b) → Dec (NegativeRingBetween rules a b) → Unreached rules a b ⊎ (((d : ℤ) × Distance rules a b d) ⊎ NegativeRingBetween rules a b)
    pick (no n) g = inl n
    pick (yes p) (yes g) = inr (inr g)
    pick (yes p) (no none) = let s = shortest_exists rules a b none p in inr (inl (sum s.0, (s.0, s.1, refl)))

pub no_shortest_exactly : (rules : List Rule) (a b : ℕ) → (Reaches rules a b × (¬ ((d : ℤ) × Distance rules a b d))) ↔ NegativeRingBetween rules a b
no_shortest_exactly rules a b = (
  λ (p, none). pick p none (distances_decided rules a b),
  λ g. (reach_on rules a g.1.start b g.2 g.3, λ d. distance_excludes_ring rules a b d.0 d.1 g),
)
  where
    pick : Reaches rules a b → ¬ ((d : ℤ) × Distance rules a b d) → Unreached rules a b ⊎ (((d : ℤ) × Distance rules a b d) ⊎ NegativeRingBetween rules a b) → NegativeRingBetween rules a b
    pick p none (inl n) = absurd (n p)
    pick p none (inr (inl d)) = absurd (none d)
    pick p none (inr (inr g)) = g

pub distance_from : (rules : List Rule) (source : ℕ) → ¬ NegativeRingFrom rules source → (v : ℕ) → Reaches rules source v → (d : ℤ) × Distance rules source v d
distance_from rules source none v p = let s = shortest_exists rules source v (λ g. none (g.0, g.1, g.2)) p in (sum s.0, (s.0, s.1, refl))

source_at_zero : (rules : List Rule) (source : ℕ) → ¬ NegativeRingFrom rules source → Distance rules source source (pos 0)
source_at_zero rules source none = ([], record { chain = refl; least = λ q c. by_lt_z (sum q) (pos 0) (λ h. let g = closed_holds_ring rules source q c h in absurd (none (g.0, g.1, g.2))) (λ h. h) }, refl)

pub source_distances : (rules : List Rule) (source : ℕ) → ¬ NegativeRingFrom rules source → Distance rules source source (pos 0) × ((v : ℕ) → Reaches rules source v → (d : ℤ) × Distance rules source v d)
source_distances rules source none = (source_at_zero rules source none, distance_from rules source none)

-- either times meet the rules that concern the source or it reaches a negative ring, and never both
pub decided_from : (rules : List Rule) (source : ℕ) → MeetableFrom rules source ⊎ NegativeRingFrom rules source
decided_from rules source = ⊎_elim inl (λ g. inr (g.0, g.1, reached g.0 g.1 g.2)) (decided_among (λ r. Reaches rules source r.first) (λ r. decide_reach rules source r.first) rules)
  where
    reached : (path : List Rule) (g : Negative rules path) → ((r : Rule) → r ∈ path → Reaches rules source r.first) → Reaches rules source g.start
    reached path g all =
        let (r, i, e) = starts_with rules g.start g.start path g.ring.chain g.ring.some in
        subst (Reaches rules source) (sym e) (all r i)

excluded_from : (rules : List Rule) (source : ℕ) → MeetableFrom rules source → ¬ NegativeRingFrom rules source
excluded_from rules source (t, m) (path, g, to) =
    ring_unmet rules path t g (λ r i.
    let o = on_chain rules g.start g.start path g.ring.chain r i in
    m r o.0 (reach_on rules source g.start r.first to o.1))

pub sources_exactly : (rules : List Rule) (source : ℕ) → MeetableFrom rules source ↔ (¬ NegativeRingFrom rules source)
sources_exactly rules source = (excluded_from rules source, λ none. ⊎_elim (λ t. t) (λ g. absurd (none g)) (decided_from rules source))
