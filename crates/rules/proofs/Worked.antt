-- The small books worked by hand. Assumes nothing.
use Rattle.std.proofs.Common.{◌≡◌, ℕ, zero, suc, ◌+◌, ◌<◌, ◌≤◌, ◌⊎◌, List, [], ◌∷◌, ◌++◌, length, ℤ, pos, negsuc, ◌+ℤ◌, ◌≤ℤ◌, sym, refl, ap, ◌∙◌, inl, inr, ⊎_elim, arith, length-append}
use mathlib.Core.List.Memᴰ
use lib.Signed.{le_z_yes, lt_z_yes}
use Rattle.std.specs.List.{AllByRecursion}
use Rattle.std.proofs.lemmas.Int.{ints}
use Rattle.rules.specs.declared.records.Rule.{Rule}
use Rattle.rules.specs.Meets.{◌∈◌, Times, at, Meets}
use Rattle.rules.specs.Chains.{Chain, sum}
use Rattle.rules.specs.Rings.{Ring, Negative}
use Rattle.rules.specs.Settled.{Settled, Attained}
use Rattle.rules.specs.Distances.{Shortest, FewestRules, below_zero, negatives, FewestNegatives, Ends}
use Rattle.rules.specs.Prices.{loosened}
use Rattle.rules.specs.Fills.{minus, rule, Unmeetable, single, SingleRule, opposite, OppositeRules, to_itself, SelfRule, uncut, three, RingOfThree, pair, UnreachedRing, zero_sum, ZeroRing, two_ways, TwoChains, tight, LoosenedRule, card_lift_valve, rule_14, ThreeEvents, Fills}
use Rattle.rules.proofs.Members.{Met, of_all}
use Rattle.rules.proofs.Along.{no_negative_ring, ends_below}
use Rattle.rules.proofs.Lengths.{ring_few}
use Rattle.rules.proofs.Latest.{latest_by_chains}
use Rattle.rules.proofs.Distances.{shortest_by_times}
use Rattle.rules.proofs.Leads.{open_exactly, largest_from_distance}

abbrev Below : ℕ → Rule → Type 0
Below n r = (r.first < n) × (r.second < n)

-- P of each number below n, one by one
abbrev Each : (ℕ → Type 0) → ℕ → Type 0
Each P zero = Unit {0}
Each P (suc n) = P zero × Each (λ v. P (suc v)) n

each_below : (P : ℕ → Type 0) (n : ℕ) → Each P n → (v : ℕ) → v < n → P v
each_below P zero e v h = absurd (omega arith)
each_below P (suc n) (p, ps) zero h = p
each_below P (suc n) (p, ps) (suc v) h = each_below (λ v. P (suc v)) n ps v (omega arith)

-- times given as a list are settled, if each is the sum of a chain
settled_list : (n : ℕ) (rules : List Rule) (times : List ℤ) → AllByRecursion (Met (at times)) rules → Each (λ v. at times v ≤ℤ pos 0) n → Each (Attained n (λ v. pos 0) rules (at times)) n → Settled n rules (at times)
settled_list n rules times met early attained = latest_by_chains n (λ v. pos 0) rules (at times) (of_all (Met (at times)) rules met) (each_below _ n early) (each_below _ n attained)

absent : (a : ℕ) (xs : List ℕ) → AllByRecursion (λ v. ¬ (a ≡ v)) xs → ¬ (a ∈ xs)
absent a xs other m = of_all (λ v. ¬ (a ≡ v)) xs other a m refl

-- where no rule starts, only the empty chain does
stuck : (rules : List Rule) (a : ℕ) → ((r : Rule) → r ∈ rules → ¬ (a ≡ r.first)) → (b : ℕ) (path : List Rule) → Chain rules a b path → (a ≡ b) × (sum path ≡ pos 0)
stuck rules a none b [] e = (e, refl)
stuck rules a none b (r ∷ path) (i, e, c) = absurd (none r i e)

-- a ring of rules between different events has two rules or more
two_or_more : (rules : List Rule) → ((r : Rule) → r ∈ rules → ¬ (r.first ≡ r.second)) → (a : ℕ) (path : List Rule) → Ring rules a path → 2 ≤ length path
two_or_more rules differ a [] g = absurd (let h = g.some in omega arith)
two_or_more rules differ a (r ∷ []) g = let (i, e, c) = g.chain in absurd (differ r i (sym e ∙ sym c))
two_or_more rules differ a (r ∷ q ∷ path) g = omega arith

unmeetable : (rules : List Rule) (size : ℕ) (path : List Rule) → Negative rules path → ((q : List Rule) → Negative rules q → length q ≡ size) → Unmeetable rules size
unmeetable rules size path g sized = record { ring = (path, g); sized = sized; unmet = λ t. no_negative_ring rules t.0 t.1 (path, g) }

single_rule : SingleRule
single_rule = record {
  times = settled_list 2 single (pos 0 ∷ minus 500 ∷ []) (le_z_yes tt, tt) (le_z_yes tt, (le_z_yes tt, tt)) ((0, [], omega arith, refl, refl), ((0, single, omega arith, chain, refl), tt));
  forward = largest_from_distance single (t, m) 0 1 (minus 500) (single, shortest_by_times single t m 0 1 single chain (le_z_yes tt), refl);
  backward = (open_exactly single (t, m) 1 0).1 (λ p. let e = (stuck single 1 (of_all (λ r. ¬ (1 ≡ r.first)) single (omega arith, tt)) 0 p.0 p.1).0 in omega arith);
  itself = largest_from_distance single (t, m) 0 0 (pos 0) ([], shortest_by_times single t m 0 0 [] refl (le_z_yes tt), refl);
  withdrawn = settled_list 2 [] (pos 0 ∷ pos 0 ∷ []) tt (le_z_yes tt, (le_z_yes tt, tt)) ((0, [], omega arith, refl, refl), ((1, [], omega arith, refl, refl), tt));
}
  where
    t : Times
    t = at (pos 0 ∷ minus 500 ∷ [])

    m : Meets single t
    m = of_all (Met t) single (le_z_yes tt, tt)

    chain : Chain single 0 1 single
    chain = (Memᴰ.head refl, refl, refl)

opposite_rules : OppositeRules
opposite_rules = record {
  short = unmeetable short 2 short (record { start = 0; ring = ring; below = lt_z_yes tt }) sized;
  enough = (t, of_all (Met t) (opposite (pos 500)) (le_z_yes tt, (le_z_yes tt, tt)));
}
  where
    t : Times
    t = at (pos 0 ∷ minus 500 ∷ [])

    short : List Rule
    short = opposite (pos 499)

    ring : Ring short 0 short
    ring = record {
      chain = (Memᴰ.head refl, refl, (Memᴰ.tail (Memᴰ.head refl), refl, refl));
      some = omega arith;
      once = (absent 1 (0 ∷ []) (omega arith, tt), (Memᴰ.not-nil, tt));
    }

    sized : (path : List Rule) → Negative short path → length path ≡ 2
    sized path g =
        let h = ring_few short 2 (of_all (Below 2) short ((omega arith, omega arith), ((omega arith, omega arith), tt))) g.start path g.ring in
        let k = two_or_more short (of_all (λ r. ¬ (r.first ≡ r.second)) short (omega arith, (omega arith, tt))) g.start path g.ring in
        omega arith

self_rule : SelfRule
self_rule = record {
  negative = unmeetable below 1 below (record { start = 0; ring = ring; below = lt_z_yes tt }) (λ path g.
      let h = ring_few below 1 (of_all (Below 1) below ((omega arith, omega arith), tt)) g.start path g.ring in
      let k = g.ring.some in
      omega arith);
  zero = (λ v. pos 0, of_all (Met (λ v. pos 0)) (to_itself (pos 0)) (le_z_yes tt, tt));
}
  where
    below : List Rule
    below = to_itself (minus 1)

    ring : Ring below 0 below
    ring = record { chain = (Memᴰ.head refl, refl, refl); some = omega arith; once = (Memᴰ.not-nil, tt) }

ring_of_three : RingOfThree
ring_of_three = record {
  whole = unmeetable three 3 three (record { start = 0; ring = ring; below = lt_z_yes tt }) sized;
  smooth = (λ v. pos 0, of_all _ uncut (le_z_yes tt, (le_z_yes tt, tt)));
}
  where
    ring : Ring three 0 three
    ring = record {
      chain = (Memᴰ.head refl, refl, (Memᴰ.tail (Memᴰ.head refl), refl, (Memᴰ.tail (Memᴰ.tail (Memᴰ.head refl)), refl, refl)));
      some = omega arith;
      once = (absent 1 (2 ∷ 0 ∷ []) (omega arith, (omega arith, tt)), (absent 2 (0 ∷ []) (omega arith, tt), (Memᴰ.not-nil, tt)));
    }

    -- from each event to the next
    Onward : Rule → Type 0
    Onward r = ((r.first ≡ 0) × (r.second ≡ 1)) ⊎ (((r.first ≡ 1) × (r.second ≡ 2)) ⊎ ((r.first ≡ 2) × (r.second ≡ 0)))

    onward : (r : Rule) → r ∈ three → Onward r
    onward = of_all Onward three (inl (refl, refl), (inr (inl (refl, refl)), (inr (inr (refl, refl)), tt)))

    not_two : (a : ℕ) (path : List Rule) → Chain three a a path → 2 ≤ length path → 3 ≤ length path
    not_two a [] c h = absurd (omega arith)
    not_two a (r ∷ []) c h = absurd (omega arith)
    not_two a (r ∷ q ∷ []) (i, e, (j, f, c)) h = absurd (let u = onward r i in let v = onward q j in omega arith)
    not_two a (r ∷ q ∷ p ∷ path) c h = omega arith

    sized : (path : List Rule) → Negative three path → length path ≡ 3
    sized path g =
        let h = ring_few three 3 (of_all (Below 3) three ((omega arith, omega arith), ((omega arith, omega arith), ((omega arith, omega arith), tt)))) g.start path g.ring in
        let k = two_or_more three (λ r i. let u = onward r i in omega arith) g.start path g.ring in
        let l = not_two g.start path g.ring.chain k in
        omega arith

unreached_ring : UnreachedRing
unreached_ring = record {
  concerned = (λ v. pos 0, λ r i p. absurd (nowhere r.first p.0 p.1 (within r i)));
  source = ([], record { chain = refl; least = λ q c. let e = (stuck pair 0 none 0 q c).1 in omega (arith, ints) }, refl);
  one = λ p. (let e = (stuck pair 0 none 1 p.0 p.1).0 in omega arith);
  two = λ p. (let e = (stuck pair 0 none 2 p.0 p.1).0 in omega arith);
  together = unmeetable pair 2 pair (record { start = 1; ring = ring; below = lt_z_yes tt }) sized;
}
  where
    Within : Rule → Type 0
    Within r = ((r.first ≡ 1) × (r.second ≡ 2)) ⊎ ((r.first ≡ 2) × (r.second ≡ 1))

    within : (r : Rule) → r ∈ pair → Within r
    within = of_all Within pair (inl (refl, refl), (inr (refl, refl), tt))

    none : (r : Rule) → r ∈ pair → ¬ (0 ≡ r.first)
    none r i e = let u = within r i in omega arith

    nowhere : (v : ℕ) (path : List Rule) → Chain pair 0 v path → {w : ℕ} → ((v ≡ 1) × (w ≡ 2)) ⊎ ((v ≡ 2) × (w ≡ 1)) → ⊥
    nowhere v path c h = let e = (stuck pair 0 none v path c).0 in omega arith

    ring : Ring pair 1 pair
    ring = record {
      chain = (Memᴰ.head refl, refl, (Memᴰ.tail (Memᴰ.head refl), refl, refl));
      some = omega arith;
      once = (absent 2 (1 ∷ []) (omega arith, tt), (Memᴰ.not-nil, tt));
    }

    -- a third rule comes to the event that the first came to
    at_most_two : (a : ℕ) (path : List Rule) → Ring pair a path → length path ≤ 2
    at_most_two a [] g = omega arith
    at_most_two a (r ∷ []) g = omega arith
    at_most_two a (r ∷ q ∷ []) g = omega arith
    at_most_two a (r ∷ q ∷ p ∷ path) g =
        let (i, e, c) = g.chain in
        let (j, f, d) = c in
        let u = within r i in
        let v = within q j in
        let w = within p d.0 in
        let x = d.1 in
        let same : r.second ≡ p.second = omega arith in
        absurd (g.once.0 (Memᴰ.tail (Memᴰ.head same)))

    sized : (path : List Rule) → Negative pair path → length path ≡ 2
    sized path g =
        let h = at_most_two g.start path g.ring in
        let k = two_or_more pair (λ r i. let u = within r i in omega arith) g.start path g.ring in
        omega arith

zero_ring : ZeroRing
zero_ring = record {
  distance = (direct, fewest.shortest, refl);
  place = record { ends = record { rule = rule 2 0 1 (pos 0); stands = (omega arith, λ other. refl); before = []; fewest = fewest }; lowest = not_first };
}
  where
    direct : List Rule
    direct = rule 2 0 1 (pos 0) ∷ []

    t : Times
    t = at (pos 0 ∷ pos 0 ∷ pos 5 ∷ [])

    shortest : Shortest zero_sum 0 1 direct
    shortest = shortest_by_times zero_sum t (of_all (Met t) zero_sum (le_z_yes tt, (le_z_yes tt, (le_z_yes tt, tt)))) 0 1 direct (Memᴰ.tail (Memᴰ.head refl), refl, refl) (le_z_yes tt)

    one : (path : List Rule) → Chain zero_sum 0 1 path → 1 ≤ length path
    one [] e = absurd (omega arith)
    one (r ∷ path) c = omega arith

    fewest : FewestRules zero_sum 0 1 direct
    fewest = record { shortest = shortest; fewest = λ q s. one q s.chain }

    alone : (r : Rule) (before : List Rule) → 2 ≡ r.first → Chain zero_sum 0 1 (before ++ r ∷ []) → length (before ++ r ∷ []) ≤ 1 → ⊥
    alone r [] e c h = let k = c.1 in omega arith
    alone r (q ∷ before) e c h = omega (arith, length-append before (r ∷ []))

    not_first : (other : ℕ) → Ends zero_sum 0 1 other → 1 ≤ other
    not_first zero e = absurd (alone e.rule e.before (ap (λ (r : Rule). r.first) (e.stands.1 e.rule)) e.fewest.shortest.chain (e.fewest.fewest direct shortest))
    not_first (suc other) e = omega arith

-- a chain with a sum below 0 has a limit below 0
some_negative : (path : List Rule) → (1 ≤ negatives path) ⊎ (pos 0 ≤ℤ sum path)
some_negative [] = inr (le_z_yes tt)
some_negative (r ∷ path) = pick r.limit (some_negative path)
  where
    pick : (z : ℤ) → (1 ≤ negatives path) ⊎ (pos 0 ≤ℤ sum path) → (1 ≤ below_zero z + negatives path) ⊎ (pos 0 ≤ℤ (z +ℤ sum path))
    pick (pos n) (inl h) = inl (omega arith)
    pick (pos n) (inr h) = inr (omega (arith, ints))
    pick (negsuc n) h = inl (omega arith)

two_chains : TwoChains
two_chains = record {
  distance = (long, shortest_long, refl);
  rounds = record {
    attained = (2, record { attained = (long, shortest_long, refl); fewest = λ q s. ⊎_elim (λ h. h) (λ h. absurd (let k = s.least long shortest_long.chain in omega (arith, ints))) (some_negative q) });
    bound = λ v j f. let (path, s, e) = f.attained in bound v j (ends_below two_ways 3 (of_all (Below 3) two_ways ((omega arith, omega arith), ((omega arith, omega arith), ((omega arith, omega arith), tt)))) 0 v path s.chain (omega arith)) f;
  };
}
  where
    first : List Rule
    first = rule 1 0 1 (pos 4) ∷ []

    long : List Rule
    long = rule 1 0 1 (pos 4) ∷ rule 2 1 2 (minus 6) ∷ []

    t : Times
    t = at (pos 0 ∷ pos 4 ∷ minus 2 ∷ [])

    m : Meets two_ways t
    m = of_all (Met t) two_ways (le_z_yes tt, (le_z_yes tt, (le_z_yes tt, tt)))

    shortest_long : Shortest two_ways 0 2 long
    shortest_long = shortest_by_times two_ways t m 0 2 long (Memᴰ.head refl, refl, (Memᴰ.tail (Memᴰ.head refl), refl, refl)) (le_z_yes tt)

    bound : (v j : ℕ) → v < 3 → FewestNegatives two_ways 0 v j → j ≤ 1
    bound zero j h f = let k = f.fewest [] (shortest_by_times two_ways t m 0 0 [] refl (le_z_yes tt)) in omega arith
    bound (suc zero) j h f = let k = f.fewest first (shortest_by_times two_ways t m 0 1 first (Memᴰ.head refl, refl, refl) (le_z_yes tt)) in omega arith
    bound (suc (suc zero)) j h f = f.fewest long shortest_long
    bound (suc (suc (suc v))) j h f = absurd (omega arith)

loosened_rule : LoosenedRule
loosened_rule = record {
  prices = settled_list 2 loose (pos 0 ∷ minus 3 ∷ []) (le_z_yes tt, tt) (le_z_yes tt, (le_z_yes tt, tt)) ((0, [], omega arith, refl, refl), ((0, loose, omega arith, (Memᴰ.head refl, refl, refl), refl), tt));
  bound_of_two = (rule 1 0 1 (minus 6), Memᴰ.head refl, lt_z_yes tt);
}
  where
    loose : List Rule
    loose = loosened (pos 3) tight

three_events : ThreeEvents
three_events = record {
  times = settled_list 3 card_lift_valve (minus 350 ∷ minus 150 ∷ pos 0 ∷ []) met (le_z_yes tt, (le_z_yes tt, (le_z_yes tt, tt))) ((2, back, omega arith, chain_back, refl), ((2, rule 13 2 1 (minus 150) ∷ [], omega arith, (in_13, refl, refl), refl), ((2, [], omega arith, refl, refl), tt)));
  valve_over_card = largest_from_distance card_lift_valve (t, of_all (Met t) card_lift_valve met) 0 2 (pos 60_900) (forth, shortest_by_times card_lift_valve late (of_all (Met late) card_lift_valve (le_z_yes tt, (le_z_yes tt, (le_z_yes tt, (le_z_yes tt, tt))))) 0 2 forth chain_forth (le_z_yes tt), refl);
  card_over_valve = largest_from_distance card_lift_valve (t, of_all (Met t) card_lift_valve met) 2 0 (minus 350) (back, shortest_by_times card_lift_valve t (of_all (Met t) card_lift_valve met) 2 0 back chain_back (le_z_yes tt), refl);
  ring = record {
    start = 0;
    ring = record {
      chain = (Memᴰ.append_right card_lift_valve (Memᴰ.head refl), refl, (Memᴰ.append_left (rule_14 ∷ []) in_13, refl, (Memᴰ.append_left (rule_14 ∷ []) in_11, refl, refl)));
      some = omega arith;
      once = (absent 2 (1 ∷ 0 ∷ []) (omega arith, (omega arith, tt)), (absent 1 (0 ∷ []) (omega arith, tt), (Memᴰ.not-nil, tt)));
    };
    below = lt_z_yes tt;
  };
  adds = refl;
}
  where
    t : Times
    t = at (minus 350 ∷ minus 150 ∷ pos 0 ∷ [])

    -- the valve as late after the card as the rules allow
    late : Times
    late = at (pos 0 ∷ pos 60_000 ∷ pos 60_900 ∷ [])

    met : AllByRecursion (Met t) card_lift_valve
    met = (le_z_yes tt, (le_z_yes tt, (le_z_yes tt, (le_z_yes tt, tt))))

    in_11 : rule 11 1 0 (minus 200) ∈ card_lift_valve
    in_11 = Memᴰ.tail (Memᴰ.head refl)

    in_13 : rule 13 2 1 (minus 150) ∈ card_lift_valve
    in_13 = Memᴰ.tail (Memᴰ.tail (Memᴰ.tail (Memᴰ.head refl)))

    back : List Rule
    back = rule 13 2 1 (minus 150) ∷ rule 11 1 0 (minus 200) ∷ []

    chain_back : Chain card_lift_valve 2 0 back
    chain_back = (in_13, refl, (in_11, refl, refl))

    forth : List Rule
    forth = rule 10 0 1 (pos 60_000) ∷ rule 12 1 2 (pos 900) ∷ []

    chain_forth : Chain card_lift_valve 0 2 forth
    chain_forth = (Memᴰ.head refl, refl, (Memᴰ.tail (Memᴰ.tail (Memᴰ.head refl)), refl, refl))

pub fills : Fills
fills = record {
  single_rule = single_rule;
  opposite_rules = opposite_rules;
  self_rule = self_rule;
  ring_of_three = ring_of_three;
  unreached_ring = unreached_ring;
  zero_ring = zero_ring;
  two_chains = two_chains;
  loosened_rule = loosened_rule;
  three_events = three_events;
}
