-- Some of the rules: those on a chain, and those that have a property that is decided. Assumes nothing.
use Rattle.std.proofs.Common.{◌≡◌, ℕ, ◌<◌, ◌⊎◌, ◌↔◌, List, [], ◌∷◌, ◌++◌, length, pos, ◌≤ℤ◌, ◌<ℤ◌, sym, refl, subst, inl, inr, arith}
use mathlib.Core.List.Memᴰ
use Rattle.std.proofs.lemmas.Int.{ints}
use Rattle.rules.specs.declared.records.Rule.{Rule}
use Rattle.rules.specs.Meets.{◌∈◌, Times, lead, Meets, Meetable}
use Rattle.rules.specs.Chains.{Chain, sum, Reaches}
use Rattle.rules.specs.Rings.{Negative, NegativeRing}
use Rattle.rules.proofs.Along.{along, join}
use Rattle.rules.proofs.Decided.{closed_holds_ring, decided}

pub reach_on : (rules : List Rule) (a b c : ℕ) → Reaches rules a b → Reaches rules b c → Reaches rules a c
reach_on rules a b c (p, h) (q, k) = (p ++ q, join rules a b c p q h k)

-- a rule on a chain is one of the rules, reached from where the chain starts, and reaches where it ends
pub on_chain : (rules : List Rule) (a b : ℕ) (path : List Rule) → Chain rules a b path → (r : Rule) → r ∈ path → r ∈ rules × Reaches rules a r.first × Reaches rules r.second b
on_chain rules a b [] c r m = absurd (Memᴰ.not-nil m)
on_chain rules a b (q ∷ path) (i, e, c) r m = pick (on_chain rules q.second b path c r) (Memᴰ.cases_cons m)
  where
    On : Rule → Type 0
    On s = s ∈ rules × Reaches rules a s.first × Reaches rules s.second b

    pick : (r ∈ path → r ∈ rules × Reaches rules q.second r.first × Reaches rules r.second b) → (r ≡ q) ⊎ r ∈ path → On r
    pick later (inl h) = subst On (sym h) (i, ([], e), (path, c))
    pick later (inr k) = let o = later k in (o.0, (q ∷ o.1.0, (i, e, o.1.1)), o.2)

-- a chain of one rule or more starts with one of its rules
pub starts_with : (rules : List Rule) (a b : ℕ) (path : List Rule) → Chain rules a b path → 0 < length path → (r : Rule) × r ∈ path × (a ≡ r.first)
starts_with rules a b [] c h = absurd (omega arith)
starts_with rules a b (r ∷ path) (i, e, c) h = (r, Memᴰ.head refl, e)

-- the same chain, of a list that has the rules on it
pub chain_of : (rules others : List Rule) (a b : ℕ) (path : List Rule) → Chain rules a b path → ((r : Rule) → r ∈ path → r ∈ others) → Chain others a b path
chain_of rules others a b [] e sub = e
chain_of rules others a b (r ∷ path) (i, e, c) sub = (sub r (Memᴰ.head refl), e, chain_of rules others r.second b path c (λ q m. sub q (Memᴰ.tail m)))

pub negative_of : (rules others path : List Rule) → Negative rules path → ((r : Rule) → r ∈ path → r ∈ others) → Negative others path
negative_of rules others path g sub = record {
  start = g.start;
  ring = record { chain = chain_of rules others g.start g.start path g.ring.chain sub; some = g.ring.some; once = g.ring.once };
  below = g.below;
}

-- a closed chain with a sum below 0 holds a negative ring of its own rules
pub closed_holds_own_ring : (rules : List Rule) (a : ℕ) (path : List Rule) → Chain rules a a path → sum path <ℤ pos 0 → (ring : List Rule) × Negative rules ring × ((r : Rule) → r ∈ ring → r ∈ path)
closed_holds_own_ring rules a path c h =
    let g = closed_holds_ring path a path (chain_of rules path a a path c (λ r i. i)) h in
    let on : (r : Rule) → r ∈ g.0 → r ∈ path = λ r i. (on_chain path g.1.start g.1.start g.0 g.1.ring.chain r i).0 in
    (g.0, negative_of path rules g.0 g.1 (λ r i. (on_chain rules a a path c r (on r i)).0), on)

-- no times meet all the rules of a negative ring
pub ring_unmet : (rules path : List Rule) (t : Times) → Negative rules path → ¬ Meets path t
ring_unmet rules path t g m =
    let h = along path t m g.start g.start path (chain_of rules path g.start g.start path g.ring.chain (λ r i. i)) in
    let k = g.below in
    omega (arith, ints)

-- the rules of a list that have P
keep : (P : Rule → Type 0) → ((r : Rule) → Dec (P r)) → (rules : List Rule) → (kept : List Rule) × ((r : Rule) → (r ∈ kept) ↔ (r ∈ rules × P r))
keep P dec [] = ([], λ r. (λ m. absurd (Memᴰ.not-nil m), λ m. absurd (Memᴰ.not-nil m.0)))
keep P dec (q ∷ rules) = pick (dec q) (keep P dec rules)
  where
    Kept : List Rule → Type 0
    Kept rs = (kept : List Rule) × ((r : Rule) → (r ∈ kept) ↔ (r ∈ rs × P r))

    pick : Dec (P q) → Kept rules → Kept (q ∷ rules)
    pick (yes p) (kept, same) = (q ∷ kept, λ r. (λ m. to r (Memᴰ.cases_cons m), λ m. from r m.1 (Memᴰ.cases_cons m.0)))
      where
        to : (r : Rule) → (r ≡ q) ⊎ r ∈ kept → r ∈ (q ∷ rules) × P r
        to r (inl e) = (Memᴰ.head e, subst P (sym e) p)
        to r (inr m) = let k = (same r).0 m in (Memᴰ.tail k.0, k.1)

        from : (r : Rule) → P r → (r ≡ q) ⊎ r ∈ rules → r ∈ (q ∷ kept)
        from r h (inl e) = Memᴰ.head e
        from r h (inr m) = Memᴰ.tail ((same r).1 (m, h))
    pick (no n) (kept, same) = (kept, λ r. (λ m. let k = (same r).0 m in (Memᴰ.tail k.0, k.1), λ m. from r m.1 (Memᴰ.cases_cons m.0)))
      where
        from : (r : Rule) → P r → (r ≡ q) ⊎ r ∈ rules → r ∈ kept
        from r h (inl e) = absurd (n (subst P e h))
        from r h (inr m) = (same r).1 (m, h)

-- times meet the rules that have P
abbrev pub MeetableAmong : (Rule → Type 0) → List Rule → Type 0
MeetableAmong P rules = (t : Times) × ((r : Rule) → r ∈ rules → P r → lead t r.first r.second ≤ℤ r.limit)

-- a ring of rules that have P is negative
abbrev pub NegativeRingAmong : (Rule → Type 0) → List Rule → Type 0
NegativeRingAmong P rules = (path : List Rule) × Negative rules path × ((r : Rule) → r ∈ path → P r)

pub decided_among : (P : Rule → Type 0) → ((r : Rule) → Dec (P r)) → (rules : List Rule) → MeetableAmong P rules ⊎ NegativeRingAmong P rules
decided_among P dec rules = pick (keep P dec rules)
  where
    pick : ((kept : List Rule) × ((r : Rule) → (r ∈ kept) ↔ (r ∈ rules × P r))) → MeetableAmong P rules ⊎ NegativeRingAmong P rules
    pick (kept, same) = answer (decided kept)
      where
        answer : Meetable kept ⊎ NegativeRing kept → MeetableAmong P rules ⊎ NegativeRingAmong P rules
        answer (inl (t, m)) = inl (t, λ r i p. m r ((same r).1 (i, p)))
        answer (inr (path, g)) =
            let on : (r : Rule) → r ∈ path → r ∈ rules × P r = λ r i. (same r).0 (on_chain kept g.start g.start path g.ring.chain r i).0 in
            inr (path, negative_of kept rules path g (λ r i. (on r i).0), λ r i. (on r i).1)
