-- Either times meet the rules or a ring is negative. Assumes nothing.
use Rattle.std.proofs.Common.{ℕ, ◌<◌, ◌≤◌, ◌⊎◌, ◌↔◌, List, [], ◌∷◌, length, pos, ◌≤ℤ◌, ◌<ℤ◌, sym, inl, inr, ⊎_elim, arith}
use mathlib.Core.List.Memᴰ
use Rattle.std.proofs.lemmas.Int.{ints}
use Rattle.rules.specs.declared.records.Rule.{Rule}
use Rattle.rules.specs.Meets.{◌∈◌, Times, Meetable, EventsBelow}
use Rattle.rules.specs.Chains.{Chain, sum, stops, Distinct, Simple}
use Rattle.rules.specs.Rings.{NegativeRing, NegativeRingBetween}
use Rattle.rules.specs.Settled.{Latest, Settled, Attained}
use Rattle.rules.proofs.Along.{no_negative_ring}
use Rattle.rules.proofs.Shorten.{Short, shorten}
use Rattle.rules.proofs.Lengths.{few}
use Rattle.rules.proofs.Reach.{events_bound}
use Rattle.rules.proofs.Latest.{latest_or_ring}

-- where times meet the rules, there are latest ones
pub latest_exists : (n : ℕ) (rules : List Rule) → EventsBelow n rules → Meetable rules → (z : Times) → (t : Times) × Latest n z rules t × ((v : ℕ) → v < n → Attained n z rules t v)
latest_exists n rules w (s, m) z = ⊎_elim (λ g. absurd (no_negative_ring rules s m g)) (λ t. t) (latest_or_ring n rules w z)

pub settled_exactly : (n : ℕ) (rules : List Rule) → EventsBelow n rules → Meetable rules ↔ ((t : Times) × Settled n rules t)
settled_exactly n rules w = (λ m. let t = latest_exists n rules w m (λ v. pos 0) in (t.0, t.1), λ t. (t.0, t.1.meets))

pub decided : (rules : List Rule) → Meetable rules ⊎ NegativeRing rules
decided rules =
    let b = events_bound rules 0 0 in
    ⊎_elim inr (λ t. inl (t.0, t.1.meets)) (latest_or_ring b.0 rules b.1 (λ v. pos 0))

pub times_exactly : (rules : List Rule) → Meetable rules ↔ (¬ NegativeRing rules)
times_exactly rules = (λ t. no_negative_ring rules t.0 t.1, λ none. ⊎_elim (λ t. t) (λ g. absurd (none g)) (decided rules))

-- a chain with no negative ring on the way, shortened
pub shortened : (n : ℕ) (rules : List Rule) → EventsBelow n rules → (a b : ℕ) → a < n → ¬ NegativeRingBetween rules a b → (path : List Rule) → Chain rules a b path → (short : List Rule) × Simple rules a b short × (sum short ≤ℤ sum path) × (length short ≤ length path) × (length short < n)
shortened n rules w a b h none path c =
    let s = shorten rules a b path c in
    (s.short, record { chain = s.chain; once = s.once }, ⊎_elim (λ g. absurd (none g)) (λ l. l) s.sums, s.lengths, few rules n w a b s.short h s.chain s.once)

ends_in : (rules : List Rule) (a b : ℕ) (r : Rule) (path : List Rule) → Chain rules a b (r ∷ path) → b ∈ stops (r ∷ path)
ends_in rules a b r [] c = Memᴰ.head (sym c.2)
ends_in rules a b r (q ∷ path) c = Memᴰ.tail (ends_in rules r.second b q path c.2)

-- a closed chain with a sum below 0 holds a negative ring
pub closed_holds_ring : (rules : List Rule) (a : ℕ) (path : List Rule) → Chain rules a a path → sum path <ℤ pos 0 → NegativeRingBetween rules a a
closed_holds_ring rules a path c h = pick (shorten rules a a path c)
  where
    not_closed : (q : List Rule) → Chain rules a a q → Distinct (a ∷ stops q) → sum q ≤ℤ sum path → ⊥
    not_closed [] k d l = omega (arith, ints)
    not_closed (r ∷ q) k d l = d.0 (ends_in rules a a r q k)

    pick : Short rules a a path → NegativeRingBetween rules a a
    pick s = ⊎_elim (λ g. g) (λ l. absurd (not_closed s.short s.chain s.once l)) s.sums
