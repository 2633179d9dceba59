-- Along a chain: the times that meet the rules, and chains one after another. Assumes nothing.
use Rattle.std.proofs.Common.{◌≡◌, ℕ, ◌<◌, List, [], ◌∷◌, ◌++◌, ◌+ℤ◌, ◌≤ℤ◌, sym, ap, subst, arith}
use Rattle.std.proofs.lemmas.Int.{ints}
use Rattle.rules.specs.declared.records.Rule.{Rule}
use Rattle.rules.specs.Meets.{Times, lead, Meets, EventsBelow}
use Rattle.rules.specs.Chains.{Chain, sum}
use Rattle.rules.specs.Rings.{NegativeRing}

pub along : (rules : List Rule) (t : Times) → Meets rules t → (a b : ℕ) (path : List Rule) → Chain rules a b path → lead t a b ≤ℤ sum path
along rules t m a b [] e = let h : t a ≡ t b = ap t e in omega (arith, ints)
along rules t m a b (r ∷ path) (i, e, c) =
    let h : t a ≡ t r.first = ap t e in
    omega (arith, ints, m r i, along rules t m r.second b path c)

pub no_negative_ring : (rules : List Rule) (t : Times) → Meets rules t → ¬ NegativeRing rules
no_negative_ring rules t m (path, g) =
    let h = along rules t m g.start g.start path g.ring.chain in
    let k = g.below in
    omega (arith, ints)

pub join : (rules : List Rule) (a b c : ℕ) (p q : List Rule) → Chain rules a b p → Chain rules b c q → Chain rules a c (p ++ q)
join rules a b c [] q e k = subst (λ (x : ℕ). Chain rules x c q) (sym e) k
join rules a b c (r ∷ p) q (i, e, h) k = (i, e, join rules r.second b c p q h k)

pub sum_join : (p q : List Rule) → sum (p ++ q) ≡ sum p +ℤ sum q
sum_join [] q = omega (arith, ints)
sum_join (r ∷ p) q = let h = sum_join p q in omega (arith, ints)

-- a chain that ends at an event below n starts at one, and the other way round
pub starts_below : (rules : List Rule) (n : ℕ) → EventsBelow n rules → (a b : ℕ) (path : List Rule) → Chain rules a b path → b < n → a < n
starts_below rules n w a b [] e h = rw e h
starts_below rules n w a b (r ∷ path) (i, e, c) h = rw e (w r i).0

pub ends_below : (rules : List Rule) (n : ℕ) → EventsBelow n rules → (a b : ℕ) (path : List Rule) → Chain rules a b path → a < n → b < n
ends_below rules n w a b [] e h = rw (← e) h
ends_below rules n w a b (r ∷ path) (i, e, c) h = ends_below rules n w r.second b path c (w r i).1
