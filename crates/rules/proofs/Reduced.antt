-- Reduced limits along chains, and prices as times. Assumes nothing.
use Rattle.std.proofs.Common.{◌≡◌, ℕ, ◌↔◌, List, [], ◌∷◌, ℤ, pos, ◌+ℤ◌, ◌-ℤ◌, neg_ℤ, ◌≤ℤ◌, ap, subst, arith}
use mathlib.Core.List.Memᴰ
use Rattle.std.proofs.lemmas.Int.{ints}
use Rattle.rules.specs.declared.records.Rule.{Rule}
use Rattle.rules.specs.Meets.{lead, Meets}
use Rattle.rules.specs.Chains.{Chain, sum}
use Rattle.rules.specs.Rings.{Ring}
use Rattle.rules.specs.Prices.{Prices, reduced_sum, ReducedAtLeast, loosen, loosened}

pub reduced_along : (rules : List Rule) (p : Prices) (a b : ℕ) (path : List Rule) → Chain rules a b path → reduced_sum p path ≡ (sum path +ℤ p a) -ℤ p b
reduced_along rules p a b [] e = let h : p a ≡ p b = ap p e in omega (arith, ints)
reduced_along rules p a b (r ∷ path) (i, e, c) =
    let h : p a ≡ p r.first = ap p e in
    let k = reduced_along rules p r.second b path c in
    omega (arith, ints)

pub reduced_ring : (rules : List Rule) (p : Prices) (a : ℕ) (path : List Rule) → Ring rules a path → reduced_sum p path ≡ sum path
reduced_ring rules p a path g = let h = reduced_along rules p a a path g.chain in omega (arith, ints)

pub prices_are_times : (rules : List Rule) (p : Prices) → ReducedAtLeast (pos 0) rules p ↔ Meets rules p
prices_are_times rules p = (λ h r i. let k = h r i in omega (arith, ints), λ m r i. let k = m r i in omega (arith, ints))

pub loosened_exactly : (by : ℤ) (rules : List Rule) (p : Prices) → Meets (loosened by rules) p ↔ ReducedAtLeast (neg_ℤ by) rules p
loosened_exactly by rules p = (
  λ m r i. let k = m (loosen by r) (Memᴰ.map (loosen by) i) in omega (arith, ints),
  λ h r i.
      let (q, j, e) = Memᴰ.of_map (loosen by) rules i in
      let k : lead p q.first q.second ≤ℤ (q.limit +ℤ by) = let l = h q j in omega (arith, ints) in
      subst (λ (s : Rule). lead p s.first s.second ≤ℤ s.limit) e k,
)
