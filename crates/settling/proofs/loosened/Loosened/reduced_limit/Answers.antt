use Rattle.std.proofs.Common.{◌≡◌, ◌≤◌, ℤ, ◌+ℤ◌, ◌-ℤ◌, nat_abs, ap, ◌∙◌, arith, w32, w64, to_z, of_z}
use Rattle.std.proofs.lemmas.Int.{ints}
use Rattle.delays.specs.Numbers.{amount}
use Rattle.delays.specs.Exactness.{exact_size}
use Rattle.rules.specs.Meets.{at}
use Rattle.settling.specs.Sizes.{limit_size, loosening_size, price_size}
use Rattle.settling.proofs.loosened.Loosened.reduced_limit.Goals as goal

-- a number that is not too large is read as it was written
read : (z : ℤ) → nat_abs z ≤ exact_size → to_z w64 (of_z w64 z) ≡ z
read z h = omega (arith, ints)

read_limit : (l : ℤ) → nat_abs l ≤ limit_size → to_z w64 (of_z w64 (to_z w32 (of_z w32 l))) ≡ l
read_limit l h = let e : to_z w32 (of_z w32 l) ≡ l = omega (arith, ints) in ap (λ z. to_z w64 (of_z w64 z)) e ∙ read l (omega arith)

sum : (l by p q : ℤ) → nat_abs l ≤ limit_size → nat_abs by ≤ loosening_size → nat_abs p ≤ price_size → nat_abs q ≤ price_size
    → to_z w64 (of_z w64 (to_z w64 (of_z w64 (to_z w64 (of_z w64 (to_z w32 (of_z w32 l))) +ℤ to_z w64 (of_z w64 by))) +ℤ to_z w64 (of_z w64 (to_z w64 (of_z w64 p) -ℤ to_z w64 (of_z w64 q))))) ≡ ((l +ℤ by) +ℤ p) -ℤ q
sum l by p q hl hb hp hq =
    let el = read_limit l hl in
    let eb = read by (omega arith) in
    let loose = read (to_z w64 (of_z w64 (to_z w32 (of_z w32 l))) +ℤ to_z w64 (of_z w64 by)) (omega (arith, ints)) in
    let ep = read p (omega arith) in
    let eq = read q (omega arith) in
    let gap = read (to_z w64 (of_z w64 p) -ℤ to_z w64 (of_z w64 q)) (omega (arith, ints)) in
    read (to_z w64 (of_z w64 (to_z w64 (of_z w64 (to_z w32 (of_z w32 l))) +ℤ to_z w64 (of_z w64 by))) +ℤ to_z w64 (of_z w64 (to_z w64 (of_z w64 p) -ℤ to_z w64 (of_z w64 q)))) (omega (arith, ints)) ∙ omega (arith, ints)

pub overflow_add-reduced-2 : goal.overflow_add-reduced-2
overflow_add-reduced-2 c =
    let limited = c.args.self.now.limited in
    let l = limited.limits c.args.rule c.requires.rule in
    let b = limited.loosening in
    let p = c.requires.sized.prices_within c.args.rule.first in
    let q = c.requires.sized.prices_within c.args.rule.second in
    omega (arith, ints)

pub returns : goal.returns
returns c =
    let limited = c.args.self.now.limited in
    c.of.ensures
    ∙ ap amount
    (sum c.args.rule.limit c.args.self.now.by.0 (at c.args.prices.now c.args.rule.first) (at c.args.prices.now c.args.rule.second) (limited.limits c.args.rule c.requires.rule) limited.loosening (c.requires.sized.prices_within _) (c.requires.sized.prices_within _))
