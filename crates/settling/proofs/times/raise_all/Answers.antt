use Rattle.std.proofs.Common.{◌≡◌, ℕ, ◌+◌, ◌<◌, ◌≤◌, List, length, get_or, set, ℤ, pos, None, Option, sym, ap, ◌∙◌, subst, ⊎_elim, arith}
use Rattle.std.proofs.lemmas.Int.{ints}
use Rattle.std.proofs.lemmas.Bool.{cases_eq}
use Rattle.std.proofs.lemmas.List.{get_or-set_same, get_or-set_other}
use Rattle.delays.specs.Numbers.{Millis}
use Rattle.rules.specs.Meets.{at}
use Rattle.settling.specs.Weights.{raised}
use Rattle.settling.proofs.times.raise_all.Goals.{in-Some, in_default}
use Rattle.settling.proofs.times.raise_all.Goals as goal

-- the events below n have their new prices, and the others still their old ones
abbrev UpTo : ℕ → List (Option Millis) → List ℤ → List ℤ → Type 0
UpTo n labels old new = ((v : ℕ) → v < n → at new v ≡ raised (get_or labels v None) (at old v)) × ((v : ℕ) → n ≤ v → at new v ≡ at old v)

next : (n : ℕ) (labels : List (Option Millis)) (old mid : List ℤ) (price : ℤ) → n < length mid → price ≡ raised (get_or labels n None) (at old n) → UpTo n labels old mid → UpTo (n + 1) labels old (set mid n price)
next n labels old mid price lt e inv = (
  λ v h. ⊎_elim
      (λ q. subst (λ (u : ℕ). at (set mid n price) u ≡ raised (get_or labels u None) (at old u)) (sym q) (get_or-set_same mid n price (pos 0) lt ∙ e))
      (λ ne. get_or-set_other mid n v price (pos 0) ne ∙ inv.0 v (omega arith))
      (cases_eq v n),
  λ v h. get_or-set_other mid n v price (pos 0) (λ q. omega arith) ∙ inv.1 v (omega arith),
)

pub overflow_add-price : goal.overflow_add-price
overflow_add-price c =
    let k = c.requires.exact c.loop-event.event c.in-Some.key c.in-Some.is in
    let p = c.loop-event.invariant.1 c.loop-event.event (omega arith) in
    let s = c.requires.small c.loop-event.event in
    omega (arith, ints)

pub loop-event-preserved : goal.loop-event-preserved
loop-event-preserved c =
    let n : ℕ = c.loop-event.event in
    let labels : List (Option Millis) = c.args.labels.now in
    let old : List ℤ = c.args.prices.now in
    let p = c.loop-event.invariant.1 n (omega arith) in
    let s = c.requires.small n in
    let lt : n < length c.loop-event.prices = omega (arith, c.loop-event-test.true, c.loop-event.auto.prices) in
    elim c.match-labels-event.branch [
      | in-Some w ↦
          let k = c.requires.exact n w.in-Some.key w.in-Some.is in
          let e = ap (λ o. raised o (at old n)) w.in-Some.is in
          subst (UpTo (n + 1) labels old) (sym w.prices-is) (next n labels old c.loop-event.prices _ lt (omega (arith, ints)) c.loop-event.invariant)
      | in_default w ↦
          let e = ap (λ o. raised o (at old n)) w.in_default.is in
          subst (UpTo (n + 1) labels old) (sym w.prices-is) (next n labels old c.loop-event.prices _ lt (p ∙ sym e) c.loop-event.invariant)
    ]
