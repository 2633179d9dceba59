use Rattle.std.proofs.Common.{rules, ◌≡◌, ℕ, List, length, ℤ, pos, refl, subst, ap, ◌∙◌}
use Rattle.std.proofs.lemmas.List.{length-replicate}
use Rattle.std.proofs.lemmas.Result.{err_from_is_err_and}
use Rattle.delays.specs.Numbers.{Millis, amount_zero}
use Rattle.rules.specs.declared.records.Rule.{Rule}
use Rattle.rules.specs.Meets.{at}
use Rattle.rules.specs.Settled.{Settled}
use Rattle.rules.specs.Prices.{loosened}
use Rattle.pricing.specs.declared.rings.Ring.{Ring}
use Rattle.pricing.specs.Repairs.{Shown}
use Rattle.pricing.proofs.Loosened.{loosened_none}
use Rattle.settled.proofs.settle_from.Goals as goal

-- rules loosened by nothing are the rules
same : (rs : List Rule) (by : Millis) → by ≡ amount_zero → loosened by.0 rs ≡ rs
same rs by e = ap (λ (m : Millis). loosened m.0 rs) e ∙ loosened_none rs

pub returns-in_err-prices-clause-settles : goal.returns-in_err-prices-clause-settles
returns-in_err-prices-clause-settles g c =
    let ring : Ring = c.in_err-prices.field-0.0 in
    let p = err_from_is_err_and c.from_residual.result c.from_residual.ensures.1 in
    let shown : Shown c.args.rules.now ring.size c.args.ring.now c.prices.new.ring = subst (λ (rs : List Rule). Shown rs ring.size c.args.ring.now c.prices.new.ring) (same c.args.rules.now _ (search rules)) c.in_err-prices.ensures.priced in
    rw (p.1, p.2) (shown, refl)

pub returns-clause-settles : goal.returns-clause-settles
returns-clause-settles g c =
    let n : length c.prices.new.prices ≡ length c.args.times.now = c.prices.auto.prices ∙ ap length c.requires.start ∙ length-replicate {A = ℤ} (length c.args.times.now) (pos 0) in
    let settled : Settled (length c.prices.new.prices) c.args.rules.now (at c.settle.new.times) = subst (λ (rs : List Rule). Settled (length c.prices.new.prices) rs (at c.settle.new.times)) (same c.args.rules.now _ (search rules)) c.settle.ensures.settled in
    (subst (λ (k : ℕ). Settled k c.args.rules.now (at c.settle.new.times)) n settled, c.in_ok-prices.ensures.priced.2)
