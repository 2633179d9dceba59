use Rattle.std.proofs.Common.{◌≡◌, ℕ, ◌+◌, List, length, take, ℤ, ap, ◌∙◌, subst}
use Rattle.std.proofs.lemmas.Result.{err_from_is_err_and}
use Rattle.std.proofs.lemmas.List.{take_all}
use Rattle.rules.specs.declared.records.Rule.{Rule}
use Rattle.rules.specs.Meets.{at}
use Rattle.rules.specs.Settled.{Latest}
use Rattle.rules.specs.Prices.{loosened}
use Rattle.queues.specs.Contents.{capacity_of, empty}
use Rattle.pricing.specs.declared.rings.Ring.{Ring}
use Rattle.pricing.specs.Repairs.{Shown}
use Rattle.pricing.proofs.Steps.{emptied, latest_on, sized_after, shown_all}
use Rattle.pricing.proofs.feasible.repair_all.Goals as goal

pub repair-requires-clause-sized : goal.repair-requires-clause-sized
repair-requires-clause-sized g c = sized_after c.args.loose.now.by.0 c.args.loose.now.rules.now c.args.prices.now c.loop-place.prices c.loop-place.place c.args.loose.now.limited c.requires.sized c.requires.small c.loop-place.auto.prices c.loop-place.invariant.2

pub loop-place-preserved : goal.loop-place-preserved
loop-place-preserved g c =
    let inv = c.loop-place.invariant in
    let room = emptied (g.Q.Queue.contents c.loop-place.queue) (capacity_of (g.Q.Queue.contents c.args.queue.now)) inv.0 in
    let r = c.in_ok-repair.ensures.repaired in (
      c.repair.ensures.queue ∙ ap empty room,
      r.1 ∙ inv.1,
      latest_on c.args.loose.now.by.0 c.args.loose.now.rules.now c.args.prices.now c.loop-place.prices c.repair.new.prices c.loop-place.place c.loop-place-test.true c.loop-place.auto.prices inv.2 r.0,
    )

pub returns-in_err-repair-clause-priced : goal.returns-in_err-repair-clause-priced
returns-in_err-repair-clause-priced g c =
    let by : ℤ = c.args.loose.now.by.0 in
    let rules : List Rule = c.args.loose.now.rules.now in
    let ring : Ring = c.in_err-repair.field-0.0 in
    let p = err_from_is_err_and c.from_residual.result c.from_residual.ensures.1 in
    let all : Shown (loosened by rules) ring.size c.loop-place.ring c.repair.new.ring = shown_all by rules (c.loop-place.place + 1) ring.size c.loop-place.ring c.repair.new.ring c.in_err-repair.ensures.repaired.0 in
    let shown : Shown (loosened by rules) ring.size c.args.ring.now c.repair.new.ring = subst (λ (before : List ℕ). Shown (loosened by rules) ring.size before c.repair.new.ring) c.loop-place.invariant.1 all in
    rw (p.1, p.2) shown

pub returns-clause-priced : goal.returns-clause-priced
returns-clause-priced g c =
    let rules : List Rule = c.args.loose.now.rules.now in
    let inv = c.loop-place.invariant in
    let whole : take c.loop-place.place rules ≡ rules = take_all c.loop-place.place rules c.loop-place-test.false in (
      subst (λ (rs : List Rule). Latest (length c.args.prices.now) (at c.args.prices.now) (loosened c.args.loose.now.by.0 rs) (at c.loop-place.prices)) whole inv.2,
      sized_after c.args.loose.now.by.0 rules c.args.prices.now c.loop-place.prices c.loop-place.place c.args.loose.now.limited c.requires.sized c.requires.small c.loop-place.auto.prices inv.2,
      inv.1,
    )
