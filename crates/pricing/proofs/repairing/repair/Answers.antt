use Rattle.std.proofs.Common.{ℕ, ◌+◌, List, ◌∷◌, take, ℤ, pos, refl, ap, arith, w64, to_z, of_z}
use Rattle.std.proofs.lemmas.Int.{ints}
use Rattle.delays.specs.Numbers.{Millis}
use Rattle.rules.specs.declared.records.Rule.{Rule}
use Rattle.rules.specs.Meets.{at}
use Rattle.rules.specs.Prices.{reduced_limit, loosen}
use Rattle.rules.specs.Places.{no_rule, rule_at}
use Rattle.rules.proofs.Members.{get_or_in}
use Rattle.settling.proofs.Reductions.{not_below, no_less}
use Rattle.pricing.proofs.Mends.{repaired_alike, limited_before, next_in, next_out, sized_next, stays}
use Rattle.pricing.proofs.repairing.repair.Goals as goal

pub reduced_limit-key-requires-clause-rule : goal.reduced_limit-key-requires-clause-rule
reduced_limit-key-requires-clause-rule g c = get_or_in c.args.loose.now.rules.now c.args.place no_rule c.requires.place

pub invariant_of-before : goal.invariant_of-before
invariant_of-before g c = record { limited = limited_before c.args.loose.now.by.0 c.args.loose.now.rules.now c.args.place (omega (arith, c.requires.place)) c.args.loose.now.limited }

pub repair_negative-requires-clause-limit : goal.repair_negative-requires-clause-limit
repair_negative-requires-clause-limit g c = c.args.loose.now.limited.limits _ (get_or_in c.args.loose.now.rules.now c.args.place no_rule c.requires.place)

pub repair_negative-requires-clause-sized : goal.repair_negative-requires-clause-sized
repair_negative-requires-clause-sized g c = sized_next c.args.loose.now.rules.now c.args.place c.requires.place c.args.prices.now c.requires.sized

pub returns-then-key-lt0-clause-repaired : goal.returns-then-key-lt0-clause-repaired
returns-then-key-lt0-clause-repaired g c =
    let rules : List Rule = c.args.loose.now.rules.now in
    let place : ℕ = c.args.place in
    repaired_alike c.args.loose.now.by.0 (rule_at rules place ∷ take place rules) (take (place + 1) rules) c.args.prices.now c.repair_negative.new.prices c.args.ring.now c.repair_negative.new.ring c.repair_negative.result
    (next_in rules place c.requires.place) (next_out rules place c.requires.place) c.repair_negative.ensures.repaired

pub returns-else-key-lt0-clause-repaired : goal.returns-else-key-lt0-clause-repaired
returns-else-key-lt0-clause-repaired g c =
    let rules : List Rule = c.args.loose.now.rules.now in
    let least = not_below (to_z w64 (of_z w64 c.reduced_limit-key.result.0)) (pos 0) c.if-key-lt0.false in
    let e = ap (λ (m : Millis). m.0) c.reduced_limit-key.ensures in
    let reduced : ℤ = reduced_limit (at c.args.prices.now) (loosen c.args.loose.now.by.0 (rule_at rules c.args.place)) in
    (stays rules c.args.place c.requires.place c.args.loose.now.by.0 c.args.prices.now c.requires.feasible (no_less reduced (pos 0) (omega (arith, ints))), refl)
