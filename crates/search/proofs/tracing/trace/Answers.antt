use Rattle.std.proofs.Common.{◌≡◌, ℕ, ◌+◌, ◌-◌, Option, set, sym, refl, ap, ◌∙◌, subst, arith}
use Rattle.std.specs.Option.{IsSome}
use Rattle.rules.specs.Places.{rule_at}
use Rattle.search.proofs.Walking.{Back, back_begin, back_more, back_some, half_written, write_begin, write_more}
use Rattle.search.proofs.tracing.trace.Goals as goal

pub loop-left-init : goal.loop-left-init
loop-left-init c =
    let rules = c.args.rules.now in
    let t = c.depth-count.ensures.traced in (
      t.0,
      t.2,
      subst (λ (n : ℕ). Back rules c.args.parents.now c.args.event t.0 n c.args.event) t.2 (back_begin rules c.args.parents.now c.args.event t.0 c.requires.event t.1),
      write_begin rules c.args.numbers.now t.0 ∙ ap (half_written rules c.args.numbers.now t.0) t.2,
    )

pub unwrap-requires : goal.unwrap-requires
unwrap-requires c =
    let inv = c.loop-left.invariant in
    subst (λ (o : Option ℕ). IsSome o) (sym (back_more c.args.rules.now c.args.parents.now c.args.event inv.0 c.loop-left.left c.loop-left.at c.requires.events c.loop-left-test.true inv.2).0) refl

pub bounds-rules-unwrap : goal.bounds-rules-unwrap
bounds-rules-unwrap c =
    let inv = c.loop-left.invariant in
    (back_some c.args.rules.now c.args.parents.now c.args.event inv.0 c.loop-left.left c.loop-left.at c.unwrap.result c.requires.events c.unwrap.ensures inv.2).2

pub loop-left-preserved : goal.loop-left-preserved
loop-left-preserved c =
    let rules = c.args.rules.now in
    let entry = c.args.numbers.now in
    let inv = c.loop-left.invariant in
    let left : ℕ = c.loop-left.left in
    let (some, own, _, next) = back_some rules c.args.parents.now c.args.event inv.0 left c.loop-left.at c.unwrap.result c.requires.events c.unwrap.ensures inv.2 in
    let same : left ≡ left - 1 + 1 = omega arith in
    let within = inv.2.within in (
      inv.0,
      inv.1,
      next,
      ap (λ ns. set ns (left - 1) (rule_at rules c.unwrap.result).number) (inv.3 ∙ ap (half_written rules entry inv.0) same)
          ∙ ap (λ p. set (half_written rules entry inv.0 (left - 1 + 1)) (left - 1) (rule_at rules p).number) own
          ∙ write_more rules entry inv.0 (left - 1) (omega arith) (omega (arith, inv.1, c.depth-count.ensures.few, c.requires.room)),
    )
