use Rattle.std.proofs.Common.{rules, None, ◌≡◌, ℕ, ◌+◌, Option, sym, ◌∙◌, subst, arith}
use Rattle.std.proofs.lemmas.List.{length-map}
use Rattle.queues.specs.SlotKeys.{slot_keys}
use Rattle.queues.proofs.Keyed.{slot_key}
use Rattle.queues.proofs.Order.{order}
use Rattle.queues.proofs.Scans.{LeastBelow, Lower, scan_none, scan_lower, scan_kept, scan_all}
use Rattle.queues.proofs.slots.least.Goals as goal
use Rattle.queues.proofs.slots.least.Goals.{in-Some+then-is_none_or, in_default, in_default-via-in-None-1, in_default-via-in-Some+else-is_none_or}

pub loop-event-preserved : goal.loop-event-preserved
loop-event-preserved g c =
    let ws = slot_keys c.args.slots.now in
    let i = c.loop-event.event in
    let less = g.K.Delay.less in
    let m = g.met.K.Delay in
    let v = c.loop-event.invariant in
    let key = slot_key c.args.slots.now i c.index-slots-event.result c.loop-event-test.true c.index-slots-event.is in
    let P : Option (ℕ × g.row.K.Denot) → Type 0 = λ b. LeastBelow less ws (i + 1) b in
    elim c.match-slot.branch [
      | in-Some+then-is_none_or w ↦ let l : Lower less c.loop-event.best w.in-Some.key w.is_none_or.result = search rules in subst P (sym w.best-is) (scan_lower less (order less m.irreflexive m.transitive m.total) ws i c.loop-event.best w.in-Some.key w.is_none_or.result v (key ∙ w.in-Some.is) l w.if-is_none_or.true)
      | in_default w ↦ subst P (sym w.best-is) (elim w.in_default.branch [
        | in_default-via-in-None-1 u ↦ let none : c.index-slots-event.result.key ≡ None = search rules in scan_none less ws i c.loop-event.best v (key ∙ none)
        | in_default-via-in-Some+else-is_none_or u ↦ let l : Lower less c.loop-event.best u.in-Some.key u.is_none_or.result = search rules in scan_kept less ws i c.loop-event.best u.in-Some.key u.is_none_or.result v (key ∙ u.in-Some.is) l u.if-is_none_or.false
      ])
    ]

pub returns : goal.returns
returns g c = scan_all g.K.Delay.less (slot_keys c.args.slots.now) c.loop-event.event c.loop-event.best (omega (arith, length-map c.args.slots.now (λ s. s.key))) c.loop-event.invariant
