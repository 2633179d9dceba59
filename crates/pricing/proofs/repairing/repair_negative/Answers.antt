use Rattle.std.proofs.Common.{◌≡◌, ℕ, ◌<◌, false, List, length, replicate, pos, Some, None, Option, sym, refl, ap, ◌∙◌, subst, arith}
use mathlib.Core.List.Memᴰ
use Rattle.std.proofs.lemmas.List.{length-replicate, length-set, length-take-le}
use Rattle.std.proofs.lemmas.Int.{ints}
use Rattle.delays.specs.Numbers.{Millis, amount_zero, amount_less}
use Rattle.rules.specs.declared.records.Rule.{Rule}
use Rattle.rules.specs.Meets.{EventsBelow}
use Rattle.queues.specs.Contents.{Contents, capacity_of, empty}
use Rattle.search.specs.Networks.{Network, Labelling, labelling}
use Rattle.queues.specs.Sorts.{taken_out}
use Rattle.search.specs.Beginnings.{alone}
use Rattle.search.specs.Searches.{Exact, Ready, Searched}
use Rattle.search.proofs.Keys.{same}
use Rattle.settling.proofs.Reductions.{over, over_same, no_less, none_negative, wider}
use Rattle.pricing.proofs.Explores.{resting, Explored, sized_rest, start_exact, explored}
use Rattle.pricing.proofs.Mends.{shown}
use Rattle.pricing.proofs.repairing.repair_negative.Goals as goal

-- a search that starts as it is to
begun : (n capacity event : ℕ) (key label : Millis) (start : Labelling Millis) → label ≡ amount_zero → start ≡ alone n capacity event key (Some label) → start ≡ alone n capacity event key resting
begun n capacity event key label start e is = is ∙ ap (λ z. alone n capacity event key (Some z)) e

-- its queue has the capacity that it had
roomy : (n capacity event : ℕ) (key : Millis) (label : Option Millis) (start : Labelling Millis) → start ≡ alone n capacity event key label → capacity_of start.queue ≡ capacity
roomy n capacity event key label start is =
    ap (λ (x : Labelling Millis). capacity_of x.queue) is ∙ length-set (replicate {A = Option Millis} capacity None) event (Some key) ∙ length-replicate {A = Option Millis} capacity None

cleared : (n capacity event : ℕ) (key : Millis) (label : Option Millis) (start : Labelling Millis) (after last : Contents Millis) (taken : ℕ)
    → start ≡ alone n capacity event key label → after ≡ taken_out (capacity_of start.queue) taken → last ≡ empty (capacity_of after) → last ≡ empty capacity
cleared n capacity event key label start after last taken is left e =
    e ∙ ap empty (ap (λ (x : Contents Millis). capacity_of x) left ∙ length-replicate {A = Option Millis} (capacity_of start.queue) None ∙ roomy n capacity event key label start is)

pub weigh-requires-clause-sized : goal.weigh-requires-clause-sized
weigh-requires-clause-sized g c = sized_rest c.args.rule c.args.loose.now.rules.now c.args.prices.now c.requires.sized

pub new-network-requires-clause-events : goal.new-network-requires-clause-events
new-network-requires-clause-events g c =
    wider (length c.args.prices.now) _ c.args.loose.now.rules.now c.requires.sized.few_events (λ r m. c.requires.sized.events r (Memᴰ.tail m))

pub new-network-requires-clause-rising : goal.new-network-requires-clause-rising
new-network-requires-clause-rising g c = none_negative c.args.loose.now.by.0 c.args.loose.now.rules.now c.args.prices.now c.weigh.new.weights c.weigh.ensures c.requires.feasible

pub start_alone-requires-clause-event : goal.start_alone-requires-clause-event
start_alone-requires-clause-event g c =
    subst (λ (n : ℕ). c.args.rule.second < n) (sym (length-take-le (length c.args.prices.now) _ c.requires.sized.few_events)) (c.requires.sized.events c.args.rule (Memᴰ.head refl)).1

pub search-requires-clause-fitting : goal.search-requires-clause-fitting
search-requires-clause-fitting g c =
    let n : ℕ = length c.args.prices.now in
    let long : length c.start_alone.new.labels ≡ n = c.start_alone.auto.labels ∙ length-take-le n _ c.requires.sized.few_events in
    let below : EventsBelow (length c.start_alone.new.labels) c.args.loose.now.rules.now = wider n (length c.start_alone.new.labels) c.args.loose.now.rules.now (omega (arith, long)) (λ r m. c.requires.sized.events r (Memᴰ.tail m)) in
    let few = c.requires.sized.few_events in
    let start : Labelling Millis = labelling c.start_alone.new.labels c.start_alone.new.parents (g.Q.Queue.contents c.start_alone.new.queue) in
    let room = roomy _ (capacity_of (g.Q.Queue.contents c.args.queue.now)) _ _ _ start c.start_alone.ensures.started in
    record {
      few = omega (arith, long);
      events = subst (λ (rs : List Rule). EventsBelow (length c.start_alone.new.labels) rs) (sym c.new-network.ensures.rules) below;
      parents = c.start_alone.auto.parents ∙ length-take-le n _ few ∙ sym long;
      capacity = omega (arith, room, long, c.requires.capacity);
    }

pub search-requires-clause-ready : goal.search-requires-clause-ready
search-requires-clause-ready g c =
    let rules : List Rule = c.args.loose.now.rules.now in
    let n : ℕ = length c.args.prices.now in
    let key : Millis = c.args.key in
    let start : Labelling Millis = labelling c.start_alone.new.labels c.start_alone.new.parents (g.Q.Queue.contents c.start_alone.new.queue) in
    let long : length c.start_alone.new.labels ≡ n = c.start_alone.auto.labels ∙ length-take-le n _ c.requires.sized.few_events in
    let below : EventsBelow (length c.start_alone.new.labels) rules = wider n (length c.start_alone.new.labels) rules (omega (arith, long)) (λ r m. c.requires.sized.events r (Memᴰ.tail m)) in
    let rising = none_negative c.args.loose.now.by.0 rules c.args.prices.now c.weigh.new.weights c.weigh.ensures c.requires.feasible in
    over_same (λ (w : Network Millis). Ready w start) rules c.new-network.result.rules.now c.weigh.new.weights c.new-network.result.weights.now (sym c.new-network.ensures.rules) (sym c.new-network.ensures.weights)
    (c.start_alone.ensures.ready (λ z e. subst (λ (m : Millis). amount_less m key ≡ false) (same e) (subst (λ (m : Millis). amount_less m key ≡ false) (sym c.of.ensures) (no_less (pos 0) key.0 (let h = c.requires.negative in omega (arith, ints))))) rules c.weigh.new.weights below rising)

pub search-requires-clause-exact : goal.search-requires-clause-exact
search-requires-clause-exact g c =
    let rules : List Rule = c.args.loose.now.rules.now in
    let start : Labelling Millis = labelling c.start_alone.new.labels c.start_alone.new.parents (g.Q.Queue.contents c.start_alone.new.queue) in
    over_same (λ (w : Network Millis). Exact w start) rules c.new-network.result.rules.now c.weigh.new.weights c.new-network.result.weights.now (sym c.new-network.ensures.rules) (sym c.new-network.ensures.weights)
    (start_exact c.args.loose.now.by.0 rules c.args.rule c.args.prices.now c.weigh.new.weights c.weigh.ensures c.args.loose.now.limited c.requires.limit c.requires.sized c.requires.feasible c.args.key c.requires.key c.requires.negative
    _ (capacity_of (g.Q.Queue.contents c.args.queue.now)) (length-take-le (length c.args.prices.now) _ c.requires.sized.few_events) start (begun _ _ _ _ _ start c.of.ensures c.start_alone.ensures.started))

pub slice_copy_out-is_fallen : goal.slice_copy_out-is_fallen
slice_copy_out-is_fallen g c =
    let long : length c.search.new.labels ≡ length c.args.prices.now = c.search.auto.labels ∙ c.start_alone.auto.labels ∙ length-take-le (length c.args.prices.now) _ c.requires.sized.few_events in
    omega (arith, long, (c.requires.sized.events c.args.rule (Memᴰ.head refl)).0)

pub show_ring-requires-clause-first : goal.show_ring-requires-clause-first
show_ring-requires-clause-first g c =
    let long : length c.search.new.parents ≡ length c.args.prices.now = c.search.auto.parents ∙ c.start_alone.auto.parents ∙ length-take-le (length c.args.prices.now) _ c.requires.sized.few_events in
    omega (arith, long, (c.requires.sized.events c.args.rule (Memᴰ.head refl)).0)

pub show_ring-requires-clause-events : goal.show_ring-requires-clause-events
show_ring-requires-clause-events g c r m =
    let long : length c.search.new.parents ≡ length c.args.prices.now = c.search.auto.parents ∙ c.start_alone.auto.parents ∙ length-take-le (length c.args.prices.now) _ c.requires.sized.few_events in
    let h = c.requires.sized.events r (Memᴰ.tail m) in
    (omega (arith, long, h.0), omega (arith, long, h.1))

pub returns-then-is_fallen-clause-repaired : goal.returns-then-is_fallen-clause-repaired
returns-then-is_fallen-clause-repaired g c =
    let rules : List Rule = c.args.loose.now.rules.now in
    let start : Labelling Millis = labelling c.start_alone.new.labels c.start_alone.new.parents (g.Q.Queue.contents c.start_alone.new.queue) in
    let s : Labelling Millis = labelling c.search.new.labels c.search.new.parents (g.Q.Queue.contents c.search.new.queue) in
    let searched : Searched (over rules c.weigh.new.weights) start s =
    over_same (λ (w : Network Millis). Searched w start s) c.new-network.result.rules.now rules c.new-network.result.weights.now c.weigh.new.weights c.new-network.ensures.rules c.new-network.ensures.weights c.search.ensures in
    let found : Explored c.args.loose.now.by.0 rules c.args.rule c.args.prices.now c.search.new.labels c.search.new.parents =
    explored c.args.loose.now.by.0 rules c.args.rule c.args.prices.now c.weigh.new.weights c.weigh.ensures c.args.loose.now.limited c.requires.limit c.requires.sized c.requires.feasible c.args.key c.requires.key c.requires.negative
    _ (capacity_of (g.Q.Queue.contents c.args.queue.now)) (length-take-le (length c.args.prices.now) _ c.requires.sized.few_events) start (begun _ _ _ _ _ start c.of.ensures c.start_alone.ensures.started) s searched in
    (shown c.args.loose.now.by.0 c.args.loose.now.rules.now c.args.rule c.args.prices.now c.search.new.labels c.search.new.parents c.show_ring.result.size c.args.ring.now c.show_ring.new.ring found (sym c.is_fallen.ensures ∙ c.if-is_fallen.true) c.show_ring.ensures, refl)

pub returns-then-is_fallen-clause-queue : goal.returns-then-is_fallen-clause-queue
returns-then-is_fallen-clause-queue g c =
    let start : Labelling Millis = labelling c.start_alone.new.labels c.start_alone.new.parents (g.Q.Queue.contents c.start_alone.new.queue) in
    cleared _ (capacity_of (g.Q.Queue.contents c.args.queue.now)) _ _ _ start (g.Q.Queue.contents c.search.new.queue) (g.Q.Queue.contents c.clear.new.self) _ c.start_alone.ensures.started c.search.ensures.left c.clear.ensures

pub raise_all-requires-clause-exact : goal.raise_all-requires-clause-exact
raise_all-requires-clause-exact g c =
    let rules : List Rule = c.args.loose.now.rules.now in
    let start : Labelling Millis = labelling c.start_alone.new.labels c.start_alone.new.parents (g.Q.Queue.contents c.start_alone.new.queue) in
    let s : Labelling Millis = labelling c.search.new.labels c.search.new.parents (g.Q.Queue.contents c.search.new.queue) in
    let searched : Searched (over rules c.weigh.new.weights) start s =
    over_same (λ (w : Network Millis). Searched w start s) c.new-network.result.rules.now rules c.new-network.result.weights.now c.weigh.new.weights c.new-network.ensures.rules c.new-network.ensures.weights c.search.ensures in
    let found : Explored c.args.loose.now.by.0 rules c.args.rule c.args.prices.now c.search.new.labels c.search.new.parents =
    explored c.args.loose.now.by.0 rules c.args.rule c.args.prices.now c.weigh.new.weights c.weigh.ensures c.args.loose.now.limited c.requires.limit c.requires.sized c.requires.feasible c.args.key c.requires.key c.requires.negative
    _ (capacity_of (g.Q.Queue.contents c.args.queue.now)) (length-take-le (length c.args.prices.now) _ c.requires.sized.few_events) start (begun _ _ _ _ _ start c.of.ensures c.start_alone.ensures.started) s searched in
    found.exact

pub returns-clause-repaired : goal.returns-clause-repaired
returns-clause-repaired g c =
    let rules : List Rule = c.args.loose.now.rules.now in
    let start : Labelling Millis = labelling c.start_alone.new.labels c.start_alone.new.parents (g.Q.Queue.contents c.start_alone.new.queue) in
    let s : Labelling Millis = labelling c.search.new.labels c.search.new.parents (g.Q.Queue.contents c.search.new.queue) in
    let searched : Searched (over rules c.weigh.new.weights) start s =
    over_same (λ (w : Network Millis). Searched w start s) c.new-network.result.rules.now rules c.new-network.result.weights.now c.weigh.new.weights c.new-network.ensures.rules c.new-network.ensures.weights c.search.ensures in
    let found : Explored c.args.loose.now.by.0 rules c.args.rule c.args.prices.now c.search.new.labels c.search.new.parents =
    explored c.args.loose.now.by.0 rules c.args.rule c.args.prices.now c.weigh.new.weights c.weigh.ensures c.args.loose.now.limited c.requires.limit c.requires.sized c.requires.feasible c.args.key c.requires.key c.requires.negative
    _ (capacity_of (g.Q.Queue.contents c.args.queue.now)) (length-take-le (length c.args.prices.now) _ c.requires.sized.few_events) start (begun _ _ _ _ _ start c.of.ensures c.start_alone.ensures.started) s searched in
    (found.mends (sym c.is_fallen.ensures ∙ c.if-is_fallen.false) c.raise_all.new.prices c.raise_all.ensures, refl)

pub returns-clause-queue : goal.returns-clause-queue
returns-clause-queue g c =
    let start : Labelling Millis = labelling c.start_alone.new.labels c.start_alone.new.parents (g.Q.Queue.contents c.start_alone.new.queue) in
    cleared _ (capacity_of (g.Q.Queue.contents c.args.queue.now)) _ _ _ start (g.Q.Queue.contents c.search.new.queue) (g.Q.Queue.contents c.clear.new.self) _ c.start_alone.ensures.started c.search.ensures.left c.clear.ensures
