use Rattle.std.proofs.Common.{◌≡◌, ℕ, ◌-◌, ◌<◌, ◌≤◌, List, ◌++◌, length, replicate, drop, ℤ, pos, neg_ℤ, None, Option, sym, ap, ◌∙◌, subst, arith}
use Rattle.std.proofs.lemmas.List.{length-append, length-replicate, length-take-le, get_or_append_left, get_or-append_right, get_or-drop}
use Rattle.delays.specs.Numbers.{Millis, amount}
use Rattle.rules.specs.declared.records.Rule.{Rule}
use Rattle.rules.specs.Meets.{at, EventsBelow}
use Rattle.queues.specs.Contents.{Contents, capacity_of}
use Rattle.queues.specs.Sorts.{taken_out}
use Rattle.search.specs.Networks.{Network, Labelling, labelling, key_of, Waits}
use Rattle.search.specs.Searches.{Exact, Ready, Searched}
use Rattle.settling.specs.Weights.{Raised, StaysFrom}
use Rattle.settling.proofs.Reductions.{over_same, net, none_negative, wider}
use Rattle.settling.proofs.Settles.{start_exact, labels_exact, all_taken, settles}
use Rattle.settling.proofs.times.settle.Goals as goal

room : (labels : List (Option Millis)) (n : ℕ) → length labels ≤ n → length (labels ++ replicate (n - length labels) None) ≡ n
room labels n h = omega (arith, length-append labels (replicate {A = Option Millis} (n - length labels) None), length-replicate {A = Option Millis} (n - length labels) None)

-- times written over the start of a list are those of the list
written : (prices copied new rest : List ℤ) (labels : List (Option Millis)) → copied ≡ prices → length new ≡ length copied → Raised copied labels new → Raised prices labels (new ++ rest)
written prices copied new rest labels e long is = subst (λ (ps : List ℤ). Raised ps labels (new ++ rest)) e (λ v h. get_or_append_left new rest (pos 0) v (omega arith) ∙ is v h)

-- the other times stay
stays : (n : ℕ) (new old : List ℤ) → length new ≡ n → StaysFrom n old (new ++ drop n old)
stays n new old long v h = get_or-append_right new (drop n old) n v (pos 0) long h ∙ get_or-drop n old (v - n) (pos 0) ∙ ap (at old) (omega arith)

pub new-network-requires-clause-rising : goal.new-network-requires-clause-rising
new-network-requires-clause-rising g c = none_negative c.args.loose.now.by.0 c.args.loose.now.rules.now c.args.prices.now c.weigh.new.weights c.weigh.ensures c.requires.feasible

pub search-requires-clause-fitting : goal.search-requires-clause-fitting
search-requires-clause-fitting g c =
    let labels : List (Option Millis) = c.oppose.new.labels in
    let long : length labels ≡ length c.args.prices.now = c.oppose.auto.labels ∙ length-take-le (length c.args.prices.now) _ c.requires.sized.few_events in
    let below : EventsBelow (length labels) c.args.loose.now.rules.now = wider (length c.args.prices.now) (length labels) c.args.loose.now.rules.now (omega (arith, long)) c.requires.sized.events in
    let few = c.requires.sized.few_events in
    record {
      few = omega (arith, long);
      events = subst (λ (rs : List Rule). EventsBelow (length labels) rs) (sym c.new-network.ensures.rules) below;
      parents = c.start_labelled.auto.parents ∙ length-take-le (length c.args.prices.now) _ c.requires.sized.few_events ∙ sym long;
      capacity = omega (arith, ap (λ s. capacity_of s.queue) c.start_labelled.ensures.started, room labels (capacity_of (g.Q.Queue.contents c.args.queue.now)) (omega (arith, long, c.requires.capacity)), long, c.requires.capacity);
    }

pub search-requires-clause-ready : goal.search-requires-clause-ready
search-requires-clause-ready g c =
    let rules : List Rule = c.args.loose.now.rules.now in
    let labels : List (Option Millis) = c.oppose.new.labels in
    let start : Labelling Millis = labelling labels c.start_labelled.new.parents (g.Q.Queue.contents c.start_labelled.new.queue) in
    let long : length labels ≡ length c.args.prices.now = c.oppose.auto.labels ∙ length-take-le (length c.args.prices.now) _ c.requires.sized.few_events in
    let below : EventsBelow (length labels) rules = wider (length c.args.prices.now) (length labels) rules (omega (arith, long)) c.requires.sized.events in
    let rising = none_negative c.args.loose.now.by.0 rules c.args.prices.now c.weigh.new.weights c.weigh.ensures c.requires.feasible in
    over_same (λ (n : Network Millis). Ready n start) rules c.new-network.result.rules.now c.weigh.new.weights c.new-network.result.weights.now (sym c.new-network.ensures.rules) (sym c.new-network.ensures.weights) (c.start_labelled.ensures.ready rules c.weigh.new.weights below rising)

pub search-requires-clause-exact : goal.search-requires-clause-exact
search-requires-clause-exact g c =
    let start : Labelling Millis = labelling c.oppose.new.labels c.start_labelled.new.parents (g.Q.Queue.contents c.start_labelled.new.queue) in
    let long : length c.oppose.new.labels ≡ length c.args.prices.now = c.oppose.auto.labels ∙ length-take-le (length c.args.prices.now) _ c.requires.sized.few_events in
    over_same (λ (n : Network Millis). Exact n start) c.args.loose.now.rules.now c.new-network.result.rules.now c.weigh.new.weights c.new-network.result.weights.now (sym c.new-network.ensures.rules) (sym c.new-network.ensures.weights)
    (start_exact c.args.loose.now.by.0 c.args.loose.now.rules.now c.args.prices.now c.weigh.new.weights c.weigh.ensures c.args.loose.now.limited c.requires.sized start long c.oppose.ensures)

pub raise_all-requires-clause-exact : goal.raise_all-requires-clause-exact
raise_all-requires-clause-exact g c =
    let start : Labelling Millis = labelling c.oppose.new.labels c.start_labelled.new.parents (g.Q.Queue.contents c.start_labelled.new.queue) in
    let s : Labelling Millis = labelling c.search.new.labels c.search.new.parents (g.Q.Queue.contents c.search.new.queue) in
    let long : length c.oppose.new.labels ≡ length c.args.prices.now = c.oppose.auto.labels ∙ length-take-le (length c.args.prices.now) _ c.requires.sized.few_events in
    let found = over_same (λ (n : Network Millis). Searched n start s) c.new-network.result.rules.now c.args.loose.now.rules.now c.new-network.result.weights.now c.weigh.new.weights c.new-network.ensures.rules c.new-network.ensures.weights c.search.ensures in
    labels_exact c.args.loose.now.by.0 c.args.loose.now.rules.now c.args.prices.now c.weigh.new.weights c.weigh.ensures c.args.loose.now.limited c.requires.sized start long c.oppose.ensures s found

pub returns-clause-settled : goal.returns-clause-settled
returns-clause-settled g c =
    let prices : List ℤ = c.args.prices.now in
    let start : Labelling Millis = labelling c.oppose.new.labels c.start_labelled.new.parents (g.Q.Queue.contents c.start_labelled.new.queue) in
    let s : Labelling Millis = labelling c.search.new.labels c.search.new.parents (g.Q.Queue.contents c.search.new.queue) in
    let long : length c.oppose.new.labels ≡ length prices = c.oppose.auto.labels ∙ length-take-le (length c.args.prices.now) _ c.requires.sized.few_events in
    let raised : Raised prices s.labels (c.raise_all.new.prices ++ drop (length prices) c.args.times.now) = written prices c.copy_from_slice.new.self c.raise_all.new.prices _ s.labels c.copy_from_slice.ensures.after c.raise_all.auto.prices c.raise_all.ensures in
    let found = over_same (λ (n : Network Millis). Searched n start s) c.new-network.result.rules.now c.args.loose.now.rules.now c.new-network.result.weights.now c.weigh.new.weights c.new-network.ensures.rules c.new-network.ensures.weights c.search.ensures in
    settles c.args.loose.now.by.0 c.args.loose.now.rules.now prices c.weigh.new.weights c.weigh.ensures c.args.loose.now.limited c.requires.sized start long c.oppose.ensures s found _ raised

pub returns-clause-queue : goal.returns-clause-queue
returns-clause-queue g c =
    let prices : List ℤ = c.args.prices.now in
    let labels : List (Option Millis) = c.oppose.new.labels in
    let q : Contents Millis = g.Q.Queue.contents c.args.queue.now in
    let start : Labelling Millis = labelling labels c.start_labelled.new.parents (g.Q.Queue.contents c.start_labelled.new.queue) in
    let s : Labelling Millis = labelling c.search.new.labels c.search.new.parents (g.Q.Queue.contents c.search.new.queue) in
    let long : length labels ≡ length prices = c.oppose.auto.labels ∙ length-take-le (length c.args.prices.now) _ c.requires.sized.few_events in
    let found : Searched (net c.args.loose.now.by.0 c.args.loose.now.rules.now prices c.weigh.new.weights c.weigh.ensures) start s =
    over_same (λ (n : Network Millis). Searched n start s) c.new-network.result.rules.now c.args.loose.now.rules.now c.new-network.result.weights.now c.weigh.new.weights c.new-network.ensures.rules c.new-network.ensures.weights c.search.ensures in
    let begun = c.start_labelled.ensures.started in
    let waits : (v : ℕ) → v < length prices → Waits start v = λ v h. (
      amount (neg_ℤ (at prices v)),
      ap (λ (x : Labelling Millis). key_of x v) begun ∙ get_or_append_left labels (replicate (capacity_of q - length labels) None) None v (omega (arith, long)) ∙ c.oppose.ensures v h,
    ) in
    let taken = all_taken c.args.loose.now.by.0 c.args.loose.now.rules.now prices c.weigh.new.weights c.weigh.ensures c.args.loose.now.limited c.requires.sized start long c.oppose.ensures s found waits in
    let capacity : capacity_of start.queue ≡ capacity_of q = ap (λ (x : Labelling Millis). capacity_of x.queue) begun ∙ room labels (capacity_of q) (omega (arith, long, c.requires.capacity)) in
    found.left ∙ ap (λ n. taken_out n (length found.taken)) capacity ∙ ap (taken_out (capacity_of q)) taken

pub returns-clause-rest : goal.returns-clause-rest
returns-clause-rest g c = stays (length c.args.prices.now) c.raise_all.new.prices c.args.times.now (omega (arith, c.raise_all.auto.prices, ap length c.copy_from_slice.ensures.after))
