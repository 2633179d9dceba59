use Rattle.std.proofs.Common.{get_or, set, sym, ap, ◌∙◌, arith}
use Rattle.std.proofs.lemmas.List.{get_or-map}
use Rattle.heaps.specs.HeapOrder.{keys, events, places}
use Rattle.heaps.proofs.Writes.{exchanged_keys, exchanged_events, exchanged_places}
use Rattle.heaps.proofs.entries.exchange.Goals as goal

pub returns-clause-keyed : goal.returns-clause-keyed
returns-clause-keyed g c = λ k.
    let p = c.requires in
    let es = c.args.entries.now in
    let i = c.args.i in
    let j = c.args.j in
    let event_i = get_or-map (λ e. e.event) es i c.index-entries-i.result 0 p.within.0 in
    let event_j = get_or-map (λ e. e.event) es j c.index-entries-j.result 0 p.within.1 in
    exchanged_keys es i j _ _ (get_or es i c.index-entries-i.result).event (get_or es j c.index-entries-j.result).event (get_or es i c.index-entries-i-2.result).key (get_or es j c.index-entries-j-2.result).key _ _ _ _ _ _ p.within.0 p.within.1 (omega (arith, p.known.0, event_i)) (omega (arith, p.known.1, event_j))
    ∙ ap (λ x. set (set (keys es) i x) j (get_or es i c.index-entries-i-2.result).key) (sym (get_or-map (λ e. e.key) es j c.index-entries-j-2.result k p.within.1))
    ∙ ap (λ x. set (set (keys es) i (get_or (keys es) j k)) j x) (sym (get_or-map (λ e. e.key) es i c.index-entries-i-2.result k p.within.0))

pub returns-clause-evented : goal.returns-clause-evented
returns-clause-evented g c =
    let p = c.requires in
    let es = c.args.entries.now in
    let i = c.args.i in
    let j = c.args.j in
    let event_i = get_or-map (λ e. e.event) es i c.index-entries-i.result 0 p.within.0 in
    let event_j = get_or-map (λ e. e.event) es j c.index-entries-j.result 0 p.within.1 in
    exchanged_events es i j _ _ (get_or es i c.index-entries-i.result).event (get_or es j c.index-entries-j.result).event (get_or es i c.index-entries-i-2.result).key (get_or es j c.index-entries-j-2.result).key _ _ _ _ _ _ p.within.0 p.within.1 (omega (arith, p.known.0, event_i)) (omega (arith, p.known.1, event_j))
    ∙ ap (λ x. set (set (events es) i x) j (get_or es i c.index-entries-i.result).event) (sym event_j)
    ∙ ap (λ x. set (set (events es) i (get_or (events es) j 0)) j x) (sym event_i)

pub returns-clause-placed : goal.returns-clause-placed
returns-clause-placed g c =
    let p = c.requires in
    let es = c.args.entries.now in
    let i = c.args.i in
    let j = c.args.j in
    let event_i = get_or-map (λ e. e.event) es i c.index-entries-i.result 0 p.within.0 in
    let event_j = get_or-map (λ e. e.event) es j c.index-entries-j.result 0 p.within.1 in
    exchanged_places es i j i j (get_or es i c.index-entries-i.result).event (get_or es j c.index-entries-j.result).event (get_or es i c.index-entries-i-2.result).key (get_or es j c.index-entries-j-2.result).key _ _ _ _ _ _ p.within.0 p.within.1 (omega (arith, p.known.0, event_i)) (omega (arith, p.known.1, event_j))
    ∙ ap (λ x. set (set (places es) x i) (get_or es i c.index-entries-i.result).event j) (sym event_j)
    ∙ ap (λ x. set (set (places es) (get_or (events es) j 0) i) x j) (sym event_i)
