use Rattle.std.proofs.Common.{◌≡◌, ℕ, length, get_or, replicate, None, sym, subst}
use Rattle.delays.specs.Numbers.{Millis, amount_zero}
use Rattle.search.specs.Networks.{labelling}
use Rattle.search.proofs.Begins.{all_same}
use Rattle.settling.specs.Sizes.{max_edges}
use Rattle.leads.proofs.Alone.{long}
use Rattle.leads.proofs.Free.{none_negative, explorable, explored}
use Rattle.leads.proofs.reaching.reach.Goals as goal

free : (z : Millis) → z ≡ amount_zero → (place : ℕ) → get_or (replicate max_edges z) place amount_zero ≡ amount_zero
free z e place = subst (λ (x : Millis). get_or (replicate max_edges x) place amount_zero ≡ amount_zero) (sym e) (all_same max_edges place amount_zero)

pub search_from-requires-clause-rising : goal.search_from-requires-clause-rising
search_from-requires-clause-rising g c = none_negative c.args.rules.now (replicate max_edges c.zero-weights.result) (free _ c.zero-weights.ensures)

pub search_from-requires-clause-exact : goal.search_from-requires-clause-exact
search_from-requires-clause-exact g c = explorable _ _ (free _ c.zero-weights.ensures) c.requires.source _ c.requires.capacity (long None (length c.args.reached.now) c.requires.few_events)

pub returns : goal.returns
returns g c =
    let x =
    explored c.requires.source (g.Q.Queue.contents c.args.queue.now) c.requires.capacity
    (labelling c.search_from.new.labels c.search_from.new.parents (g.Q.Queue.contents c.search_from.new.queue))
    (long None (length c.args.reached.now) c.requires.few_events) c.search_from.ensures in
    record {
      counted = x.reached;
      reached = x.flagged _ c.write_flags.ensures;
    }
