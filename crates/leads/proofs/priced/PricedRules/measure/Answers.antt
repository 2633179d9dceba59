use Rattle.std.proofs.Common.{length, None, ◌∙◌}
use Rattle.search.specs.Networks.{labelling}
use Rattle.leads.proofs.Alone.{long}
use Rattle.leads.proofs.Best.{explorable, explored}
use Rattle.leads.proofs.priced.PricedRules.measure.Goals as goal

pub search_from-requires-clause-exact : goal.search_from-requires-clause-exact
search_from-requires-clause-exact g c =
    explorable g.met.C.Counting.few c.args.self.now.priced c.weigh.ensures c.args.self.now.inside _ c.requires.capacity (long None (length c.args.self.now.prices.now) c.args.self.now.priced.sized.few_events)

pub write_measures-requires-clause-fits : goal.write_measures-requires-clause-fits
write_measures-requires-clause-fits g c =
    (explored g.met.C.Counting.few c.args.self.now.priced c.weigh.ensures c.args.self.now.inside (g.Q.Queue.contents c.args.queue.now) c.requires.capacity
    (labelling c.search_from.new.labels c.search_from.new.parents (g.Q.Queue.contents c.search_from.new.queue)) (c.search_from.auto.parents ∙ c.requires.parents)
    (long None (length c.args.self.now.prices.now) c.args.self.now.priced.sized.few_events) c.search_from.auto.labels c.search_from.ensures).fits

pub returns : goal.returns
returns g c =
    let x =
    explored g.met.C.Counting.few c.args.self.now.priced c.weigh.ensures c.args.self.now.inside (g.Q.Queue.contents c.args.queue.now) c.requires.capacity
    (labelling c.search_from.new.labels c.search_from.new.parents (g.Q.Queue.contents c.search_from.new.queue)) (c.search_from.auto.parents ∙ c.requires.parents)
    (long None (length c.args.self.now.prices.now) c.args.self.now.priced.sized.few_events) c.search_from.auto.labels c.search_from.ensures in
    record {
      reached = x.reached;
      told = x.told _ c.write_measures.ensures;
      parents = x.parents;
    }
