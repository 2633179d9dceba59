use Rattle.leads.proofs.Public.{lead_told, lead_parents}
use Rattle.leads.proofs.priced.PricedRules.lead.Goals as goal

pub returns-clause-told : goal.returns-clause-told
returns-clause-told g c = λ v. lead_told c.args.self.now.rules.now c.args.self.now.source v _ (c.measure.ensures.told v)

pub returns-clause-parents : goal.returns-clause-parents
returns-clause-parents g c = lead_parents c.args.self.now.rules.now c.args.self.now.source _ c.measure.ensures.parents
