use Rattle.leads.proofs.Public.{negatives_told}
use Rattle.leads.proofs.priced.PricedRules.counted.Goals as goal

pub returns-clause-told : goal.returns-clause-told
returns-clause-told g c = λ v. negatives_told c.args.self.now.rules.now c.args.self.now.source v _ (c.measure.ensures.told v)
