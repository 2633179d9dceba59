use Rattle.std.proofs.Common.{List, None, refl, subst, arith}
use Rattle.rules.specs.declared.records.Rule.{Rule}
use Rattle.rules.specs.Meets.{◌∈◌}
use Rattle.search.proofs.Keys.{clash}
use Rattle.leads.proofs.sources.search_from.Goals as goal

pub search-requires-clause-ready : goal.search-requires-clause-ready
search-requires-clause-ready g c =
    c.start_alone.ensures.ready (λ z e. absurd (clash None e refl)) _ _
    (λ r m. let h = c.requires.events r (subst (λ (rules : List Rule). r ∈ rules) c.new-network.ensures.rules m) in (omega arith, omega arith))
    c.new-network.result.rising
