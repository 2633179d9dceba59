use Rattle.std.proofs.Common.{ℕ, List, ◌∙◌, subst}
use Rattle.std.proofs.lemmas.List.{length-map}
use Rattle.rules.specs.declared.records.Rule.{Rule}
use Rattle.rules.specs.Chains.{Simple}
use Rattle.rules.specs.Places.{rule_at}
use Rattle.search.specs.Forests.{rules_at}
use Rattle.leads.proofs.chains.chain_to.Goals as goal

pub returns : goal.returns
returns c =
    let rules : List Rule = c.args.rules.now in
    let w = c.trace.ensures.written in
    let path : List Rule = rules_at rules w.places in
    record {
      few = c.trace.ensures.few;
      shown = λ source p r.
          let (e, f) = p.fewest c.args.event r w.places w.traced in
          record {
            path = path;
            fewest = f;
            simple = subst (λ (a : ℕ). Simple rules a c.args.event path) e w.traced.simple;
            counted = length-map w.places (rule_at rules) ∙ w.counted;
            numbers = w.numbers;
          };
    }
