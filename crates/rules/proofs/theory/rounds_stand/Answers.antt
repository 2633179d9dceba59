use Rattle.rules.proofs.Fewest.{fewest_rules, fewest_bound, fewest_negatives, rounds_exist, rounds_bound, rounds_alike}
use Rattle.rules.proofs.Ends.{lowest_end}
use Rattle.rules.proofs.theory.rounds_stand.Goals as goal

pub returns : goal.returns
returns c = record {
  fewest = λ rules a b d k. fewest_rules rules a b k.0 k.1;
  few = fewest_bound;
  lowest = λ rules a b d k. lowest_end rules a b k.0 k.1;
  negatives = λ rules a b d k. fewest_negatives rules a b k.0 k.1;
  exist = rounds_exist;
  bounded = rounds_bound;
  alike = rounds_alike;
}
