use Rattle.rules.proofs.Along.{along, join, sum_join}
use Rattle.rules.proofs.Decided.{shortened}
use Rattle.rules.proofs.Among.{closed_holds_own_ring}
use Rattle.rules.proofs.theory.chains_stand.Goals as goal

pub returns : goal.returns
returns c = record {
  bound = along;
  join = λ rules a b c p q h k. (join rules a b c p q h k, sum_join p q);
  shorten = shortened;
  closed = closed_holds_own_ring;
}
