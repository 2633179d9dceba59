use Rattle.rules.proofs.Reduced.{reduced_along, reduced_ring, prices_are_times, loosened_exactly}
use Rattle.rules.proofs.theory.prices_stand.Goals as goal

pub returns : goal.returns
returns c = record {
  sums = reduced_along;
  rings = reduced_ring;
  times = prices_are_times;
  loosened = loosened_exactly;
}
