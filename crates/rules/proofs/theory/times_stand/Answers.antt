use Rattle.std.proofs.Common.{pos}
use Rattle.rules.proofs.Latest.{latest_alike, latest_by_chains}
use Rattle.rules.proofs.Decided.{times_exactly, decided, settled_exactly}
use Rattle.rules.proofs.Alike.{order_free}
use Rattle.rules.proofs.theory.times_stand.Goals as goal

pub returns : goal.returns
returns c = record {
  exactly = times_exactly;
  decided = decided;
  settled = settled_exactly;
  alike = λ n. latest_alike n (λ v. pos 0);
  chains = λ n. latest_by_chains n (λ v. pos 0);
  order = order_free;
}
