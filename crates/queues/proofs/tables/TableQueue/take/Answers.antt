use Rattle.std.proofs.Common.{rules}
use Rattle.std.proofs.lemmas.List.{map-set}
use Rattle.queues.proofs.tables.TableQueue.take.Goals as goal

pub returns-clause-left : goal.returns-clause-left
returns-clause-left g c = search (rules, map-set)
