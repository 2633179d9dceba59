use Rattle.std.proofs.Common.{arith}
use Rattle.rules.specs.Places.{no_rule}
use Rattle.reading.proofs.Fronts.{copied_more}
use Rattle.reading.proofs.copying.read_rules.Goals as goal

pub loop-place-preserved : goal.loop-place-preserved
loop-place-preserved g c =
    let rules = (g.B.Book.meaning c.args.book.now).rules in
    rw (c.loop-place.invariant, c.known.ensures) (copied_more rules c.args.records.now c.loop-place.place no_rule (omega arith) (omega arith))
