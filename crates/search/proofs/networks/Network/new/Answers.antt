use Rattle.std.proofs.Common.{length, arith}
use Rattle.rules.specs.Places.{first_of}
use Rattle.links.proofs.Grows.{linked_falls}
use Rattle.search.proofs.networks.Network.new.Goals as goal

pub invariant_of-result : goal.invariant_of-result
invariant_of-result g c =
    let rules = c.args.rules.now in
    record { falling = linked_falls (first_of rules) (length rules) c.link_rules.new.heads c.link_rules.new.nexts c.link_rules.ensures (omega (arith, c.link_rules.auto.nexts)) }
