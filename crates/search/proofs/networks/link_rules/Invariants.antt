use Rattle.rules.specs.Places.{first_of}
use Rattle.links.specs.Links.{Linked}
use Rattle.search.proofs.networks.link_rules.Given as goal

abbrev pub invariant-loop-place : goal.invariant-loop-place
invariant-loop-place l = Linked (first_of l.rules) l.place l.heads l.nexts
