use Rattle.std.proofs.Common.{◌≡◌, ℕ, ◌<◌, List, length, get_or, None}
use Rattle.std.specs.Option.{ForSome}
use Rattle.rules.specs.Places.{first_of}
use Rattle.queues.specs.Contents.{capacity_of}
use Rattle.search.specs.Networks.{Labelling, labelling}
use Rattle.search.specs.Meanings.{network_of}
use Rattle.search.specs.Progress.{Leaving}
use Rattle.search.proofs.networks.Network.relax.Given as goal

abbrev pub invariant-loop-place : goal.invariant-loop-place
invariant-loop-place g l =
    (l.place-iterator.nexts.now ≡ l.self.links.nexts.now)
    × ForSome l.place-iterator.held (λ place. (place < length l.self.rules.now) × (first_of l.self.rules.now place ≡ l.event))
    × (capacity_of (g.Q.Queue.contents l.queue) ≡ capacity_of (g.Q.Queue.contents l.initial.queue))
    × ((start : Labelling g.row.K.Denot) (taken : List ℕ)
    → Leaving (network_of l.self) start l.event l.key (get_or l.self.links.heads.now l.event None) taken (labelling l.initial.labels l.initial.parents (g.Q.Queue.contents l.initial.queue))
    → Leaving (network_of l.self) start l.event l.key l.place-iterator.held taken (labelling l.labels l.parents (g.Q.Queue.contents l.queue)))
