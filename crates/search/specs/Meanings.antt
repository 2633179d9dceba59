-- What a network means. Assumes nothing.
use Rattle.delays.specs.declared.Delay.{Ghosts}
use Rattle.search.specs.Networks.{Network, network}
use Rattle.search.specs.declared.networks.Network as declared

-- a network goes by its rules and their weights
abbrev pub network_of : {K : Type 0} {kind : Ghosts K} → declared.Network K kind → Network K
network_of {kind = kind} n = network kind n.rules.now n.weights.now
