-- The settled times of rules, or a negative ring of them. Assumes nothing.
use Rattle.std.specs.Prelude.{◌≡◌, ℕ, List, length, ℤ, Ok, Err, Result}
use Rattle.rules.specs.declared.records.Rule.{Rule}
use Rattle.rules.specs.Meets.{at}
use Rattle.rules.specs.Settled.{Settled}
use Rattle.queues.specs.Contents.{Contents, capacity_of, empty}
use Rattle.queues.specs.Sorts.{taken_out}
use Rattle.pricing.specs.declared.rings.Ring.{Ring}
use Rattle.pricing.specs.Repairs.{Shown}

-- ok: the times are the settled ones of the rules, and the list for rings stays; a ring: a negative ring of that size of the rules is shown, and the times stay
abbrev pub Settles : {U : Type 0} → List Rule → List ℤ → List ℤ → List ℕ → List ℕ → Result U Ring → Type 0
Settles rules old new before after (Ok done) = Settled (length old) rules (at new) × (after ≡ before)
Settles rules old new before after (Err ring) = Shown rules ring.size before after × (new ≡ old)

-- the queue is empty; ok: each of n events was taken once; a ring: nothing was taken
abbrev pub QueueLeft : {K U : Type 0} → ℕ → Contents K → Contents K → Result U Ring → Type 0
QueueLeft n queue queue' (Ok done) = queue' ≡ taken_out (capacity_of queue) n
QueueLeft n queue queue' (Err ring) = queue' ≡ empty (capacity_of queue)
