-- Labellings that searches start from. Assumes nothing.
use Rattle.std.specs.Prelude.{ℕ, ◌-◌, List, ◌++◌, length, replicate, Some, None, Option, slice_set}
use Rattle.queues.specs.Contents.{holds}
use Rattle.delays.specs.declared.Delay.{Ghosts}
use Rattle.rules.specs.declared.records.Rule.{Rule}
use Rattle.rules.specs.Meets.{EventsBelow}
use Rattle.search.specs.Networks.{Labelling, labelling, events_of, network}
use Rattle.search.specs.Searches.{NoneNegative, Ready}

-- so many events have one label, or none, but for one event that has a key for its label and waits under it alone; none has a parent
abbrev pub alone : {K : Type 0} → ℕ → ℕ → ℕ → K → Option K → Labelling K
alone events capacity event key label = labelling (slice_set (replicate events label) event (Some key)) (replicate events None) (holds (slice_set (replicate capacity None) event (Some key)) 0)

-- every event that has a label waits under it, and none has a parent
abbrev pub all_waiting : {K : Type 0} → List (Option K) → ℕ → Labelling K
all_waiting labels capacity = labelling labels (replicate (length labels) None) (holds (labels ++ replicate (capacity - length labels) None) 0)

-- a search along any rules between the events, with no weight below zero, can start here
abbrev pub Startable : {K : Type 0} → Ghosts K → Labelling K → Type 0
Startable {K} kind s = (rules : List Rule) (weights : List K) → EventsBelow (events_of s) rules → NoneNegative (network kind rules weights) → Ready (network kind rules weights) s
