-- The number and the place that each refusal carries. Assumes nothing.
use Rattle.std.specs.Prelude.{ℕ}
use Rattle.rules.specs.declared.refusals.Refusal.{Refusal}
use Rattle.rules.specs.declared.refusals.Refusal.TheVariants.{EventCount, RuleCount, NumberZero, EventUnknown, LimitRange, NumberTaken, EventPast, BoundRange, LimitBelow, CutCount, ListShort, QueueSmall, PlanFull, NotStanding, Unmeetable, OfferPast, PlacePast, FileShort, FileMark, FileVersion, FileEvents, FileRules, FileCut, NameCut, NameByte, FileLong}

-- the number of the question that was answered no
abbrev pub number_of : Refusal → ℕ
number_of EventCount = 1
number_of RuleCount = 2
number_of (NumberZero place) = 3
number_of (EventUnknown place) = 4
number_of (LimitRange place) = 5
number_of (NumberTaken place) = 6
number_of EventPast = 7
number_of BoundRange = 8
number_of (LimitBelow place) = 9
number_of CutCount = 10
number_of ListShort = 11
number_of QueueSmall = 12
number_of PlanFull = 13
number_of NotStanding = 14
number_of (Unmeetable size) = 15
number_of OfferPast = 16
number_of PlacePast = 17
number_of (FileShort size) = 21
number_of FileMark = 22
number_of FileVersion = 23
number_of FileEvents = 24
number_of FileRules = 25
number_of (FileCut size) = 26
number_of (NameCut at) = 27
number_of (NameByte at) = 28
number_of (FileLong at) = 29

-- the rule's place of 3 to 6 and 9, the size of the ring of 15, a byte's place or the file's length of 21 to 29, and else 0
abbrev pub place_of : Refusal → ℕ
place_of EventCount = 0
place_of RuleCount = 0
place_of (NumberZero place) = place
place_of (EventUnknown place) = place
place_of (LimitRange place) = place
place_of (NumberTaken place) = place
place_of EventPast = 0
place_of BoundRange = 0
place_of (LimitBelow place) = place
place_of CutCount = 0
place_of ListShort = 0
place_of QueueSmall = 0
place_of PlanFull = 0
place_of NotStanding = 0
place_of (Unmeetable size) = size
place_of OfferPast = 0
place_of PlacePast = 0
place_of (FileShort size) = size
place_of FileMark = 0
place_of FileVersion = 3
place_of FileEvents = 5
place_of FileRules = 7
place_of (FileCut size) = size
place_of (NameCut at) = at
place_of (NameByte at) = at
place_of (FileLong at) = at
