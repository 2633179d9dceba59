-- Largest leads, where times meet the rules. Assumes nothing.
use Rattle.std.specs.Prelude.{ℕ, ◌⊎◌, ◌↔◌, List, ℤ}
use Rattle.rules.specs.declared.records.Rule.{Rule}
use Rattle.rules.specs.Meets.{Meetable}
use Rattle.rules.specs.Leads.{LargestLead, Open}
use Rattle.rules.specs.Distances.{Distance, Unreached}

-- the largest lead is the least sum of a chain
abbrev pub LargestIsDistance : Type 0
LargestIsDistance = (rules : List Rule) → Meetable rules → (a b : ℕ) (g : ℤ) → LargestLead rules a b g ↔ Distance rules a b g

-- there is no largest lead exactly when there is no chain
abbrev pub NoLargestExactly : Type 0
NoLargestExactly = (rules : List Rule) → Meetable rules → (a b : ℕ) → (¬ ((g : ℤ) × LargestLead rules a b g)) ↔ Unreached rules a b

-- the lead is open exactly when there is no chain
abbrev pub OpenExactly : Type 0
OpenExactly = (rules : List Rule) → Meetable rules → (a b : ℕ) → Open rules a b ↔ Unreached rules a b

-- it is decided which: there is a largest lead, or the lead is open
abbrev pub LeadsDecided : Type 0
LeadsDecided = (rules : List Rule) → Meetable rules → (a b : ℕ) → ((g : ℤ) × LargestLead rules a b g) ⊎ Open rules a b
