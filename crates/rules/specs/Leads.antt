-- The largest lead of one event over another. Assumes nothing.
use Rattle.std.specs.Prelude.{◌≡◌, ℕ, List, ℤ, ◌≤ℤ◌, ◌<ℤ◌}
use Rattle.rules.specs.declared.records.Rule.{Rule}
use Rattle.rules.specs.Meets.{Times, lead, Meets}

-- g is the largest lead of b over a: some times that meet the rules have it, and none have a larger
pub record LargestLead (rules : List Rule) (a b : ℕ) (g : ℤ) : Type 0 where
  pub bound : (t : Times) → Meets rules t → lead t a b ≤ℤ g
  pub attained : (t : Times) × Meets rules t × (lead t a b ≡ g)

-- the lead of b over a is open: for each number there are times that meet the rules with a larger lead
abbrev pub Open : List Rule → ℕ → ℕ → Type 0
Open rules a b = (g : ℤ) → (t : Times) × Meets rules t × (g <ℤ lead t a b)
