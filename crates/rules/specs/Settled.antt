-- The latest times that meet rules, and the settled times. Assumes nothing.
use Rattle.std.specs.Prelude.{◌≡◌, ℕ, ◌<◌, List, pos, ◌+ℤ◌, ◌≤ℤ◌}
use Rattle.rules.specs.declared.records.Rule.{Rule}
use Rattle.rules.specs.Meets.{Times, Meets}
use Rattle.rules.specs.Chains.{Chain, sum}

-- of the events below n, none comes later in t than in z
abbrev pub NotAfter : ℕ → Times → Times → Type 0
NotAfter n z t = (v : ℕ) → v < n → t v ≤ℤ z v

-- of all times that meet the rules with no event after its time in z, t has each event as late as any of them has it
pub record Latest (n : ℕ) (z : Times) (rules : List Rule) (t : Times) : Type 0 where
  pub meets : Meets rules t
  pub early : NotAfter n z t
  pub late : (s : Times) → Meets rules s → NotAfter n z s → NotAfter n t s

-- the settled times: of all times that meet the rules with no event after 0, those with each event as late as any of them has it
abbrev pub Settled : ℕ → List Rule → Times → Type 0
Settled n rules t = Latest n (λ v. pos 0) rules t

-- v's time in t is the time in z of some event below n, and the sum of a chain from there to v
abbrev pub Attained : ℕ → Times → List Rule → Times → ℕ → Type 0
Attained n z rules t v = (u : ℕ) × (path : List Rule) × (u < n) × Chain rules u v path × (t v ≡ z u +ℤ sum path)
