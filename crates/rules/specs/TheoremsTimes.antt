-- When times meet the rules, and the settled ones. Assumes nothing.
use Rattle.std.specs.Prelude.{◌≡◌, ℕ, ◌<◌, ◌⊎◌, ◌↔◌, List, ℤ, pos}
use Rattle.rules.specs.declared.records.Rule.{Rule}
use Rattle.rules.specs.Meets.{Times, Meets, Meetable, EventsBelow, SameRules}
use Rattle.rules.specs.Rings.{NegativeRing}
use Rattle.rules.specs.Settled.{NotAfter, Settled, Attained}
use Rattle.rules.specs.Leads.{LargestLead, Open}

-- times meet the rules exactly when no ring is negative
abbrev pub TimesExactly : Type 0
TimesExactly = (rules : List Rule) → Meetable rules ↔ (¬ NegativeRing rules)

-- for every list of rules it is decided which: times meet them, or a ring is negative
abbrev pub RulesDecided : Type 0
RulesDecided = (rules : List Rule) → Meetable rules ⊎ NegativeRing rules

-- over n events, settled times exist exactly when times meet the rules
abbrev pub SettledExactly : Type 0
SettledExactly = (n : ℕ) (rules : List Rule) → EventsBelow n rules → Meetable rules ↔ ((t : Times) × Settled n rules t)

-- settled times are alike at each event
abbrev pub SettledAlike : Type 0
SettledAlike = (n : ℕ) (rules : List Rule) (s t : Times) → Settled n rules s → Settled n rules t → (v : ℕ) → v < n → s v ≡ t v

-- times that meet the rules, none after 0 and each the sum of a chain that ends there, are settled
abbrev pub ChainsSettle : Type 0
ChainsSettle = (n : ℕ) (rules : List Rule) (t : Times) → Meets rules t → NotAfter n (λ v. pos 0) t → ((v : ℕ) → v < n → Attained n (λ v. pos 0) rules t v) → Settled n rules t

-- settled times and leads depend only on which rules stand, not on their order
pub record Alike (rules others : List Rule) : Type 0 where
  pub settled : (n : ℕ) (t : Times) → Settled n rules t ↔ Settled n others t
  pub largest : (a b : ℕ) (g : ℤ) → LargestLead rules a b g ↔ LargestLead others a b g
  pub opens : (a b : ℕ) → Open rules a b ↔ Open others a b

abbrev pub OrderFree : Type 0
OrderFree = (rules others : List Rule) → SameRules rules others → Alike rules others
