-- Least counts in the words of rules and of limits below 0. Assumes nothing.
use Rattle.std.proofs.Common.{◌≡◌, ℕ, ◌+◌, List, [], ◌∷◌, length, Some, None, Option, sym, refl, ap, ◌∙◌, arith}
use Rattle.rules.specs.declared.records.Rule.{Rule}
use Rattle.rules.specs.Distances.{FewestRules, negatives, below_zero}
use Rattle.leads.specs.declared.records.Measure.{Measure}
use Rattle.leads.specs.Counts.{tally, CountsLeast, Told, Parents}
use Rattle.leads.specs.Tellings.{LeadTold, CountTold, LeadParents}

tally_rules : (path : List Rule) → tally (λ _. 1) path ≡ length path
tally_rules [] = refl
tally_rules (r ∷ path) = omega (arith, tally_rules path)

tally_negatives : (path : List Rule) → tally below_zero path ≡ negatives path
tally_negatives [] = refl
tally_negatives (r ∷ path) = ap (λ k. below_zero r.limit + k) (tally_negatives path)

fewest_rules : (rules : List Rule) (a b : ℕ) (path : List Rule) → CountsLeast (λ _. 1) rules a b path → FewestRules rules a b path
fewest_rules rules a b path c = record { shortest = c.shortest; fewest = λ other h. let l = c.least other h in omega (arith, tally_rules path, tally_rules other) }

pub lead_told : (rules : List Rule) (a b : ℕ) (o : Option Measure) → Told (λ _. 1) rules a b o → LeadTold rules a b o
lead_told rules a b None h = h
lead_told rules a b (Some m) (path, c, d, k) = (d, (path, fewest_rules rules a b path c, sym (tally_rules path) ∙ k))

pub negatives_told : (rules : List Rule) (a b : ℕ) (o : Option Measure) → Told below_zero rules a b o → CountTold rules a b o
negatives_told rules a b None h = h
negatives_told rules a b (Some m) (path, c, d, k) = (
  d,
  record {
    attained = (path, c.shortest, sym (tally_negatives path) ∙ k);
    fewest = λ other h. let l = c.least other h in omega (arith, tally_negatives other);
  },
)

pub lead_parents : (rules : List Rule) (a : ℕ) (parents : List (Option ℕ)) → Parents (λ _. 1) rules a parents → LeadParents rules a parents
lead_parents rules a parents p = record { forest = p.forest; fewest = λ v r places t. let (e, c) = p.least v r places t in (e, fewest_rules rules a v _ c) }
