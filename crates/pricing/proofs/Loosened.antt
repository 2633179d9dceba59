-- Rules loosened by nothing. Assumes nothing.
use Rattle.std.proofs.Common.{◌≡◌, List, [], ◌∷◌, ℤ, pos, refl, ap, ◌∙◌, arith}
use Rattle.std.proofs.lemmas.Int.{ints}
use Rattle.rules.specs.declared.records.Rule.{Rule}
use Rattle.rules.specs.Prices.{loosened}

-- rules loosened by 0 are as they were
pub loosened_none : (rules : List Rule) → loosened (pos 0) rules ≡ rules
loosened_none [] = refl
loosened_none (r ∷ rules) = ap (λ (l : ℤ). record { number = r.number; first = r.first; second = r.second; limit = l } ∷ loosened (pos 0) rules) (omega (arith, ints)) ∙ ap (λ rs. r ∷ rs) (loosened_none rules)
