-- A number sought among the rules at the first places, by links of places whose numbers have one remainder. Assumes nothing.
use Rattle.std.proofs.Common.{◌≡◌, ℕ, ◌%◌, ◌<◌, List, Option, Some, sym, ap, ◌∙◌, subst, ⊎_elim, arith}
use Rattle.std.specs.Option.{ForSome}
use Rattle.std.proofs.lemmas.Bool.{cases_order}
use Rattle.std.proofs.lemmas.Option.{same_Some}
use Rattle.rules.specs.declared.records.Rule.{Rule}
use Rattle.rules.specs.Places.{rule_at}
use Rattle.links.specs.Links.{After, Last}
use Rattle.books.specs.Numbering.{remainders, remainder_of}

-- of the places below count, those after the held one do not bear the number; the held one may
pub record Sought (rules : List Rule) (number count : ℕ) (held : Option ℕ) : Type 0 where
  pub alike : ForSome held (λ place. (place < count) × (remainder_of rules place ≡ number % remainders))
  pub none : (place : ℕ) → place < count → After held place → ¬ ((rule_at rules place).number ≡ number)

module _ (rules : List Rule) (number count : ℕ) where
  pub sought_begin : (held : Option ℕ) → Last (remainder_of rules) count (number % remainders) held → Sought rules number count held
  sought_begin held last = record { alike = last.bears; none = λ place b a e. last.none place b a (ap (λ n. n % remainders) e) }

  -- the held one does not, and the one before it is held
  pub sought_next : (place : ℕ) (held next : Option ℕ) → Some place ≡ held → ¬ ((rule_at rules place).number ≡ number) → Last (remainder_of rules) place (remainder_of rules place) next → Sought rules number count held → Sought rules number count next
  sought_next place held next is other last sought =
      let here = sought.alike place (sym is) in
      record {
        alike = λ q e. let b = last.bears q e in let low = b.0 in let fit = here.0 in (omega arith, b.1 ∙ here.1);
        none = λ p b a e.
            ⊎_elim
            (λ (s : p ≡ place). other (subst (λ (x : ℕ). (rule_at rules x).number ≡ number) s e))
            (λ o.
            ⊎_elim
            (λ (l : p < place). last.none p l a (ap (λ n. n % remainders) e ∙ sym here.1))
            (λ (l : place < p). sought.none p b (λ q k. let s = same_Some place q (is ∙ k) in omega arith) e) o)
            (cases_order p place);
      }
