-- Settled times and largest leads depend only on which rules stand. Assumes nothing.
use Rattle.std.proofs.Common.{ℕ, List, ℤ}
use Rattle.rules.specs.declared.records.Rule.{Rule}
use Rattle.rules.specs.Meets.{Times, Meets, SameRules}
use Rattle.rules.specs.Settled.{Settled}
use Rattle.rules.specs.Leads.{LargestLead, Open}
use Rattle.rules.specs.TheoremsTimes.{OrderFree}

module _ (rules others : List Rule) (same : SameRules rules others) where
  back : (t : Times) → Meets others t → Meets rules t
  back t m r i = m r ((same r).0 i)

  forth : (t : Times) → Meets rules t → Meets others t
  forth t m r i = m r ((same r).1 i)

  settled_same : (n : ℕ) (t : Times) → Settled n rules t → Settled n others t
  settled_same n t s = record { meets = forth t s.meets; early = s.early; late = λ o m e. s.late o (back o m) e }

  largest_same : (a b : ℕ) (g : ℤ) → LargestLead rules a b g → LargestLead others a b g
  largest_same a b g l = let (t, m, e) = l.attained in record { bound = λ o k. l.bound o (back o k); attained = (t, forth t m, e) }

  open_same : (a b : ℕ) → Open rules a b → Open others a b
  open_same a b far g = let (t, m, h) = far g in (t, forth t m, h)

pub order_free : OrderFree
order_free rules others same =
    let turned : SameRules others rules = λ r. ((same r).1, (same r).0) in
    record {
      settled = λ n t. (settled_same rules others same n t, settled_same others rules turned n t);
      largest = λ a b g. (largest_same rules others same a b g, largest_same others rules turned a b g);
      opens = λ a b. (open_same rules others same a b, open_same others rules turned a b);
    }
