-- Rules of a list, one by one. Assumes nothing.
use Rattle.std.proofs.Common.{ℕ, zero, suc, ◌<◌, Bool, true, false, List, [], ◌∷◌, length, get_or, ◌≤ℤ◌, Decides, sym, refl, subst, arith}
use mathlib.Core.List.Memᴰ
use Rattle.std.specs.Bool.{MatchBool}
use Rattle.std.specs.List.{AllByRecursion, AllWithin, HoldsAt}
use Rattle.std.proofs.lemmas.Bool.{false≢true}
use Rattle.std.proofs.lemmas.List.Elements.{recursion_from_All}
use Rattle.rules.specs.Places.{no_rule}
use Rattle.rules.specs.declared.records.Rule.{Rule}
use Rattle.rules.specs.Meets.{◌∈◌, Times, lead, Meets}

pub get_or_in : {A : Type 0} (xs : List A) (i : ℕ) (d : A) → i < length xs → get_or xs i d ∈ xs
get_or_in [] i d h = absurd (omega arith)
get_or_in (y ∷ xs) zero d h = Memᴰ.head refl
get_or_in (y ∷ xs) (suc i) d h = Memᴰ.tail (get_or_in xs i d (omega arith))

-- the rule is met
abbrev pub Met : Times → Rule → Type 0
Met t r = lead t r.first r.second ≤ℤ r.limit

pub of_all : {A : Type 0} (P : A → Type 0) (xs : List A) → AllByRecursion P xs → (x : A) → x ∈ xs → P x
of_all P [] ps x m = elim m [ ]
of_all P (y ∷ xs) (p, ps) x (Memᴰ.head e) = subst P (sym e) p
of_all P (y ∷ xs) (p, ps) x (Memᴰ.tail m) = of_all P xs ps x m

-- times meet rules exactly when a look at each in turn says so
pub meets_decided : (rules : List Rule) (t : Times) (r : Bool) → MatchBool r (AllWithin (Met t) rules 0 (length rules)) ((k : ℕ) × (k < length rules) × HoldsAt (λ q. ¬ Met t q) rules k) → Decides r (Meets rules t)
meets_decided rules t true all = (λ _. of_all (Met t) rules (recursion_from_All (Met t) rules (λ k d h. all k d (omega arith) h)), λ _. refl)
meets_decided rules t false (k, h, bad) = (λ e. absurd (false≢true e), λ m. absurd (bad no_rule (m _ (get_or_in rules k no_rule h))))
