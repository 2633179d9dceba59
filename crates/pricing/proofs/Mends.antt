-- Prices and rings for one rule more. Assumes nothing.
use Rattle.std.proofs.Common.{◌≡◌, ℕ, ◌+◌, ◌<◌, ◌≤◌, true, false, List, [], ◌∷◌, ◌++◌, map, length, get_or, take, drop, ℤ, pos, ◌≤ℤ◌, None, Ok, Err, Result, Option, sym, refl, ap, ◌∙◌, subst, ⊎_elim, arith}
use mathlib.Core.List.Memᴰ
use lib.Signed.{lt_z}
use Rattle.std.proofs.lemmas.Int.{ints}
use Rattle.std.proofs.lemmas.List.{take_more, length-map, length-take-le, take-append-drop}
use Rattle.delays.specs.Numbers.{Millis}
use Rattle.rules.specs.declared.records.Rule.{Rule}
use Rattle.rules.specs.Meets.{◌∈◌, at, lead, Meets}
use Rattle.rules.specs.Places.{no_rule, rule_at}
use Rattle.rules.specs.Settled.{Latest}
use Rattle.rules.specs.Prices.{reduced_limit, loosen, loosened}
use Rattle.rules.proofs.Members.{get_or_in}
use Rattle.rules.proofs.Among.{on_chain, negative_of}
use Rattle.search.specs.Forests.{rules_at}
use Rattle.settling.specs.Sizes.{Limited, Sized, Feasible}
use Rattle.settling.proofs.Reductions.{not_below}
use Rattle.pricing.specs.declared.rings.Ring.{Ring}
use Rattle.pricing.specs.Repairs.{Shown, Repaired, Closed, fallen}
use Rattle.pricing.proofs.Explores.{Explored}

numbers_loosened : (by : ℤ) (path : List Rule) → map (λ r. r.number) (loosened by path) ≡ map (λ r. r.number) path
numbers_loosened by [] = refl
numbers_loosened by (r ∷ path) = ap (λ ns. r.number ∷ ns) (numbers_loosened by path)

-- the ring that a search finds, as it is written
pub shown : (by : ℤ) (rules : List Rule) (rule : Rule) (prices : List ℤ) (labels : List (Option Millis)) (parents : List (Option ℕ)) (count : ℕ) (before after : List ℕ)
    → Explored by rules rule prices labels parents → fallen (get_or labels rule.first None) ≡ true → Closed rules rule parents count before after → Shown (loosened by (rule ∷ rules)) count before after
shown by rules rule prices labels parents count before after e fell closed = record {
  path = loosened by (rule ∷ rules_at rules closed.places);
  negative = e.rings fell closed.places closed.traced;
  counted = omega (arith, closed.counted, length-map (rules_at rules closed.places) (loosen by), length-map closed.places (rule_at rules));
  numbers = closed.numbers ∙ ap (λ ns. ns ++ drop count before) (sym (numbers_loosened by (rule ∷ rules_at rules closed.places)));
}

pub among_loosened : (by : ℤ) (A B : List Rule) → ((r : Rule) → r ∈ A → r ∈ B) → (r : Rule) → r ∈ loosened by A → r ∈ loosened by B
among_loosened by A B to r m = let (q, i, e) = Memᴰ.of_map (loosen by) A m in subst (λ (x : Rule). x ∈ loosened by B) e (Memᴰ.map (loosen by) (to q i))

-- what is repaired for some rules is repaired for the same ones in another order
pub repaired_alike : {U : Type 0} (by : ℤ) (A B : List Rule) (old new : List ℤ) (before after : List ℕ) (r : Result U Ring) → ((r : Rule) → r ∈ A → r ∈ B) → ((r : Rule) → r ∈ B → r ∈ A) → Repaired by A old new before after r → Repaired by B old new before after r
repaired_alike by A B old new before after (Ok done) to from (l, e) = (
  record {
    meets = λ r m. l.meets r (among_loosened by B A from r m);
    early = l.early;
    late = λ s met. l.late s (λ r m. met r (among_loosened by A B to r m));
  },
  e,
)
repaired_alike by A B old new before after (Err ring) to from (s, e) = (
  record {
    path = s.path;
    negative = negative_of (loosened by A) (loosened by B) s.path s.negative (λ r m. among_loosened by A B to r (on_chain (loosened by A) _ _ s.path s.negative.ring.chain r m).0);
    counted = s.counted;
    numbers = s.numbers;
  },
  e,
)

pub take_in : (rules : List Rule) (place : ℕ) (r : Rule) → r ∈ take place rules → r ∈ rules
take_in rules place r m = subst (λ (rs : List Rule). r ∈ rs) (take-append-drop place rules) (Memᴰ.append_left (drop place rules) m)

-- the rules before a place are no more, and no larger
pub limited_before : (by : ℤ) (rules : List Rule) (place : ℕ) → place ≤ length rules → Limited by rules → Limited by (take place rules)
limited_before by rules place h l = record {
  few_rules = let few = l.few_rules in omega (arith, length-take-le place rules h);
  limits = λ r m. l.limits r (take_in rules place r m);
  loosening = l.loosening;
}

module _ (rules : List Rule) (place : ℕ) (h : place < length rules) where
  more : take (place + 1) rules ≡ take place rules ++ rule_at rules place ∷ []
  more = take_more rules place no_rule h

  -- the first rules and the one at the place are those up to it
  pub next_in : (r : Rule) → r ∈ (rule_at rules place ∷ take place rules) → r ∈ take (place + 1) rules
  next_in r m = subst (λ (rs : List Rule). r ∈ rs) (sym more) (⊎_elim (λ e. Memᴰ.append_right (take place rules) (Memᴰ.head e)) (λ k. Memᴰ.append_left (rule_at rules place ∷ []) k) (Memᴰ.cases_cons m))

  pub next_out : (r : Rule) → r ∈ take (place + 1) rules → r ∈ (rule_at rules place ∷ take place rules)
  next_out r m = ⊎_elim (λ k. Memᴰ.tail k) (λ p. Memᴰ.head (Memᴰ.eq_of_singleton p)) (Memᴰ.append_cases (take place rules) (subst (λ (rs : List Rule). r ∈ rs) more m))

  pub sized_next : (prices : List ℤ) → Sized rules prices → Sized (rule_at rules place ∷ take place rules) prices
  sized_next prices s = record {
    few_events = s.few_events;
    events = λ r m. s.events r (inside r m);
    prices_within = s.prices_within;
  }
    where
      inside : (r : Rule) → r ∈ (rule_at rules place ∷ take place rules) → r ∈ rules
      inside r m = ⊎_elim (λ e. subst (λ (x : Rule). x ∈ rules) (sym e) (get_or_in rules place no_rule h)) (take_in rules place r) (Memᴰ.cases_cons m)

  -- prices that are feasible for the next rule too stay
  pub stays : (by : ℤ) (prices : List ℤ) → Feasible by (take place rules) prices → lt_z (reduced_limit (at prices) (loosen by (rule_at rules place))) (pos 0) ≡ false → Latest (length prices) (at prices) (loosened by (take (place + 1) rules)) (at prices)
  stays by prices feasible held = record { meets = meets; early = λ v k. omega (arith, ints); late = λ s met before. before }
    where
      new : lead (at prices) (rule_at rules place).first (rule_at rules place).second ≤ℤ (loosen by (rule_at rules place)).limit
      new = let a = not_below (reduced_limit (at prices) (loosen by (rule_at rules place))) (pos 0) held in omega (arith, ints)

      meets : Meets (loosened by (take (place + 1) rules)) (at prices)
      meets r m =
          ⊎_elim
          (λ e. subst (λ (x : Rule). lead (at prices) x.first x.second ≤ℤ x.limit) (sym e) new)
          (feasible r)
          (Memᴰ.cases_cons (among_loosened by (take (place + 1) rules) (rule_at rules place ∷ take place rules) next_out r m))
