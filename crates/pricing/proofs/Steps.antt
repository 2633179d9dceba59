-- Prices repaired for rule after rule. Assumes nothing.
use Rattle.std.proofs.Common.{◌≡◌, ℕ, ◌+◌, ◌<◌, ◌≤◌, List, length, take, ℤ, pos, ◌+ℤ◌, nat_abs, None, Ok, Err, Result, Option, ap, ◌∙◌, subst, ⊎_elim, arith}
use mathlib.Core.List.Memᴰ
use Rattle.std.proofs.lemmas.Int.{ints}
use Rattle.std.proofs.lemmas.Bool.{cases_lt}
use Rattle.std.proofs.lemmas.List.{get_or_past, length-replicate}
use Rattle.delays.specs.Numbers.{Millis}
use Rattle.queues.specs.Contents.{Contents, capacity_of, empty}
use Rattle.rules.specs.declared.records.Rule.{Rule}
use Rattle.rules.specs.Meets.{◌∈◌, at, EventsBelow}
use Rattle.rules.specs.Settled.{Latest}
use Rattle.rules.specs.Prices.{loosen, loosened}
use Rattle.rules.proofs.Among.{on_chain, negative_of}
use Rattle.settling.specs.Sizes.{limit_size, loosening_size, Limited, Sized}
use Rattle.pricing.specs.declared.rings.Ring.{Ring}
use Rattle.pricing.specs.Repairs.{Shown}
use Rattle.pricing.specs.Starts.{Small, Lowered, Priced}
use Rattle.pricing.proofs.Mends.{among_loosened, take_in, next_in}
use Rattle.pricing.proofs.Lowers.{step_size, latest_sized, latest_lowered}

-- an empty queue has the capacity that it was emptied with
pub emptied : (q : Contents Millis) (capacity : ℕ) → q ≡ empty capacity → capacity_of q ≡ capacity
emptied q capacity e = ap (λ (x : Contents Millis). capacity_of x) e ∙ length-replicate {A = Option Millis} capacity None

pub latest_on : (by : ℤ) (rules : List Rule) (old mid new : List ℤ) (place : ℕ) → place < length rules → length mid ≡ length old → Latest (length old) (at old) (loosened by (take place rules)) (at mid) → Latest (length mid) (at mid) (loosened by (take (place + 1) rules)) (at new) → Latest (length old) (at old) (loosened by (take (place + 1) rules)) (at new)
latest_on by rules old mid new place lt e a b = record {
  meets = b.meets;
  early = λ v h. let x = a.early v h in let y = b.early v (omega arith) in omega (arith, ints);
  late = λ s met before v h. b.late s met (λ u k. a.late s (λ r m. met r (among_loosened by (take place rules) (take (place + 1) rules) (λ q i. next_in rules place lt q (Memᴰ.tail i)) r m)) before u (omega arith)) v (omega arith);
}

loosened_within : (l by : ℤ) → nat_abs l ≤ limit_size → nat_abs by ≤ loosening_size → nat_abs (l +ℤ by) ≤ step_size
loosened_within l by h k = omega (arith, ints)

module _ (by : ℤ) (rules : List Rule) (old new : List ℤ) (place : ℕ) (limited : Limited by rules) (sized : Sized rules old) (small : Small old) (e : length new ≡ length old)
    (latest : Latest (length old) (at old) (loosened by (take place rules)) (at new)) where
  events : EventsBelow (length old) (loosened by (take place rules))
  events r m =
      let (q, i, is) = Memᴰ.of_map (loosen by) (take place rules) m in
      subst (λ (x : Rule). (x.first < length old) × (x.second < length old)) is (sized.events q (take_in rules place q i))

  limits : (r : Rule) → r ∈ loosened by (take place rules) → nat_abs r.limit ≤ step_size
  limits r m =
      let (q, i, is) = Memᴰ.of_map (loosen by) (take place rules) m in
      subst (λ (x : Rule). nat_abs x.limit ≤ step_size) is (loosened_within q.limit by (limited.limits q (take_in rules place q i)) limited.loosening)

  -- prices stay small enough for a search
  pub sized_after : Sized rules new
  sized_after = record {
    few_events = let h = sized.few_events in omega arith;
    events = λ r m. let h = sized.events r m in (omega (arith, h.0, e), omega (arith, h.1, e));
    prices_within = λ v. ⊎_elim
        (λ h. let b = latest_sized (length old) (at old) (at new) (loosened by (take place rules)) events limits small latest v h in let few = sized.few_events in omega arith)
        (λ h. let z = get_or_past new v (pos 0) (omega arith) in omega (arith, ints))
        (cases_lt v (length old));
  }

pub shown_all : (by : ℤ) (rules : List Rule) (place count : ℕ) (before after : List ℕ) → Shown (loosened by (take place rules)) count before after → Shown (loosened by rules) count before after
shown_all by rules place count before after s = record {
  path = s.path;
  negative = negative_of (loosened by (take place rules)) (loosened by rules) s.path s.negative (λ r m. among_loosened by (take place rules) rules (take_in rules place) r (on_chain (loosened by (take place rules)) _ _ s.path s.negative.ring.chain r m).0);
  counted = s.counted;
  numbers = s.numbers;
}

-- prices for all rules from lowered ones are prices from the old ones
pub priced_lowered : {U : Type 0} (by : ℤ) (rules : List Rule) (old mid new : List ℤ) (before after : List ℕ) (r : Result U Ring) → length mid ≡ length old → Lowered by rules old mid → Priced by rules mid new before after r → Priced by rules old new before after r
priced_lowered by rules old mid new before after (Ok done) e lowered (latest, sized, same) = (latest_lowered by rules old mid (at new) e lowered latest, sized, same)
priced_lowered by rules old mid new before after (Err ring) e lowered shown = shown
