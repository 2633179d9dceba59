-- Prices lowered step by step, and their sizes. Assumes nothing.
use Rattle.std.proofs.Common.{◌≡◌, ℕ, ◌+◌, ◌*◌, ◌<◌, ◌≤◌, List, [], ◌∷◌, length, set, ℤ, pos, ◌+ℤ◌, nat_abs, ◌≤ℤ◌, sym, ap, ◌∙◌, subst, ⊎_elim, arith}
use mathlib.Core.List.Memᴰ
use Rattle.std.proofs.lemmas.Int.{ints}
use Rattle.std.proofs.lemmas.Bool.{cases_eq}
use Rattle.std.proofs.lemmas.List.{get_or-set_same, get_or-set_other}
use Rattle.rules.specs.declared.records.Rule.{Rule}
use Rattle.rules.specs.Meets.{◌∈◌, Times, at, EventsBelow}
use Rattle.rules.specs.Chains.{Chain, sum}
use Rattle.rules.specs.Settled.{Latest}
use Rattle.rules.specs.Prices.{reduced_limit, loosen, loosened}
use Rattle.rules.proofs.Along.{no_negative_ring}
use Rattle.rules.proofs.Decided.{latest_exists, shortened}
use Rattle.rules.proofs.Latest.{latest_alike}
use Rattle.settling.specs.Sizes.{Sized}
use Rattle.pricing.specs.Starts.{start_size, Small, Lowered}

-- the latest times under lowered prices are those under the old ones
pub latest_lowered : (by : ℤ) (rules : List Rule) (old mid : List ℤ) (t : Times) → length mid ≡ length old → Lowered by rules old mid → Latest (length mid) (at mid) (loosened by rules) t → Latest (length old) (at old) (loosened by rules) t
latest_lowered by rules old mid t e a l = record {
  meets = l.meets;
  early = λ v h. let x = a.early v h in let y = l.early v (omega arith) in omega (arith, ints);
  late = λ s met before v h. l.late s met (λ u k. a.kept s met before u (omega arith)) v (omega arith);
}

pub sized_again : (rules : List Rule) (old new : List ℤ) → Sized rules old → length new ≡ length old → Small new → Sized rules new
sized_again rules old new s e small = record {
  few_events = let h = s.few_events in omega arith;
  events = λ r m. let h = s.events r m in (omega (arith, h.0, e), omega (arith, h.1, e));
  prices_within = λ v. let h = small v in omega arith;
}

module _ (by : ℤ) (rules : List Rule) (prices : List ℤ) (rule : Rule) (m : rule ∈ rules) (price : ℤ) where
  abbrev new : List ℤ
  new = set prices rule.second price

  -- a relaxation lowers
  pub lowered_one : rule.second < length prices → price ≤ℤ at prices rule.second → (at prices rule.second +ℤ reduced_limit (at prices) (loosen by rule)) ≤ℤ price → rule.first < length prices → Lowered by rules prices new
  lowered_one lt down up first = record {
    early = λ v k. ⊎_elim
        (λ e. let a : at new v ≡ price = ap (at new) e ∙ here in let b : at prices v ≡ at prices rule.second = ap (at prices) e in omega (arith, ints))
        (λ ne. let a : at new v ≡ at prices v = get_or-set_other prices rule.second v price (pos 0) ne in omega (arith, ints))
        (cases_eq v rule.second);
    kept = λ s met before v k. ⊎_elim
        (λ e.
        let a : at new v ≡ price = ap (at new) e ∙ here in
        let b : s v ≡ s rule.second = ap s e in
        let c = met (loosen by rule) (Memᴰ.map (loosen by) m) in
        let d = before rule.first first in
        omega (arith, ints))
        (λ ne. let a : at new v ≡ at prices v = get_or-set_other prices rule.second v price (pos 0) ne in let b = before v k in omega (arith, ints))
        (cases_eq v rule.second);
  }
    where
      here : at new rule.second ≡ price
      here = get_or-set_same prices rule.second price (pos 0) lt

  pub small_one : rule.second < length prices → nat_abs price ≤ start_size → Small prices → Small new
  small_one lt near small v = ⊎_elim
      (λ e. subst (λ (z : ℤ). nat_abs z ≤ start_size) (sym (ap (at new) e ∙ get_or-set_same prices rule.second price (pos 0) lt)) near)
      (λ ne. subst (λ (z : ℤ). nat_abs z ≤ start_size) (sym (get_or-set_other prices rule.second v price (pos 0) ne)) (small v))
      (cases_eq v rule.second)

-- a loosened limit has at most this size
abbrev pub step_size : ℕ
step_size = 103_000_000_000

sum_least : (rules : List Rule) (a b : ℕ) (path : List Rule) → ((r : Rule) → r ∈ rules → nat_abs r.limit ≤ step_size) → Chain rules a b path → pos 0 ≤ℤ (sum path +ℤ pos (step_size * length path))
sum_least rules a b [] small c = omega (arith, ints)
sum_least rules a b (r ∷ path) small (m, e, c) = let x = sum_least rules r.second b path small c in let y = small r m in omega (arith, ints)

-- the latest times are not far below those that they are not after
pub latest_sized : (n : ℕ) (z t : Times) (rules : List Rule) → EventsBelow n rules → ((r : Rule) → r ∈ rules → nat_abs r.limit ≤ step_size) → ((v : ℕ) → nat_abs (z v) ≤ start_size) → Latest n z rules t → (v : ℕ) → v < n → nat_abs (t v) ≤ start_size + step_size * n
latest_sized n z t rules events small near l v h =
    let (other, latest, attained) = latest_exists n rules events (t, l.meets) z in
    let same : t v ≡ other v = latest_alike n z rules t other l latest v h in
    let (u, path, lt, chain, sums) = attained v h in
    let s = shortened n rules events u v lt (λ x. no_negative_ring rules t l.meets (x.0, x.1)) path chain in
    let low = sum_least rules u v s.0 small s.1.chain in
    let a = s.2 in
    let b = s.4 in
    let c = near u in
    let d = near v in
    let e = l.early v h in
    omega (arith, ints)
