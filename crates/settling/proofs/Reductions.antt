-- A search over reduced limits, in terms of the rules' own limits. Assumes nothing.
use Rattle.std.proofs.Common.{◌≡◌, ℕ, ◌<◌, ◌≤◌, false, List, [], ◌∷◌, length, get_or, ℤ, pos, ◌+ℤ◌, ◌-ℤ◌, nat_abs, ◌≤ℤ◌, Some, None, Option, sym, ap, ◌∙◌, subst, ⊎_elim, arith}
use mathlib.Core.List.Memᴰ
use lib.Signed.{lt_z}
use Rattle.std.proofs.lemmas.Int.{ints}
use Rattle.std.proofs.lemmas.List.{get_or_past}
use Rattle.std.proofs.lemmas.Bool.{cases_lt}
use Rattle.delays.specs.Numbers.{Millis, amount_zero, amount_plus, amount_less, amount_size}
use Rattle.rules.specs.declared.records.Rule.{Rule}
use Rattle.rules.specs.Meets.{at, lead, Times, Meets, EventsBelow}
use Rattle.rules.specs.Chains.{Chain, sum}
use Rattle.rules.specs.Places.{no_rule, rule_at, first_of, second_of}
use Rattle.rules.specs.Prices.{reduced_limit, loosen, loosened}
use Rattle.rules.proofs.Members.{get_or_in}
use Rattle.rules.proofs.Ends.{place_of}
use Rattle.search.specs.Networks.{Network, Labelling, label_of, weight_of, Route, total}
use Rattle.search.specs.Forests.{rules_at}
use Rattle.search.specs.Searches.{NoneNegative, Searched}
use Rattle.search.proofs.Keys.{clash}
use Rattle.search.proofs.Events.{events_below}
use Rattle.settling.specs.Sizes.{limit_size, loosening_size, price_size, Limited, Sized, Feasible}
use Rattle.settling.specs.Weights.{Weighed}

pub not_below : (a b : ℤ) → lt_z a b ≡ false → b ≤ℤ a
not_below a b h = grind (arith, ints)

pub no_less : (a b : ℤ) → b ≤ℤ a → lt_z a b ≡ false
no_less a b h = grind (arith, ints)

-- an event with a label is one of those that can have one
pub labelled_below : (labels : List (Option Millis)) (v : ℕ) (k : Millis) → get_or labels v None ≡ Some k → v < length labels
labelled_below labels v k e = ⊎_elim (λ h. h) (λ h. absurd (clash (get_or labels v None) e (get_or_past labels v None h))) (cases_lt v (length labels))

-- the rules' events are below a larger count too
pub wider : (n m : ℕ) (rules : List Rule) → n ≤ m → EventsBelow n rules → EventsBelow m rules
wider n m rules h below r i = let b = below r i in (omega (arith, b.0), omega (arith, b.1))

-- a reduced limit has at most this size
abbrev pub weight_size : ℕ
weight_size = 3_000_000_000_000_000

pub reduced_within : (l by a b : ℤ) → nat_abs l ≤ limit_size → nat_abs by ≤ loosening_size → nat_abs a ≤ price_size → nat_abs b ≤ price_size → nat_abs (((l +ℤ by) +ℤ a) -ℤ b) ≤ weight_size
reduced_within l by a b h i j k = omega (arith, ints)

-- a network by its rules and weights, and what holds of it, once it has been made of equal ones
abbrev pub over : List Rule → List Millis → Network Millis
over rules weights = record { less = amount_less; plus = amount_plus; zero = amount_zero; size = amount_size; rules = rules; weights = weights }

pub over_same : (P : Network Millis → Type 0) (rules others : List Rule) (weights keys : List Millis) → rules ≡ others → weights ≡ keys → P (over rules weights) → P (over others keys)
over_same P rules others weights keys e f h = subst (λ (ws : List Millis). P (over others ws)) f (subst (λ (rs : List Rule). P (over rs weights)) e h)

module _ (by : ℤ) (rules : List Rule) (prices : List ℤ) (weights : List Millis) (weighed : Weighed by rules prices weights) where
  abbrev pub net : Network Millis
  net = over rules weights

  pub weight_is : (place : ℕ) → place < length rules → (weight_of net place).0 ≡ reduced_limit (at prices) (loosen by (rule_at rules place))
  weight_is place h = ap (λ m. m.0) (weighed place h)

  pub weight_within : Limited by rules → Sized rules prices → (place : ℕ) → place < length rules → nat_abs (weight_of net place).0 ≤ weight_size
  weight_within limited sized place h = subst (λ (z : ℤ). nat_abs z ≤ weight_size) (sym (weight_is place h))
      (reduced_within (rule_at rules place).limit by (at prices (first_of rules place)) (at prices (second_of rules place)) (limited.limits _ (get_or_in rules place no_rule h)) limited.loosening (sized.prices_within _) (sized.prices_within _))

  pub none_negative : Feasible by rules prices → NoneNegative net
  none_negative feasible place h =
      let f = feasible _ (Memᴰ.map (loosen by) (get_or_in rules place no_rule h)) in
      no_less (weight_of net place).0 (pos 0) (let w = weight_is place h in omega (arith, ints))

  -- a route is a chain of the loosened rules, and its total is the chain's reduced sum
  pub route_chain : (a b : ℕ) (places : List ℕ) → Route net a b places → Chain (loosened by rules) a b (loosened by (rules_at rules places)) × ((total net places).0 ≡ (sum (loosened by (rules_at rules places)) +ℤ at prices a) -ℤ at prices b)
  route_chain a b [] e = let h : at prices a ≡ at prices b = ap (at prices) e in (e, omega (arith, ints))
  route_chain a b (place ∷ places) (h, e, p) =
      let q = route_chain (second_of rules place) b places p in
      let w = weight_is place h in
      let y : at prices a ≡ at prices (first_of rules place) = ap (at prices) e in
      let z = q.1 in
      ((Memᴰ.map (loosen by) (get_or_in rules place no_rule h), e, q.0), omega (arith, ints))

  module _ (sized : Sized rules prices) (start s : Labelling Millis) (found : Searched net start s) (t : Times)
      (times : (v : ℕ) (k : Millis) → v < length prices → label_of s v ≡ Some k → t v ≡ k.0 +ℤ at prices v)
      (known : (v : ℕ) → v < length prices → (k : Millis) × (label_of s v ≡ Some k)) where
    meets_at : (place : ℕ) → place < length rules → lead t (first_of rules place) (second_of rules place) ≤ℤ ((rule_at rules place).limit +ℤ by)
    meets_at place h =
        let ends = events_below (length prices) rules sized.events place h in
        let k = known (first_of rules place) ends.0 in
        let r = found.respected place h k.0 k.1 in
        let a = times (first_of rules place) k.0 ends.0 k.1 in
        let b = times (second_of rules place) r.label ends.1 r.is in
        let w = weight_is place h in
        let c = not_below (k.0.0 +ℤ (weight_of net place).0) r.label.0 r.small in
        omega (arith, ints)

    -- prices more by labels meet the loosened rules
    pub labels_meet : Meets (loosened by rules) t
    labels_meet r m =
        let (q, i, e) = Memᴰ.of_map (loosen by) rules m in
        let (place, (h, is)) = place_of rules q i in
        subst (λ (x : Rule). lead t x.first x.second ≤ℤ x.limit) (ap (loosen by) (is no_rule) ∙ e) (meets_at place h)

    -- each is a label at the start with its price, and the sum of a chain from there
    pub labels_attained : (v : ℕ) → v < length prices → (u : ℕ) × (key : Millis) × (path : List Rule) × (label_of start u ≡ Some key) × Chain (loosened by rules) u v path × (t v ≡ (key.0 +ℤ at prices u) +ℤ sum path)
    labels_attained v h =
        let j = known v h in
        let (u, places, key, route, from, is) = found.attained v j.0 j.1 in
        let q = route_chain u v places route in
        let a = times v j.0 h j.1 in
        let b : j.0.0 ≡ key.0 +ℤ (total net places).0 = ap (λ m. m.0) is in
        let z = q.1 in
        (u, key, loosened by (rules_at rules places), from, q.0, omega (arith, ints))
