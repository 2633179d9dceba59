-- Small books worked by hand: what the definitions say of each. Assumes nothing.
use Rattle.std.specs.Prelude.{◌≡◌, ℕ, ◌*◌, List, [], ◌∷◌, ◌++◌, length, ℤ, pos, neg_ℤ, ◌<ℤ◌}
use Rattle.rules.specs.declared.records.Rule.{Rule}
use Rattle.rules.specs.Meets.{◌∈◌, at, Meetable}
use Rattle.rules.specs.Chains.{sum}
use Rattle.rules.specs.Rings.{Negative}
use Rattle.rules.specs.Settled.{Settled}
use Rattle.rules.specs.Leads.{LargestLead, Open}
use Rattle.rules.specs.Distances.{Distance, Unreached, Rounds, LowestEnd, MeetableFrom}
use Rattle.rules.specs.Prices.{Prices, ReducedAtLeast, loosened}

-- the rule with that number: a → b limit
abbrev pub rule : ℕ → ℕ → ℕ → ℤ → Rule
rule number a b limit = record { number = number; first = a; second = b; limit = limit }

abbrev pub minus : ℕ → ℤ
minus n = neg_ℤ (pos n)

-- no times meet the rules: a ring is negative, and every negative ring has so many rules
pub record Unmeetable (rules : List Rule) (size : ℕ) : Type 0 where
  pub ring : (path : List Rule) × Negative rules path
  pub sized : (path : List Rule) → Negative rules path → length path ≡ size
  pub unmet : ¬ Meetable rules

-- 0 → 1 −500 over two events, and then no rule
abbrev pub single : List Rule
single = rule 1 0 1 (minus 500) ∷ []

pub record SingleRule : Type 0 where
  pub times : Settled 2 single (at (pos 0 ∷ minus 500 ∷ []))
  pub forward : LargestLead single 0 1 (minus 500)
  pub backward : Open single 1 0
  pub itself : LargestLead single 0 0 (pos 0)
  pub withdrawn : Settled 2 [] (at (pos 0 ∷ pos 0 ∷ []))

-- that rule and 1 → 0 with a limit
abbrev pub opposite : ℤ → List Rule
opposite limit = rule 1 0 1 (minus 500) ∷ rule 2 1 0 limit ∷ []

pub record OppositeRules : Type 0 where
  pub short : Unmeetable (opposite (pos 499)) 2
  pub enough : Meetable (opposite (pos 500))

-- 0 → 0 with a limit
abbrev pub to_itself : ℤ → List Rule
to_itself limit = rule 1 0 0 limit ∷ []

pub record SelfRule : Type 0 where
  pub negative : Unmeetable (to_itself (minus 1)) 1
  pub zero : Meetable (to_itself (pos 0))

-- 0 → 1 0, 1 → 2 0, and these with 2 → 0 −1
abbrev pub uncut : List Rule
uncut = rule 1 0 1 (pos 0) ∷ rule 2 1 2 (pos 0) ∷ []

abbrev pub three : List Rule
three = rule 1 0 1 (pos 0) ∷ rule 2 1 2 (pos 0) ∷ rule 3 2 0 (minus 1) ∷ []

pub record RingOfThree : Type 0 where
  pub whole : Unmeetable three 3
  pub smooth : (p : Prices) × ReducedAtLeast (pos 0) uncut p

-- 1 → 2 −5, 2 → 1 4 over three events: event 0 reaches neither
abbrev pub pair : List Rule
pair = rule 1 1 2 (minus 5) ∷ rule 2 2 1 (pos 4) ∷ []

pub record UnreachedRing : Type 0 where
  pub concerned : MeetableFrom pair 0
  pub source : Distance pair 0 0 (pos 0)
  pub one : Unreached pair 0 1
  pub two : Unreached pair 0 2
  pub together : Unmeetable pair 2

-- 2 → 1 −5, 0 → 1 0, 1 → 2 5: event 1 is reached by the rule at place 1; the one at place 0 ends a chain with the same sum and more rules
abbrev pub zero_sum : List Rule
zero_sum = rule 1 2 1 (minus 5) ∷ rule 2 0 1 (pos 0) ∷ rule 3 1 2 (pos 5) ∷ []

pub record ZeroRing : Type 0 where
  pub distance : Distance zero_sum 0 1 (pos 0)
  pub place : LowestEnd zero_sum 0 1 1

-- 0 → 1 4, 1 → 2 −6, 0 → 2 −1
abbrev pub two_ways : List Rule
two_ways = rule 1 0 1 (pos 4) ∷ rule 2 1 2 (minus 6) ∷ rule 3 0 2 (minus 1) ∷ []

pub record TwoChains : Type 0 where
  pub distance : Distance two_ways 0 2 (minus 2)
  pub rounds : Rounds two_ways 0 1

-- 0 → 1 −6 loosened by 3; its limit is below the opposite of twice a bound of 2
abbrev pub tight : List Rule
tight = rule 1 0 1 (minus 6) ∷ []

pub record LoosenedRule : Type 0 where
  pub prices : Settled 2 (loosened (pos 3) tight) (at (pos 0 ∷ minus 3 ∷ []))
  pub bound_of_two : (r : Rule) × r ∈ tight × (r.limit <ℤ minus (2 * 2))

-- card, lift and valve, events 0, 1 and 2: the lift at least 200 and at most 60,000 after the card, the valve at least 150 and at most 900 after the lift
abbrev pub card_lift_valve : List Rule
card_lift_valve = rule 10 0 1 (pos 60_000) ∷ rule 11 1 0 (minus 200) ∷ rule 12 1 2 (pos 900) ∷ rule 13 2 1 (minus 150) ∷ []

-- the valve at most 300 after the card
abbrev pub rule_14 : Rule
rule_14 = rule 14 0 2 (pos 300)

pub record ThreeEvents : Type 0 where
  pub times : Settled 3 card_lift_valve (at (minus 350 ∷ minus 150 ∷ pos 0 ∷ []))
  pub valve_over_card : LargestLead card_lift_valve 0 2 (pos 60_900)
  pub card_over_valve : LargestLead card_lift_valve 2 0 (minus 350)
  pub ring : Negative (card_lift_valve ++ rule_14 ∷ []) (rule_14 ∷ rule 13 2 1 (minus 150) ∷ rule 11 1 0 (minus 200) ∷ [])
  pub adds : sum (rule_14 ∷ rule 13 2 1 (minus 150) ∷ rule 11 1 0 (minus 200) ∷ []) ≡ minus 50

pub record Fills : Type 0 where
  pub single_rule : SingleRule
  pub opposite_rules : OppositeRules
  pub self_rule : SelfRule
  pub ring_of_three : RingOfThree
  pub unreached_ring : UnreachedRing
  pub zero_ring : ZeroRing
  pub two_chains : TwoChains
  pub loosened_rule : LoosenedRule
  pub three_events : ThreeEvents
