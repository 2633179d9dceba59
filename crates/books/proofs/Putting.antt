-- How far the rules of a book were asked about. Assumes nothing.
use Rattle.std.proofs.Common.{◌≡◌, ℕ, ◌+◌, ◌<◌, ◌≤◌, List, [], ◌++◌, length, take, drop, arith}
use Rattle.std.proofs.lemmas.List.{take_more, drop_more, drop_all, length-take-le}
use Rattle.rules.specs.declared.records.Rule.{Rule}
use Rattle.rules.specs.Questions.{Question, AllYes, FirstNo}
use Rattle.rules.proofs.Asking.{Left, begin, past, within}
use Rattle.rules.specs.Places.{rule_at, no_rule}
use Rattle.books.specs.Checks.{rule_questions, rules_questions}

module _ (events : ℕ) (rules : List Rule) where
  -- of the rule at a place
  abbrev here : ℕ → List Question
  here place = rule_questions events place (take place rules) (rule_at rules place)

  -- of the rules from the place on
  abbrev from : ℕ → List Question
  from place = rules_questions events (take place rules) (drop place rules)

  -- of the rules, those from the place on are left
  abbrev pub RulesLeft : ℕ → Type 0
  RulesLeft place = Left (from place) (rules_questions events [] rules)

  split : (place : ℕ) → place < length rules → from place ≡ here place ++ from (place + 1)
  unfolding rules_questions
  split place h =
      let l = length-take-le place rules (omega arith) in
      rw (drop_more rules place no_rule h, l, ← take_more rules place no_rule h)

  pub rules_begin : RulesLeft 0
  rules_begin = begin (rules_questions events [] rules)

  pub rules_more : (place : ℕ) → place < length rules → RulesLeft place → AllYes (here place) → RulesLeft (place + 1)
  rules_more place h left yeses = past (here place) (from (place + 1)) (rw (split place h) at left) yeses

  pub rules_no : (place n p : ℕ) → place < length rules → RulesLeft place → FirstNo (here place) n p → FirstNo (rules_questions events [] rules) n p
  rules_no place n p h left no' = within (here place) (from (place + 1)) n p (rw (split place h) at left) no'

  pub rules_all : (place : ℕ) → length rules ≤ place → RulesLeft place → AllYes (rules_questions events [] rules)
  unfolding rules_questions
  rules_all place h left = (rw (drop_all place rules h) at left).all_yes tt
