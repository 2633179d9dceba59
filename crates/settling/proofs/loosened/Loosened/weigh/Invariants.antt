use Rattle.std.proofs.Common.{◌≡◌, ℕ, ◌<◌, get_or}
use Rattle.delays.specs.Numbers.{amount, amount_zero}
use Rattle.rules.specs.Meets.{at}
use Rattle.rules.specs.Places.{rule_at}
use Rattle.rules.specs.Prices.{reduced_limit, loosen}
use Rattle.settling.proofs.loosened.Loosened.weigh.Given as goal

abbrev pub invariant-loop-place : goal.invariant-loop-place
invariant-loop-place l = (k : ℕ) → k < l.place → get_or l.weights k amount_zero ≡ amount (reduced_limit (at l.prices) (loosen l.self.by.0 (rule_at l.rule-items k)))
