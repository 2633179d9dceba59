-- Every place's number at the place, one place after another.
use Rattle.std.proofs.Common.{◌≡◌, ℕ, ◌+◌, ◌<◌, ◌≢◌, List, length, get_or, set, ap, ◌∙◌, arith, below_more}
use Rattle.std.proofs.lemmas.List.{get_or-set_same, get_or-set_other}

pub numbered_more : (xs ys : List ℕ) (i : ℕ) → i < length xs → ys ≡ set xs i i → ((k : ℕ) → k < i → get_or xs k 0 ≡ k) → (k : ℕ) → k < i + 1 → get_or ys k 0 ≡ k
numbered_more xs ys i h is f = below_more (λ k. get_or ys k 0 ≡ k) i
    (λ k l. let ne : k ≢ i = omega arith in ap (λ u. get_or u k 0) is ∙ get_or-set_other xs i k i 0 ne ∙ f k l)
    (ap (λ u. get_or u i 0) is ∙ get_or-set_same xs i i 0 h)
