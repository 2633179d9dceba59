-- Lists whose front is written, entry by entry. Assumes nothing.
use Rattle.std.proofs.Common.{◌≡◌, ℕ, ◌+◌, ◌<◌, List, [], ◌∷◌, ◌++◌, length, get_or, take, drop, set, sym, ◌∙◌, arith}
use Rattle.std.proofs.lemmas.List.{append_assoc, drop_more, length-take-le, set_at, take_more}

-- one more entry after the front
pub front_more : {X : Type 0} (front old : List X) (n : ℕ) (x : X) → length front ≡ n → n < length old → set (front ++ drop n old) n x ≡ (front ++ x ∷ []) ++ drop (n + 1) old
front_more front old n x l h = rw (drop_more old n x h) (set_at front (get_or old n x) (drop (n + 1) old) x n l ∙ sym (append_assoc front (x ∷ []) (drop (n + 1) old)))

-- one more entry of a list that is copied
pub copied_more : {X : Type 0} (new old : List X) (n : ℕ) (d : X) → n < length new → n < length old → set (take n new ++ drop n old) n (get_or new n d) ≡ take (n + 1) new ++ drop (n + 1) old
copied_more new old n d h k = rw (take_more new n d h) (front_more (take n new) old n (get_or new n d) (length-take-le n new (omega arith)) k)
