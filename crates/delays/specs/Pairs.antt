-- Pairs of two kinds of delay, from what each kind has. Assumes nothing.
use Rattle.std.specs.Prelude.{Bool, true, false, cond, ℕ, max}
use Rattle.delays.specs.declared.pairs.Pair.{Pair}

abbrev pub pair : {X Y : Type 0} → X → Y → Pair X Y
pair x y = record { first = x; second = y }

-- sums and opposites are taken part by part
abbrev pub pair_plus : {X Y : Type 0} → (X → X → X) → (Y → Y → Y) → Pair X Y → Pair X Y → Pair X Y
pair_plus f g p q = pair (f p.first q.first) (g p.second q.second)

abbrev pub pair_negated : {X Y : Type 0} → (X → X) → (Y → Y) → Pair X Y → Pair X Y
pair_negated f g p = pair (f p.first) (g p.second)

-- less by the first parts, and where neither of these is less, by the second parts
abbrev pub pair_less : {X Y : Type 0} → (X → X → Bool) → (Y → Y → Bool) → Pair X Y → Pair X Y → Bool
pair_less f g p q = cond (f p.first q.first) true (cond (f q.first p.first) false (g p.second q.second))

-- the larger of the sizes of the two parts
abbrev pub pair_size : {X Y : Type 0} → (X → ℕ) → (Y → ℕ) → Pair X Y → ℕ
pair_size f g p = max (f p.first) (g p.second)
