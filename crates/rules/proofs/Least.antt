-- The least of finitely many, and of finitely many paths. Assumes nothing.
use Rattle.std.proofs.Common.{◌≡◌, ℕ, zero, suc, ◌<◌, ◌≤◌, ◌⊎◌, List, [], ◌∷◌, length, ℤ, ◌≤ℤ◌, sym, refl, ap, subst, inl, inr, ⊎_elim, arith}
use mathlib.Core.List.Memᴰ
use native.Mathlib.Decide.{ℕ_discrete}
use Rattle.std.proofs.lemmas.Int.{ints, by_lt_z}
use Rattle.std.specs.List.{AllByRecursion}
use Rattle.rules.specs.declared.records.Rule.{Rule}
use Rattle.rules.specs.Meets.{◌∈◌}

-- nothing has S, or of what has it one has the least measure
abbrev pub Least : {A : Type 0} → (A → Type 0) → (A → ℤ) → Type 0
Least {A} S m = (¬ ((x : A) × S x)) ⊎ ((x : A) × S x × ((y : A) → S y → m x ≤ℤ m y))

module _ {A : Type 0} (m : A → ℤ) where
  pub least_same : (S T : A → Type 0) → ((x : A) → S x → T x) → ((x : A) → T x → S x) → Least S m → Least T m
  least_same S T f g (inl none) = inl (λ p. none (p.0, g p.0 p.1))
  least_same S T f g (inr (x, s, h)) = inr (x, f x s, λ y t. h y (g y t))

  pub least_one : (P : A → Type 0) (x : A) → Dec (P x) → Least (λ y. (y ≡ x) × P y) m
  least_one P x (yes p) = inr (x, (refl, p), λ y k. let e : m y ≡ m x = ap m k.0 in omega (arith, ints))
  least_one P x (no n) = inl (λ p. n (subst P p.1.0 p.1.1))

  pub least_or : (S T : A → Type 0) → Least S m → Least T m → Least (λ x. S x ⊎ T x) m
  least_or S T (inl f) (inl g) = inl (λ p. ⊎_elim (λ s. f (p.0, s)) (λ t. g (p.0, t)) p.1)
  least_or S T (inl f) (inr (y, t, h)) = inr (y, inr t, λ z. ⊎_elim (λ s. absurd (f (z, s))) (h z))
  least_or S T (inr (x, s, h)) (inl g) = inr (x, inl s, λ z. ⊎_elim (h z) (λ t. absurd (g (z, t))))
  least_or S T (inr (x, s, h)) (inr (y, t, k)) =
      by_lt_z (m y) (m x)
      (λ l. inr (y, inr t, λ z o. under (m y) z (omega (arith, ints)) (omega (arith, ints)) o))
      (λ l. inr (x, inl s, λ z o. under (m x) z (omega (arith, ints)) l o))
    where
      under : (g : ℤ) (z : A) → g ≤ℤ m x → g ≤ℤ m y → S z ⊎ T z → g ≤ℤ m z
      under g z p q (inl i) = let w = h z i in omega (arith, ints)
      under g z p q (inr i) = let w = k z i in omega (arith, ints)

  pub least_image : {B : Type 0} (S : B → Type 0) (f : B → A) → Least S (λ b. m (f b)) → Least (λ x. (b : B) × (x ≡ f b) × S b) m
  least_image S f (inl none) = inl (λ p. none (p.1.0, p.1.2))
  least_image S f (inr (b, s, h)) = inr (f b, (b, refl, s), λ y k. let e : m y ≡ m (f k.0) = ap m k.1 in let l = h k.0 k.2 in omega (arith, ints))

  pub least_each : {B : Type 0} (xs : List B) (F : B → A → Type 0) → ((b : B) → b ∈ xs → Least (F b) m) → Least (λ x. (b : B) × b ∈ xs × F b x) m
  least_each [] F each = inl (λ p. Memᴰ.not-nil p.1.1)
  least_each {B} (c ∷ xs) F each =
      least_same _ _ to from (least_or _ _ (each c (Memᴰ.head refl)) (least_each xs F (λ b i. each b (Memᴰ.tail i))))
    where
      Rest : A → Type 0
      Rest x = (b : B) × b ∈ xs × F b x

      to : (x : A) → F c x ⊎ Rest x → (b : B) × b ∈ (c ∷ xs) × F b x
      to x (inl f) = (c, Memᴰ.head refl, f)
      to x (inr (b, i, f)) = (b, Memᴰ.tail i, f)

      back : (x : A) (b : B) → F b x → (b ≡ c) ⊎ b ∈ xs → F c x ⊎ Rest x
      back x b f (inl e) = inl (subst (λ (y : B). F y x) e f)
      back x b f (inr i) = inr (b, i, f)

      from : (x : A) → ((b : B) × b ∈ (c ∷ xs) × F b x) → F c x ⊎ Rest x
      from x (b, i, f) = back x b f (Memᴰ.cases_cons i)

  pub least_below : (n : ℕ) (F : ℕ → A → Type 0) → ((v : ℕ) → v < n → Least (F v) m) → Least (λ x. (v : ℕ) × (v < n) × F v x) m
  least_below zero F each = inl (λ p. let h = p.1.1 in omega arith)
  least_below (suc n) F each =
      least_same _ _ to from (least_or _ _ (each n (omega arith)) (least_below n F (λ v h. each v (omega arith))))
    where
      Rest : A → Type 0
      Rest x = (v : ℕ) × (v < n) × F v x

      to : (x : A) → F n x ⊎ Rest x → (v : ℕ) × (v < suc n) × F v x
      to x (inl f) = (n, omega arith, f)
      to x (inr (v, h, f)) = (v, omega arith, f)

      back : (x : A) (v : ℕ) → v < suc n → F v x → Dec (v ≡ n) → F n x ⊎ Rest x
      back x v h f (yes e) = inl (subst (λ (y : ℕ). F y x) e f)
      back x v h f (no ne) = inr (v, omega (arith, ne), f)

      from : (x : A) → ((v : ℕ) × (v < suc n) × F v x) → F n x ⊎ Rest x
      from x (v, h, f) = back x v h f (ℕ_discrete v n)

-- every rule of the path stands among the rules
abbrev pub Over : List Rule → List Rule → Type 0
Over rules path = AllByRecursion (λ r. r ∈ rules) path

-- of the paths of at most k rules that have P
pub least_path : (rules : List Rule) (k : ℕ) (P : List Rule → Type 0) → ((path : List Rule) → Over rules path → Dec (P path)) → (m : List Rule → ℤ) → Least (λ path. Over rules path × (length path ≤ k) × P path) m
least_path rules zero P dec m = least_same m _ _ to from (least_one m P [] (dec [] tt))
  where
    Of : List Rule → Type 0
    Of path = Over rules path × (length path ≤ zero) × P path

    to : (path : List Rule) → (path ≡ []) × P path → Of path
    to path (e, p) = subst Of (sym e) (tt, omega arith, subst P e p)

    from : (path : List Rule) → Of path → (path ≡ []) × P path
    from [] (o, h, p) = (refl, p)
    from (r ∷ path) (o, h, p) = absurd (omega arith)
least_path rules (suc k) P dec m =
    least_same m _ _ to from (least_or m _ _ (least_one m P [] (dec [] tt)) (least_each m rules Longer
    (λ r i. least_image m (Tail r) (λ q. r ∷ q) (least_path rules k (λ q. P (r ∷ q)) (λ q o. dec (r ∷ q) (i, o)) (λ q. m (r ∷ q))))))
  where
    Of : List Rule → Type 0
    Of path = Over rules path × (length path ≤ suc k) × P path

    Tail : Rule → List Rule → Type 0
    Tail r q = Over rules q × (length q ≤ k) × P (r ∷ q)

    Longer : Rule → List Rule → Type 0
    Longer r path = (q : List Rule) × (path ≡ r ∷ q) × Tail r q

    to : (path : List Rule) → ((path ≡ []) × P path) ⊎ ((r : Rule) × r ∈ rules × Longer r path) → Of path
    to path (inl (e, p)) = subst Of (sym e) (tt, omega arith, subst P e p)
    to path (inr (r, i, (q, e, (o, h, p)))) = subst Of (sym e) ((i, o), omega arith, p)

    from : (path : List Rule) → Of path → ((path ≡ []) × P path) ⊎ ((r : Rule) × r ∈ rules × Longer r path)
    from [] (o, h, p) = inl (refl, p)
    from (r ∷ path) (o, h, p) = inr (r, o.0, (path, refl, (o.1, omega arith, p)))
