-- A chain that visits no event twice has fewer rules than there are events, and a ring at most as many. Assumes nothing.
use Rattle.std.proofs.Common.{◌≡◌, ℕ, zero, suc, ◌<◌, ◌≤◌, ◌⊎◌, List, [], ◌∷◌, length, sym, refl, ap, ◌∙◌, inl, inr, arith}
use mathlib.Core.List.Memᴰ
use Rattle.rules.specs.declared.records.Rule.{Rule}
use Rattle.rules.specs.Meets.{◌∈◌, EventsBelow}
use Rattle.rules.specs.Chains.{Chain, stops, Distinct}
use Rattle.rules.specs.Rings.{Ring}
use Rattle.rules.proofs.Shorten.{among}

-- xs without its x
record Without (x : ℕ) (xs : List ℕ) : Type 0 where
  rest : List ℕ
  fewer : length xs ≡ suc (length rest)
  once : Distinct rest
  others : (v : ℕ) → v ∈ rest → v ∈ xs × (¬ (v ≡ x))

without : (x : ℕ) (xs : List ℕ) → x ∈ xs → Distinct xs → Without x xs
without x [] m d = elim m [ ]
without x (y ∷ xs) (Memᴰ.head e) d = record { rest = xs; fewer = refl; once = d.1; others = λ v k. (Memᴰ.tail k, λ h. d.0 (Memᴰ.cast (sym (h ∙ e)) k)) }
without x (y ∷ xs) (Memᴰ.tail k) d =
    let w = without x xs k d.1 in
    record {
      rest = y ∷ w.rest;
      fewer = ap suc w.fewer;
      once = (λ j. d.0 (w.others y j).0, w.once);
      others = λ v j. other v w (Memᴰ.cases_cons j);
    }
  where
    other : (v : ℕ) (w : Without x xs) → (v ≡ y) ⊎ v ∈ w.rest → v ∈ (y ∷ xs) × (¬ (v ≡ x))
    other v w (inl e) = (Memᴰ.head e, λ h. d.0 (Memᴰ.cast (sym e ∙ h) k))
    other v w (inr j) = (Memᴰ.tail (w.others v j).0, (w.others v j).1)

abbrev Below : ℕ → List ℕ → Type 0
Below n xs = (v : ℕ) → v ∈ xs → v < n

-- there are at most n different numbers below n
pub at_most : (n : ℕ) (xs : List ℕ) → Distinct xs → ((v : ℕ) → v ∈ xs → v < n) → length xs ≤ n
at_most zero [] d b = omega arith
at_most zero (x ∷ xs) d b = absurd (let h = b x (Memᴰ.head refl) in omega arith)
at_most (suc n) xs d b = pick (at_most n) (among n xs)
  where
    pick : ((ys : List ℕ) → Distinct ys → Below n ys → length ys ≤ n) → Dec (n ∈ xs) → length xs ≤ suc n
    pick smaller (yes m) =
        let w = without n xs m d in
        let h = smaller w.rest w.once (λ v k. let p = w.others v k in let l = b v p.0 in omega (arith, p.1)) in
        omega (arith, w.fewer)
    pick smaller (no m) =
        let h = smaller xs d (λ v k. let l = b v k in let ne : ¬ (v ≡ n) = λ e. m (Memᴰ.cast (sym e) k) in omega arith) in
        omega arith

stops_below : (rules : List Rule) (n : ℕ) → EventsBelow n rules → (a b : ℕ) (path : List Rule) → Chain rules a b path → Below n (stops path)
stops_below rules n w a b [] c v m = elim m [ ]
stops_below rules n w a b (r ∷ path) (i, e, c) v (Memᴰ.head h) = rw h (w r i).1
stops_below rules n w a b (r ∷ path) (i, e, c) v (Memᴰ.tail m) = stops_below rules n w r.second b path c v m

length-stops : (path : List Rule) → length (stops path) ≡ length path
length-stops [] = refl
length-stops (r ∷ path) = ap suc (length-stops path)

pub few : (rules : List Rule) (n : ℕ) → EventsBelow n rules → (a b : ℕ) (path : List Rule) → a < n → Chain rules a b path → Distinct (a ∷ stops path) → length path < n
few rules n w a b path h c d =
    let k = at_most n (a ∷ stops path) d (λ v m. below v (Memᴰ.cases_cons m)) in
    omega (arith, length-stops path)
  where
    below : (v : ℕ) → (v ≡ a) ⊎ v ∈ stops path → v < n
    below v (inl e) = rw e h
    below v (inr m) = stops_below rules n w a b path c v m

-- a ring has at most as many rules as there are events
pub ring_few : (rules : List Rule) (n : ℕ) → EventsBelow n rules → (a : ℕ) (path : List Rule) → Ring rules a path → length path ≤ n
ring_few rules n w a path g =
    let k = at_most n (stops path) g.once (stops_below rules n w a a path g.chain) in
    omega (arith, length-stops path)
