-- The lowest place whose rule ends a shortest chain with fewest rules. Assumes nothing.
use Rattle.std.proofs.Common.{◌≡◌, ℕ, zero, suc, ◌<◌, ◌≤◌, ◌⊎◌, List, [], ◌∷◌, ◌++◌, length, get_or, pos, ◌≤ℤ◌, sym, refl, subst, inl, inr, arith, length-append}
use mathlib.Core.List.Memᴰ
use native.Mathlib.Decide.{dec_le}
use Rattle.std.proofs.lemmas.Int.{ints, by_lt_z}
use Rattle.std.proofs.ByRecursion.{All-push}
use Rattle.std.proofs.lemmas.List.{get_or_default}
use Rattle.rules.specs.declared.records.Rule.{Rule}
use Rattle.rules.specs.Meets.{◌∈◌}
use Rattle.rules.specs.Chains.{Chain, sum}
use Rattle.rules.specs.Distances.{Shortest, FewestRules, StandsAt, Ends, LowestEnd}
use Rattle.rules.proofs.Members.{get_or_in}
use Rattle.rules.proofs.Least.{Least, Over, least_path, least_one, least_below}
use Rattle.rules.proofs.Reach.{chain_over, decide_chain}
use Rattle.rules.proofs.Fewest.{fewest_rules}

pub place_of : (rules : List Rule) (r : Rule) → r ∈ rules → (place : ℕ) × StandsAt rules place r
place_of [] r m = absurd (Memᴰ.not-nil m)
place_of (q ∷ rules) r m = pick (place_of rules r) (Memᴰ.cases_cons m)
  where
    pick : (r ∈ rules → (place : ℕ) × StandsAt rules place r) → (r ≡ q) ⊎ r ∈ rules → (place : ℕ) × StandsAt (q ∷ rules) place r
    pick later (inl e) = (zero, (omega arith, λ other. sym e))
    pick later (inr k) = let (place, (h, is)) = later k in (suc place, (omega arith, is))

-- a path of one rule or more has a last rule
last_of : (r : Rule) (path : List Rule) → (before : List Rule) × (rule : Rule) × (r ∷ path ≡ before ++ rule ∷ [])
last_of r [] = ([], r, refl)
last_of r (q ∷ path) = let (before, rule, e) = last_of q path in (r ∷ before, rule, cc)

over_front : (rules q : List Rule) (r : Rule) → Over rules (q ++ r ∷ []) → Over rules q × r ∈ rules
over_front rules [] r o = (tt, o.0)
over_front rules (s ∷ q) r (i, o) = let k = over_front rules q r o in ((i, k.0), k.1)

module _ (rules : List Rule) (a b : ℕ) (best : List Rule) (fewest : FewestRules rules a b best) where
  -- a chain that is no longer than a shortest one with fewest rules is one
  as_few : (path : List Rule) → Chain rules a b path → sum path ≤ℤ sum best → length path ≤ length best → FewestRules rules a b path
  as_few path c h k = record {
    shortest = record { chain = c; least = λ q i. let l = fewest.shortest.least q i in omega (arith, ints) };
    fewest = λ q i. let l = fewest.fewest q i in omega arith;
  }

  Few : Rule → List Rule → Type 0
  Few r q = FewestRules rules a b (q ++ r ∷ [])

  decide_few : (r : Rule) → r ∈ rules → (q : List Rule) → Over rules q → Dec (Few r q)
  unfolding Few
  decide_few r m q o =
      let path = q ++ r ∷ [] in
      by_lt_z (sum best) (sum path)
      (λ h. no (λ f. let l = f.shortest.least best fewest.shortest.chain in omega (arith, ints)))
      (λ h. pick h (dec_le (length path) (length best)) (decide_chain rules a b path (All-push (λ s. s ∈ rules) q r o m)))
    where
      pick : sum (q ++ r ∷ []) ≤ℤ sum best → Dec (length (q ++ r ∷ []) ≤ length best) → Dec (Chain rules a b (q ++ r ∷ [])) → Dec (FewestRules rules a b (q ++ r ∷ []))
      pick h (yes k) (yes c) = yes (as_few (q ++ r ∷ []) c h k)
      pick h (yes k) (no n) = no (λ f. n f.shortest.chain)
      pick h (no n) d = no (λ f. n (f.fewest best fewest.shortest))

  decide_ends : Rule → (place : ℕ) → place < length rules → Dec (Ends rules a b place)
  unfolding Few
  decide_ends default place h = answer (least_path rules (length best) (Few r) (decide_few r (get_or_in rules place default h)) (λ q. pos 0))
    where
      r : Rule
      r = get_or rules place default

      is : (other : Rule) → get_or rules place other ≡ r
      is other = get_or_default rules place other default h

      answer : Least (λ q. Over rules q × (length q ≤ length best) × Few r q) (λ q. pos 0) → Dec (Ends rules a b place)
      answer (inr (q, (o, l, f), least)) = yes (record { rule = r; stands = (h, is); before = q; fewest = f })
      answer (inl none) = no (λ e.
          let f : FewestRules rules a b (e.before ++ r ∷ []) = subst (λ (s : Rule). FewestRules rules a b (e.before ++ s ∷ [])) (sym (e.stands.1 default)) e.fewest in
          let k = f.fewest best fewest.shortest in
          let o = chain_over rules a b (e.before ++ r ∷ []) f.shortest.chain in
          none (e.before, ((over_front rules e.before r o).0, let j = length-append e.before (r ∷ []) in omega arith, f)))

pub lowest_end : (rules : List Rule) (a b : ℕ) (path : List Rule) → Shortest rules a b path → ¬ (a ≡ b) → (place : ℕ) × LowestEnd rules a b place
lowest_end rules a b path p apart = from_best (fewest_rules rules a b path p)
  where
    from_best : ((best : List Rule) × FewestRules rules a b best) → (place : ℕ) × LowestEnd rules a b place
    from_best ([], f) = absurd (apart f.shortest.chain)
    from_best (r ∷ q, f) = answer (least_below pos (length rules) (λ v x. (x ≡ v) × Ends rules a b x) (λ v h. least_one pos (Ends rules a b) v (decide_ends rules a b (r ∷ q) f r v h)))
      where
        answer : Least (λ x. (v : ℕ) × (v < length rules) × ((x ≡ v) × Ends rules a b x)) pos → (place : ℕ) × LowestEnd rules a b place
        answer (inr (place, s, least)) = (place, record { ends = s.2.1; lowest = λ other e. let l = least other (other, e.stands.0, (refl, e)) in omega (arith, ints) })
        answer (inl none) =
            let (before, rule, e) = last_of r q in
            let g : FewestRules rules a b (before ++ rule ∷ []) = subst (FewestRules rules a b) e f in
            let (place, at) = place_of rules rule (over_front rules before rule (chain_over rules a b (before ++ rule ∷ []) g.shortest.chain)).1 in
            absurd (none (place, (place, at.0, (refl, record { rule = rule; stands = at; before = before; fewest = g }))))
