-- Chains by parents, and the way back along one. Assumes nothing.
use Rattle.std.proofs.Common.{◌≡◌, ℕ, zero, suc, ◌+◌, ◌-◌, ◌<◌, ◌≤◌, List, [], ◌∷◌, ◌++◌, map, length, get_or, take, drop, set, Some, None, Option, sym, refl, ap, ◌∙◌, subst, ⊎_elim, arith}
use mathlib.Core.List.Memᴰ
use Rattle.std.proofs.lemmas.List.{take_more, take_all, take-append-drop, drop_more, drop_all, set_at, map-append, append_assoc, length-map, length-take-le}
use Rattle.rules.specs.declared.records.Rule.{Rule}
use Rattle.rules.specs.Meets.{◌∈◌, EventsBelow}
use Rattle.rules.specs.Chains.{Chain, stops, Distinct}
use Rattle.rules.specs.Places.{no_rule, rule_at, first_of, second_of}
use Rattle.rules.proofs.Members.{get_or_in}
use Rattle.rules.proofs.Lengths.{few}
use Rattle.search.specs.Forests.{Backward, Forest, rules_at, Traced}
use Rattle.search.proofs.Keys.{same, clash}

module _ (rules : List Rule) (parents : List (Option ℕ)) where
  -- a chain by parents from v, where nothing that may come before it is on it
  record Onward (v end : ℕ) (events places : List ℕ) : Type 0 where
    below : v < length parents
    chain : Chain rules v end (rules_at rules places)
    once : Distinct (stops (rules_at rules places))
    apart : (w : ℕ) → w ∈ (v ∷ events) → ¬ (w ∈ stops (rules_at rules places))
    within : (place : ℕ) → place ∈ places → place < length rules
    parental : (place : ℕ) → place ∈ places → get_or parents (second_of rules place) None ≡ Some place

  module _ (end : ℕ) where
    rooted : (v : ℕ) (events places : List ℕ) → get_or parents v None ≡ None → Onward v end events places → Traced rules parents end places
    rooted v events places e o = record {
      start = v;
      root = e;
      below = o.below;
      simple = record { chain = o.chain; once = (o.apart v (Memᴰ.head refl), o.once) };
      within = o.within;
      parental = o.parental;
    }

    -- one rule more in front
    before : (v p : ℕ) (events : List ℕ) (places : List ℕ) → Distinct (v ∷ events) → ((w : ℕ) → w ∈ events → w < length parents) → get_or parents v None ≡ Some p → p < length rules → second_of rules p ≡ v → first_of rules p ∈ events → Onward v end events places
        → Onward (first_of rules p) end events (p ∷ places)
    before v p events places once below parent within ends begins o = record {
      below = below (first_of rules p) begins;
      chain = (get_or_in rules p no_rule within, refl, subst (λ (a : ℕ). Chain rules a end (rules_at rules places)) (sym ends) o.chain);
      once = ((λ m. o.apart v (Memᴰ.head refl) (subst (λ (a : ℕ). a ∈ stops (rules_at rules places)) ends m)), o.once);
      apart = λ w m k.
          let among : w ∈ events = ⊎_elim (λ z. subst (λ (a : ℕ). a ∈ events) (sym z) begins) (λ j. j) (Memᴰ.cases_cons m) in ⊎_elim
          (λ q. once.0 (subst (λ (a : ℕ). a ∈ events) (q ∙ ends) among))
          (λ j. o.apart w (Memᴰ.tail among) j)
          (Memᴰ.cases_cons k);
      within = λ place m. ⊎_elim (λ q. subst (λ (a : ℕ). a < length rules) (sym q) within) (o.within place) (Memᴰ.cases_cons m);
      parental = λ place m. ⊎_elim
          (λ q. ap (λ a. get_or parents (second_of rules a) None) q ∙ ap (λ a. get_or parents a None) ends ∙ parent ∙ ap Some (sym q))
          (o.parental place)
          (Memᴰ.cases_cons m);
    }

    walk : (events : List ℕ) → Distinct events → ((w : ℕ) → w ∈ events → w < length parents) → Backward rules parents events → (v : ℕ) → v ∈ events → (places : List ℕ) → Onward v end events places → (all : List ℕ) × Traced rules parents end all
    walk [] once below back v m places o = absurd (Memᴰ.not-nil m)
    walk (x ∷ events) once below back v m places o = ⊎_elim
        (λ q. let here : Onward x end events places = subst (λ (a : ℕ). Onward a end events places) q (fewer o) in ⊎_elim
        (λ e. (places, rooted x events places e here))
        (λ (p, parent, within, ends, begins). walk events once.1 (λ w k. below w (Memᴰ.tail k)) back.1 _ begins (p ∷ places)
        (before x p events places once (λ w k. below w (Memᴰ.tail k)) parent within ends begins here))
        back.0)
        (λ k. walk events once.1 (λ w j. below w (Memᴰ.tail j)) back.1 v k places (fewer o))
        (Memᴰ.cases_cons m)
      where
        fewer : Onward v end (x ∷ events) places → Onward v end events places
        fewer p = record { below = p.below; chain = p.chain; once = p.once; apart = λ w j. p.apart w (⊎_elim (λ q. Memᴰ.head q) (λ i. Memᴰ.tail (Memᴰ.tail i)) (Memᴰ.cases_cons j)); within = p.within; parental = p.parental }

    -- every event has a chain by parents
    pub chain_to : end < length parents → Forest rules parents → (places : List ℕ) × Traced rules parents end places
    chain_to h f = led (get_or parents end None) refl
      where
        none : Onward end end f.events []
        none = record { below = h; chain = refl; once = tt; apart = λ w m k. Memᴰ.not-nil k; within = λ place m. absurd (Memᴰ.not-nil m); parental = λ place m. absurd (Memᴰ.not-nil m) }

        led : (parent : Option ℕ) → get_or parents end None ≡ parent → (places : List ℕ) × Traced rules parents end places
        led None e = ([], rooted end f.events [] e none)
        led (Some p) e = walk f.events f.once f.below f.backward end (f.all end p e) [] none

  pub chain_few : EventsBelow (length parents) rules → (v : ℕ) (places : List ℕ) → Traced rules parents v places → length places < length parents
  chain_few w v places t =
      let h = few rules (length parents) w t.start v (rules_at rules places) t.below t.simple.chain t.simple.once in
      omega (arith, length-map places (rule_at rules))

  chain_last : (a b : ℕ) (path : List Rule) (r : Rule) → Chain rules a b (path ++ r ∷ []) → Chain rules a r.first path × (r.second ≡ b)
  chain_last a b [] r c = (c.1, c.2)
  chain_last a b (q ∷ path) r c = let e = chain_last q.second b path r c.2 in ((c.0, c.1, e.0), e.1)

  -- on the way back from v along a chain by parents the walk stands at an event, with so many rules left
  pub record Back (v : ℕ) (places : List ℕ) (left at : ℕ) : Type 0 where
    pub traced : Traced rules parents v places
    pub within : left ≤ length places
    pub chain : Chain rules traced.start at (rules_at rules (take left places))
    pub below : at < length parents

  pub back_begin : (v : ℕ) (places : List ℕ) → v < length parents → Traced rules parents v places → Back v places (length places) v
  back_begin v places h t = record { traced = t; within = omega arith; chain = subst (λ (ps : List ℕ). Chain rules t.start v (rules_at rules ps)) (sym (take_all (length places) places (omega arith))) t.simple.chain; below = h }

  -- with rules left, the parent is the last of them, and its first event comes next
  pub back_more : (v : ℕ) (places : List ℕ) (left at : ℕ) → EventsBelow (length parents) rules → 0 < left → Back v places left at
      → (get_or parents at None ≡ Some (get_or places (left - 1) 0)) × (get_or places (left - 1) 0 < length rules) × Back v places (left - 1) (first_of rules (get_or places (left - 1) 0))
  back_more v places left at w some b =
      let h = b.within in
      let p : ℕ = get_or places (left - 1) 0 in
      let m : p ∈ places = get_or_in places (left - 1) 0 (omega arith) in
      let lt : p < length rules = b.traced.within p m in
      let e : left ≡ left - 1 + 1 = omega arith in
      let front : rules_at rules (take left places) ≡ rules_at rules (take (left - 1) places) ++ rule_at rules p ∷ [] = ap (λ n. rules_at rules (take n places)) e ∙ ap (rules_at rules) (take_more places (left - 1) 0 (omega arith)) ∙ map-append (rule_at rules) (take (left - 1) places) (p ∷ []) in
      let c = chain_last b.traced.start at (rules_at rules (take (left - 1) places)) (rule_at rules p) (subst (λ (path : List Rule). Chain rules b.traced.start at path) front b.chain) in
      (sym (ap (λ a. get_or parents a None) c.1) ∙ b.traced.parental p m, lt, record { traced = b.traced; within = omega arith; chain = c.0; below = (w _ (get_or_in rules p no_rule lt)).0 })

  -- where there is a parent, it is the last of the rules left, and its first event comes next
  pub back_some : (v : ℕ) (places : List ℕ) (left at p : ℕ) → EventsBelow (length parents) rules → get_or parents at None ≡ Some p → Back v places left at
      → (0 < left) × (p ≡ get_or places (left - 1) 0) × (p < length rules) × Back v places (left - 1) (first_of rules p)
  back_some v places zero at p w e b = absurd (clash (get_or parents at None) e (sym (ap (λ a. get_or parents a None) b.chain) ∙ b.traced.root))
  back_some v places (suc left) at p w e b =
      let m = back_more v places (suc left) at w (omega arith) b in
      let is : p ≡ get_or places (suc left - 1) 0 = same (sym e ∙ m.0) in
      (omega arith, is, subst (λ (q : ℕ). q < length rules) (sym is) m.1, subst (λ (q : ℕ). Back v places (suc left - 1) (first_of rules q)) (sym is) m.2)

  -- and where there is none, none is left
  pub back_none : (v : ℕ) (places : List ℕ) (left at : ℕ) → EventsBelow (length parents) rules → get_or parents at None ≡ None → Back v places left at → left ≡ 0
  back_none v places zero at w e b = refl
  back_none v places (suc left) at w e b = absurd (clash (get_or parents at None) (back_more v places (suc left) at w (omega arith) b).0 e)

-- numbers written from the end of a chain down to a place
abbrev pub half_written : List Rule → List ℕ → List ℕ → ℕ → List ℕ
half_written rules numbers places left = take left numbers ++ (map (λ r. r.number) (rules_at rules (drop left places)) ++ drop (length places) numbers)

pub write_begin : (rules : List Rule) (numbers places : List ℕ) → numbers ≡ half_written rules numbers places (length places)
write_begin rules numbers places =
    sym (ap (λ ps. take (length places) numbers ++ (map (λ r. r.number) (rules_at rules ps) ++ drop (length places) numbers)) (drop_all (length places) places (omega arith)) ∙ take-append-drop (length places) numbers)

pub write_more : (rules : List Rule) (numbers places : List ℕ) (left : ℕ) → left < length places → length places ≤ length numbers → set (half_written rules numbers places (left + 1)) left (rule_at rules (get_or places left 0)).number ≡ half_written rules numbers places left
write_more rules numbers places left h room =
    ap (λ front. set (front ++ rest) left number) (take_more numbers left 0 (omega arith))
    ∙ ap (λ whole. set whole left number) (append_assoc (take left numbers) (get_or numbers left 0 ∷ []) rest)
    ∙ set_at (take left numbers) (get_or numbers left 0) rest number left (length-take-le left numbers (omega arith))
    ∙ ap (λ ps. take left numbers ++ (map (λ r. r.number) (rules_at rules ps) ++ drop (length places) numbers)) (sym (drop_more places left 0 h))
  where
    rest : List ℕ
    rest = map (λ r. r.number) (rules_at rules (drop (left + 1) places)) ++ drop (length places) numbers

    number : ℕ
    number = (rule_at rules (get_or places left 0)).number
