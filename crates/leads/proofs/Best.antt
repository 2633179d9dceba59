-- A search from one event alone, by keys under prices: shortest chains that count least. Assumes nothing.
use Rattle.std.proofs.Common.{◌≡◌, ℕ, ◌<◌, ◌≤◌, List, [], ◌∷◌, length, get_or, ℤ, pos, ◌+ℤ◌, ◌-ℤ◌, ◌≤ℤ◌, Some, None, IfSome, Option, sym, refl, ap, ◌∙◌, subst, ⊎_elim, arith}
use mathlib.Core.List.Memᴰ
use Rattle.std.proofs.lemmas.Int.{ints}
use Rattle.std.proofs.lemmas.List.{get_or_past, length-map}
use Rattle.std.proofs.lemmas.Bool.{cases_lt}
use Rattle.rules.specs.declared.records.Rule.{Rule}
use Rattle.rules.specs.Meets.{◌∈◌, at, EventsBelow}
use Rattle.rules.specs.Chains.{Chain, sum}
use Rattle.rules.specs.Places.{rule_at, second_of}
use Rattle.rules.specs.Prices.{reduced_limit, reduced_sum}
use Rattle.rules.proofs.Among.{on_chain}
use Rattle.rules.proofs.Reduced.{reduced_along}
use Rattle.rules.proofs.Lengths.{at_most}
use Rattle.queues.specs.Contents.{Contents, capacity_of}
use Rattle.search.specs.Networks.{Network, Labelling, label_of, total, Route}
use Rattle.search.specs.Forests.{Traced, rules_at}
use Rattle.search.specs.Searches.{Within, Exact, Searched}
use Rattle.search.specs.Beginnings.{alone}
use Rattle.search.proofs.Keys.{same, clash}
use Rattle.search.proofs.Walking.{chain_to, chain_few}
use Rattle.search.proofs.Routes.{routed, chain_along}
use Rattle.leads.specs.declared.records.Measure.{Measure}
use Rattle.leads.specs.Counts.{tally, CountsLeast, Told, Parents}
use Rattle.leads.specs.Weights.{Key, key_zero, Weighed, reduced_size}
use Rattle.leads.proofs.Keyed.{keyed}
use Rattle.leads.specs.Priced.{Priced}
use Rattle.leads.specs.Labels.{measured, Fits}
use Rattle.leads.specs.Tellings.{CountsReached}
use Rattle.leads.proofs.Alone.{label_here, only, events_alone, labelled, counts_reached}
use Rattle.leads.proofs.Totals.{tally_few, not_before, not_fewer, weights_small, totals}

module _ (counts : ℤ → ℕ) (slight : (limit : ℤ) → counts limit ≤ 1) (rules : List Rule) (prices : List ℤ) (weights : List Key) (capacity a : ℕ) (priced : Priced rules a prices) (weighed : Weighed counts rules (at prices) weights (length rules))
    (below : a < length prices) (room : length prices ≤ capacity) where
  abbrev n : ℕ
  n = length prices

  abbrev g : Network Key
  g = keyed rules weights

  abbrev start : Labelling Key
  start = alone n capacity a key_zero None

  within : Within g start 0 reduced_size
  within = record {
    labels = λ v k e. subst (λ (m : Key). g.size m ≤ 0) (sym (only n capacity a key_zero below room v k e).1) (omega arith);
    weights = weights_small counts slight rules (at prices) weights weighed;
  }

  exact : Exact g start
  exact = record { b = 0; w = reduced_size; within = within; room = omega (arith, events_alone n capacity a key_zero below room, priced.sized.few_events) }

  -- along chains from the source no reduced limit is below 0
  good : (v : ℕ) (places : List ℕ) → Chain rules a v (rules_at rules places) → (place : ℕ) → place ∈ places → pos 0 ≤ℤ reduced_limit (at prices) (rule_at rules place)
  good v places c place m =
      let (among, from, to) = on_chain rules a v (rules_at rules places) c (rule_at rules place) (Memᴰ.map (rule_at rules) m) in
      let h = priced.meets (rule_at rules place) among from in
      omega (arith, ints)

  module _ (s : Labelling Key) (long : length s.parents ≡ n) (wide : length s.labels ≡ n) (found : Searched g start s) where
    -- the chain by parents to an event with the label j
    record By (v : ℕ) (j : Key) (path : List Rule) : Type 0 where
      chain : Chain rules a v path
      millis : j.first.0 ≡ (sum path +ℤ at prices a) -ℤ at prices v
      counted : j.second.0 ≡ pos (tally counts path)

    by : (v : ℕ) (j : Key) → label_of s v ≡ Some j → (places : List ℕ) (t : Traced rules s.parents v places) → (t.start ≡ a) × By v j (rules_at rules places)
    by v j e places t =
        let (k, l, q) = found.along v j e places t in
        let (u, z) = only n capacity a key_zero below room t.start k l in
        let path : List Rule = rules_at rules places in
        let c : Chain rules a v path = subst (λ (x : ℕ). Chain rules x v path) u t.simple.chain in
        let (x, y) = totals counts slight rules (at prices) weights weighed places t.within (good v places c) in
        let r = reduced_along rules (at prices) a v path c in
        let z1 : k.first.0 ≡ pos 0 = ap (λ (m : Key). m.first.0) z in
        let z2 : k.second.0 ≡ pos 0 = ap (λ (m : Key). m.second.0) z in
        let q1 : j.first.0 ≡ k.first.0 +ℤ (total g places).first.0 = ap (λ (m : Key). m.first.0) q in
        let q2 : j.second.0 ≡ k.second.0 +ℤ (total g places).second.0 = ap (λ (m : Key). m.second.0) q in
        (u, record { chain = c; millis = omega (arith, ints); counted = omega (arith, ints) })

    -- no chain has a smaller sum, nor one of the same sum a smaller count
    least : (v : ℕ) (j : Key) → label_of s v ≡ Some j → (path : List Rule) → Chain rules a v path
        → (j.first.0 ≤ℤ ((sum path +ℤ at prices a) -ℤ at prices v)) × (j.first.0 ≡ (sum path +ℤ at prices a) -ℤ at prices v → j.second.0 ≤ℤ pos (tally counts path))
    least v j e path c =
        let (places, way, is) = routed g a v path c in
        let (k, l, q) = found.least a v places key_zero way (label_here n capacity a key_zero below room) in
        let (x, y) = totals counts slight rules (at prices) weights weighed places (inside a v places way) (good v places (chain_along g a v places way)) in
        let x1 : reduced_sum (at prices) (rules_at rules places) ≡ reduced_sum (at prices) path = ap (reduced_sum (at prices)) is in
        let y1 : tally counts (rules_at rules places) ≡ tally counts path = ap (tally counts) is in
        let r = reduced_along rules (at prices) a v path c in
        let u : k ≡ j = same (sym l ∙ e) in
        let u1 : k.first.0 ≡ j.first.0 = ap (λ (m : Key). m.first.0) u in
        let u2 : k.second.0 ≡ j.second.0 = ap (λ (m : Key). m.second.0) u in
        let b = not_before (pos 0 +ℤ (total g places).first.0) k.first.0 (pos 0 +ℤ (total g places).second.0) k.second.0 q in (
          omega (arith, ints),
          λ h.
              let d = not_fewer (pos 0 +ℤ (total g places).first.0) k.first.0 (pos 0 +ℤ (total g places).second.0) k.second.0 q (omega (arith, ints)) in
              let y2 : pos (tally counts (rules_at rules places)) ≡ pos (tally counts path) = ap pos y1 in
              omega (arith, ints),
        )
      where
        inside : (u w : ℕ) (places : List ℕ) → Route g u w places → (place : ℕ) → place ∈ places → place < length rules
        inside u w [] r place m = elim m [ ]
        inside u w (q ∷ places) r place m = ⊎_elim (λ z. subst (λ (x : ℕ). x < length rules) (sym z) r.0) (inside (second_of rules q) w places r.2 place) (Memᴰ.cases_cons m)

    counts_least : (v : ℕ) (j : Key) → label_of s v ≡ Some j → (path : List Rule) → By v j path → CountsLeast counts rules a v path
    counts_least v j e path b =
        let m = b.millis in
        let k = b.counted in
        record {
          shortest = record { chain = b.chain; least = λ other c. let l = (least v j e other c).0 in omega (arith, ints) };
          least = λ other h.
              let l = (least v j e other h.chain).0 in
              let w = h.least path b.chain in
              let f = (least v j e other h.chain).1 (omega (arith, ints)) in
              omega (arith, ints);
        }

    -- every label is that of a chain by parents
    record Known (v : ℕ) (j : Key) : Type 0 where
      path : List Rule
      by : By v j path
      few : length path < n

    known : (v : ℕ) (j : Key) → label_of s v ≡ Some j → Known v j
    known v j e =
        let (places, t) = chain_to rules s.parents v inside found.forest in
        let h = chain_few rules s.parents (subst (λ (m : ℕ). EventsBelow m rules) (sym long) priced.sized.events) v places t in
        record { path = rules_at rules places; by = (by v j e places t).1; few = omega (arith, length-map places (rule_at rules)) }
      where
        inside : v < length s.parents
        inside = ⊎_elim (λ h. omega arith) (λ h. absurd (clash (label_of s v) e (get_or_past s.labels v None (omega arith)))) (cases_lt v n)

    told_of : (v : ℕ) (o : Option Key) → label_of s v ≡ o → Told counts rules a v (measured o (at prices v) (at prices a))
    told_of v None e = λ r. let (k, l) = labelled n capacity a key_zero below room g s found v r in clash (label_of s v) l e
    told_of v (Some j) e =
        let k = known v j e in
        let m = k.by.millis in
        let c = k.by.counted in
        let best = counts_least v j e k.path k.by in
        (k.path, best, (k.path, best.shortest, omega (arith, ints)), omega (arith, ints))

    told : (v : ℕ) → Told counts rules a v (measured (label_of s v) (at prices v) (at prices a))
    told v = told_of v (label_of s v) refl

    parents : Parents counts rules a s.parents
    parents = record {
      forest = found.forest;
      least = λ v r places t.
          let (j, e) = labelled n capacity a key_zero below room g s found v r in
          let (u, b) = by v j e places t in
          (u, counts_least v j e (rules_at rules places) b);
    }

    key_fits : (v : ℕ) (j : Key) → label_of s v ≡ Some j → Fits j
    key_fits v j e =
        let k = known v j e in
        let c = k.by.counted in
        let z = found.sized 0 reduced_size within v j e in
        let most = at_most n found.taken found.once (λ w m. let l = found.below w m in omega (arith, events_alone n capacity a key_zero below room)) in
        record {
          millis = omega (arith, ints, priced.sized.few_events);
          least = omega (arith, ints);
          most = omega (arith, ints, k.few, tally_few counts slight k.path, priced.sized.few_events);
        }

    fits_of : (v : ℕ) (o : Option Key) → label_of s v ≡ o → IfSome o Fits
    fits_of v None e = tt
    fits_of v (Some j) e = key_fits v j e

    fits : (v : ℕ) → IfSome (label_of s v) Fits
    fits v = fits_of v (label_of s v) refl

pub explorable : {counts : ℤ → ℕ} → ((limit : ℤ) → counts limit ≤ 1) → {rules : List Rule} {prices : List ℤ} {weights : List Key} {a : ℕ}
    → Priced rules a prices → Weighed counts rules (at prices) weights (length rules) → a < length prices
    → (capacity : ℕ) → length prices ≤ capacity → {m : ℕ} → m ≡ length prices → Exact (keyed rules weights) (alone m capacity a key_zero None)
explorable {counts} slight {rules} {prices} {weights} {a} priced weighed below capacity room e =
    subst (λ (m : ℕ). Exact (keyed rules weights) (alone m capacity a key_zero None)) (sym e) (exact counts slight rules prices weights capacity a priced weighed below room)

-- what a search by keys from a comes to: what its labels tell, its parents, and what it leaves in the queue
pub record Explored (counts : ℤ → ℕ) (rules : List Rule) (prices : List ℤ) (a : ℕ) (before : Contents Key) (s : Labelling Key) : Type 0 where
  pub told : (measures : List (Option Measure)) → ((v : ℕ) → get_or measures v None ≡ measured (label_of s v) (at prices v) (at prices a)) → (v : ℕ) → Told counts rules a v (get_or measures v None)
  pub parents : Parents counts rules a s.parents
  pub fits : (v : ℕ) → IfSome (label_of s v) Fits
  pub reached : CountsReached rules a before s.queue

pub explored : {counts : ℤ → ℕ} → ((limit : ℤ) → counts limit ≤ 1) → {rules : List Rule} {prices : List ℤ} {weights : List Key} {a : ℕ}
    → Priced rules a prices → Weighed counts rules (at prices) weights (length rules) → a < length prices
    → (before : Contents Key) → length prices ≤ capacity_of before
    → (s : Labelling Key) → length s.parents ≡ length prices → {m : ℕ} → m ≡ length prices → length s.labels ≡ m → Searched (keyed rules weights) (alone m (capacity_of before) a key_zero None) s
    → Explored counts rules prices a before s
explored {counts} slight {rules} {prices} {weights} {a} priced weighed below before room s long e wide found =
    let capacity : ℕ = capacity_of before in
    let there : Searched (keyed rules weights) (alone (length prices) capacity a key_zero None) s = subst (λ (m : ℕ). Searched (keyed rules weights) (alone m capacity a key_zero None) s) e found in
    record {
      told = λ measures is v. subst (λ (o : Option Measure). Told counts rules a v o) (sym (is v)) (told counts slight rules prices weights capacity a priced weighed below room s long (wide ∙ e) there v);
      parents = parents counts slight rules prices weights capacity a priced weighed below room s long (wide ∙ e) there;
      fits = fits counts slight rules prices weights capacity a priced weighed below room s long (wide ∙ e) there;
      reached = counts_reached (length prices) capacity a key_zero below room (keyed rules weights) s there before refl;
    }
