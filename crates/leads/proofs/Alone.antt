-- A search from one event alone: what it reaches. Assumes nothing.
use Rattle.std.proofs.Common.{◌≡◌, ℕ, ◌<◌, ◌≤◌, [], length, take, replicate, Some, None, Option, sym, ap, ◌∙◌, subst, inl, inr, ⊎_elim, arith, length-take}
use Rattle.std.proofs.lemmas.List.{get_or-set_same, get_or-set_other, length-replicate, length-set}
use Rattle.std.proofs.lemmas.Bool.{cases_eq}
use Rattle.rules.specs.Chains.{Reaches}
use Rattle.queues.specs.Contents.{Contents, capacity_of}
use Rattle.queues.specs.Sorts.{taken_out}
use Rattle.search.specs.Networks.{parent_of, Network, Labelling, events_of, label_of, key_of, Waits, Route}
use Rattle.search.specs.Forests.{rules_at}
use Rattle.search.specs.Searches.{Searched}
use Rattle.search.specs.Beginnings.{alone}
use Rattle.search.proofs.Keys.{same, clash}
use Rattle.search.proofs.Begins.{all_same}
use Rattle.search.proofs.Routes.{routed, chain_along}
use Rattle.settling.specs.Sizes.{max_nodes}
use Rattle.leads.specs.Tellings.{CountsReached}

-- the part for so many events of a list with room for all
pub long : {A : Type 0} (x : A) (n : ℕ) → n ≤ max_nodes → length (take n (replicate max_nodes x)) ≡ n
long {A} x n h = omega (arith, length-take {A = A}, length-replicate {A = A})

module _ {K : Type 0} (n capacity a : ℕ) (key : K) (below : a < n) (room : n ≤ capacity) where
  abbrev start : Labelling K
  start = alone n capacity a key None

  pub label_here : label_of start a ≡ Some key
  label_here = get_or-set_same (replicate n None) a (Some key) None (let l = length-replicate {A = Option K} n None in omega arith)

  pub only : (u : ℕ) (k : K) → label_of start u ≡ Some k → (u ≡ a) × (k ≡ key)
  only u k e = ⊎_elim
      (λ q. (q, same (sym e ∙ ap (label_of start) q ∙ label_here)))
      (λ ne. absurd (clash (label_of start u) e (get_or-set_other (replicate n None) a u (Some key) None ne ∙ all_same n u None)))
      (cases_eq u a)

  waits_here : Waits start a
  waits_here = (key, get_or-set_same (replicate capacity None) a (Some key) None (let l = length-replicate {A = Option K} capacity None in omega arith))

  waits_only : (v : ℕ) → Waits start v → v ≡ a
  waits_only v w = ⊎_elim
      (λ q. q)
      (λ ne. absurd (clash (key_of start v) w.1 (get_or-set_other (replicate capacity None) a v (Some key) None ne ∙ all_same capacity v None)))
      (cases_eq v a)

  pub events_alone : events_of start ≡ n
  events_alone = length-set (replicate n None) a (Some key) ∙ length-replicate n None

  capacity_alone : capacity_of start.queue ≡ capacity
  capacity_alone = length-set (replicate capacity None) a (Some key) ∙ length-replicate capacity None

  module _ (g : Network K) (s : Labelling K) (found : Searched g start s) where
    pub labelled : (v : ℕ) → Reaches g.rules a v → (k : K) × (label_of s v ≡ Some k)
    labelled v (path, c) =
        let (places, way, is) = routed g a v path c in
        let f = found.least a v places key way label_here in
        (f.0, f.1)

    pub reaches : (v : ℕ) (k : K) → label_of s v ≡ Some k → Reaches g.rules a v
    reaches v k e =
        let (u, places, j, way, l, q) = found.attained v k e in
        (rules_at g.rules places, chain_along g a v places (subst (λ (x : ℕ). Route g x v places) (only u j l).0 way))

    pub counts_reached : (before : Contents K) → capacity_of before ≡ capacity → CountsReached g.rules a before s.queue
    counts_reached before is = record {
      events = found.taken;
      once = found.once;
      exactly = λ v. (
        (λ m. ⊎_elim
            (λ w. ([], sym (waits_only v w)))
            (λ p. ⊎_elim (λ z. absurd (clash (parent_of s v) p.1 z.0)) (λ b. reaches v _ b.is) (found.given v))
            ((found.exactly v).0 m)),
        (λ r. let (k, e) = labelled v r in (found.exactly v).1 (⊎_elim
            (λ z. inl (subst (λ (x : ℕ). Waits start x) (sym (only v k (sym z.1 ∙ e)).0) waits_here))
            (λ b. inr (b.place, b.parent))
            (found.given v))),
      );
      left = found.left ∙ ap (λ m. taken_out m (length found.taken)) (capacity_alone ∙ sym is);
    }
