-- A search from one event alone, where every rule weighs 0 milliseconds. Assumes nothing.
use Rattle.std.proofs.Common.{◌≡◌, ℕ, Bool, ◌<◌, ◌≤◌, false, List, get_or, is_some, Some, None, Decides, Option, sym, refl, subst, arith}
use Rattle.rules.specs.declared.records.Rule.{Rule}
use Rattle.rules.specs.Chains.{Reaches}
use Rattle.delays.specs.Numbers.{Millis, amount_zero, amount_less, amount_size}
use Rattle.queues.specs.Contents.{Contents, capacity_of}
use Rattle.search.specs.Networks.{Network, Labelling, label_of}
use Rattle.search.specs.Searches.{NoneNegative, Exact, Searched}
use Rattle.search.specs.Beginnings.{alone}
use Rattle.search.proofs.Keys.{clash}
use Rattle.leads.proofs.Keyed.{timed}
use Rattle.leads.specs.Tellings.{CountsReached, ReachTold}
use Rattle.leads.proofs.Alone.{only, labelled, reaches, counts_reached}

decides : {P : Type 0} (o : Option Millis) → ((k : Millis) → o ≡ Some k → P) → (P → (k : Millis) × (o ≡ Some k)) → Decides (is_some o) P
decides None if then = ((λ e. let z : ◌≡◌ {A = ℕ} 0 1 = cc in absurd (omega arith)), (λ p. absurd (clash None (then p).1 refl)))
decides (Some k) if then = ((λ e. if k refl), (λ p. refl))

module _ (rules : List Rule) (weights : List Millis) (free : (place : ℕ) → get_or weights place amount_zero ≡ amount_zero) where
  pub none_negative : NoneNegative (timed rules weights)
  none_negative place h = subst (λ (w : Millis). amount_less w amount_zero ≡ false) (sym (free place)) refl

  module _ {n a : ℕ} (below : a < n) (capacity : ℕ) (room : n ≤ capacity) where
    exact : Exact (timed rules weights) (alone n capacity a amount_zero None)
    exact = record {
      b = 0;
      w = 0;
      within = record {
        labels = λ v k l. subst (λ (m : Millis). amount_size m ≤ 0) (sym (only n capacity a amount_zero below room v k l).1) (omega arith);
        weights = λ place h. subst (λ (w : Millis). amount_size w ≤ 0) (sym (free place)) (omega arith);
      };
      room = omega arith;
    }

    pub explorable : {m : ℕ} → m ≡ n → Exact (timed rules weights) (alone m capacity a amount_zero None)
    explorable e = subst (λ (m : ℕ). Exact (timed rules weights) (alone m capacity a amount_zero None)) (sym e) exact

-- what a search with no weights from a comes to: an event has a label exactly when a reaches it
pub record Explored (rules : List Rule) (a : ℕ) (before : Contents Millis) (s : Labelling Millis) : Type 0 where
  pub flagged : (flags : List Bool) → ((v : ℕ) → get_or flags v false ≡ is_some (label_of s v)) → ReachTold rules a flags
  pub reached : CountsReached rules a before s.queue

pub explored : {rules : List Rule} {weights : List Millis} {n a : ℕ} → a < n → (before : Contents Millis) → n ≤ capacity_of before → (s : Labelling Millis) → {m : ℕ} → m ≡ n
    → Searched (timed rules weights) (alone m (capacity_of before) a amount_zero None) s → Explored rules a before s
explored {rules} {weights} {n} {a} below before room s e found =
    let capacity : ℕ = capacity_of before in
    let g : Network Millis = timed rules weights in
    let there : Searched g (alone n capacity a amount_zero None) s = subst (λ (m : ℕ). Searched g (alone m capacity a amount_zero None) s) e found in
    record {
      flagged = λ flags is v. subst (λ (b : Bool). Decides b (Reaches rules a v)) (sym (is v)) (decides (label_of s v) (λ k l. reaches n capacity a amount_zero below room g s there v k l) (λ r. labelled n capacity a amount_zero below room g s there v r));
      reached = counts_reached n capacity a amount_zero below room g s there before refl;
    }
