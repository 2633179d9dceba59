-- Whether a chain leads from one event to another is decided. Assumes nothing.
use Rattle.std.proofs.Common.{◌≡◌, ℕ, suc, ◌+◌, ◌<◌, ◌≤◌, List, [], ◌∷◌, length, pos, sym, subst, inl, inr, ⊎_elim, arith}
use mathlib.Core.List.Memᴰ
use native.Mathlib.Decide.{ℕ_discrete}
use Rattle.rules.specs.declared.records.Rule.{Rule}
use Rattle.rules.specs.Meets.{EventsBelow}
use Rattle.rules.specs.Chains.{Chain, Reaches}
use Rattle.rules.proofs.Shorten.{Short, shorten}
use Rattle.rules.proofs.Lengths.{few}
use Rattle.rules.proofs.Least.{Least, Over, least_path}

-- a number above every event of the rules, and above two more
abbrev pub Bound : List Rule → ℕ → ℕ → Type 0
Bound rules a b = (n : ℕ) × EventsBelow n rules × (a < n) × (b < n)

pub events_bound : (rules : List Rule) (a b : ℕ) → Bound rules a b
events_bound [] a b = (suc (a + b), λ r m. absurd (Memᴰ.not-nil m), omega arith, omega arith)
events_bound (q ∷ rules) a b = wider (events_bound rules a b)
  where
    wider : Bound rules a b → Bound (q ∷ rules) a b
    wider (n, w, h, k) = (n + q.first + q.second, λ r m. ⊎_elim (λ e. subst Below (sym e) (omega arith, omega arith)) (λ i. let l = w r i in (omega arith, omega arith)) (Memᴰ.cases_cons m), omega arith, omega arith)
      where
        Below : Rule → Type 0
        Below r = (r.first < n + q.first + q.second) × (r.second < n + q.first + q.second)

pub chain_over : (rules : List Rule) (a b : ℕ) (path : List Rule) → Chain rules a b path → Over rules path
chain_over rules a b [] e = tt
chain_over rules a b (r ∷ path) (i, e, c) = (i, chain_over rules r.second b path c)

pub decide_chain : (rules : List Rule) (a b : ℕ) (path : List Rule) → Over rules path → Dec (Chain rules a b path)
decide_chain rules a b [] o = ℕ_discrete a b
decide_chain rules a b (r ∷ path) (i, o) = pick (ℕ_discrete a r.first) (decide_chain rules r.second b path o)
  where
    pick : Dec (a ≡ r.first) → Dec (Chain rules r.second b path) → Dec (Chain rules a b (r ∷ path))
    pick (yes e) (yes c) = yes (i, e, c)
    pick (yes e) (no n) = no (λ c. n c.2)
    pick (no n) d = no (λ c. n c.1)

-- a shortened chain is one of the paths of at most n rules
pub short_within : (rules : List Rule) (n : ℕ) → EventsBelow n rules → (a b : ℕ) → a < n → (path : List Rule) (s : Short rules a b path) → Over rules s.short × (length s.short ≤ n) × Chain rules a b s.short
short_within rules n w a b h path s = let l = few rules n w a b s.short h s.chain s.once in (chain_over rules a b s.short s.chain, omega arith, s.chain)

pub decide_reach : (rules : List Rule) (a b : ℕ) → Dec (Reaches rules a b)
decide_reach rules a b = pick (events_bound rules a b)
  where
    pick : Bound rules a b → Dec (Reaches rules a b)
    pick (n, w, h, k) = answer (least_path rules n (Chain rules a b) (decide_chain rules a b) (λ path. pos 0))
      where
        answer : Least (λ path. Over rules path × (length path ≤ n) × Chain rules a b path) (λ path. pos 0) → Dec (Reaches rules a b)
        answer (inl none) = no (λ t. let s = shorten rules a b t.0 t.1 in none (s.short, short_within rules n w a b h t.0 s))
        answer (inr (path, s, m)) = yes (path, s.2)
