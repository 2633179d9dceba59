-- Chains of rules as routes by places, and back. Assumes nothing.
use Rattle.std.proofs.Common.{◌≡◌, ℕ, ◌<◌, List, [], ◌∷◌, length, sym, refl, ap, ◌∙◌, subst}
use mathlib.Core.List.Memᴰ
use Rattle.rules.specs.declared.records.Rule.{Rule}
use Rattle.rules.specs.Meets.{◌∈◌}
use Rattle.rules.specs.Chains.{Chain}
use Rattle.rules.specs.Places.{no_rule, second_of}
use Rattle.rules.proofs.Members.{get_or_in}
use Rattle.rules.proofs.Ends.{place_of}
use Rattle.search.specs.Networks.{Network, Route}
use Rattle.search.specs.Forests.{rules_at}

module _ {K : Type 0} (g : Network K) where
  pub route_along : (a b : ℕ) (places : List ℕ) → ((place : ℕ) → place ∈ places → place < length g.rules) → Chain g.rules a b (rules_at g.rules places) → Route g a b places
  route_along a b [] within c = c
  route_along a b (place ∷ places) within c = (within place (Memᴰ.head refl), c.1, route_along (second_of g.rules place) b places (λ q m. within q (Memᴰ.tail m)) c.2)

  pub chain_along : (a b : ℕ) (places : List ℕ) → Route g a b places → Chain g.rules a b (rules_at g.rules places)
  chain_along a b [] r = r
  chain_along a b (place ∷ places) r = (get_or_in g.rules place no_rule r.0, r.1, chain_along (second_of g.rules place) b places r.2)

  -- every chain is that of a route
  pub routed : (a b : ℕ) (path : List Rule) → Chain g.rules a b path → (places : List ℕ) × Route g a b places × (rules_at g.rules places ≡ path)
  routed a b [] e = ([], e, refl)
  routed a b (r ∷ path) (m, e, c) =
      let (place, (h, at)) = place_of g.rules r m in
      let is = at no_rule in
      let (places, way, same) = routed r.second b path c in
      (place ∷ places, (h, e ∙ sym (ap (λ q. q.first) is), subst (λ (v : ℕ). Route g v b places) (sym (ap (λ (q : Rule). q.second) is)) way), ap (λ q. q ∷ rules_at g.rules places) is ∙ ap (λ qs. r ∷ qs) same)
