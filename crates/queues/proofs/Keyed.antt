-- The key in a slot.
use Rattle.std.proofs.Common.{◌≡◌, ℕ, ◌<◌, Bool, List, [], ◌∷◌, length, get_or, set, replicate, Some, None, sym, refl, ap, ◌∙◌}
use Rattle.std.proofs.lemmas.List.{get_or-map, map-set}
use Rattle.queues.specs.declared.slots.Slot.{Slot}
use Rattle.queues.specs.Contents.{lesser, offered}
use Rattle.queues.specs.SlotKeys.{slot_keys}

module _ {K : Type 0} (slots : List (Slot K)) (event : ℕ) where
  pub slot_key : (slot : Slot K) → event < length slots → slot ≡ get_or slots event slot → get_or (slot_keys slots) event None ≡ slot.key
  slot_key slot h e = get_or-map (λ s. s.key) slots event slot None h ∙ ap (λ s. s.key) (sym e)

  pub slot_offered : (less : K → K → Bool) (d new : Slot K) (key : K) → event < length slots → new.key ≡ Some (lesser less (get_or slots event d).key key) → slot_keys (set slots event new) ≡ offered less (slot_keys slots) event key
  slot_offered less d new key h e = map-set (λ s. s.key) slots event new ∙ ap (set (slot_keys slots) event) (e ∙ ap (λ k. Some (lesser less k key)) (sym (get_or-map (λ s. s.key) slots event d None h)))

pub slots_cleared : {K : Type 0} (slots : List (Slot K)) → slot_keys {K = K} (replicate (length slots) (record { key = None })) ≡ replicate (length (slot_keys slots)) None
slots_cleared [] = refl
slots_cleared (slot ∷ slots) = ap (λ ws. None ∷ ws) (slots_cleared slots)
