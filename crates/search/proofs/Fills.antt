-- Slices filled by calls that return one value.
use Rattle.std.proofs.Common.{◌≡◌, List, [], ◌∷◌, length, replicate, refl, ap, ◌∙◌}
use Rattle.std.specs.List.{FoldsTo}

-- calls that each return x, and keep what makes them do so, return it at every place
pub all_return : {F A : Type 0} (R : F → A → F → Type 0) (I : F → Type 0) (x : A) → ((f : F) (y : A) (h : F) → I f → R f y h → (y ≡ x) × I h) → (ys : List A) (f last : F) → I f → FoldsTo R f ys last → ys ≡ replicate (length ys) x
all_return R I x each [] f last i r = refl
all_return R I x each (y ∷ ys) f last i (h, r, more) =
    let (is, j) = each f y h i r in
    ap (λ z. z ∷ ys) is ∙ ap (λ zs. x ∷ zs) (all_return R I x each ys h last j more)
