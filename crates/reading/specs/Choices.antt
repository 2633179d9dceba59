-- Some of the rules of a list. Assumes nothing.
use Rattle.std.specs.Prelude.{Bool, true, false, List, [], ◌∷◌}
use Rattle.rules.specs.declared.records.Rule.{Rule}

-- the rules whose flags are true, in order
abbrev pub selected : List Rule → List Bool → List Rule
selected [] flags = []
selected (r ∷ rules) [] = []
selected (r ∷ rules) (true ∷ flags) = r ∷ selected rules flags
selected (r ∷ rules) (false ∷ flags) = selected rules flags
