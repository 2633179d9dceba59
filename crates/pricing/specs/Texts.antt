-- How a negative ring is printed. Assumes nothing.
use Rattle.std.specs.Prelude.{ℕ, List, ◌++◌, codes, decimal}
use Rattle.pricing.specs.declared.rings.Ring.{Ring}

-- what it is, and how many rules it has
abbrev pub ring_text : Ring → List ℕ
ring_text ring = codes "a negative ring of " ++ decimal ring.size ++ codes " rules"
