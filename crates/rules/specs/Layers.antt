-- The layer that a question belongs to, and how a refusal is printed. Assumes nothing.
use Rattle.std.specs.Prelude.{ℕ, cond, ◌&&◌, List, ◌++◌, codes, decimal, nat_le}
use Rattle.rules.specs.Refusals.{number_of, place_of}
use Rattle.rules.specs.declared.faults.Fault.{Fault}
use Rattle.rules.specs.declared.faults.Layer.{Layer}
use Rattle.rules.specs.declared.faults.Layer.TheVariants.{File, Book, Plan}

-- 21 to 29 are about the file, 1 to 6 about the book, and the rest about the plan
abbrev pub layer_of : ℕ → Layer
layer_of number = cond (nat_le 21 number && nat_le number 29) File (cond (nat_le 1 number && nat_le number 6) Book Plan)

-- a layer's name
abbrev pub layer_text : Layer → List ℕ
layer_text File = codes "file"
layer_text Book = codes "book"
layer_text Plan = codes "plan"

-- layer, number and place of a refusal, with a space between
abbrev pub fault_text : Fault → List ℕ
fault_text fault = layer_text (layer_of (number_of fault.refusal)) ++ codes " " ++ decimal (number_of fault.refusal) ++ codes " " ++ decimal (place_of fault.refusal)
