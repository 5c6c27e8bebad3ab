-- What a net keeps of its fields.
use Rattle.std.specs.Prelude.{ℕ, List}
use Rattle.bv_core.specs.declared.reference.NodeId.{NodeId}
use Rattle.net_core.specs.declared.entry.Entry.{Entry}
use Rattle.net_core.specs.Builder.{shapes_of, AreEntries}
use Rattle.net_core.specs.Nets.{NetParts, outputs_of, nexts_of, IsNet}

-- the net of these fields, as contracts see it
abbrev pub parts_of : List Entry → List (List ℕ × NodeId) → List (NodeId × NodeId) → NetParts
parts_of entries outputs nexts = record { nodes = shapes_of entries; outputs = outputs_of outputs; nexts = nexts_of nexts }

-- its entries are those of a builder, and the rest fits them
pub record IsKept (es : List Entry) (outputs : List (List ℕ × NodeId)) (nexts : List (NodeId × NodeId)) : Type 0 where
  pub entries : AreEntries es
  pub net : IsNet (parts_of es outputs nexts)
