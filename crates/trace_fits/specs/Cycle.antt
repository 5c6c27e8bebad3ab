-- The samples of one cycle have the widths of these nodes.
use Rattle.std.specs.Prelude.{◌≡◌, ℕ, List, Some, slice_get, map}
use Rattle.bv_core.specs.declared.reference.Sample.{Sample}
use Rattle.symtab.specs.declared.parts.NodeName.{NodeName}
use Rattle.trace_core.specs.Samples.{HasWidth}

abbrev pub HasWidths : List NodeName → (ℕ → Sample) → Type 0
HasWidths nodes samples = (node w : ℕ) → slice_get (map (λ (n : NodeName). n.width) nodes) node ≡ Some w → HasWidth w (samples node)
