-- When a trace fits a symbol table, and that two such traces with the same samples tell the same world.
use Rattle.std.specs.Prelude.{◌≡◌, ℕ, ◌<◌, List, length, map, Some}
use Rattle.bv_core.specs.declared.reference.Ref.{Ref}
use Rattle.bv_core.specs.declared.reference.Ref.TheVariants.{Node, Const}
use Rattle.bv_core.specs.declared.reference.Binding.TheVariants.{Value}
use Rattle.exec_core.specs.Block.{Name}
use Rattle.symtab.specs.declared.parts.NodeName.{NodeName}
use Rattle.symtab.specs.declared.parts.TableParts.{TableParts}
use Rattle.symtab.specs.Shape.{IsTable}
use Rattle.symtab.specs.Lookups.{enable_of, binding_of}
use Rattle.trace_core.specs.Samples.{Samples, HasWidth, Fits, SameSamples}
use Rattle.world_core.specs.World.{AreSame}
use Rattle.world_core.specs.Seen.{seen}
use Rattle.trace_world.specs.TraceWorld.{trace_world}

-- the widths of a table's nodes
abbrev pub widths_of : TableParts → List ℕ
widths_of parts = map (λ (node : NodeName). node.width) parts.nodes

-- the samples fit these widths, and the positions of the table's slots can be numbered
abbrev pub FitsTable : TableParts → Samples → Type 0
FitsTable parts s = Fits (widths_of parts) (length parts.slots) s

-- a literal, or a node that is sampled, whose values have this width
abbrev pub IsSampled : Samples → Ref → Type 0
IsSampled s (Node id width) = (id.0 < s.nodes) × ((cycle : ℕ) → cycle < s.cycles → HasWidth width (s.sample cycle id.0))
IsSampled s (Const bits) = Unit {0}

-- so are each enable and each value that a table names, in a trace that fits it
pub record NamesAreSampled (parts : TableParts) (s : Samples) : Type 0 where
  pub enables : (slot instance : ℕ) (at : Ref) → enable_of parts slot instance ≡ Some at → IsSampled s at
  pub values : (slot instance : ℕ) (x : Name) (at : Ref) → binding_of parts slot instance x ≡ Some (Value at) → IsSampled s at

abbrev pub FittingTracesSample : Type 0
FittingTracesSample = (parts : TableParts) → IsTable parts → (s : Samples) → FitsTable parts s → NamesAreSampled parts s

-- traces with the same samples tell the same world, so the same as it is seen
pub record TellSame (parts : TableParts) (v w : Samples) : Type 0 where
  pub same : AreSame (trace_world parts v) (trace_world parts w)
  pub alike : seen (trace_world parts v) ≡ seen (trace_world parts w)

abbrev pub SameSamplesTellSame : Type 0
SameSamplesTellSame = (parts : TableParts) → IsTable parts → (v w : Samples) → FitsTable parts w → SameSamples v w → TellSame parts v w
