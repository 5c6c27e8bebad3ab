-- What a trace shows of a slot in a cycle, by its samples.
use Rattle.std.specs.Prelude.{ℕ, ◌<◌, Bool, Option, Some, None}
use Rattle.bv_core.specs.Value.{IsBits}
use Rattle.bv_core.specs.declared.NodeId.{NodeId}
use Rattle.bv_core.specs.declared.Sample.{Sample}
use Rattle.bv_core.specs.declared.Sample.TheVariants.{Known, Unknown}
use Rattle.symtab.specs.declared.parts.TableParts.{TableParts}
use Rattle.symtab.specs.Lookups.{enable_of}
use Rattle.trace_core.specs.Samples.{Samples}
use Rattle.trace_core.specs.Samples as samples
use Rattle.trace_world.specs.TraceWorld.{is_on}

-- ---- the cycle at which a trace stands

-- its samples
abbrev pub cycle_samples : Samples → Option ℕ → ℕ → Sample
cycle_samples s None = λ node. Unknown
cycle_samples s (Some cycle) = s.sample cycle

-- the cursor stands at a cycle that there is
abbrev pub IsSet : Samples → Option ℕ → Type 0
IsSet s None = ⊥
IsSet s (Some cycle) = cycle < s.cycles

-- a value that was sampled is one
abbrev pub IsValue : Sample → Type 0
IsValue (Known bits) = IsBits bits
IsValue Unknown = Unit {0}

-- a node is sampled, and its values have this width
pub record IsNodeOf (s : Samples) (node : NodeId) (width : ℕ) : Type 0 where
  pub within : node.0 < s.nodes
  pub widths : (cycle : ℕ) → cycle < s.cycles → samples.HasWidth width (s.sample cycle node.0)

-- ---- threads

-- an instance has a slot as a thread
abbrev pub is_thread : TableParts → (ℕ → Sample) → (slot instance : ℕ) → Bool
is_thread parts samples k i = is_on samples (enable_of parts k i)
