-- A table of one instance with two slots, and a trace of two nodes over two cycles.
use Rattle.std.specs.Prelude.{◌≡◌, ℕ, List, [], ◌∷◌, ◌++◌, codes}
use Rattle.bv_core.specs.Value.{Bits}
use Rattle.bv_core.specs.declared.reference.Ref.{Ref}
use Rattle.bv_core.specs.declared.reference.Ref.TheVariants.{Node, Const}
use Rattle.bv_core.specs.declared.reference.Binding.{Binding}
use Rattle.bv_core.specs.declared.reference.Binding.TheVariants.{Value, Unset, Removed}
use Rattle.bv_core.specs.declared.reference.Sample.TheVariants.{Known, Unknown}
use Rattle.symtab.specs.declared.parts.Slot.{Slot}
use Rattle.symtab.specs.declared.parts.TableParts.{TableParts}
use Rattle.trace_core.specs.Samples.{Samples}
use Rattle.trace_core.specs.Rows.{samples_of}
use Rattle.world_core.specs.World.{trail_text}
use Rattle.trace_world.specs.TraceWorld.{trace_world}

abbrev bits : ℕ → ℕ → Bits
bits width value = record { width = width; value = value }

abbrev slot : ℕ → Ref → List Binding → Slot
slot line on cells = record {
  variant = 0;
  line = line;
  gens = [];
  names = codes "en" ∷ codes "t" ∷ codes "r" ∷ [];
  rows = record { on = on; cells = cells } ∷ [];
}

-- the second slot is enabled by node 0
abbrev pub sample_table : TableParts
sample_table = record {
  top = codes "T";
  nodes = record { name = codes "en"; width = 1 } ∷ record { name = codes "_1"; width = 8 } ∷ [];
  variants = record { «module» = codes "T"; gens = [] } ∷ [];
  instances = record { path = codes "T"; variant = 0 } ∷ [];
  slots =
      slot 8 (Const (bits 1 1)) (Value (Node (record { 0 = 0 }) 1) ∷ Unset ∷ Value (Node (record { 0 = 1 }) 8) ∷ [])
      ∷ slot 10 (Node (record { 0 = 0 }) 1) (Value (Node (record { 0 = 0 }) 1) ∷ Removed ∷ Value (Const (bits 8 5)) ∷ [])
      ∷ [];
}

-- node 0 is not known in the second cycle
abbrev pub sample_samples : Samples
sample_samples = samples_of ((Known (bits 1 1) ∷ Known (bits 8 7) ∷ []) ∷ (Unknown ∷ Known (bits 8 9) ∷ []) ∷ []) 2

-- so the second slot has no thread there
abbrev pub sample_is_shown : Type 0
sample_is_shown =
    trail_text (trace_world sample_table sample_samples)
    ≡ codes "0 8 T en=1'h1 t=unset r=8'h07\n"
    ++ codes "0 10 T en=1'h1 t=removed r=8'h05\n"
    ++ codes "1 8 T en=x t=unset r=8'h09\n"
