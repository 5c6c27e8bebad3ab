-- The world that a symbol table and the samples of a trace tell.
use Rattle.std.specs.Prelude.{ℕ, ℤ, Bool, map, filter, Option, Some, None, option_and_then}
use Rattle.bv_core.specs.Value.{Bits}
use Rattle.bv_core.specs.declared.reference.Ref.{Ref}
use Rattle.bv_core.specs.declared.reference.Ref.TheVariants.{Node, Const}
use Rattle.bv_core.specs.declared.reference.Binding.{Binding}
use Rattle.bv_core.specs.declared.reference.Binding.TheVariants as bindings
use Rattle.bv_core.specs.declared.reference.Sample.{Sample}
use Rattle.exec_core.specs.Block.{Name}
use Rattle.symtab.specs.declared.parts.GenVariable.{GenVariable}
use Rattle.symtab.specs.declared.parts.Slot.{Slot}
use Rattle.symtab.specs.declared.parts.TableParts.{TableParts}
use Rattle.symtab.specs.Shape.{width_of, variants_of, paths_of}
use Rattle.symtab.specs.Places.{places}
use Rattle.symtab.specs.Lookups.{instances_of, enable_of, binding_of}
use Rattle.trace_core.specs.Samples.{Samples}
use Rattle.trace_core.specs.Known.{known, is_one}
use Rattle.world_core.specs.World.{Status, IsUnset, IsRemoved, HasWidth, Shown, shown_by, Shows, World}

-- what is found by the samples of a cycle: a node's sample, or a literal
abbrev pub found_by : (ℕ → Sample) → Ref → Option Bits
found_by samples (Node id width) = known (samples id.0)
found_by samples (Const bits) = Some bits

-- whether an enable is known and is 1
abbrev pub is_on : (ℕ → Sample) → Option Ref → Bool
is_on samples on = is_one (option_and_then (found_by samples) on)

-- the status and the value of what a name stands for
abbrev pub status_by : Option Binding → Status
status_by (Some (bindings.Value at)) = HasWidth (width_of at)
status_by (Some bindings.Unset) = IsUnset
status_by (Some bindings.Removed) = IsRemoved
status_by None = IsUnset

abbrev pub value_by : (ℕ → Sample) → Option Binding → Option Bits
value_by samples (Some (bindings.Value at)) = found_by samples at
value_by samples (Some bindings.Unset) = None
value_by samples (Some bindings.Removed) = None
value_by samples None = None

-- what is shown of it
abbrev pub binding_shown : (ℕ → Sample) → Option Binding → Shown
binding_shown samples b = shown_by (status_by b) (value_by samples b)

-- the generator variables at a slot
abbrev pub gen_of : GenVariable → Name × ℤ
gen_of g = (g.name, g.value)

-- a slot with the instances of its variant, in order
abbrev pub shows_by : TableParts → Slot → Shows
shows_by parts s = record { line = s.line; gens = map gen_of s.gens; names = s.names; instances = places s.variant (variants_of parts.instances) }

-- the table's instances, slots and statuses. An instance is a thread of a slot in a cycle where its enable is known and is 1; of a
-- name is shown there its literal, or its node's sample in that cycle
abbrev pub trace_world : TableParts → Samples → World
trace_world parts s = record {
  cycles = s.cycles;
  paths = paths_of parts.instances;
  slots = map (shows_by parts) parts.slots;
  status = λ k i x. status_by (binding_of parts k i x);
  threads = λ t k. filter (λ i. is_on (s.sample t) (enable_of parts k i)) (instances_of parts k);
  shown = λ t k i x. binding_shown (s.sample t) (binding_of parts k i x);
}
