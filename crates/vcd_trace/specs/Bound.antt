-- What is found of a scope for a table: the clock, and a variable for each node that is named.
use Rattle.std.specs.Prelude.{◌≡◌, ℕ, ◌+◌, ◌==◌, ◌&&◌, Bool, false, List, [], ◌∷◌, length, get_or, slice_get, Option, Some, None, codes, bytes_eq, if◌then◌else◌}
use Rattle.std.specs.Option.{option_map, option_or}
use Rattle.symtab.specs.declared.parts.NodeName.{NodeName}
use Rattle.symtab.specs.declared.parts.TableParts.{TableParts}
use Rattle.symtab.specs.Shape.{IsTable}
use Rattle.vcd_read.specs.Head.{Var}
use Rattle.vcd_read.specs.Meaning.{Meaning}
use Rattle.vcd_samples.specs.Samples.{var_named}
use Rattle.vcd_trace.specs.declared.fault.BindFault.{BindFault}
use Rattle.vcd_trace.specs.declared.fault.BindFault.TheVariants.{MissingSignal, SizeDiffers}
use Rattle.vcd_trace.specs.declared.found.Found.{Found}
use Rattle.vcd_trace.specs.Kept.{found_of}
use Rattle.vcd_trace.specs.Named.{is_named}

-- a variable of this name whose values are bits
abbrev pub is_of_name : List ℕ → Var → Bool
is_of_name name var = var.counted && bytes_eq var.name name

-- what a variable is found as by this name, or not
abbrev pub found_if : List ℕ → Var → Option Found
found_if name var = if is_of_name name var then Some (found_of var) else None

-- the variables of names
abbrev pub Finds : Type 0
Finds = List ℕ → Option Found

-- what is wrong with what was found for a name, where this size is wanted
abbrev pub found_fault : Option Found → List ℕ → ℕ → Option BindFault
found_fault None name want = Some (MissingSignal name)
found_fault (Some found) name want = if found.size == want then None else Some (SizeDiffers name found.size want)

-- what is found for a node that is marked or not, and what is wrong with it
abbrev pub signal_of : Finds → Bool → NodeName → Option Found
signal_of finds mark node = if mark then finds node.name else None

abbrev pub signal_fault : Finds → Bool → NodeName → Option BindFault
signal_fault finds mark node = if mark then found_fault (finds node.name) node.name node.width else None

-- for nodes numbered from this number on
abbrev pub signals_from : Finds → List Bool → ℕ → List NodeName → List (Option Found)
signals_from finds marks n [] = []
signals_from finds marks n (node ∷ nodes) = signal_of finds (get_or marks n false) node ∷ signals_from finds marks (n + 1) nodes

-- the first fault
abbrev pub signals_fault : Finds → List Bool → ℕ → List NodeName → Option BindFault
signals_fault finds marks n [] = None
signals_fault finds marks n (node ∷ nodes) = option_or (signal_fault finds (get_or marks n false) node) (signals_fault finds marks (n + 1) nodes)

-- the variable of a name in a scope
abbrev pub found_named : Meaning → List ℕ → Finds
found_named m scope name = option_map found_of (var_named m scope name)

-- the clock, and the signals of a table's nodes, all of the sizes that are wanted
pub record IsBound (m : Meaning) (parts : TableParts) (scope : List ℕ) (clock : Found) (signals : List (Option Found)) : Type 0 where
  pub table : IsTable parts
  pub clock_is : found_named m scope (codes "clk") ≡ Some clock
  pub clock_size : clock.size ≡ 1
  pub count : length signals ≡ length parts.nodes
  pub each : (n : ℕ) (node : NodeName) → slice_get parts.nodes n ≡ Some node → slice_get signals n ≡ Some (signal_of (found_named m scope) (is_named parts n) node)
  pub sizes : (n : ℕ) (node : NodeName) (found : Found) → slice_get parts.nodes n ≡ Some node → slice_get signals n ≡ Some (Some found) → found.size ≡ node.width
