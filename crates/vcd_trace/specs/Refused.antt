-- Why a value change dump file does not trace a table in one of its scopes.
use Rattle.std.specs.Prelude.{◌≡◌, ℕ, ◌+◌, ◌==◌, List, [], ◌∷◌, Option, Some, None, Result, Ok, Err, codes, bytes_eq, if◌then◌else◌}
use Rattle.std.specs.List.{list_any}
use Rattle.std.specs.Option.{option_or}
use Rattle.symtab.specs.declared.parts.NodeName.{NodeName}
use Rattle.symtab.specs.declared.parts.TableParts.{TableParts}
use Rattle.vcd_read.specs.Head.{Var}
use Rattle.vcd_read.specs.Meaning.{Meaning}
use Rattle.vcd_samples.specs.Samples.{var_named}
use Rattle.vcd_trace.specs.declared.fault.BindFault.{BindFault}
use Rattle.vcd_trace.specs.declared.fault.BindFault.TheVariants.{NoScope, MissingSignal, SizeDiffers, NoMemory}
use Rattle.vcd_trace.specs.Named.{is_named}

-- what is wrong with the variable that was found for a name, where one of this size is wanted
abbrev pub fault_of : Option Var → List ℕ → ℕ → Option BindFault
fault_of None name want = Some (MissingSignal name)
fault_of (Some var) name want = if var.size == want then None else Some (SizeDiffers name var.size want)

-- the first of these nodes, numbered from this number on, that are named, whose variable is missing or of another size
abbrev pub nodes_refused : Meaning → TableParts → List ℕ → ℕ → List NodeName → Option BindFault
nodes_refused m parts scope n [] = None
nodes_refused m parts scope n (node ∷ nodes) =
    option_or (if is_named parts n then fault_of (var_named m scope node.name) node.name node.width else None)
    (nodes_refused m parts scope (n + 1) nodes)

-- the clock, of one bit, and then the nodes
abbrev pub variables_refused : Meaning → TableParts → List ℕ → Option BindFault
variables_refused m parts scope =
    option_or (fault_of (var_named m scope (codes "clk")) (codes "clk") 1) (nodes_refused m parts scope 0 parts.nodes)

-- the first refusal: no scope has this path, or a variable is refused
abbrev pub refusal : Meaning → TableParts → List ℕ → Option BindFault
refusal m parts scope = if list_any (bytes_eq scope) m.scopes then variables_refused m parts scope else Some NoScope

-- this fault is what is said, unless memory ran out
abbrev pub Tells : Option BindFault → BindFault → Type 0
Tells said NoScope = said ≡ Some NoScope
Tells said (MissingSignal name) = said ≡ Some (MissingSignal name)
Tells said (SizeDiffers name have want) = said ≡ Some (SizeDiffers name have want)
Tells said NoMemory = Unit {0}

-- an answer where nothing is said to be refused, and else the fault that is said, unless memory ran out
abbrev pub Judges : {X : Type 0} → Option BindFault → Result X BindFault → Type 0
Judges said (Ok x) = said ≡ None
Judges said (Err fault) = Tells said fault
