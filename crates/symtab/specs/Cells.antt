-- What a cell of a table stands for, in the form in which it is kept.
use Rattle.std.specs.Prelude.{ℕ, ◌+◌, ◌*◌, List, map, All}
use Rattle.bv_core.specs.Value.{Bits, IsBits}
use Rattle.bv_core.specs.declared.Ref.TheVariants.{Node, Const}
use Rattle.bv_core.specs.declared.Binding.{Binding}
use Rattle.bv_core.specs.declared.Binding.TheVariants.{Value, Unset, Removed}
use Rattle.symtab.specs.declared.cells.Cell.{Cell}
use Rattle.symtab.specs.declared.cells.Kind.{Kind}
use Rattle.symtab.specs.declared.cells.Kind.TheVariants as kind

-- the value of a literal, from its two halves of 64 bits
abbrev pub bits_of : Cell → Bits
bits_of c = record { width = c.width; value = c.high * 18446744073709551616 + c.low }

abbrev pub binding_as : Kind → Cell → Binding
binding_as kind.Node c = Value (Node (record { 0 = c.low }) c.width)
binding_as kind.Const c = Value (Const (bits_of c))
binding_as kind.Unset c = Unset
binding_as kind.Removed c = Removed

-- what it stands for
abbrev pub binding_of_cell : Cell → Binding
binding_of_cell c = binding_as c.kind c

abbrev pub IsFormOf : Kind → Cell → Type 0
IsFormOf kind.Const c = IsBits (bits_of c)
IsFormOf kind.Node c = Unit {0}
IsFormOf kind.Unset c = Unit {0}
IsFormOf kind.Removed c = Unit {0}

-- a literal fits its width
abbrev pub IsForm : Cell → Type 0
IsForm c = IsFormOf c.kind c

abbrev pub bindings_of : List Cell → List Binding
bindings_of cells = map binding_of_cell cells
