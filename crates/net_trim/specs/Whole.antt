-- The design that a lowered one is of, and the parts of its table.
use Rattle.std.specs.Prelude.{◌≡◌, ℕ, List, length, Option}
use Rattle.bv_core.specs.declared.reference.NodeId.{NodeId}
use Rattle.design_core.specs.Design.{Design}
use Rattle.net_core.specs.Nodes.{Shape}
use Rattle.net_core.specs.Nets.{NetParts}
use Rattle.symtab.specs.declared.parts.TableParts.{TableParts}
use Rattle.check_exec.specs.Premises.{IsSound}
use Rattle.place_core.specs.Orders.{TellsOrder}
use Rattle.lower_core.specs.declared.row.FullRow.{FullRow}
use Rattle.lower_core.specs.declared.row.Lowered as code
use Rattle.lower_core.specs.Lowered.{IsLowered}
use Rattle.trim_core.specs.Named.{node_names}
use Rattle.trim_core.specs.Trimmed.{IsTrimmed}
use Rattle.net_trim.specs.Made.{AreFilled}

-- a design with an order of its driven signals
pub record Ordered : Type 0 where
  pub design : Design
  pub pairs : List (ℕ × ℕ)

-- it is accepted, and this is what lowering made of it
pub record IsLoweredOf (of : Ordered) (l : code.Lowered) : Type 0 where
  pub sound : IsSound of.design
  pub order : TellsOrder of.design of.pairs
  pub lowered : IsLowered of.design (length of.pairs) l.mode l

-- it is what lowering made of some design that is accepted
pub record IsOfDesign (l : code.Lowered) : Type 0 where
  pub of : Ordered
  pub is : IsLoweredOf of l

-- this net and this table are the compiled design, of each design that it is of
abbrev pub IsCompiled : code.Lowered → NetParts → TableParts → Type 0
IsCompiled l net parts = (of : Ordered) → IsLoweredOf of l → IsTrimmed of.design (length of.pairs) l.mode net parts

-- the parts of a table that are made of a shape: its slots are filled, and its nodes are named
pub record ArePartsMade (old : List Shape) (ids : List (Option NodeId)) (rows : List FullRow) (new : List Shape) (shape parts : TableParts) : Type 0 where
  pub top : parts.top ≡ shape.top
  pub nodes : parts.nodes ≡ node_names new
  pub variants : parts.variants ≡ shape.variants
  pub instances : parts.instances ≡ shape.instances
  pub slots : AreFilled old ids 0 rows shape.slots parts.slots
