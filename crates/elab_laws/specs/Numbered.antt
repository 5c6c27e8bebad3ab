-- The slots of an elaborated design.
use Rattle.std.specs.Prelude.{◌≡◌, ℕ, List, Ok}
use Rattle.std.specs.List.{flat_map}
use Rattle.gen_tree.specs.Tree.{Module}
use Rattle.exec_core.specs.Block.{Name}
use Rattle.list_core.specs.Lists.{EachOf, AreApart}
use Rattle.exec_core.specs.Run.{slots_in}
use Rattle.design_core.specs.Design.{Gens, Design}
use Rattle.design_core.specs.Slots.{variant_heads, slots_of, AreNumbered}
use Rattle.elab_core.specs.Design.{elaborated}
use Rattle.design_exec.specs.Processes.{processes_of}

-- so have those of each variant; no two statements of all variants have one slot; and no two of an instance
pub record HasSlots (d : Design) : Type 0 where
  pub variants : EachOf AreNumbered d.variants
  pub apart : AreApart (flat_map (λ v. slots_of (variant_heads v)) d.variants)
  pub instances : (i : ℕ) → AreApart (slots_in (processes_of d) i)

-- a design that elaboration gives has
abbrev pub ElaborationNumbers : Type 0
ElaborationNumbers = (modules : List Module) (top : Name) (rest : Gens) (d : Design) → elaborated modules top rest ≡ Ok d → HasSlots d
