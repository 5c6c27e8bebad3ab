-- The symbol table of the design of two instances that design_exec translates by hand, where nothing but what is needed is kept.
use Rattle.std.specs.Prelude.{◌≡◌, ℕ, List, [], ◌∷◌, codes}
use Rattle.bv_core.specs.declared.reference.Ref.{Ref}
use Rattle.bv_core.specs.declared.reference.Ref.TheVariants.{Node, Const}
use Rattle.bv_core.specs.declared.reference.Binding.{Binding}
use Rattle.bv_core.specs.declared.reference.Binding.TheVariants.{Value, Unset}
use Rattle.exec_core.specs.Block.{Name}
use Rattle.design_exec.specs.Sample.{elaborated}
use Rattle.symtab.specs.declared.parts.NodeName.{NodeName}
use Rattle.symtab.specs.declared.parts.Slot.{Slot}
use Rattle.symtab.specs.declared.parts.TableParts.{TableParts}
use Rattle.world_core.specs.declared.mode.Mode.TheVariants.{Opt}
use Rattle.world_core.specs.Sample.{driven}
use Rattle.trim_core.specs.KeptTable.{kept_table}

abbrev called : Name → ℕ → NodeName
called name width = record { name = name; width = width }

-- an enable at a node, and one that is always 1
abbrev at : ℕ → Ref
at node = Node (record { 0 = node }) 1

abbrev always : Ref
always = Const (record { width = 1; value = 1 })

-- a value of four bits at a node
abbrev four : ℕ → Binding
four node = Value (Node (record { 0 = node }) 4)

-- a statement with its one instance
abbrev slot : ℕ → ℕ → List Name → Ref → List Binding → Slot
slot variant line names on cells = record { variant = variant; line = line; gens = []; names = names; rows = record { on = on; cells = cells } ∷ [] }

abbrev of_child : ℕ → Ref → List Binding → Slot
of_child line on cells = slot 1 line (codes "a" ∷ codes "q" ∷ codes "s" ∷ []) on cells

abbrev of_top : ℕ → Ref → List Binding → Slot
of_top line on cells = slot 0 line (codes "x" ∷ codes "y" ∷ codes "r" ∷ codes "u.q" ∷ []) on cells

-- the walk of the output numbers `r`, 3, `r == 3`, 1, `r + 1`, 0 and their choice, which is `u.q` and `y`; then come the enables, of which
-- the first is 1, the else-branch's `~(r == 3)`, and the last `x < r`; and then what the register takes next
abbrev pub sample_nodes : List NodeName
sample_nodes =
    called (codes "_0") 4 ∷ called (codes "_1") 4 ∷ called (codes "_2") 1 ∷ called (codes "_3") 4 ∷ called (codes "_4") 4 ∷ called (codes "_5") 4
    ∷ called (codes "_6") 4 ∷ called (codes "_7") 1 ∷ called (codes "_8") 1 ∷ called (codes "x") 4 ∷ called (codes "_10") 1 ∷ called (codes "_11") 4 ∷ []

-- in the child `a` is `r`, and `s` is `r + 1` once it is set; `q` is set behind all its statements
abbrev pub sample_slots : List Slot
sample_slots =
    of_child 3 always (four 0 ∷ Unset ∷ Unset ∷ [])
    ∷ of_child 4 always (four 0 ∷ Unset ∷ four 4 ∷ [])
    ∷ of_child 4 (at 2) (four 0 ∷ Unset ∷ four 4 ∷ [])
    ∷ of_child 4 (at 8) (four 0 ∷ Unset ∷ four 4 ∷ [])
    ∷ of_top 9 always (four 9 ∷ Unset ∷ four 0 ∷ four 6 ∷ [])
    ∷ of_top 10 always (four 9 ∷ four 6 ∷ four 0 ∷ four 6 ∷ [])
    ∷ of_top 10 (at 10) (four 9 ∷ four 6 ∷ four 0 ∷ four 6 ∷ [])
    ∷ []

abbrev pub sample_is_told : Type 0
sample_is_told =
    ◌≡◌ {A = TableParts} (kept_table elaborated driven Opt)
    (record {
      top = codes "Top";
      nodes = sample_nodes;
      variants = record { «module» = codes "Top"; gens = [] } ∷ record { «module» = codes "Child"; gens = [] } ∷ [];
      instances = record { path = codes "Top"; variant = 0 } ∷ record { path = codes "Top.u"; variant = 1 } ∷ [];
      slots = sample_slots;
    })
