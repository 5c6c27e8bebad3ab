-- The design of the instances that a walk gave.
use Rattle.std.specs.Prelude.{List, Result, Ok, Err, if◌then◌else◌, nat_lt}
use Rattle.gen_tree.specs.Tree.{Module}
use Rattle.exec_core.specs.Block.{Name}
use Rattle.design_core.specs.Design.{Design}
use Rattle.elab_core.specs.declared.Count.TheVariants.{Cells}
use Rattle.elab_core.specs.Walk.{Fault, too_large}
use Rattle.elab_core.specs.Elaborated.{Instance}
use Rattle.elab_core.specs.Design.{cells, designed}

-- unless they have too many cells
unfoldable pub finished : List Module → Name → List Instance → Result Design Fault
finished modules top instances = if nat_lt 4000000 (cells instances) then Err (too_large 0 Cells) else Ok (designed modules top instances)
