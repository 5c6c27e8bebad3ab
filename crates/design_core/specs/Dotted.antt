-- The names of children's ports in their parent.
use Rattle.std.specs.Prelude.{◌++◌, codes}
use Rattle.exec_core.specs.Block.{Name}

-- the port q of the child u: u.q
abbrev pub below : Name → Name → Name
below u q = u ++ (codes "." ++ q)
