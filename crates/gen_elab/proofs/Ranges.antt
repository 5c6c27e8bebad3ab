-- Numbers of parameters stay in range.
use Rattle.std.proofs.Common.{ℤ, [], ◌∷◌, ◌++◌}
use Rattle.exec_core.specs.Block.{Name}
use Rattle.design_core.specs.Design.{Gens, IsInRange, AreInRange}

pub in_range_behind : (gens : Gens) (name : Name) (number : ℤ) → AreInRange gens → IsInRange number → AreInRange (gens ++ (name, number) ∷ [])
in_range_behind [] name number before here = (here, tt)
in_range_behind (g ∷ gens) name number before here = (before.0, in_range_behind gens name number before.1 here)
