-- The instances that the children of an instance are.
use Rattle.std.specs.Prelude.{◌≡◌, ℕ, Some, slice_get}
use Rattle.design_core.specs.declared.design.Instance.{Instance}
use Rattle.design_core.specs.Design.{Child, Design}
use Rattle.design_core.specs.WellFormed.{IsChild, IsDesign}
use Rattle.design_exec.specs.Processes.{children_in, child_at}

-- a child of an instance: its number, and the instance of that number, which stands in it behind it, is of the child's variant, and
-- has the path of the first, a dot and the child's name
pub record HasChild (d : Design) (i : ℕ) (r : Instance) (k : ℕ) (c : Child) : Type 0 where
  pub number : ℕ
  pub is : child_at d i k ≡ Some number
  pub instance : Instance
  pub stands : slice_get d.instances number ≡ Some instance
  pub child : IsChild i r.path c (number, instance)
  pub parent : instance.parent ≡ Some i

-- each child of the variant of each instance is such an instance
abbrev pub ChildrenStand : Type 0
ChildrenStand =
    (d : Design) → IsDesign d → (i : ℕ) (r : Instance) (k : ℕ) (c : Child) → slice_get d.instances i ≡ Some r → slice_get (children_in d r.variant) k ≡ Some c → HasChild d i r k c
