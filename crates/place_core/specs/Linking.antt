-- The links of an instance's children and outputs, where the children are the instances of these numbers.
use Rattle.std.specs.Prelude.{ℕ, List, [], ◌∷◌, map, slice_get}
use Rattle.tree_core.specs.Tree.{Tree, Leaf}
use Rattle.exec_core.specs.Block.{Name}
use Rattle.exec_core.specs.Whole.{Place}
use Rattle.exec_core.specs.Design.{place}
use Rattle.design_core.specs.declared.variant.Kind.{Kind}
use Rattle.design_core.specs.declared.variant.Kind.TheVariants as kind
use Rattle.design_core.specs.Design as design
use Rattle.design_exec.specs.Processes.{conn_link, none_or}

-- a place with the tree that is linked to it
abbrev pub Link : Type 0
Link = Place × Tree Place

-- the links of a child of an instance, where these instances are its children
abbrev pub links_of_child : ℕ → List ℕ → ℕ × design.Child → List Link
links_of_child i below c = none_or (λ j. map (conn_link i j) c.1.conns) (slice_get below c.0)

-- the link of a signal that is an output of one of them
abbrev pub link_of_output : ℕ → List ℕ → Name → Kind → List Link
link_of_output i below x kind.Input = []
link_of_output i below x kind.Output = []
link_of_output i below x kind.Wire = []
link_of_output i below x (kind.Reg start) = []
link_of_output i below x (kind.ChildOut k q) = none_or (λ j. (place i x, Leaf (place j q)) ∷ []) (slice_get below k)
