-- Small graphs and drivers, worked by hand.
use Rattle.std.specs.Prelude.{◌≡◌, [], ◌∷◌, Some, None, codes, if◌then◌else◌}
use Rattle.tree_core.specs.Tree.{Const, Leaf, Mux}
use Rattle.exec_core.specs.Whole.{Place, Drivers}
use Rattle.exec_core.specs.Design.{place, same_place}
use Rattle.graph_order.specs.Graphs.{Graph, edges_of}
use Rattle.dep_order.specs.Reaching.{ReachedFrom}
use Rattle.dep_order.specs.Signals.{IsSignalCycle}
use Rattle.dep_order.specs.Results.{DependsOn, IsLoop}
use Rattle.place_core.specs.Orders.{signal_at}
use Rattle.place_core.specs.Numbering.{count_instances}
use Rattle.design_exec.specs.Sample.{elaborated}

-- the signals 0 and 1, and the versions 2 and 3: 0 reads 3, which reads 2 and 0, and 2 reads 1; 1 reads 0
abbrev pub ring : Graph
ring = (3 ∷ []) ∷ (0 ∷ []) ∷ (1 ∷ []) ∷ (2 ∷ 0 ∷ []) ∷ []

abbrev pub reaches_through_two_versions : Type 0
reaches_through_two_versions = ReachedFrom 2 ring (edges_of ring 0) 1

abbrev pub ring_is_a_cycle : Type 0
ring_is_a_cycle = IsSignalCycle 2 ring (0 ∷ 1 ∷ [])

abbrev pub a : Place
a = place 0 (codes "a")

abbrev pub b : Place
b = place 0 (codes "b")

-- `a` is chosen by itself from `b` and a constant; `b` is `a`
abbrev pub drivers : Drivers
drivers p =
    if same_place a p then Some (Mux (Leaf a) (Leaf b) (Const (record { width = 1; value = 0 })))
    else (if same_place b p then Some (Leaf a) else None)

abbrev pub depends_through_its_test : Type 0
depends_through_its_test = DependsOn drivers a a

abbrev pub depend_in_a_loop : Type 0
depend_in_a_loop = IsLoop drivers (a ∷ b ∷ [])

-- the inputs, outputs and registers of a top and of its child, with the child's output in the top: a pair for each, instance by instance
abbrev pub pairs_of_two_instances : Type 0
pairs_of_two_instances = (count_instances elaborated 0 elaborated.instances ([], [])).1 ≡ (0, 0) ∷ (0, 1) ∷ (0, 2) ∷ (0, 3) ∷ (1, 0) ∷ (1, 1) ∷ []

-- the child's output in the top is the fourth signal of the top
abbrev pub output_of_the_child : Type 0
output_of_the_child = signal_at elaborated (0, 3) ≡ Some (place 0 (codes "u.q"))
