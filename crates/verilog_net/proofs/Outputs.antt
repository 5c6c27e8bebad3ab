-- The outputs of a net are told by their trees.
use Rattle.std.proofs.Common.{◌≡◌, ℕ, List, [], ◌∷◌, map, refl, sym, ap₂}
use Rattle.tree_core.specs.Tree.{Leaf, Whole}
use Rattle.exec_core.specs.Block.{Name}
use Rattle.exec_core.specs.Design.{place, folded_tree}
use Rattle.design_core.specs.Design.{Design}
use Rattle.design_exec.specs.Processes.{processes_of}
use Rattle.net_core.specs.Nodes.{Shape, trees_of}
use Rattle.net_core.specs.Builder.{AreShared}
use Rattle.lower_core.specs.Lowered.{OutputsTold}
use Rattle.trim_core.specs.KeptNet.{number_of}
use Rattle.trim_table.proofs.Nodes.{stands_at}

abbrev with_tree : Design → ℕ → Name × ℕ → Name × Whole
with_tree d n port = (port.0, folded_tree (processes_of d) n (Leaf (place 0 port.0)))

abbrev numbered : List Whole → Name × Whole → Name × ℕ
numbered ts output = (output.0, number_of ts output.1)

pub outputs_are : (d : Design) (n : ℕ) (ns : List Shape) → AreShared ns → (ports outputs : List (Name × ℕ)) → OutputsTold d n ns ports outputs → outputs ≡ map (numbered (trees_of ns)) (map (with_tree d n) ports)
outputs_are d n ns g [] [] h = refl
outputs_are d n ns g [] (output ∷ outputs) h = absurd h
outputs_are d n ns g (port ∷ ports) [] h = absurd h
outputs_are d n ns g (port ∷ ports) (output ∷ outputs) h =
    let id : output.1 ≡ number_of (trees_of ns) (folded_tree (processes_of d) n (Leaf (place 0 port.0))) = sym (stands_at ns g output.1 _ h.0.stands) in
    let first : output ≡ numbered (trees_of ns) (with_tree d n port) = λ i. (h.0.name i, id i) in
    ap₂ (λ (o : Name × ℕ) (os : List (Name × ℕ)). o ∷ os) first (outputs_are d n ns g ports outputs h.1)
