-- The inputs of a compiled net are inputs of the top.
use Rattle.std.proofs.Common.{◌≡◌, ℕ, false, map, sym, ap, ◌∙◌, subst}
use Rattle.std.specs.Prelude.{slice_get, Some}
use Rattle.std.proofs.lemmas.Option.{slice_get_within, get_or_from_slice_get}
use Rattle.tree_core.specs.Tree.{Leaf, Origin, Input, Whole}
use Rattle.exec_core.specs.Block.{Name}
use Rattle.list_core.specs.Lists.{IsIn}
use Rattle.exec_core.specs.States.{OverGivens}
use Rattle.list_core.proofs.Lists.{each_member}
use Rattle.design_core.specs.Design.{Design}
use Rattle.design_core.specs.Ports.{ports_in, top_signals}
use Rattle.design_exec.specs.Processes.{Given, processes_of}
use Rattle.net_core.specs.Nodes.{TopInput, no_shape, shape_at, node_tree, trees_of, tree_of}
use Rattle.net_core.specs.Nets.{NetParts}
use Rattle.net_core.proofs.TreeLists.{tree_is}
use Rattle.check_exec.specs.Premises.{IsSound}
use Rattle.world_core.specs.declared.mode.Mode.{Mode}
use Rattle.list_core.proofs.Listing.{map_from}
use Rattle.trim_core.specs.Trimmed.{IsKeptNet}
use Rattle.world_laws.proofs.RowsFit.{IsPort, inputs_ports}

-- each input of the net is an input of the top, with its name and width
pub inputs_among : (d : Design) (n : ℕ) (mode : Mode) (net : NetParts) → IsSound d → IsKeptNet d n mode net → (i : ℕ) (name : Name) (width : ℕ)
    → slice_get net.nodes i ≡ Some (TopInput name width) → IsIn (name, width) (ports_in false (top_signals d))
inputs_among d n mode net sound kept i name width at =
    let inside = slice_get_within net.nodes i (TopInput name width) at in
    let shape : shape_at net.nodes i ≡ TopInput name width = get_or_from_slice_get net.nodes i (TopInput name width) no_shape at in
    let tree : tree_of net.nodes i ≡ Leaf (Input name width) = tree_is net.nodes kept.is_net.shared.numbered i inside ∙ ap (node_tree (trees_of net.nodes)) shape in
    let among : IsIn (Input name width) (map (λ (given : Given). given.1) (processes_of d).givens) = subst (λ (t : Whole). OverGivens (processes_of d) t) tree (kept.over i inside) in
    let given = map_from (λ (given : Given). given.1) (processes_of d).givens (Input name width) among in
    subst (λ (o : Origin). IsPort (ports_in false (top_signals d)) o) (sym given.1.1) (each_member (λ (given : Given). IsPort (ports_in false (top_signals d)) given.1) (processes_of d).givens (inputs_ports d sound) given.0 given.1.0)
