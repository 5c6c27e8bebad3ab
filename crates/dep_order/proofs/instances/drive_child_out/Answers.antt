use Rattle.std.proofs.Common.{◌≡◌, ◌∙◌, List, [], ◌∷◌, sym, subst, ap, ap₂}
use Rattle.std.specs.Prelude.{slice_get}
use Rattle.std.proofs.lemmas.Result.{on_ok_weaker}
use Rattle.tree_core.specs.Tree.{Leaf}
use Rattle.exec_core.specs.Block.{Name}
use Rattle.exec_core.specs.Design.{place}
use Rattle.design_exec.specs.Processes.{none_or}
use Rattle.place_core.specs.Linking.{Link, link_of_output}
use Rattle.place_core.specs.Numbering.{numbers_of}
use Rattle.dep_order.specs.Linking.{DrivesLinks}
use Rattle.dep_order.proofs.Linked.{links_passed, no_link}
use Rattle.dep_order.proofs.instances.drive_child_out.Goals as goal

pub returns-in-ChildOut-clause-drives : goal.returns-in-ChildOut-clause-drives
returns-in-ChildOut-clause-drives c =
    let i = c.args.instance in
    let links : none_or (λ j. (place i c.bytes.result.now, Leaf (place j c.bytes-in-ChildOut.result.now)) ∷ []) c.number_at.result ≡ link_of_output i c.args.below.now c.args.signal.now.name c.args.signal.now.kind =
    ap (none_or (λ j. (place i c.bytes.result.now, Leaf (place j c.bytes-in-ChildOut.result.now)) ∷ [])) c.number_at.ensures
    ∙ ap₂ (λ (x q : Name). none_or (λ j. (place i x, Leaf (place j q)) ∷ []) (slice_get c.args.below.now c.in-ChildOut.child)) c.bytes.ensures c.bytes-in-ChildOut.ensures
    ∙ sym (ap (link_of_output i c.args.below.now c.args.signal.now.name) c.in-ChildOut.is) in
    on_ok_weaker c.drive_child_output.result
    (λ d. subst (λ (ls : List Link). DrivesLinks c.args.graph.now c.args.driven.now c.drive_child_output.new.graph c.drive_child_output.new.driven (numbers_of c.args.maps.now) ls) links d) c.drive_child_output.ensures.drives

pub returns-in-Input-clause-drives : goal.returns-in-Input-clause-drives
returns-in-Input-clause-drives c =
    links_passed c.args.graph.now c.args.driven.now (numbers_of c.args.maps.now) (link_of_output c.args.instance c.args.below.now c.args.signal.now.name c.args.signal.now.kind)
    (no_link c.args.instance c.args.below.now c.args.signal.now.name c.args.signal.now.kind c.in-Input.is)

pub returns-in-Input-2-clause-drives : goal.returns-in-Input-2-clause-drives
returns-in-Input-2-clause-drives c =
    links_passed c.args.graph.now c.args.driven.now (numbers_of c.args.maps.now) (link_of_output c.args.instance c.args.below.now c.args.signal.now.name c.args.signal.now.kind)
    (no_link c.args.instance c.args.below.now c.args.signal.now.name c.args.signal.now.kind c.in-Input.is)

pub returns-in-Input-3-clause-drives : goal.returns-in-Input-3-clause-drives
returns-in-Input-3-clause-drives c =
    links_passed c.args.graph.now c.args.driven.now (numbers_of c.args.maps.now) (link_of_output c.args.instance c.args.below.now c.args.signal.now.name c.args.signal.now.kind)
    (no_link c.args.instance c.args.below.now c.args.signal.now.name c.args.signal.now.kind c.in-Input.is)

pub returns-in-Input-4-clause-drives : goal.returns-in-Input-4-clause-drives
returns-in-Input-4-clause-drives c =
    links_passed c.args.graph.now c.args.driven.now (numbers_of c.args.maps.now) (link_of_output c.args.instance c.args.below.now c.args.signal.now.name c.args.signal.now.kind)
    (no_link c.args.instance c.args.below.now c.args.signal.now.name c.args.signal.now.kind c.in-Input.is)
