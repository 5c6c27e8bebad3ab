use Rattle.std.proofs.Common.{◌≡◌, length, sym, ◌∙◌, subst}
use Rattle.std.proofs.lemmas.Option.{get_or_from_slice_get}
use Rattle.exec_core.specs.Design.{place}
use Rattle.design_exec.specs.Processes.{processes_of}
use Rattle.ssa_core.specs.Links.{link_as}
use Rattle.ssa_core.specs.Processes.{lists_of}
use Rattle.ssa_nodes.specs.Parts.{IsReadyBy, StandsBy, all_in, blocks_in, design_in}
use Rattle.ssa_nodes.proofs.Memos.{state_more}
use Rattle.ssa_nodes.proofs.Driven.{link_ready, link_stands, process_ends, process_stands}
use Rattle.ssa_nodes.proofs.resolve.driver_node.Goals as goal

pub link_node-requires-clause-ready : goal.link_node-requires-clause-ready
link_node-requires-clause-ready c =
    let p = c.args.parts.now in
    let does = c.in-Link.ensures in
    let same : c.index-link.result.now ≡ does.link = c.index-link.ensures ∙ get_or_from_slice_get p.links.items c.in-Link.number does.link c.index-link.result.now does.found in
    subst (λ l. IsReadyBy p c.args.nodes.now (link_as l).1) (sym same) (link_ready p c.requires.parts c.args.nodes.now c.in-Link.number (place c.args.instance c.args.name.now) does c.requires.driver)

pub target_node-requires-clause-ends : goal.target_node-requires-clause-ends
target_node-requires-clause-ends c =
    process_ends c.args.parts.now c.requires.parts c.args.nodes.now c.in-Process.number (place c.args.instance c.args.name.now) c.in-Process.ensures c.requires.driver

pub returns-in_ok-id-in-Link-clause-stands : goal.returns-in_ok-id-in-Link-clause-stands
returns-in_ok-id-in-Link-clause-stands c =
    let p = c.args.parts.now in
    let does = c.in-Link.ensures in
    let same : c.index-link.result.now ≡ does.link = c.index-link.ensures ∙ get_or_from_slice_get p.links.items c.in-Link.number does.link c.index-link.result.now does.found in
    link_stands p c.requires.parts c.link_node.new.builder c.in-Link.number (place c.args.instance c.args.name.now) c.in_ok-id-in-Link.id does
    (subst (λ l. StandsBy p c.link_node.new.builder (link_as l).1 c.in_ok-id-in-Link.id) same c.in_ok-id-in-Link.ensures.stands)

pub returns-in_ok-id-in-Link-clause-state : goal.returns-in_ok-id-in-Link-clause-state
returns-in_ok-id-in-Link-clause-state c =
    let p = c.args.parts.now in
    state_more (processes_of (design_in p)) (length p.order.now) p.keys.items (blocks_in p) (all_in p) c.args.builder.now c.link_node.new.builder c.args.nodes.now (lists_of c.args.memos.now) c.in_ok-id-in-Link.ensures.grown c.requires.state

pub returns-in_ok-id-in-Process-clause-stands : goal.returns-in_ok-id-in-Process-clause-stands
returns-in_ok-id-in-Process-clause-stands c =
    process_stands c.args.parts.now c.requires.parts c.target_node.new.builder c.args.nodes.now c.in-Process.number (place c.args.instance c.args.name.now) c.in_ok-id-in-Process.id c.in-Process.ensures c.requires.driver c.in_ok-id-in-Process.ensures.told
