use Rattle.std.proofs.Common.{length, sym, subst}
use Rattle.std.specs.Prelude.{Option, Vec}
use Rattle.std.specs.declared.alloc.Global.{Global}
use Rattle.bv_core.specs.declared.reference.NodeId.{NodeId}
use Rattle.names.specs.Maps.{value_of}
use Rattle.block_net.specs.Walks.{held}
use Rattle.term_net.specs.Memos.{Fits}
use Rattle.design_exec.specs.Processes.{processes_of}
use Rattle.ssa_core.specs.Processes.{lists_of}
use Rattle.ssa_nodes.specs.State.{names_in, IsState}
use Rattle.ssa_nodes.specs.Parts.{all_in, blocks_in, design_in}
use Rattle.ssa_nodes.proofs.Ends.{signals_of, can_have, has_node}
use Rattle.ssa_nodes.proofs.Looking.{items_at, within_lists, map_set}
use Rattle.ssa_nodes.proofs.Memos.{state_more, memo_set}
use Rattle.ssa_nodes.proofs.process.process_node.Goals as goal

pub bounds-memos-number : goal.bounds-memos-number
bounds-memos-number c =
    let m = c.requires.state.terms.each c.args.number c.args.key c.args.block.now c.requires.key c.requires.block in
    within_lists c.args.memos.now c.args.number m.memo m.found

pub held_in-requires-clause-fits : goal.held_in-requires-clause-fits
held_in-requires-clause-fits c =
    let p = c.args.parts.now in
    let m = c.requires.state.terms.each c.args.number c.args.key c.args.block.now c.requires.key c.requires.block in
    subst (λ (w : Vec (Option NodeId) Global). Fits c.args.builder.now (value_of c.names_of-names.result.now) c.args.nodes.now c.args.block.now.terms w.items) c.index-memos-number.is
    (subst (λ names. Fits c.args.builder.now names c.args.nodes.now c.args.block.now.terms c.index-memos-number.result.items) (sym c.names_of-names.ensures)
    (subst (Fits c.args.builder.now (names_in (all_in p) c.args.key.instance) c.args.nodes.now c.args.block.now.terms) (sym (items_at c.args.memos.now c.args.number m.memo c.index-memos-number.result m.found c.index-memos-number.is)) m.fits))

pub held_in-requires-clause-ready : goal.held_in-requires-clause-ready
held_in-requires-clause-ready c =
    let p = c.args.parts.now in
    can_have p c.requires.parts c.args.builder.now c.args.nodes.now c.args.key.instance (value_of c.names_of-names.result.now) (held c.args.block.now.terms c.args.name.now c.args.held) c.names_of-names.ensures
    (signals_of p c.requires.parts c.args.builder.now c.args.nodes.now (lists_of c.args.memos.now) c.requires.state) c.requires.ready

pub returns-clause-told : goal.returns-clause-told
returns-clause-told c =
    let p = c.args.parts.now in
    has_node p c.requires.parts c.args.builder.now c.held_in.new.builder c.args.nodes.now c.args.key.instance (value_of c.names_of-names.result.now) (held c.args.block.now.terms c.args.name.now c.args.held) c.in_ok-id.id c.names_of-names.ensures
    (signals_of p c.requires.parts c.args.builder.now c.args.nodes.now (lists_of c.args.memos.now) c.requires.state) c.in_ok-id.ensures.grown c.requires.ready c.in_ok-id.ensures.told

pub returns-clause-state : goal.returns-clause-state
returns-clause-state c =
    let p = c.args.parts.now in
    let d = processes_of (design_in p) in
    let n = length p.order.now in
    subst (λ ms. IsState d n p.keys.items (blocks_in p) (all_in p) c.held_in.new.builder c.args.nodes.now ms) (sym (map_set (λ v. v.items) c.args.memos.now c.args.number c.held_in.new.memo))
    (memo_set d n p.keys.items (blocks_in p) (all_in p) c.held_in.new.builder c.args.nodes.now (lists_of c.args.memos.now) c.args.number c.args.key c.args.block.now c.held_in.new.memo.items
    (state_more d n p.keys.items (blocks_in p) (all_in p) c.args.builder.now c.held_in.new.builder c.args.nodes.now (lists_of c.args.memos.now) c.in_ok-id.ensures.grown c.requires.state) c.requires.key c.requires.block
    (subst (λ names. Fits c.held_in.new.builder names c.args.nodes.now c.args.block.now.terms c.held_in.new.memo.items) c.names_of-names.ensures c.in_ok-id.ensures.fits))
