use Rattle.std.proofs.Common.{◌≡◌, length, Some, refl, sym, ap, ◌∙◌, subst}
use Rattle.std.specs.Prelude.{slice_get}
use Rattle.std.proofs.lemmas.Option.{slice_get_within, slice_get_read, same_Some}
use Rattle.exec_core.specs.Block.{Next}
use Rattle.block_net.specs.Walks.{IsHeld, held}
use Rattle.ssa_core.specs.Processes.{process_at}
use Rattle.ssa_nodes.specs.Parts.{design_in, ends_by}
use Rattle.ssa_nodes.proofs.Ends.{end_next, end_can, end_some, end_stands, tells_of}
use Rattle.ssa_nodes.proofs.process.next_node.Goals as goal

pub process_node-requires-clause-within : goal.process_node-requires-clause-within
process_node-requires-clause-within c = subst (IsHeld c.block_of-block.result.now.terms) (sym c.register-held.ensures.id) (c.register-held.ensures.linked.ends.next_held c.args.name.now)

pub process_node-requires-clause-ready : goal.process_node-requires-clause-ready
process_node-requires-clause-ready c =
    let p = c.args.parts.now in
    let e = c.requires.ends in
    let key = c.index-key.result.now in
    let block = c.block_of-block.result.now in
    let at : slice_get p.keys.items c.args.number ≡ Some key = slice_get_read p.keys.items (length p.keys.items) c.args.number key refl (slice_get_within p.keys.items c.args.number e.key e.found) c.index-key.ensures in
    let is_process : process_at (design_in p) key ≡ Some e.process = subst (λ k. process_at (design_in p) k ≡ Some e.process) (same_Some e.key key (sym e.found ∙ at)) e.is in
    let is : held block.terms c.args.name.now c.register-held.result ≡ ends_by p e.process (Next c.args.name.now) =
    ap (held block.terms c.args.name.now) c.register-held.ensures.id ∙ end_next p c.requires.parts block e.process c.args.name.now (tells_of p c.requires.parts c.args.number key e.process block at is_process c.block_of-block.ensures) in
    end_can p c.requires.parts c.args.nodes.now c.args.number (Next c.args.name.now) key (held block.terms c.args.name.now c.register-held.result) e at is

pub unwrap-requires : goal.unwrap-requires
unwrap-requires c =
    let p = c.args.parts.now in
    let e = c.requires.ends in
    let key = c.index-key.result.now in
    let block = c.block_of-block.result.now in
    let at : slice_get p.keys.items c.args.number ≡ Some key = slice_get_read p.keys.items (length p.keys.items) c.args.number key refl (slice_get_within p.keys.items c.args.number e.key e.found) c.index-key.ensures in
    let is_process : process_at (design_in p) key ≡ Some e.process = subst (λ k. process_at (design_in p) k ≡ Some e.process) (same_Some e.key key (sym e.found ∙ at)) e.is in
    let is : held block.terms c.args.name.now c.register-held.result ≡ ends_by p e.process (Next c.args.name.now) =
    ap (held block.terms c.args.name.now) c.register-held.ensures.id ∙ end_next p c.requires.parts block e.process c.args.name.now (tells_of p c.requires.parts c.args.number key e.process block at is_process c.block_of-block.ensures) in
    end_some p c.requires.parts c.process_node.new.builder c.args.nodes.now c.args.number (Next c.args.name.now) key.instance (held block.terms c.args.name.now c.register-held.result) c.in_ok-id.id e is c.in_ok-id.ensures.told

pub returns-clause-told : goal.returns-clause-told
returns-clause-told c =
    let p = c.args.parts.now in
    let e = c.requires.ends in
    let key = c.index-key.result.now in
    let block = c.block_of-block.result.now in
    let at : slice_get p.keys.items c.args.number ≡ Some key = slice_get_read p.keys.items (length p.keys.items) c.args.number key refl (slice_get_within p.keys.items c.args.number e.key e.found) c.index-key.ensures in
    let is_process : process_at (design_in p) key ≡ Some e.process = subst (λ k. process_at (design_in p) k ≡ Some e.process) (same_Some e.key key (sym e.found ∙ at)) e.is in
    let is : held block.terms c.args.name.now c.register-held.result ≡ ends_by p e.process (Next c.args.name.now) =
    ap (held block.terms c.args.name.now) c.register-held.ensures.id ∙ end_next p c.requires.parts block e.process c.args.name.now (tells_of p c.requires.parts c.args.number key e.process block at is_process c.block_of-block.ensures) in
    end_stands p c.requires.parts c.process_node.new.builder c.args.nodes.now c.args.number (Next c.args.name.now) key (held block.terms c.args.name.now c.register-held.result) c.in_ok-id.id c.unwrap.result e at is c.in_ok-id.ensures.told c.unwrap.ensures
