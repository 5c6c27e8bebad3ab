use Rattle.std.proofs.Common.{ℕ, List, ◌≡◌, ◌<◌, ◌∙◌, length, get_or, drop, refl, sym, ap, subst, Some, rules}
use Rattle.std.specs.Prelude.{slice_get, Vec, Option}
use Rattle.std.specs.Vec.{with_items}
use Rattle.std.specs.declared.alloc.Global.{Global}
use Rattle.std.proofs.Math.ListN.{set}
use Rattle.std.proofs.lemmas.Option.{slice_get_within, slice_get_read}
use Rattle.bv_core.specs.declared.reference.NodeId.{NodeId}
use Rattle.names.specs.Maps.{value_of}
use Rattle.exec_core.specs.Trees.{Row}
use Rattle.design_core.specs.Design.{Block}
use Rattle.design_core.specs.View.{block_of}
use Rattle.design_exec.specs.Processes.{body_of, process, signals_in}
use Rattle.block_net.specs.Blocks.{BlockParts}
use Rattle.row_net.specs.Told.{log_rows}
use Rattle.place_core.specs.Assigned.{names_at}
use Rattle.ssa_core.specs.declared.process.ProcessKey.{ProcessKey}
use Rattle.ssa_core.specs.Processes.{lists_of}
use Rattle.ssa_core.proofs.Places.{get_map}
use Rattle.ssa_nodes.specs.Parts.{HasState, design_in}
use Rattle.ssa_nodes.proofs.Looking.{within_lists, map_set}
use Rattle.row_net.proofs.Buckets.{take_first}
use Rattle.row_net.proofs.Here.{ready, told, told_rows, key_is, log_is, memo_is, memo_put}
use Rattle.row_net.proofs.process.process_rows.Goals as goal

abbrev its_rows : BlockParts → Block → List Row
its_rows parts b = log_rows parts (body_of b.clocked b.body)

read : (keys : List ProcessKey) (k : ℕ) (has key : ProcessKey) → slice_get keys k ≡ Some has → key ≡ get_or keys k key → slice_get keys k ≡ Some key
read keys k has key found at = slice_get_read keys (length keys) k key refl (slice_get_within keys k has found) at

pub block_of-terms-requires-clause-process : goal.block_of-terms-requires-clause-process
block_of-terms-requires-clause-process c =
    let p = c.args.parts.now in
    record {
      process = process c.args.instance (signals_in (design_in p) c.args.variant) (block_of c.args.block.now);
      is = key_is p c.requires.parts c.args.number c.args.instance c.args.variant (block_of c.args.block.now) c.requires.key c.index-key.result.now (read c.args.parts.now.keys.items c.args.number c.requires.key.key c.index-key.result.now c.requires.key.found c.index-key.ensures);
    }

pub offset_bounds-memos-number : goal.offset_bounds-memos-number
offset_bounds-memos-number c =
    let p = c.args.parts.now in
    let m = c.requires.state.terms.each c.args.number c.index-key.result.now c.block_of-terms.result.now (read c.args.parts.now.keys.items c.args.number c.requires.key.key c.index-key.result.now c.requires.key.found c.index-key.ensures) c.block_of-terms.ensures in
    let within : c.args.number < length c.args.memos.now = within_lists c.args.memos.now c.args.number m.memo m.found in search rules

pub bounds-memos-number : goal.bounds-memos-number
bounds-memos-number c =
    let p = c.args.parts.now in
    let m = c.requires.state.terms.each c.args.number c.index-key.result.now c.block_of-terms.result.now (read c.args.parts.now.keys.items c.args.number c.requires.key.key c.index-key.result.now c.requires.key.found c.index-key.ensures) c.block_of-terms.ensures in
    within_lists c.args.memos.now c.args.number m.memo m.found

pub block_rows-requires-clause-fits : goal.block_rows-requires-clause-fits
block_rows-requires-clause-fits c =
    let p = c.args.parts.now in
    let m = c.requires.state.terms.each c.args.number c.index-key.result.now c.block_of-terms.result.now (read c.args.parts.now.keys.items c.args.number c.requires.key.key c.index-key.result.now c.requires.key.found c.index-key.ensures) c.block_of-terms.ensures in
    let within : c.args.number < length c.args.memos.now = within_lists c.args.memos.now c.args.number m.memo m.found in
    memo_is p c.requires.parts c.args.number c.args.instance c.args.variant (block_of c.args.block.now) c.requires.key c.index-key.result.now (read c.args.parts.now.keys.items c.args.number c.requires.key.key c.index-key.result.now c.requires.key.found c.index-key.ensures)
    c.args.builder.now c.args.nodes.now (lists_of c.args.memos.now) c.block_of-terms.result.now (value_of c.names_of-places.result.now) c.deref_mut.result.now c.requires.state c.block_of-terms.ensures c.names_of-places.ensures
    (get_map (λ (v : Vec (Option NodeId) Global). v.items) c.args.memos.now c.args.number (get_or c.args.memos.now c.args.number c.index-memos-number.result)
    (slice_get_read c.args.memos.now (length c.args.memos.now) c.args.number (get_or c.args.memos.now c.args.number c.index-memos-number.result) refl within (ap (get_or c.args.memos.now c.args.number) c.index-memos-number.is))
    ∙ ap (λ l. Some l) (sym c.deref_mut.ensures.value))

pub block_rows-requires-clause-ready : goal.block_rows-requires-clause-ready
block_rows-requires-clause-ready c =
    ready c.args.parts.now c.requires.parts c.args.builder.now c.args.nodes.now (lists_of c.args.memos.now) c.requires.state c.requires.all c.args.instance c.args.variant (block_of c.args.block.now) c.requires.block
    (value_of c.names_of-places.result.now) (names_at c.args.signals.now) c.names_of-places.ensures c.requires.signals (its_rows c.block_of-terms.result.now (block_of c.args.block.now))
    (told_rows c.args.parts.now c.requires.parts c.args.builder.now c.args.nodes.now (lists_of c.args.memos.now) c.requires.state c.requires.all c.args.instance c.args.variant (block_of c.args.block.now) c.requires.block
    (value_of c.names_of-places.result.now) (names_at c.args.signals.now) c.names_of-places.ensures c.requires.signals (its_rows c.block_of-terms.result.now (block_of c.args.block.now))
    (log_is c.args.parts.now c.requires.parts c.args.number c.args.instance c.args.variant (block_of c.args.block.now) c.requires.key c.index-key.result.now (read c.args.parts.now.keys.items c.args.number c.requires.key.key c.index-key.result.now c.requires.key.found c.index-key.ensures) c.block_of-terms.result.now c.block_of-terms.ensures))

pub returns-clause-told : goal.returns-clause-told
returns-clause-told c =
    told c.args.parts.now c.requires.parts c.args.builder.now c.args.nodes.now (lists_of c.args.memos.now) c.requires.state c.requires.all c.args.instance c.args.variant (block_of c.args.block.now) c.requires.block
    (value_of c.names_of-places.result.now) (names_at c.args.signals.now) c.names_of-places.ensures c.requires.signals (its_rows c.block_of-terms.result.now (block_of c.args.block.now))
    (told_rows c.args.parts.now c.requires.parts c.args.builder.now c.args.nodes.now (lists_of c.args.memos.now) c.requires.state c.requires.all c.args.instance c.args.variant (block_of c.args.block.now) c.requires.block
    (value_of c.names_of-places.result.now) (names_at c.args.signals.now) c.names_of-places.ensures c.requires.signals (its_rows c.block_of-terms.result.now (block_of c.args.block.now))
    (log_is c.args.parts.now c.requires.parts c.args.number c.args.instance c.args.variant (block_of c.args.block.now) c.requires.key c.index-key.result.now (read c.args.parts.now.keys.items c.args.number c.requires.key.key c.index-key.result.now c.requires.key.found c.index-key.ensures) c.block_of-terms.result.now c.block_of-terms.ensures))
    c.block_rows.new.builder c.in_ok-rows.rows.items c.in_ok-rows.ensures.grown c.in_ok-rows.ensures.have

pub returns-clause-state : goal.returns-clause-state
returns-clause-state c =
    let p = c.args.parts.now in
    let old = get_or c.args.memos.now c.args.number c.index-memos-number.result in
    let new = c.block_rows.new.memo in
    let m = c.requires.state.terms.each c.args.number c.index-key.result.now c.block_of-terms.result.now (read c.args.parts.now.keys.items c.args.number c.requires.key.key c.index-key.result.now c.requires.key.found c.index-key.ensures) c.block_of-terms.ensures in
    let within : c.args.number < length c.args.memos.now = within_lists c.args.memos.now c.args.number m.memo m.found in
    let fits = memo_is p c.requires.parts c.args.number c.args.instance c.args.variant (block_of c.args.block.now) c.requires.key c.index-key.result.now (read c.args.parts.now.keys.items c.args.number c.requires.key.key c.index-key.result.now c.requires.key.found c.index-key.ensures)
    c.args.builder.now c.args.nodes.now (lists_of c.args.memos.now) c.block_of-terms.result.now (value_of c.names_of-places.result.now) c.deref_mut.result.now c.requires.state c.block_of-terms.ensures c.names_of-places.ensures
    (get_map (λ (v : Vec (Option NodeId) Global). v.items) c.args.memos.now c.args.number old
    (slice_get_read c.args.memos.now (length c.args.memos.now) c.args.number old refl within (ap (get_or c.args.memos.now c.args.number) c.index-memos-number.is))
    ∙ ap (λ l. Some l) (sym c.deref_mut.ensures.value)) in
    let long : length new ≡ old.len = c.in_ok-rows.ensures.fits.each ∙ sym fits.each ∙ c.deref_mut.ensures.len in
    let items : (with_items old new).items ≡ new = take_first old.len new (drop (length new) old.items) long in
    subst (HasState p c.block_rows.new.builder c.args.nodes.now)
    (sym (map_set (λ (v : Vec (Option NodeId) Global). v.items) c.args.memos.now c.args.number (with_items old new) ∙ ap (set (lists_of c.args.memos.now) c.args.number) items))
    (memo_put p c.requires.parts c.args.number c.args.instance c.args.variant (block_of c.args.block.now) c.requires.key c.index-key.result.now (read c.args.parts.now.keys.items c.args.number c.requires.key.key c.index-key.result.now c.requires.key.found c.index-key.ensures)
    c.args.builder.now c.block_rows.new.builder c.args.nodes.now (lists_of c.args.memos.now) c.block_of-terms.result.now (value_of c.names_of-places.result.now) new c.requires.state c.in_ok-rows.ensures.grown c.block_of-terms.ensures c.names_of-places.ensures c.in_ok-rows.ensures.fits)
