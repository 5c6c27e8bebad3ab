use Rattle.std.proofs.Common.{◌≡◌, map, length, Some, refl, sym, ap, ◌∙◌}
use Rattle.std.specs.Prelude.{slice_get}
use Rattle.std.proofs.lemmas.Option.{slice_get_read}
use Rattle.names.specs.Known.{has}
use Rattle.exec_core.specs.Block.{own}
use Rattle.design_exec.specs.Processes as processes
use Rattle.design_exec.specs.Processes.{blocks_in, process, signals_in}
use Rattle.design_core.specs.WellFormed.{blocks_at}
use Rattle.place_core.specs.Assigned.{names_at}
use Rattle.design_core.specs.DesignView.{design_of}
use Rattle.design_core.specs.View.{block_of, body_of, variant_of}
use Rattle.place_core.specs.Numbering.{numbers_of}
use Rattle.ssa_core.proofs.Driving.{process_drives, process_driven}
use Rattle.ssa_core.proofs.Places.{get_map}
use Rattle.ssa_core.proofs.drive.put_process.Goals as goal

pub put_names-requires-clause-drives : goal.put_names-requires-clause-drives
put_names-requires-clause-drives c =
    let d = design_of c.args.design.now in
    let key = c.args.key in
    let block = c.in-Some.block.now in
    let lookup = c.in-Some.ensures.lookup in
    let at : slice_get (blocks_in d key.variant) key.block ≡ Some (block_of block) =
    sym (ap (λ bs. slice_get bs key.block) (c.blocks_of-blocks.ensures ∙ ap (λ vs. blocks_at key.variant (map variant_of vs)) c.deref.ensures.value))
    ∙ get_map block_of c.blocks_of-blocks.result.now key.block block (slice_get_read c.blocks_of-blocks.result.now (length c.blocks_of-blocks.result.now) key.block block refl lookup.3.0 (lookup.3.1 block)) in
    let owns : has (names_at c.deref-3.result.now) ≡ own (process key.instance (signals_in d key.variant) (block_of block)).body =
    ap (λ ns. has (names_at ns)) c.deref-3.ensures.value ∙ c.in_ok-names.ensures ∙ ap (λ stmts. own (processes.body_of block.clocked (body_of stmts))) c.deref-2.ensures.value in
    process_drives d c.args.links.now c.args.keys.now (numbers_of c.args.maps.now) c.args.number key (block_of block) c.deref-3.result.now c.requires.key at owns

pub returns-clause-driven : goal.returns-clause-driven
returns-clause-driven c =
    let d = design_of c.args.design.now in
    let key = c.args.key in
    let block = c.in-Some.block.now in
    let lookup = c.in-Some.ensures.lookup in
    let at : slice_get (blocks_in d key.variant) key.block ≡ Some (block_of block) =
    sym (ap (λ bs. slice_get bs key.block) (c.blocks_of-blocks.ensures ∙ ap (λ vs. blocks_at key.variant (map variant_of vs)) c.deref.ensures.value))
    ∙ get_map block_of c.blocks_of-blocks.result.now key.block block (slice_get_read c.blocks_of-blocks.result.now (length c.blocks_of-blocks.result.now) key.block block refl lookup.3.0 (lookup.3.1 block)) in
    let owns : has (names_at c.deref-3.result.now) ≡ own (process key.instance (signals_in d key.variant) (block_of block)).body =
    ap (λ ns. has (names_at ns)) c.deref-3.ensures.value ∙ c.in_ok-names.ensures ∙ ap (λ stmts. own (processes.body_of block.clocked (body_of stmts))) c.deref-2.ensures.value in
    process_driven d c.args.links.now c.args.keys.now (numbers_of c.args.maps.now) key (block_of block) c.deref-3.result.now c.put_names.new.list at owns c.put_names.ensures.driven
