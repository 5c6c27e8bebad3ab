use Rattle.std.proofs.Common.{◌≡◌, map, length, Some, refl, sym, ap, ◌∙◌}
use Rattle.std.specs.Prelude.{slice_get}
use Rattle.std.proofs.lemmas.Option.{slice_get_read}
use Rattle.exec_core.specs.Block.{body_assigns}
use Rattle.design_core.specs.DesignView.{design_of}
use Rattle.design_core.specs.View.{block_of, variant_of}
use Rattle.design_exec.specs.Processes.{blocks_in}
use Rattle.block_net.specs.Source.{body_in}
use Rattle.block_net.specs.Walks.{among}
use Rattle.design_core.specs.WellFormed.{blocks_at}
use Rattle.place_core.specs.Numbering.{numbers_of}
use Rattle.ssa_core.proofs.Places.{get_map}
use Rattle.next_net.proofs.Writing.{marks_process}
use Rattle.next_net.proofs.writer.put_process.Goals as goal

pub returns : goal.returns
returns c =
    let d = design_of c.args.design.now in
    let key = c.args.key in
    let block = c.in-Some.block.now in
    let lookup = c.in-Some.ensures.lookup in
    let at : slice_get (blocks_in d key.variant) key.block ≡ Some (block_of block) =
    sym (ap (λ bs. slice_get bs key.block) (c.blocks_of-blocks.ensures ∙ ap (λ vs. blocks_at key.variant (map variant_of vs)) c.deref.ensures.value))
    ∙ get_map block_of c.blocks_of-blocks.result.now key.block block (slice_get_read c.blocks_of-blocks.result.now (length c.blocks_of-blocks.result.now) key.block block refl lookup.3.0 (lookup.3.1 block)) in
    let assigns : among c.deref-3.result.now ≡ body_assigns (body_in block.clocked block.body.items) =
    ap among c.deref-3.ensures.value ∙ c.in_ok-keys.ensures ∙ ap (λ stmts. body_assigns (body_in block.clocked stmts)) c.deref-2.ensures.value in
    marks_process (numbers_of c.args.maps.now) d c.args.process key (block_of block) c.deref-3.result.now c.args.list.now c.put_keys.new.list at assigns c.put_keys.ensures
