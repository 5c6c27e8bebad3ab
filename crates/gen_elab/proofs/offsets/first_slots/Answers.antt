use Rattle.std.proofs.Common.{◌<◌, ◌+◌, ap, sym, subst, ◌∙◌, arith, List, length, map}
use Rattle.design_core.specs.declared.Block as code_block
use Rattle.design_core.specs.View.{block_of}
use Rattle.elab_core.specs.View.{instance_of}
use Rattle.elab_core.specs.Design.{blocks_size}
use Rattle.gen_elab.specs.Offsets.{before_place}
use Rattle.gen_elab.proofs.OffsetLemmas.{total_fits, slot_fits, slot_turn, place_inside, totals_next, inside_any}
use Rattle.gen_elab.proofs.offsets.first_slots.Goals as goal

pub index-slot-requires : goal.index-slot-requires
index-slot-requires c =
    let inside = place_inside c.args.firsts.now c.loop-index.index (length c.args.starts.items) c.index-firsts-index.result c.loop-index-test.true c.index-firsts-index.is c.requires.places in
    subst (λ n. c.index-firsts-index.result.place < n) (sym c.loop-index.invariant.starts.long ∙ sym c.loop-index.starts.ok.0) inside

pub count_blocks-requires : goal.count_blocks-requires
count_blocks-requires c =
    let fits = total_fits c.args.firsts.now c.loop-index.index c.index-firsts-index.result c.loop-index-test.true c.index-firsts-index.is c.requires.few in
    rw c.deref.ensures.value fits

pub overflow_add-slot : goal.overflow_add-slot
overflow_add-slot c =
    let inside = place_inside c.args.firsts.now c.loop-index.index (length c.args.starts.items) c.index-firsts-index.result c.loop-index-test.true c.index-firsts-index.is c.requires.places in
    let here : c.index-firsts-index.result.place < length c.loop-index.starts.items = omega (arith, inside, c.loop-index.invariant.starts.long) in
    let same = c.index-slot.ensures ∙ inside_any c.loop-index.starts.items c.index-firsts-index.result.place c.index-slot.result.now 0 here in
    let counted = c.count_blocks.ensures ∙ ap (λ (l : List code_block.Block). blocks_size (map block_of l)) c.deref.ensures.value in
    let fits = slot_fits c.args.firsts.now c.loop-index.index (length c.args.starts.items) c.index-slot.result.now c.index-firsts-index.result c.loop-index.starts.items c.loop-index-test.true c.index-firsts-index.is c.requires.few inside c.loop-index.invariant.starts same in
    omega (arith, fits, counted)

pub index_mut-requires : goal.index_mut-requires
index_mut-requires c =
    let inside = place_inside c.args.firsts.now c.loop-index.index (length c.args.starts.items) c.index-firsts-index.result c.loop-index-test.true c.index-firsts-index.is c.requires.places in
    subst (λ n. c.index-firsts-index.result.place < n) (sym c.loop-index.invariant.starts.long ∙ sym c.loop-index.starts.ok.0) inside

pub loop-index-preserved : goal.loop-index-preserved
loop-index-preserved c =
    let inside = place_inside c.args.firsts.now c.loop-index.index (length c.args.starts.items) c.index-firsts-index.result c.loop-index-test.true c.index-firsts-index.is c.requires.places in
    let here : c.index-firsts-index.result.place < length c.loop-index.starts.items = omega (arith, inside, c.loop-index.invariant.starts.long) in
    let same = c.index-slot.ensures ∙ inside_any c.loop-index.starts.items c.index-firsts-index.result.place c.index-slot.result.now 0 here in
    let counted = c.count_blocks.ensures ∙ ap (λ (l : List code_block.Block). blocks_size (map block_of l)) c.deref.ensures.value in
    let slots = slot_turn c.args.firsts.now c.loop-index.index (length c.args.starts.items) c.index-slot.result.now c.index-firsts-index.result c.loop-index.starts.items c.loop-index.slots.items c.loop-index-test.true c.index-firsts-index.is inside c.loop-index.invariant.starts same c.loop-index.invariant.slots in
    record {
      starts = totals_next (before_place (map instance_of c.args.firsts.now)) c.args.firsts.now c.loop-index.index (length c.args.starts.items) _ c.count_blocks.result c.index-firsts-index.result c.loop-index.starts.items c.loop-index-test.true c.index-firsts-index.is inside (ap (λ n. n + c.count_blocks.result) same) counted c.loop-index.invariant.starts;
      slots = rw c.in_ok-push.ensures.items slots;
    }
