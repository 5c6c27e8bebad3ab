use Rattle.std.proofs.Common.{◌<◌, ◌+◌, ap, sym, subst, ◌∙◌, arith, List, length, map}
use Rattle.design_core.specs.declared.Block as code_block
use Rattle.design_core.specs.View.{block_of}
use Rattle.elab_core.specs.Design.{blocks_size}
use Rattle.gen_elab.specs.Offsets.{nothing_before}
use Rattle.gen_elab.proofs.OffsetLemmas.{total_fits, sum_fits, place_inside, totals_next, inside_any}
use Rattle.gen_elab.proofs.offsets.totals.Goals as goal

pub count_blocks-requires : goal.count_blocks-requires
count_blocks-requires c =
    let fits = total_fits c.args.firsts.now c.loop-index.index c.index-firsts-index.result c.loop-index-test.true c.index-firsts-index.is c.requires.few in
    rw c.deref.ensures.value fits

pub index_mut-requires : goal.index_mut-requires
index_mut-requires c =
    let inside = place_inside c.args.firsts.now c.loop-index.index c.args.modules c.index-firsts-index.result c.loop-index-test.true c.index-firsts-index.is c.requires.places in
    let long = c.loop-index.invariant.long in
    let ok = c.loop-index.totals.ok in
    subst (λ n. c.index-firsts-index.result.place < n) (sym long ∙ sym ok.0) inside

pub overflow_add-index_mut : goal.overflow_add-index_mut
overflow_add-index_mut c =
    let inside = place_inside c.args.firsts.now c.loop-index.index c.args.modules c.index-firsts-index.result c.loop-index-test.true c.index-firsts-index.is c.requires.places in
    let value = c.index_mut.ensures.value in
    let long = c.loop-index.invariant.long in
    let here : c.index-firsts-index.result.place < length c.loop-index.totals.items = omega (arith, inside, long) in
    let same = value ∙ inside_any c.loop-index.totals.items c.index-firsts-index.result.place c.index_mut.result.now 0 here in
    let counted = c.count_blocks.ensures ∙ ap (λ (l : List code_block.Block). blocks_size (map block_of l)) c.deref.ensures.value in
    let fits = sum_fits c.args.firsts.now c.loop-index.index c.args.modules 0 c.loop-index.totals.items c.index-firsts-index.result c.loop-index-test.true c.index-firsts-index.is c.requires.few inside c.loop-index.invariant in
    omega (arith, fits, same, counted)

pub loop-index-preserved : goal.loop-index-preserved
loop-index-preserved c =
    let inside = place_inside c.args.firsts.now c.loop-index.index c.args.modules c.index-firsts-index.result c.loop-index-test.true c.index-firsts-index.is c.requires.places in
    let long = c.loop-index.invariant.long in
    let here : c.index-firsts-index.result.place < length c.loop-index.totals.items = omega (arith, inside, long) in
    let same = c.index_mut.ensures.value ∙ inside_any c.loop-index.totals.items c.index-firsts-index.result.place c.index_mut.result.now 0 here in
    let counted = c.count_blocks.ensures ∙ ap (λ (l : List code_block.Block). blocks_size (map block_of l)) c.deref.ensures.value in
    totals_next nothing_before c.args.firsts.now c.loop-index.index c.args.modules _ c.count_blocks.result c.index-firsts-index.result c.loop-index.totals.items c.loop-index-test.true c.index-firsts-index.is inside (ap (λ n. n + c.count_blocks.result) same) counted c.loop-index.invariant
