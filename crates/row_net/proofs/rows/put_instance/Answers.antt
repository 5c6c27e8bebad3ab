use Rattle.std.proofs.Common.{◌≡◌, ◌+◌, ◌^◌, ◌<◌, ◌≤◌, ◌++◌, ◌∙◌, length, map, take, refl, sym, ap, subst, arith, rules}
use Rattle.std.specs.Prelude.{slice_get}
use Rattle.std.proofs.lemmas.List.{length-map, map_push, take_all}
use Rattle.std.proofs.lemmas.Option.{slice_get_read}
use Rattle.design_core.specs.View.{block_of, variant_of}
use Rattle.design_exec.specs.Processes.{blocks_in}
use Rattle.design_core.specs.WellFormed.{blocks_at}
use Rattle.term_net.proofs.Overs.{grown_twice}
use Rattle.list_core.proofs.Growing.{more_of}
use Rattle.ssa_core.proofs.Places.{get_map}
use Rattle.ssa_nodes.specs.Parts.{design_in}
use Rattle.row_net.specs.Blocks.{SpotsPut, block_sites, blocks_spots}
use Rattle.row_net.specs.Spots.{at_instance}
use Rattle.row_net.proofs.Puts.{block_there, blocks_all, blocks_next, keys_within, room, spots_then}
use Rattle.row_net.proofs.rows.put_instance.Goals as goal

pub put_process-requires-clause-key : goal.put_process-requires-clause-key
put_process-requires-clause-key c =
    let d = design_in c.args.parts.now in
    let v = c.args.instance.now.variant in
    let blocks = c.blocks_of-blocks.result.now in
    let place = c.loop-place.place in
    let block = c.index-blocks-place.result in
    let all : map block_of blocks ≡ blocks_in d v = c.blocks_of-blocks.ensures ∙ ap (λ vs. blocks_at v (map variant_of vs)) c.deref-2.ensures.value in
    c.requires.keys place (block_of block)
    (sym (ap (λ l. slice_get l place) all) ∙ get_map block_of blocks place block (slice_get_read blocks (length blocks) place block refl c.loop-place-test.true c.index-blocks-place.is))

pub put_process-requires-clause-block : goal.put_process-requires-clause-block
put_process-requires-clause-block c =
    let d = design_in c.args.parts.now in
    let v = c.args.instance.now.variant in
    let blocks = c.blocks_of-blocks.result.now in
    let place = c.loop-place.place in
    let block = c.index-blocks-place.result in
    let all : map block_of blocks ≡ blocks_in d v = c.blocks_of-blocks.ensures ∙ ap (λ vs. blocks_at v (map variant_of vs)) c.deref-2.ensures.value in
    block_there d c.requires.parts.parts.sound.kept c.args.number c.args.instance.now c.requires.instance place (block_of block)
    (sym (ap (λ l. slice_get l place) all) ∙ get_map block_of blocks place block (slice_get_read blocks (length blocks) place block refl c.loop-place-test.true c.index-blocks-place.is))

pub overflow_add-first : goal.overflow_add-first
overflow_add-first c =
    let p = c.args.parts.now in
    let d = design_in p in
    let v = c.args.instance.now.variant in
    let blocks = c.blocks_of-blocks.result.now in
    let place = c.loop-place.place in
    let all : map block_of blocks ≡ blocks_in d v = c.blocks_of-blocks.ensures ∙ ap (λ vs. blocks_at v (map variant_of vs)) c.deref-2.ensures.value in
    let here : place < length (blocks_in d v) = omega (arith, ap length all, length-map blocks block_of, c.loop-place-test.true) in
    let within : c.args.first + place < length p.keys.items = keys_within d p.keys.items c.requires.parts.parts.keys_are c.args.first (c.args.number, c.args.instance.now) c.requires.keys place here in
    let long : p.keys.len ≡ length p.keys.items = p.keys.ok.0 in
    let held : p.keys.len ≤ p.keys.cap = p.keys.ok.1 in
    let small : p.keys.cap < 2 ^ 63 = p.keys.small in
    let fits : c.args.first + place < 2 ^ 64 = omega arith in search rules

pub overflow_add-result : goal.overflow_add-result
overflow_add-result c =
    let p = c.args.parts.now in
    let d = design_in p in
    let v = c.args.instance.now.variant in
    let blocks = c.blocks_of-blocks.result.now in
    let all : map block_of blocks ≡ blocks_in d v = c.blocks_of-blocks.ensures ∙ ap (λ vs. blocks_at v (map variant_of vs)) c.deref-2.ensures.value in
    let count : length blocks ≡ length (blocks_in d v) = sym (length-map blocks block_of) ∙ ap length all in
    let long : p.keys.len ≡ length p.keys.items = p.keys.ok.0 in
    let held : p.keys.len ≤ p.keys.cap = p.keys.ok.1 in
    let small : p.keys.cap < 2 ^ 63 = p.keys.small in
    let few : length p.keys.items < 2 ^ 64 = omega arith in
    let now : c.args.first < 2 ^ 64 = omega (arith, c.ranges.first.fits) in
    let fits : c.args.first + length (blocks_in d v) < 2 ^ 64 =
    room c.args.first (length (blocks_in d v)) (length p.keys.items) (2 ^ 64) now (λ b l. keys_within d p.keys.items c.requires.parts.parts.keys_are c.args.first (c.args.number, c.args.instance.now) c.requires.keys b l) few in
    let same : c.args.first + length blocks < 2 ^ 64 = subst (λ n. c.args.first + n < 2 ^ 64) (sym count) fits in search rules

pub loop-place-preserved : goal.loop-place-preserved
loop-place-preserved c =
    let p = c.args.parts.now in
    let d = design_in p in
    let n = length p.order.now in
    let v = c.args.instance.now.variant in
    let i = c.args.number in
    let blocks = c.blocks_of-blocks.result.now in
    let place = c.loop-place.place in
    let block = c.index-blocks-place.result in
    let next : blocks_spots d i v (map block_of (take (place + 1) blocks)) ≡ blocks_spots d i v (map block_of (take place blocks)) ++ at_instance i (block_sites d v (block_of block)) =
    ap (blocks_spots d i v) (ap (map block_of) (more_of blocks place block c.loop-place-test.true c.index-blocks-place.is) ∙ map_push block_of (take place blocks) block) ∙ blocks_next d i v (map block_of (take place blocks)) (block_of block) in
    record {
      state = c.in_ok-put_process.ensures.state;
      grown = grown_twice c.args.builder.now c.loop-place.builder c.put_process.new.builder c.loop-place.invariant.grown c.in_ok-put_process.ensures.grown;
      put =
          subst (λ spots. SpotsPut d n c.args.builder.now c.put_process.new.builder spots c.args.rows.now.items c.put_process.new.rows.items) (sym next)
          (spots_then d n c.args.builder.now c.loop-place.builder c.put_process.new.builder (blocks_spots d i v (map block_of (take place blocks))) (at_instance i (block_sites d v (block_of block))) c.args.rows.now.items c.loop-place.rows.items c.put_process.new.rows.items
          c.loop-place.invariant.put c.in_ok-put_process.ensures.put);
    }

pub returns-clause-put : goal.returns-clause-put
returns-clause-put c =
    let p = c.args.parts.now in
    let d = design_in p in
    let v = c.args.instance.now.variant in
    let blocks = c.blocks_of-blocks.result.now in
    let all : map block_of blocks ≡ blocks_in d v = c.blocks_of-blocks.ensures ∙ ap (λ vs. blocks_at v (map variant_of vs)) c.deref-2.ensures.value in
    subst (λ spots. SpotsPut d (length p.order.now) c.args.builder.now c.loop-place.builder spots c.args.rows.now.items c.loop-place.rows.items)
    (ap (λ l. blocks_spots d c.args.number v (map block_of l)) (take_all c.loop-place.place blocks c.loop-place-test.false) ∙ ap (blocks_spots d c.args.number v) all ∙ blocks_all d (c.args.number, c.args.instance.now)) c.loop-place.invariant.put
