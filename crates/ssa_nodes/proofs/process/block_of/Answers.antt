use Rattle.std.proofs.Common.{◌≡◌, ◌<◌, Some, sym, ap, ◌∙◌, subst}
use Rattle.std.specs.Prelude.{Vec, slice_index_or}
use Rattle.std.specs.declared.alloc.Global.{Global}
use Rattle.std.proofs.lemmas.Option.{slice_get_within, get_or_from_slice_get}
use Rattle.block_net.specs.Blocks.{BlockParts}
use Rattle.ssa_nodes.specs.Parts.{blocks_in, design_in}
use Rattle.ssa_nodes.proofs.Looking.{process_terms, in_row}
use Rattle.ssa_nodes.proofs.process.block_of.Goals as goal

pub index-requires : goal.index-requires
index-requires c =
    let p = c.args.parts.now in
    let key = c.args.key in
    let terms = process_terms (design_in p) (blocks_in p) key c.requires.process.process c.requires.parts.parts.terms c.requires.process.is in
    let row = in_row p.blocks.items key.variant key.block terms.has.parts terms.has.found in
    subst (λ n. key.variant < n) (sym p.blocks.ok.0) (slice_get_within p.blocks.items key.variant row.row row.at)

pub index-requires-2 : goal.index-requires-2
index-requires-2 c =
    let p = c.args.parts.now in
    let key = c.args.key in
    let terms = process_terms (design_in p) (blocks_in p) key c.requires.process.process c.requires.parts.parts.terms c.requires.process.is in
    let row = in_row p.blocks.items key.variant key.block terms.has.parts terms.has.found in
    let is : c.index.result.now ≡ row.row = c.index.ensures ∙ get_or_from_slice_get p.blocks.items key.variant row.row c.index.result.now row.at in
    subst (λ (w : Vec BlockParts Global). key.block < w.len) (sym is) (subst (λ n. key.block < n) (sym row.row.ok.0) (slice_get_within row.row.items key.block terms.has.parts row.inside))

pub returns : goal.returns
returns c =
    let p = c.args.parts.now in
    let key = c.args.key in
    let terms = process_terms (design_in p) (blocks_in p) key c.requires.process.process c.requires.parts.parts.terms c.requires.process.is in
    let row = in_row p.blocks.items key.variant key.block terms.has.parts terms.has.found in
    let is : c.index.result.now ≡ row.row = c.index.ensures ∙ get_or_from_slice_get p.blocks.items key.variant row.row c.index.result.now row.at in
    let same : c.index-2.result.now ≡ terms.has.parts = c.index-2.ensures ∙ ap (λ (w : Vec BlockParts Global). slice_index_or w.items key.block c.index-2.result.now) is ∙ get_or_from_slice_get row.row.items key.block terms.has.parts c.index-2.result.now row.inside in
    terms.has.found ∙ ap (λ q. Some q) (sym same)
