use Rattle.std.proofs.Common.{◌≡◌, ◌<◌, Some, IsSome, refl, sym, ap, ◌∙◌, subst}
use Rattle.std.proofs.lemmas.Option.{slice_get_within, get_or_from_slice_get}
use Rattle.exec_core.specs.Design.{place}
use Rattle.place_core.specs.Numbering.{number_in, numbers_of}
use Rattle.ssa_nodes.specs.Parts.{all_in}
use Rattle.ssa_nodes.proofs.Driven.{has_drive}
use Rattle.ssa_nodes.proofs.resolve.drive_at.Goals as goal

pub unwrap-number-requires : goal.unwrap-number-requires
unwrap-number-requires c =
    let q = place c.args.instance c.args.name.now in
    let n = c.requires.parts.parts.numbered q c.requires.driver.signal in
    subst IsSome (sym (c.number_of.ensures ∙ ap (λ ms. number_in (numbers_of ms) q) c.deref.ensures.value ∙ n.1)) refl

pub index-requires : goal.index-requires
index-requires c =
    let p = c.args.parts.now in
    let q = place c.args.instance c.args.name.now in
    let at : number_in (all_in p) q ≡ Some c.unwrap-number.result = sym (c.number_of.ensures ∙ ap (λ ms. number_in (numbers_of ms) q) c.deref.ensures.value) ∙ c.unwrap-number.ensures in
    let has = has_drive p c.requires.parts c.args.nodes.now q c.unwrap-number.result c.requires.driver at in
    subst (λ m. c.unwrap-number.result < m) (sym p.drives.ok.0) (slice_get_within p.drives.items c.unwrap-number.result (Some has.drive) has.found)

pub unwrap-requires : goal.unwrap-requires
unwrap-requires c =
    let p = c.args.parts.now in
    let q = place c.args.instance c.args.name.now in
    let at : number_in (all_in p) q ≡ Some c.unwrap-number.result = sym (c.number_of.ensures ∙ ap (λ ms. number_in (numbers_of ms) q) c.deref.ensures.value) ∙ c.unwrap-number.ensures in
    let has = has_drive p c.requires.parts c.args.nodes.now q c.unwrap-number.result c.requires.driver at in
    subst IsSome (sym (c.index.ensures ∙ get_or_from_slice_get p.drives.items c.unwrap-number.result (Some has.drive) c.index.result.now has.found)) refl

pub returns : goal.returns
returns c =
    let p = c.args.parts.now in
    let q = place c.args.instance c.args.name.now in
    let at : number_in (all_in p) q ≡ Some c.unwrap-number.result = sym (c.number_of.ensures ∙ ap (λ ms. number_in (numbers_of ms) q) c.deref.ensures.value) ∙ c.unwrap-number.ensures in
    let has = has_drive p c.requires.parts c.args.nodes.now q c.unwrap-number.result c.requires.driver at in
    let same : Some has.drive ≡ Some c.unwrap.result = sym (c.index.ensures ∙ get_or_from_slice_get p.drives.items c.unwrap-number.result (Some has.drive) c.index.result.now has.found) ∙ c.unwrap.ensures in
    c.requires.parts.parts.driven.sound q c.unwrap-number.result c.unwrap.result at (has.found ∙ ap (λ o. Some o) same)
