use Rattle.std.proofs.Common.{◌≡◌, ◌<◌, Some, None, IsSome, length, get_or, refl, sym, ap, ◌∙◌, subst}
use Rattle.std.proofs.lemmas.Option.{slice_get-get_or}
use Rattle.exec_core.specs.Design.{place}
use Rattle.place_core.specs.Numbering.{number_in, numbers_of}
use Rattle.ssa_nodes.specs.Parts.{all_in}
use Rattle.next_net.proofs.next.writer_at.Goals as goal

pub unwrap-number-requires : goal.unwrap-number-requires
unwrap-number-requires c =
    let q = place c.args.instance c.args.name.now in
    let n = c.requires.parts.parts.numbered q c.requires.signal in
    subst IsSome (sym (c.number_of.ensures ∙ ap (λ ms. number_in (numbers_of ms) q) c.deref.ensures.value ∙ n.1)) refl

pub bounds-writers-number : goal.bounds-writers-number
bounds-writers-number c =
    let p = c.args.parts.now in
    let q = place c.args.instance c.args.name.now in
    let at : number_in (all_in p) q ≡ Some c.unwrap-number.result = sym (c.number_of.ensures ∙ ap (λ ms. number_in (numbers_of ms) q) c.deref.ensures.value) ∙ c.unwrap-number.ensures in
    subst (λ m. c.unwrap-number.result < m) (sym c.requires.writers.long) (c.requires.parts.parts.apart.below q c.unwrap-number.result at)

pub returns : goal.returns
returns c =
    let p = c.args.parts.now in
    let q = place c.args.instance c.args.name.now in
    let n = c.unwrap-number.result in
    let at : number_in (all_in p) q ≡ Some n = sym (c.number_of.ensures ∙ ap (λ ms. number_in (numbers_of ms) q) c.deref.ensures.value) ∙ c.unwrap-number.ensures in
    let within : n < length c.args.writers.now = subst (λ m. n < m) (sym c.requires.writers.long) (c.requires.parts.parts.apart.below q n at) in
    c.requires.writers.each q n (get_or c.args.writers.now n None) at (slice_get-get_or c.args.writers.now n None within)
