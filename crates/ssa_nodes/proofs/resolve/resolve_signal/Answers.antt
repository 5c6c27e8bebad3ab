use Rattle.std.proofs.Common.{◌≡◌, ◌<◌, Some, IsSome, length, refl, sym, ap, ◌∙◌, subst}
use Rattle.exec_core.specs.Design.{place}
use Rattle.place_core.specs.Numbering.{number_in, numbers_of}
use Rattle.ssa_core.specs.Processes.{lists_of}
use Rattle.ssa_nodes.specs.Parts.{all_in}
use Rattle.ssa_nodes.proofs.Driven.{placed_more, state_set, stands_itself, placed_has, not_some}
use Rattle.ssa_nodes.proofs.resolve.resolve_signal.Goals as goal

pub unwrap-number-requires : goal.unwrap-number-requires
unwrap-number-requires c =
    let q = place c.args.instance c.args.name.now in
    let n = c.requires.parts.parts.numbered q c.requires.driver.signal in
    subst IsSome (sym (c.number_of.ensures ∙ ap (λ ms. number_in (numbers_of ms) q) c.deref.ensures.value ∙ n.1)) refl

pub is_placed-requires : goal.is_placed-requires
is_placed-requires c =
    let p = c.args.parts.now in
    let q = place c.args.instance c.args.name.now in
    let at : number_in (all_in p) q ≡ Some c.unwrap-number.result = sym (c.number_of.ensures ∙ ap (λ ms. number_in (numbers_of ms) q) c.deref.ensures.value) ∙ c.unwrap-number.ensures in
    let within : c.unwrap-number.result < length c.args.nodes.now = subst (λ m. c.unwrap-number.result < m) (sym c.requires.long) (c.requires.parts.parts.apart.below q c.unwrap-number.result at) in
    within

pub bounds-nodes-number : goal.bounds-nodes-number
bounds-nodes-number c =
    let p = c.args.parts.now in
    let q = place c.args.instance c.args.name.now in
    let at : number_in (all_in p) q ≡ Some c.unwrap-number.result = sym (c.number_of.ensures ∙ ap (λ ms. number_in (numbers_of ms) q) c.deref.ensures.value) ∙ c.unwrap-number.ensures in
    let within : c.unwrap-number.result < length c.args.nodes.now = subst (λ m. c.unwrap-number.result < m) (sym c.requires.long) (c.requires.parts.parts.apart.below q c.unwrap-number.result at) in
    within

pub returns-clause-resolved : goal.returns-clause-resolved
returns-clause-resolved c =
    let p = c.args.parts.now in
    let q = place c.args.instance c.args.name.now in
    let at : number_in (all_in p) q ≡ Some c.unwrap-number.result = sym (c.number_of.ensures ∙ ap (λ ms. number_in (numbers_of ms) q) c.deref.ensures.value) ∙ c.unwrap-number.ensures in
    let within : c.unwrap-number.result < length c.args.nodes.now = subst (λ m. c.unwrap-number.result < m) (sym c.requires.long) (c.requires.parts.parts.apart.below q c.unwrap-number.result at) in
    placed_more p c.requires.parts c.args.nodes.now c.unwrap-number.result c.in_ok-id.id q within at (not_some _ (sym c.is_placed.ensures ∙ c.if-is_placed.false))

pub returns-clause-state : goal.returns-clause-state
returns-clause-state c =
    let p = c.args.parts.now in
    let q = place c.args.instance c.args.name.now in
    let at : number_in (all_in p) q ≡ Some c.unwrap-number.result = sym (c.number_of.ensures ∙ ap (λ ms. number_in (numbers_of ms) q) c.deref.ensures.value) ∙ c.unwrap-number.ensures in
    let within : c.unwrap-number.result < length c.args.nodes.now = subst (λ m. c.unwrap-number.result < m) (sym c.requires.long) (c.requires.parts.parts.apart.below q c.unwrap-number.result at) in
    state_set p c.requires.parts c.driver_node.new.builder c.args.nodes.now (lists_of c.driver_node.new.memos) c.unwrap-number.result c.in_ok-id.id q within at (not_some _ (sym c.is_placed.ensures ∙ c.if-is_placed.false))
    (stands_itself p c.requires.parts c.driver_node.new.builder c.args.nodes.now q c.in_ok-id.id c.requires.driver c.in_ok-id.ensures.stands) c.in_ok-id.ensures.state

pub returns-then-is_placed-clause-resolved : goal.returns-then-is_placed-clause-resolved
returns-then-is_placed-clause-resolved c =
    let p = c.args.parts.now in
    let q = place c.args.instance c.args.name.now in
    let at : number_in (all_in p) q ≡ Some c.unwrap-number.result = sym (c.number_of.ensures ∙ ap (λ ms. number_in (numbers_of ms) q) c.deref.ensures.value) ∙ c.unwrap-number.ensures in
    let within : c.unwrap-number.result < length c.args.nodes.now = subst (λ m. c.unwrap-number.result < m) (sym c.requires.long) (c.requires.parts.parts.apart.below q c.unwrap-number.result at) in
    placed_has p c.requires.parts c.args.nodes.now c.unwrap-number.result q at (sym c.is_placed.ensures ∙ c.if-is_placed.true)
