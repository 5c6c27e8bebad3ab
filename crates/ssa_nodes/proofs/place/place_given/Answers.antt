use Rattle.std.proofs.Common.{◌≡◌, ◌<◌, Some, IsSome, length, refl, sym, ap, ◌∙◌, subst}
use Rattle.place_core.specs.Numbering.{number_in, numbers_of}
use Rattle.ssa_nodes.specs.Parts.{all_in}
use Rattle.ssa_nodes.proofs.Driven.{placed_more, placed_has, not_some}
use Rattle.ssa_nodes.specs.Givens.{given_as}
use Rattle.ssa_nodes.proofs.GivenPlaces.{fits, origin_stands, signals_set, over_given}
use Rattle.ssa_nodes.proofs.place.place_given.Goals as goal

pub unwrap-number-requires : goal.unwrap-number-requires
unwrap-number-requires c =
    let p = c.args.parts.now in
    let q = given_as c.args.given.now in
    let n = c.requires.parts.parts.numbered q.0 (fits p c.requires.parts q c.requires.given).signal in
    subst IsSome (sym (c.number_of.ensures ∙ ap (λ ms. number_in (numbers_of ms) q.0) c.deref.ensures.value ∙ n.1)) refl

pub is_placed-requires : goal.is_placed-requires
is_placed-requires c =
    let p = c.args.parts.now in
    let q = (given_as c.args.given.now).0 in
    let at : number_in (all_in p) q ≡ Some c.unwrap-number.result = sym (c.number_of.ensures ∙ ap (λ ms. number_in (numbers_of ms) q) c.deref.ensures.value) ∙ c.unwrap-number.ensures in
    let within : c.unwrap-number.result < length c.args.nodes.now = subst (λ m. c.unwrap-number.result < m) (sym c.requires.long) (c.requires.parts.parts.apart.below q c.unwrap-number.result at) in
    within

pub given_node-requires : goal.given_node-requires
given_node-requires c = (fits c.args.parts.now c.requires.parts (given_as c.args.given.now) c.requires.given).origin

pub bounds-nodes-number : goal.bounds-nodes-number
bounds-nodes-number c =
    let p = c.args.parts.now in
    let q = (given_as c.args.given.now).0 in
    let at : number_in (all_in p) q ≡ Some c.unwrap-number.result = sym (c.number_of.ensures ∙ ap (λ ms. number_in (numbers_of ms) q) c.deref.ensures.value) ∙ c.unwrap-number.ensures in
    let within : c.unwrap-number.result < length c.args.nodes.now = subst (λ m. c.unwrap-number.result < m) (sym c.requires.long) (c.requires.parts.parts.apart.below q c.unwrap-number.result at) in
    within

pub returns-clause-placed : goal.returns-clause-placed
returns-clause-placed c =
    let p = c.args.parts.now in
    let q = (given_as c.args.given.now).0 in
    let at : number_in (all_in p) q ≡ Some c.unwrap-number.result = sym (c.number_of.ensures ∙ ap (λ ms. number_in (numbers_of ms) q) c.deref.ensures.value) ∙ c.unwrap-number.ensures in
    let within : c.unwrap-number.result < length c.args.nodes.now = subst (λ m. c.unwrap-number.result < m) (sym c.requires.long) (c.requires.parts.parts.apart.below q c.unwrap-number.result at) in
    placed_more p c.requires.parts c.args.nodes.now c.unwrap-number.result c.in_ok-id.id q within at (not_some _ (sym c.is_placed.ensures ∙ c.if-is_placed.false))

pub returns-clause-signals : goal.returns-clause-signals
returns-clause-signals c =
    let p = c.args.parts.now in
    let q = given_as c.args.given.now in
    let at : number_in (all_in p) q.0 ≡ Some c.unwrap-number.result = sym (c.number_of.ensures ∙ ap (λ ms. number_in (numbers_of ms) q.0) c.deref.ensures.value) ∙ c.unwrap-number.ensures in
    let within : c.unwrap-number.result < length c.args.nodes.now = subst (λ m. c.unwrap-number.result < m) (sym c.requires.long) (c.requires.parts.parts.apart.below q.0 c.unwrap-number.result at) in
    signals_set p c.requires.parts c.args.builder.now c.given_node.new.builder c.args.nodes.now c.unwrap-number.result c.in_ok-id.id q.0 c.in_ok-id.ensures.keeps c.in_ok-id.ensures.shared within at (not_some _ (sym c.is_placed.ensures ∙ c.if-is_placed.false))
    (origin_stands p c.requires.parts c.given_node.new.builder q c.in_ok-id.id c.requires.given c.in_ok-id.ensures.stands) c.requires.signals

pub returns-clause-over : goal.returns-clause-over
returns-clause-over c =
    over_given c.args.parts.now c.requires.parts c.args.builder.now c.given_node.new.builder (given_as c.args.given.now) c.requires.given c.in_ok-id.ensures.adds c.requires.over

pub returns-then-is_placed-clause-placed : goal.returns-then-is_placed-clause-placed
returns-then-is_placed-clause-placed c =
    let p = c.args.parts.now in
    let q = (given_as c.args.given.now).0 in
    let at : number_in (all_in p) q ≡ Some c.unwrap-number.result = sym (c.number_of.ensures ∙ ap (λ ms. number_in (numbers_of ms) q) c.deref.ensures.value) ∙ c.unwrap-number.ensures in
    placed_has p c.requires.parts c.args.nodes.now c.unwrap-number.result q at (sym c.is_placed.ensures ∙ c.if-is_placed.true)
