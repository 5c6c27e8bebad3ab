use Rattle.std.proofs.Common.{◌≡◌, map, take, ap, ◌∙◌, subst}
use Rattle.std.proofs.lemmas.List.{take_all}
use Rattle.design_exec.specs.Processes.{processes_of}
use Rattle.ssa_nodes.specs.Parts.{design_in}
use Rattle.ssa_nodes.specs.Givens.{given_as}
use Rattle.ssa_nodes.proofs.GivenPlaces.{HaveNodes, have_next, next_in, all_given}
use Rattle.ssa_nodes.proofs.place.place_givens.Goals as goal

pub place_given-requires-clause-given : goal.place_given-requires-clause-given
place_given-requires-clause-given c =
    let p = c.args.parts.now in
    let items = c.deref-given-items.result.now in
    let is : map given_as items ≡ (processes_of (design_in p)).givens = ap (map given_as) c.deref-given-items.ensures.value ∙ c.in_ok-list.ensures in
    next_in p c.requires.parts items c.loop-given.given-index _ is c.loop-given-test.true

pub loop-given-preserved : goal.loop-given-preserved
loop-given-preserved c =
    let p = c.args.parts.now in
    let items = c.deref-given-items.result.now in
    record {
      long = c.in_ok-place_given.ensures.placed.long ∙ c.loop-given.invariant.long;
      signals = c.in_ok-place_given.ensures.signals;
      over = c.in_ok-place_given.ensures.over;
      have = have_next p c.loop-given.nodes c.place_given.new.nodes items c.loop-given.given-index _ c.loop-given-test.true c.in_ok-place_given.ensures.placed c.loop-given.invariant.have;
    }

pub returns-clause-given : goal.returns-clause-given
returns-clause-given c =
    let p = c.args.parts.now in
    let items = c.deref-given-items.result.now in
    let is : map given_as items ≡ (processes_of (design_in p)).givens = ap (map given_as) c.deref-given-items.ensures.value ∙ c.in_ok-list.ensures in
    let all : take c.loop-given.given-index items ≡ items = take_all _ items c.loop-given-test.false in
    all_given p c.requires.parts c.loop-given.nodes items is (subst (HaveNodes p c.loop-given.nodes) all c.loop-given.invariant.have)
