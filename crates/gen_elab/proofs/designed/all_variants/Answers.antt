use Rattle.std.proofs.Common.{ap, sym, ◌∙◌, map, length}
use Rattle.std.proofs.lemmas.List.{length-map}
use Rattle.std.specs.Vec.Iter.{into_iter_items}
use Rattle.gen_tree.specs.View.{lent_of}
use Rattle.elab_core.specs.View.{instance_of}
use Rattle.elab_core.specs.Design.{name_at}
use Rattle.gen_elab.proofs.OffsetLemmas.{code_place}
use Rattle.gen_elab.proofs.DesignLemmas.{slot_here, fits_here, variant_turn, rest_turn}
use Rattle.gen_elab.proofs.designed.all_variants.Goals as goal

pub variant-requires-clause-slots : goal.variant-requires-clause-slots
variant-requires-clause-slots c =
    let all = map instance_of c.args.firsts.items in
    let left = into_iter_items c.loop-first.first-iterator in
    let rest = into_iter_items c.next.new.self in
    let count = sym (length-map c.args.firsts.items instance_of) in
    let slot = slot_here all c.args.slots.now c.loop-first.index (length c.args.firsts.items) left rest c.in-Some.first c.loop-first.invariant.rest c.in-Some.ensures.steps.0 count c.requires.slots in
    fits_here all c.loop-first.index _ left rest c.in-Some.first c.loop-first.invariant.rest c.in-Some.ensures.steps.0 slot c.requires.small

pub loop-first-preserved : goal.loop-first-preserved
loop-first-preserved c =
    let all = map instance_of c.args.firsts.items in
    let left = into_iter_items c.loop-first.first-iterator in
    let rest = into_iter_items c.next.new.self in
    let count = sym (length-map c.args.firsts.items instance_of) in
    let slot = slot_here all c.args.slots.now c.loop-first.index (length c.args.firsts.items) left rest c.in-Some.first c.loop-first.invariant.rest c.in-Some.ensures.steps.0 count c.requires.slots in
    let name = c.in_ok-name.ensures ∙ ap (λ p. name_at p (lent_of c.args.modules.now)) (sym (code_place c.in-Some.first)) in
    record {
      rest = rest_turn all c.loop-first.index left rest c.in-Some.first c.loop-first.invariant.rest c.in-Some.ensures.steps.0;
      made = variant_turn (lent_of c.args.modules.now) all c.args.variants.now c.loop-first.made.items c.push.new.self.items left rest _ c.in-Some.first c.in_ok-variant.variant c.in_ok-name.name c.loop-first.index _
          c.in-Some.ensures.steps.0 c.in_ok-push.ensures.items c.requires.variants name slot c.in_ok-variant.ensures c.loop-first.invariant.made;
    }
