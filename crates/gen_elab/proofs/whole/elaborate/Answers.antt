use Rattle.std.proofs.Common.{length, map, List, Result, ap, sym, ◌∙◌, subst}
use Rattle.std.specs.Borrow.{Bor}
use Rattle.std.proofs.lemmas.List.{length-map}
use Rattle.gen_tree.specs.declared.Module as code_module
use Rattle.gen_tree.specs.View.{sources_of, module_of, lent_of}
use Rattle.design_core.specs.Design.{Design}
use Rattle.design_core.specs.DesignView.{design_of}
use Rattle.design_core.specs.WellFormed.{IsDesign}
use Rattle.elab_core.specs.Design.{designed}
use Rattle.elab_core.specs.Walk.{Fault}
use Rattle.elab_core.specs.View.{instance_of}
use Rattle.elab_core.specs.Results.{Answers}
use Rattle.gen_elab.specs.Offsets.{places_below}
use Rattle.gen_elab.specs.Finished.{finished}
use Rattle.gen_elab.proofs.ElaborateLemmas.{small_walk, kept_walk, then_files}
use Rattle.gen_elab.proofs.whole.elaborate.Goals as goal

pub finish-requires-clause-few : goal.finish-requires-clause-few
finish-requires-clause-few c =
    let all = map instance_of c.in_ok-instances.instances.items in
    let small = small_walk (lent_of c.deref.result.now) c.args.top.now c.params.result.now all c.in_ok-instances.ensures in
    rw (sym (length-map c.in_ok-instances.instances.items instance_of)) small.instances

pub finish-requires-clause-small : goal.finish-requires-clause-small
finish-requires-clause-small c =
    (small_walk (lent_of c.deref.result.now) c.args.top.now c.params.result.now (map instance_of c.in_ok-instances.instances.items) c.in_ok-instances.ensures).statements

pub finish-requires-clause-places : goal.finish-requires-clause-places
finish-requires-clause-places c =
    let all = map instance_of c.in_ok-instances.instances.items in
    let small = small_walk (lent_of c.deref.result.now) c.args.top.now c.params.result.now all c.in_ok-instances.ensures in
    let long = length-map c.deref.result.now (λ (m : Bor code_module.Module). module_of m.now) ∙ ap (λ (l : List (Bor code_module.Module)). length l) (c.deref.ensures.value ∙ sym c.deref-2.ensures.value) in
    ap (λ n. places_below n all) (sym long) ∙ small.places

pub finish-requires-clause-kept : goal.finish-requires-clause-kept
finish-requires-clause-kept c fit =
    let all = map instance_of c.in_ok-instances.instances.items in
    let lent = ap lent_of c.deref.ensures.value ∙ c.in_ok-modules.ensures in
    let kept = kept_walk (sources_of c.args.sources.now) (lent_of c.deref.result.now) c.args.top.now c.params.result.now all lent c.requires c.params.ensures.in_range c.in_ok-instances.ensures fit in
    subst (λ (l : List (Bor code_module.Module)). IsDesign (designed (lent_of l) c.args.top.now all)) (c.deref.ensures.value ∙ sym c.deref-2.ensures.value) kept

pub returns : goal.returns
returns c =
    let all = map instance_of c.in_ok-instances.instances.items in
    let lent = ap lent_of c.deref.ensures.value ∙ c.in_ok-modules.ensures in
    let modules = ap (λ (l : List (Bor code_module.Module)). finished (lent_of l) c.args.top.now all) (c.deref-2.ensures.value ∙ sym c.deref.ensures.value) in
    let same = then_files (sources_of c.args.sources.now) (lent_of c.deref.result.now) c.args.top.now c.args.given.now c.params.result.now all lent c.params.ensures.listed c.in_ok-instances.ensures in
    let P : Result Design Fault → Type 0 = Answers (λ d. design_of d) c.finish.result in
    subst P (modules ∙ sym same) c.finish.ensures
