use Rattle.std.proofs.Common.{rules, ◌≡◌, ◌==◌, ◌<◌, ◌≤◌, ◌∙◌, false, Some, Option, List, length, get_or, slice_get, refl, sym, ap, subst}
use Rattle.std.specs.Option.{option_map_or}
use Rattle.std.proofs.lemmas.Option.{slice_get_read}
use Rattle.symtab.specs.declared.parts.InstanceParts.{InstanceParts}
use Rattle.slot_sched.proofs.Wanted.{instance_stands, no_instance}
use Rattle.slot_sched.proofs.search.has_instance.Goals as goal

pub returns-in-Some : goal.returns-in-Some
returns-in-Some c =
    let all : c.items.result.now ≡ c.args.table.now.instances = c.items.ensures ∙ ap (λ p. p.instances) c.parts.ensures.parts in
    let within : c.args.instance < length c.items.result.now = search rules in
    let read : c.in-Some.found.now ≡ get_or c.items.result.now c.args.instance c.in-Some.found.now = search rules in
    let there : slice_get c.args.table.now.instances c.args.instance ≡ Some c.in-Some.found.now =
    subst (λ (l : List InstanceParts). slice_get l c.args.instance ≡ Some c.in-Some.found.now) all
    (slice_get_read c.items.result.now (length c.items.result.now) c.args.instance c.in-Some.found.now refl within read) in
    sym (instance_stands c.args.table.now c.args.slot c.args.instance c.slot.result.now c.slot.ensures
    ∙ ap (λ (o : Option InstanceParts). option_map_or (λ (it : InstanceParts). it.variant == c.slot.result.now.variant) o false) there)

pub returns-in-None : goal.returns-in-None
returns-in-None c =
    let all : c.items.result.now ≡ c.args.table.now.instances = c.items.ensures ∙ ap (λ p. p.instances) c.parts.ensures.parts in
    let past : length c.items.result.now ≤ c.args.instance = search rules in
    sym (no_instance c.args.table.now c.args.slot c.args.instance (subst (λ (l : List InstanceParts). length l ≤ c.args.instance) all past))
