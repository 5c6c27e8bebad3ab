use Rattle.std.proofs.Common.{◌≡◌, ◌∙◌, ◌<◌, Some, length, sym, ap, rules}
use Rattle.gen_tree.specs.View.{lent_of}
use Rattle.elab_core.specs.Elab.{places}
use Rattle.elab_walk.specs.Modules.{LeadsTo, sole}
use Rattle.elab_walk.proofs.Placed.{named_at, named_within}
use Rattle.elab_walk.proofs.modules.Modules.named.Goals as goal

leads : (c : goal.In-Some-Some) → sole (places c.args.name.now 0 (lent_of c.args.self.now.all.now)) ≡ Some (Some c.in-Some-Some.place)
leads c =
    let known : LeadsTo c.args.self.now.by_name.entries (lent_of c.args.self.now.all.now) = c.args.self.now.leads in
    sym (known c.args.name.now) ∙ sym c.get.ensures.value ∙ sym c.copied.ensures ∙ c.in-Some-Some.is ∙ ap (λ o. Some o) c.in-Some-Some.field-0-is

pub bounds-self-place : goal.bounds-self-place
bounds-self-place c = named_within c.args.name.now c.args.self.now.all.now c.in-Some-Some.place (leads c)

pub offset_bounds-self-place : goal.offset_bounds-self-place
offset_bounds-self-place c =
    let within : c.in-Some-Some.place < length c.args.self.now.all.now = named_within c.args.name.now c.args.self.now.all.now c.in-Some-Some.place (leads c) in search rules

pub returns-in-Some-Some : goal.returns-in-Some-Some
returns-in-Some-Some c =
    let known : LeadsTo c.args.self.now.by_name.entries (lent_of c.args.self.now.all.now) = c.args.self.now.leads in
    (named_at c.args.line c.args.name.now c.args.self.now.all.now c.index-self-place.result c.in-Some-Some.place
    (sym (known c.args.name.now) ∙ sym c.get.ensures.value ∙ sym c.copied.ensures ∙ c.in-Some-Some.is ∙ ap (λ o. Some o) c.in-Some-Some.field-0-is)).1
