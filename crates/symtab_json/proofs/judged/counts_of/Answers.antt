use Rattle.std.proofs.Common.{◌≡◌, ◌∙◌, ap, length, map, take, arith, take_all}
use Rattle.std.proofs.Math.Path.{fun_ext}
use Rattle.std.proofs.lemmas.List.{length-map}
use Rattle.std.proofs.lemmas.Grind.{common_steps}
use Rattle.symtab.specs.Places.{places}
use Rattle.symtab.proofs.Grouped.{length-places}
use Rattle.symtab_json.proofs.Counted.{counted_more}
use Rattle.symtab_json.proofs.judged.counts_of.Goals as goal

pub overflow_add-before : goal.overflow_add-before
overflow_add-before c =
    let variants = map (λ instance. instance.variant) c.args.instances.now in
    let here = c.loop-instance.instance-index in
    let key = c.instance-item.result.variant in
    let told : c.unwrap_or-before.result ≡ length (places key (take here variants)) = grind (arith, common_steps, c.loop-instance.invariant key) in
    omega (arith, told, length-places key here variants, length-map c.args.instances.now (λ instance. instance.variant))

pub loop-instance-preserved : goal.loop-instance-preserved
loop-instance-preserved c = λ number.
    let variants = map (λ instance. instance.variant) c.args.instances.now in
    grind (arith, common_steps, counted_more number variants c.loop-instance.instance-index, c.loop-instance.invariant number)

pub returns : goal.returns
returns c = fun_ext (λ number. c.loop-instance.invariant number ∙ ap (λ xs. length (places number xs)) (take_all _ _ (omega (arith, length-map c.args.instances.now (λ instance. instance.variant)))))
