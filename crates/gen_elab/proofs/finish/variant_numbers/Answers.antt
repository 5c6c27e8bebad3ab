use Rattle.std.proofs.Common.{◌≡◌, ap, sym, ◌∙◌, map, take, nat_lt, length, if◌then◌else◌, ◌++◌, ◌∷◌, [], List}
use Rattle.elab_core.specs.Elaborated.{Instance}
use Rattle.elab_core.specs.View.{instance_of}
use Rattle.elab_core.specs.Design.{variants_of}
use Rattle.gen_elab.specs.Keys.{Key, key_of, key_place, numbers_of}
use Rattle.gen_elab.proofs.VariantLemmas.{code_key, one_more, keys_behind, number_behind}
use Rattle.gen_elab.proofs.finish.variant_numbers.Goals as goal

pub loop-instance-preserved : goal.loop-instance-preserved
loop-instance-preserved c =
    let so_far = map instance_of (take c.loop-instance.instance-index c.args.instances.now) in
    let x = c.instance-item.result in
    let more = one_more c.args.instances.now c.loop-instance.instance-index x x c.loop-instance-test.true c.instance-item.is in
    let key : (x.place, x.params) ≡ key_of (instance_of x) = sym (code_key x) in
    let keys = c.loop-instance.variants in
    let at = c.in_ok-number.ensures.at ∙ ap (λ (k : Key). key_place k keys) key in
    let grown = c.in_ok-number.ensures.grown ∙ ap (λ (k : Key). if nat_lt c.in_ok-number.number (length keys) then keys else keys ++ k ∷ []) key in
    record {
      keys = keys_behind so_far (instance_of x) keys c.insert.new.self c.in_ok-number.number c.loop-instance.invariant.keys at grown ∙ ap (λ (l : List Instance). map key_of (variants_of l)) (sym more);
      numbers = number_behind so_far (instance_of x) keys c.in_ok-number.number c.loop-instance.numbers.items c.push.new.self.items c.loop-instance.invariant.keys at c.loop-instance.invariant.numbers c.in_ok-push.ensures.items ∙ ap numbers_of (sym more);
    }
