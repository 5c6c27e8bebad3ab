use Rattle.std.proofs.Common.{◌≤◌, ◌<◌, ◌-◌, ◌∙◌, ◌++◌, ◌∷◌, [], refl, arith, ap, append_assoc}
use Rattle.vcd_text.proofs.Digits.{no_binary, more_binary}
use Rattle.vcd_write.proofs.word.push_digits.Goals as goal

pub loop-place-init : goal.loop-place-init
loop-place-init c = no_binary _ c.args.count _

pub loop-place-preserved : goal.loop-place-preserved
loop-place-preserved c =
    let some : 0 < c.loop-place.place = omega arith in
    let within : c.loop-place.place ≤ c.args.count = omega arith in
    c.in_ok-push.ensures.items ∙ rw (c.loop-place.invariant, more_binary c.args.count c.args.value (c.loop-place.place - 1) c.loop-place.place some refl within, append_assoc) refl
