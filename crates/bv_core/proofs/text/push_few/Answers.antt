use Rattle.std.proofs.Common.{◌≤◌, ◌<◌, ◌-◌, ◌∙◌, refl, arith, append_assoc}
use Rattle.bv_core.proofs.Hex.{no_digits, one_more}
use Rattle.bv_core.proofs.text.push_few.Goals as goal

pub loop-place-init : goal.loop-place-init
loop-place-init c = no_digits _ c.args.count _

pub loop-place-preserved : goal.loop-place-preserved
loop-place-preserved c =
    let some : 0 < c.loop-place.place = omega arith in
    let within : c.loop-place.place ≤ c.args.count = omega arith in
    c.in_ok-push.ensures.items
    ∙ rw (c.byte_of.ensures, c.loop-place.invariant, one_more c.args.count c.args.value (c.loop-place.place - 1) c.loop-place.place some refl within, append_assoc) refl
