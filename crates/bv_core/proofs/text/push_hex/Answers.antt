use Rattle.std.proofs.Common.{◌≡◌, ◌≤◌, ◌<◌, ◌-◌, ◌*◌, ◌/◌, ◌^◌, ◌∙◌, ◌++◌, refl, arith, ap, List, ℕ, append_assoc}
use Rattle.std.proofs.lemmas.Bool.Decides.{nat_tests}
use Rattle.bv_core.specs.Text.{hex_digits}
use Rattle.bv_core.proofs.Hex.{all_fours, no_fours, more_four}
use Rattle.bv_core.proofs.text.push_hex.Goals as goal

pub loop-place-init : goal.loop-place-init
loop-place-init c = c.in_ok-push_front.ensures ∙ ap (λ (l : List ℕ). c.args.text.now.items ++ l) (all_fours c.args.count c.args.value)

pub loop-place-preserved : goal.loop-place-preserved
loop-place-preserved c =
    let some : 0 < c.loop-place.place = grind (arith, nat_tests, c.loop-place-test.true) in
    let within : 4 * c.loop-place.place ≤ c.args.count = omega (arith, c.loop-place.auto.place) in
    c.in_ok-push_four.ensures ∙ rw (c.loop-place.invariant, more_four c.args.count c.args.value (c.loop-place.place - 1) c.loop-place.place some refl within, append_assoc) refl

pub returns : goal.returns
returns c =
    let none : c.loop-place.place ≡ 0 = grind (arith, nat_tests, c.loop-place-test.false) in
    c.loop-place.invariant ∙ ap (λ p. c.args.text.now.items ++ hex_digits (c.args.count - 4 * p) (c.args.value / 2 ^ (16 * p))) none ∙ ap (λ (l : List ℕ). c.args.text.now.items ++ l) (no_fours c.args.count c.args.value)
