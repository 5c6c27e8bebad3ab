use Rattle.std.proofs.Common.{◌^◌, ◌≤◌, ◌<◌, ◌-◌, ◌*◌, ◌/◌, ◌∙◌, ◌++◌, ◌∷◌, [], refl, sym, arith, ap, List, ℕ, append_assoc, ◌≡◌}
use Rattle.std.proofs.lemmas.Bool.Decides.{nat_tests}
use Rattle.vcd_text.specs.Dump.{binary_digits}
use Rattle.vcd_write.proofs.Binary.{all_eights, no_eights, more_eight}
use Rattle.vcd_write.proofs.word.push_binary.Goals as goal

pub loop-place-init : goal.loop-place-init
loop-place-init c = c.in_ok-push_front.ensures ∙ ap (λ (l : List ℕ). c.args.text.now.items ++ l) (all_eights c.args.count c.args.value)

pub loop-place-preserved : goal.loop-place-preserved
loop-place-preserved c =
    let some : 0 < c.loop-place.place = grind (arith, nat_tests, c.loop-place-test.true) in
    let within : 8 * c.loop-place.place ≤ c.args.count = omega (arith, c.loop-place.auto.place) in
    c.in_ok-push_eight.ensures ∙ rw (c.loop-place.invariant, more_eight c.args.count c.args.value (c.loop-place.place - 1) c.loop-place.place some refl within, append_assoc) refl

pub returns : goal.returns
returns c =
    let none : c.loop-place.place ≡ 0 = grind (arith, nat_tests, c.loop-place-test.false) in
    c.loop-place.invariant ∙ ap (λ p. c.args.text.now.items ++ binary_digits (c.args.count - 8 * p) (c.args.value / 2 ^ (8 * p))) none ∙ ap (λ (l : List ℕ). c.args.text.now.items ++ l) (no_eights c.args.count c.args.value)
