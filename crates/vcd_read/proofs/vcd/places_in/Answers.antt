use Rattle.std.proofs.Common.{◌≡◌, ◌<◌, ◌++◌, ◌∷◌, [], length, get_or, false, refl}
use Rattle.std.specs.Prelude.{if◌then◌else◌}
use Rattle.std.proofs.lemmas.Option.{get_or_from_slice_get, slice_get_within}
use Rattle.vcd_read.specs.Nesting.{Numbered, numbered}
use Rattle.vcd_read.proofs.PlaceLemmas.{places-step}
use Rattle.vcd_read.proofs.vcd.places_in.Goals.{then-marks-var+in_ok-push, else-marks-var}
use Rattle.vcd_read.proofs.vcd.places_in.Goals as goal

pub loop-i-preserved : goal.loop-i-preserved
loop-i-preserved c =
    let vars = c.args.vars.now in
    let marks = c.args.marks.now in
    let i = c.loop-i.i in
    let one : Numbered = numbered c.var-var.result in
    let here : get_or vars i one ≡ one = get_or_from_slice_get vars i one one c.var-var.ensures in
    let below : i < length vars = slice_get_within vars i one c.var-var.ensures in
    let step = places-step (λ (var : Numbered). get_or marks var.scope false) vars c.loop-i.places.items _ i one below c.loop-i.invariant in
    let same : c.if-marks-var.places.items ≡ (if get_or marks (get_or vars i one).scope false then c.loop-i.places.items ++ i ∷ [] else c.loop-i.places.items) =
    rw here (elim c.if-marks-var.branch [
      | then-marks-var+in_ok-push w ↦ rw (w.places-is, w.if-marks-var.true) w.in_ok-push.ensures.items
      | else-marks-var w ↦ rw (w.places-is, w.if-marks-var.false) refl
    ]) in
    rw same step
