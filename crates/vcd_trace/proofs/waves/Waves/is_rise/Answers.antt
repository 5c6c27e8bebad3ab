use Rattle.std.proofs.Common.{ℕ, ◌+◌, subst, arith}
use Rattle.std.proofs.lemmas.Grind.{common_steps}
use Rattle.vcd_trace.specs.Kept.{Divides}
use Rattle.vcd_trace.proofs.Times.{up_to_before}
use Rattle.vcd_trace.proofs.waves.Waves.is_rise.Goals as goal

pub returns-then-is_number : goal.returns-then-is_number
returns-then-is_number c =
    let now = c.value_behind.ensures c.args.time c.requires.front in
    let divides = subst (λ (t : ℕ). Divides c.args.self.now.changes c.args.places.now (t + 1) c.passed-next.result) c.from.ensures c.passed-next.ensures in
    let then = c.value_behind-then-is_number.ensures (c.args.time + 1) divides in
    let same = up_to_before c.args.time c.args.self.now.changes in
    grind (arith, common_steps, now, then, same)
