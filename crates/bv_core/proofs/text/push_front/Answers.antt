use Rattle.std.proofs.Common.{◌%◌, ◌/◌, ◌^◌, ◌-◌, ◌*◌, arith}
use Rattle.std.proofs.lemmas.Bool.Decides.{nat_tests}
use Rattle.bv_core.proofs.Hex.{none_more}
use Rattle.bv_core.proofs.text.push_front.Goals as goal

pub returns-then-few-eq0 : goal.returns-then-few-eq0
returns-then-few-eq0 c = none_more c.args.text.now.items (c.args.count % 4) (c.args.value / 2 ^ (4 * (c.args.count - c.args.count % 4))) (grind (arith, nat_tests, c.if-few-eq0.true))
