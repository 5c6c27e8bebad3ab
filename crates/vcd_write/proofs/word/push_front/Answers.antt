use Rattle.std.proofs.Common.{◌%◌, ◌/◌, ◌^◌, ◌-◌, arith}
use Rattle.std.proofs.lemmas.Bool.Decides.{nat_tests}
use Rattle.vcd_write.proofs.Binary.{none_more}
use Rattle.vcd_write.proofs.word.push_front.Goals as goal

pub returns-then-few-eq0 : goal.returns-then-few-eq0
returns-then-few-eq0 c = none_more c.args.text.now.items (c.args.count % 8) (c.args.value / 2 ^ (c.args.count - c.args.count % 8)) (grind (arith, nat_tests, c.if-few-eq0.true))
