use Rattle.std.proofs.Common.{◌++◌, arith}
use Rattle.vcd_text.specs.Dump.{code_text}
use Rattle.vcd_write.proofs.Pieces.{code_next}
use Rattle.vcd_write.proofs.word.push_code.Goals as goal

pub loop-rest-preserved : goal.loop-rest-preserved
loop-rest-preserved c =
    code_next c.loop-rest.text.items c.push.new.self.items (c.args.text.now.items ++ code_text c.args.number) c.loop-rest.rest (omega arith) c.in_ok-push.ensures.items c.loop-rest.invariant
