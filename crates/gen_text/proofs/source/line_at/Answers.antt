use Rattle.std.proofs.Common.{◌-◌, length, arith}
use Rattle.gen_text.proofs.Answers.{item_line}
use Rattle.gen_text.proofs.source.line_at.Goals as goal

pub returns : goal.returns
returns c = item_line c.args.tokens.now (length c.args.tokens.now - c.args.left) _ c.args.end (omega (arith, c.if-left-eq0.false, c.requires))
