use Rattle.term_net.proofs.Overs.{grown_one}
use Rattle.term_net.proofs.node.one.Goals as goal

pub returns-clause-grown : goal.returns-clause-grown
returns-clause-grown c = grown_one _ _ c.in_ok-id.ensures.shared c.in_ok-id.ensures.keeps c.args.op c.args.a.0 c.requires.operand c.in_ok-id.ensures.adds
