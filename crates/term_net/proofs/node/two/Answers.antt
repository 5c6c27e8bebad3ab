use Rattle.term_net.proofs.Overs.{grown_two}
use Rattle.term_net.proofs.node.two.Goals as goal

pub returns-clause-grown : goal.returns-clause-grown
returns-clause-grown c =
    grown_two _ _ c.in_ok-id.ensures.shared c.in_ok-id.ensures.keeps c.args.op c.args.a.0 c.args.b.0 c.requires.left c.requires.right c.in_ok-id.ensures.adds
