use Rattle.term_net.proofs.Overs.{grown_mux}
use Rattle.term_net.proofs.node.choice.Goals as goal

pub returns-clause-grown : goal.returns-clause-grown
returns-clause-grown c =
    grown_mux _ _ c.in_ok-id.ensures.shared c.in_ok-id.ensures.keeps c.args.c.0 c.args.a.0 c.args.b.0 c.requires.condition c.requires.first c.requires.second c.in_ok-id.ensures.adds
