use Rattle.term_net.proofs.Overs.{grown_constant}
use Rattle.term_net.proofs.node.value.Goals as goal

pub returns-clause-grown : goal.returns-clause-grown
returns-clause-grown c = grown_constant _ _ c.in_ok-id.ensures.shared c.in_ok-id.ensures.keeps _ c.in_ok-id.ensures.adds
