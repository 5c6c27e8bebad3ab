use Rattle.design_core.specs.DesignView.{design_of}
use Rattle.design_judge.proofs.PortsFit.{top_fits}
use Rattle.design_judge.proofs.accepted.Accepted.new.Goals as goal

pub ports_of-requires : goal.ports_of-requires
ports_of-requires c = top_fits (design_of c.args.design) (record { kept = c.args.design.kept; accepted = c.requires.clean })
