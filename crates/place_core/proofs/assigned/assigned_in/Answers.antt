use Rattle.std.proofs.Common.{ap}
use Rattle.design_core.specs.View.{body_of}
use Rattle.place_core.specs.Assigned.{names_at}
use Rattle.place_core.proofs.Targets.{body_names}
use Rattle.place_core.proofs.assigned.assigned_in.Goals as goal

pub returns : goal.returns
returns c = body_names c.args.clocked (body_of c.args.body.now) _ _ (ap names_at c.new-names.ensures.items) c.in_ok-put_body.ensures
