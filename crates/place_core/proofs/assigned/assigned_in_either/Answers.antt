use Rattle.std.proofs.Common.{ap}
use Rattle.design_core.specs.View.{body_of, else_of}
use Rattle.place_core.specs.Assigned.{names_at}
use Rattle.place_core.proofs.Targets.{either_names}
use Rattle.place_core.proofs.assigned.assigned_in_either.Goals as goal

pub returns : goal.returns
returns c = either_names c.args.clocked (body_of c.args.yes.now) (else_of c.args.no.now) _ _ _ (ap names_at c.new-names.ensures.items) c.in_ok-put_body.ensures c.in_ok-put_else.ensures
