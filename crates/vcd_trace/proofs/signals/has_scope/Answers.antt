use Rattle.vcd_trace.proofs.Finding.{scope_is}
use Rattle.vcd_trace.proofs.signals.has_scope.Goals as goal

pub returns : goal.returns
returns c = scope_is c.has_scope.result c.args.vcd.now.scopes c.args.scope.now c.has_scope.ensures
