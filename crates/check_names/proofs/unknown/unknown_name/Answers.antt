use Rattle.std.proofs.Common.{subst}
use Rattle.design_core.specs.View.{variant_of}
use Rattle.check_core.specs.Faults.{Tells}
use Rattle.check_core.specs.Names.{Scope, unknown_in_scope}
use Rattle.check_names.proofs.unknown.unknown_name.Goals as goal

pub returns : goal.returns
returns c = subst (λ (s : Scope). Tells c.unknown_in_scope.result (unknown_in_scope s (variant_of c.args.variant.now))) c.in_ok-scope.ensures c.unknown_in_scope.ensures
