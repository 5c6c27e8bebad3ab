-- Where names are looked up.
use Rattle.gen_scope.specs.Gens.{Gens}
use Rattle.elab_base.specs.declared.names.Names.{Names}
use Rattle.elab_base.specs.declared.names.Names.TheVariants.{Scope, Params}

-- the names that have a number there
abbrev pub gens_of : Names → Gens
gens_of (Scope scope) = scope.now
gens_of (Params params) = params.now
