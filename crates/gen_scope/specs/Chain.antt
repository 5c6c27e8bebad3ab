-- The names that have a number at a place.
use Rattle.std.specs.Prelude.{Option, Some, None, []}
use Rattle.std.specs.Global.{Global}
use Rattle.std.specs.declared.rc.Rc.{Rc}
use Rattle.gen_scope.specs.declared.scope.Chain.{Chain}
use Rattle.gen_scope.specs.declared.scope.Chain.TheVariants.{Params, Turn'}
use Rattle.gen_scope.specs.Gens.{Gens, bound}

-- the parameters, then the loop variables from outer to inner, without those that are hidden
abbrev pub gens_of : Chain → Gens
gens_of (Params params) = params.value
gens_of (Turn' p outer x n) = bound x.value n (gens_of outer)

abbrev pub gens_in : Option (Rc Chain Global) → Gens
gens_in None = []
gens_in (Some chain) = gens_of chain.value
