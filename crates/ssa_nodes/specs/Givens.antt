-- What is given in a design, as the code lists it.
use Rattle.std.specs.Prelude.{ℕ, List, [], ◌∷◌, ◌==◌, if◌then◌else◌}
use Rattle.tree_core.specs.Tree.{Origin, Input, Register}
use Rattle.exec_core.specs.Block.{Name}
use Rattle.exec_core.specs.Design.{place}
use Rattle.design_core.specs.declared.variant.Signal.{Signal}
use Rattle.design_core.specs.declared.variant.Kind.{Kind}
use Rattle.design_core.specs.declared.variant.Kind.TheVariants as kind
use Rattle.design_exec.specs.Processes.{Given as the_given, value_of}
use Rattle.design_core.specs.Widths.{bits}
use Rattle.ssa_nodes.specs.declared.given.Given as code_given
use Rattle.ssa_nodes.specs.declared.given.GivenSource as code_source
use Rattle.ssa_nodes.specs.declared.given.GivenSource.TheVariants as source

-- what whole trees call it
abbrev pub origin_as : Name → code_source.GivenSource → Origin
origin_as x (source.Input w) = Input x (bits w)
origin_as x (source.Register path start) = Register path.now x (value_of start.now)

abbrev pub given_as : code_given.Given → the_given
given_as g = (place g.instance g.name.now, origin_as g.name.now g.source)

-- an input of the instance of this number, as one that is given
abbrev pub input_of : ℕ → Signal → List the_given
input_of i s = (place i s.name, Input s.name (bits s.width)) ∷ []

-- what a signal of an instance of this number and path gives
abbrev pub given_if : ℕ → Name → Signal → Kind → List the_given
given_if i path s kind.Input = if i == 0 then input_of i s else []
given_if i path s kind.Output = []
given_if i path s kind.Wire = []
given_if i path s (kind.Reg start) = (place i s.name, Register path s.name (value_of start)) ∷ []
given_if i path s (kind.ChildOut k q) = []

abbrev pub given_of : ℕ → Name → Signal → List the_given
given_of i path s = given_if i path s s.kind
