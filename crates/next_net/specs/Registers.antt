-- The registers of a design, as the code lists them.
use Rattle.std.specs.Prelude.{ℕ, List, [], ◌∷◌}
use Rattle.std.specs.List.{flat_map}
use Rattle.exec_core.specs.Block.{Name}
use Rattle.exec_core.specs.Whole.{Place}
use Rattle.exec_core.specs.Design.{place}
use Rattle.design_core.specs.declared.variant.Signal.{Signal}
use Rattle.design_core.specs.declared.variant.Kind.{Kind}
use Rattle.design_core.specs.declared.variant.Kind.TheVariants as kind
use Rattle.design_core.specs.Design as design
use Rattle.design_exec.specs.Processes.{Numbered, instances_of, signals_in}
use Rattle.next_net.specs.declared.register.Register as code

-- a signal of an instance, if it is a register
abbrev pub register_by : ℕ → Name → Kind → List Place
register_by i x kind.Input = []
register_by i x kind.Output = []
register_by i x kind.Wire = []
register_by i x (kind.Reg start) = place i x ∷ []
register_by i x (kind.ChildOut k q) = []

abbrev pub registers_at : design.Design → Numbered → List Place
registers_at d i = flat_map (λ (s : Signal). register_by i.0 s.name s.kind) (signals_in d i.1.variant)

-- the registers of a design, instance by instance
abbrev pub registers_of : design.Design → List Place
registers_of d = flat_map (registers_at d) (instances_of d)

abbrev pub register_as : code.Register → Place
register_as r = place r.instance r.name.now
