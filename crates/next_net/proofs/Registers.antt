-- The registers that a design gives are those that the code lists.
use Rattle.std.proofs.Common.{◌≡◌, ℕ, Bool, true, false, cond, List, [], ◌∷◌, map, refl}
use Rattle.std.specs.Prelude.{filter}
use Rattle.tree_core.specs.Tree.{Leaf, Input}
use Rattle.exec_core.specs.Block.{Name}
use Rattle.exec_core.specs.Whole.{Place}
use Rattle.design_core.specs.declared.variant.Signal.{Signal}
use Rattle.design_core.specs.declared.variant.Kind.{Kind}
use Rattle.design_core.specs.declared.variant.Kind.TheVariants as kind
use Rattle.design_core.specs.Design as design
use Rattle.design_exec.specs.Processes.{Given, Numbered, is_top, given_by, givens_at, instances_of, processes_of, signals_in}
use Rattle.design_core.specs.Widths.{bits}
use Rattle.net_core.specs.Nets.{is_register}
use Rattle.next_net.specs.Registers.{register_by, registers_at, registers_of}
use Rattle.next_net.proofs.Picking.{picked_flat}

-- whether what is given is a register
abbrev pub gives_register : Given → Bool
gives_register given = is_register (Leaf given.1)

abbrev given_place : Given → Place
given_place given = given.0

abbrev pub registers_in : design.Design → List Given
registers_in d = filter gives_register (processes_of d).givens

of_signal : (i : Numbered) (x : Name) (w : ℕ) (k : Kind) → map given_place (filter gives_register (given_by i x w k)) ≡ register_by i.0 x k
of_signal i x w kind.Input = by_top (is_top i)
  where
    by_top : (b : Bool) → map given_place (filter gives_register (cond b ((record { instance = i.0; name = x }, Input x w) ∷ []) [])) ≡ []
    by_top true = refl
    by_top false = refl
of_signal i x w kind.Output = refl
of_signal i x w kind.Wire = refl
of_signal i x w (kind.Reg start) = refl
of_signal i x w (kind.ChildOut k q) = refl

of_instance : (d : design.Design) (i : Numbered) → map given_place (filter gives_register (givens_at d i)) ≡ registers_at d i
of_instance d i = picked_flat given_place gives_register (λ (s : Signal). given_by i s.name (bits s.width) s.kind) (λ (s : Signal). register_by i.0 s.name s.kind) (λ s. of_signal i s.name (bits s.width) s.kind) (signals_in d i.1.variant)

pub registers_given : (d : design.Design) → map given_place (registers_in d) ≡ registers_of d
registers_given d = picked_flat given_place gives_register (givens_at d) (registers_at d) (of_instance d) (instances_of d)
