-- The ports of a design.
use Rattle.std.specs.Prelude.{ℕ, ℤ, pos, int_le, Bool, true, false, List, [], ◌∷◌, ◌++◌, nat_le, ◌&&◌, if◌then◌else◌}
use Rattle.std.specs.List.{list_all}
use Rattle.design_core.specs.declared.variant.Signal.{Signal}
use Rattle.design_core.specs.declared.variant.Kind.{Kind}
use Rattle.design_core.specs.declared.variant.Kind.TheVariants.{Input, Output, Wire, Reg, ChildOut}
use Rattle.gen_token.specs.Spelling.{is_name}
use Rattle.exec_core.specs.Block.{Name}
use Rattle.design_core.specs.Design.{Design}
use Rattle.design_core.specs.WellFormed.{signals_at}
use Rattle.design_core.specs.Widths.{bits}

-- a port with its name: its width is from 1 to 128
abbrev pub has_width : List ℕ × ℕ → Bool
has_width port = nat_le 1 port.1 && nat_le port.1 128

-- a port with its width: its name is a name of the language
abbrev pub has_name : List ℕ × ℕ → Bool
has_name port = is_name port.0

-- so is that of a module, and of each of its inputs and outputs
abbrev pub have_names : List ℕ → List (List ℕ × ℕ) → List (List ℕ × ℕ) → Bool
have_names top inputs outputs = is_name top && list_all has_name inputs && list_all has_name outputs

-- an output, or else an input
abbrev pub is_port : Bool → Kind → Bool
is_port output Input = if output then false else true
is_port output Output = output
is_port output Wire = false
is_port output (Reg start) = false
is_port output (ChildOut k port) = false

-- a signal that is an output, or else an input, with its width
abbrev pub one_port : Bool → Signal → List (Name × ℕ)
one_port output s = if is_port output s.kind then (s.name, bits s.width) ∷ [] else []

-- the outputs among signals, or else the inputs, in order
abbrev pub ports_in : Bool → List Signal → List (Name × ℕ)
ports_in output [] = []
ports_in output (s ∷ signals) = one_port output s ++ ports_in output signals

-- from 1 to 128
abbrev pub is_width : ℤ → Bool
is_width w = int_le (pos 1) w && int_le w (pos 128)

-- so it is of a signal that is a port
abbrev pub fits : Signal → Kind → Bool
fits s Input = is_width s.width
fits s Output = is_width s.width
fits s Wire = true
fits s (Reg start) = true
fits s (ChildOut k port) = true

abbrev pub all_fit : List Signal → Bool
all_fit [] = true
all_fit (s ∷ signals) = fits s s.kind && all_fit signals

-- the signals of the top, which is of variant 0
abbrev pub top_signals : Design → List Signal
top_signals d = signals_at 0 d.variants
