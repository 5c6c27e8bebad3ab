-- A loop of signals, as it is told: by the paths of its signals.
use Rattle.std.specs.Prelude.{ℕ, List, [], ◌++◌, map, option_map, unwrap_or, slice_get, codes}
use Rattle.exec_core.specs.Block.{Name}
use Rattle.design_core.specs.declared.design.Instance.{Instance}
use Rattle.design_core.specs.declared.variant.Signal.{Signal}
use Rattle.design_core.specs.Design.{Design}
use Rattle.design_exec.specs.Processes.{instance_signals}
use Rattle.place_core.specs.Orders.{Pair}

-- the path of an instance; no byte where there is no such instance
abbrev pub instance_path : Design → ℕ → Name
instance_path d i = unwrap_or (option_map (λ (r : Instance). r.path) (slice_get d.instances i)) []

-- the name of a signal, which is told by the number of its instance and its place there; no byte where there is no such signal
abbrev pub signal_name : Design → Pair → Name
signal_name d pair = unwrap_or (option_map (λ (s : Signal). s.name) (slice_get (instance_signals d pair.0) pair.1)) []

-- the path of a signal: that of its instance, a dot, and its name
abbrev pub signal_path : Design → Pair → Name
signal_path d pair = instance_path d pair.0 ++ (codes "." ++ signal_name d pair)

abbrev pub signal_paths : Design → List Pair → List Name
signal_paths d pairs = map (signal_path d) pairs

-- as they stand in its line: each behind one blank
abbrev pub behind_blank : Name → List ℕ
behind_blank path = codes " " ++ path
