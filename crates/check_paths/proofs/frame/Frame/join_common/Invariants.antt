use Rattle.std.proofs.Common.{◌≡◌, ◌&&◌, map}
use Rattle.names.specs.Known.{has}
use Rattle.check_paths.specs.Frames.{bits_of, both, either}
use Rattle.check_paths.proofs.frame.Frame.join_common.Given as goal

-- what was put in and what is left give what all give
abbrev pub invariant-loop-name : goal.invariant-loop-name
invariant-loop-name l =
    either (bits_of l.self) (λ y i. has (map (λ e. e.0.items) l.name-iterator) y && both (bits_of l.first) (bits_of l.second) y i)
    ≡ either (bits_of l.initial.self) (both (bits_of l.first) (bits_of l.second))
