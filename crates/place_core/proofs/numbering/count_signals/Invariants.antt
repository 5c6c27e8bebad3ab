use Rattle.std.proofs.Common.{◌≡◌, drop}
use Rattle.names.specs.Maps.{value_of}
use Rattle.place_core.specs.Numbering.{count_signals}
use Rattle.place_core.proofs.numbering.count_signals.Given as goal

abbrev pub invariant-loop-place : goal.invariant-loop-place
invariant-loop-place l =
    count_signals l.instance l.place (drop l.place l.signals) (value_of l.numbers, l.pairs.items) ≡ count_signals l.instance 0 l.signals (value_of l.initial.numbers, l.initial.pairs.items)
