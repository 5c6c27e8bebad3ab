use Rattle.std.proofs.Common.{◌≡◌, drop}
use Rattle.check_core.specs.Names.{kinds_of}
use Rattle.check_core.specs.Widths.{put_signals, widths_of}
use Rattle.check_widths.specs.WidthMaps.{widths_at}
use Rattle.check_widths.proofs.maps.widths_of.Given as goal

-- those so far, with those of what is left
abbrev pub invariant-loop-signal : goal.invariant-loop-signal
invariant-loop-signal l = put_signals (kinds_of l.kinds) (drop l.signal-index l.signals) (widths_at l.widths) ≡ widths_of (kinds_of l.kinds) l.signals
