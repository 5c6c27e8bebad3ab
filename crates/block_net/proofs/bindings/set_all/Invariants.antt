use Rattle.std.proofs.Common.{take}
use Rattle.names.specs.Maps.{value_of}
use Rattle.name_widths.specs.DeclaredWidths.{width_at}
use Rattle.block_net.specs.Terms.{Extends}
use Rattle.block_net.specs.Walks.{Fits, SetsAll, Shows}
use Rattle.block_net.proofs.bindings.set_all.Given as goal

-- those so far are set
abbrev pub invariant-loop-binding : goal.invariant-loop-binding
invariant-loop-binding l = record {
  fits : Fits l.walk;
  shows : Shows (width_at (value_of l.widths)) l.walk;
  terms : Extends l.initial.walk.terms l.walk.terms;
  set : SetsAll (width_at (value_of l.widths)) (take l.binding-index l.bindings) l.initial.walk l.walk;
}
