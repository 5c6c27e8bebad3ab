use Rattle.std.proofs.Common.{◌≡◌, take}
use Rattle.dbg_core.proofs.listeners.pairs_of.Given as goal

abbrev pub invariant-loop-i : goal.invariant-loop-i
invariant-loop-i g l = l.pairs.items ≡ take l.i ((goal.Listener-dyn g (l.listener.vtable, l.listener.value)).heard l.listener.value).pairs
