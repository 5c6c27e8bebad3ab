use Rattle.std.proofs.Common.{◌≡◌, map, option_map}
use Rattle.machine_core.specs.Journal.{until_idle}
use Rattle.dbg_core.specs.World.{world_of}
use Rattle.dbg_core.specs.State.{machine_of}
use Rattle.dbg_core.proofs.Settling.{left_of}
use Rattle.dbg_core.proofs.session.Session.settle.Given as goal

abbrev pub invariant-loop-turned : goal.invariant-loop-turned
invariant-loop-turned g l = record {
  table : l.self.table ≡ l.fn.self.table;
  samples : g.T.Trace.samples l.self.trace ≡ g.T.Trace.samples l.fn.self.trace;
  left : until_idle (world_of l.fn.self.table (g.T.Trace.samples l.fn.self.trace)) (machine_of l.self (map (option_map (λ b. (goal.Listener-dyn g (b.vtable, b.value)).heard b.value)) l.listeners.boxes.items))
      ≡ until_idle (world_of l.fn.self.table (g.T.Trace.samples l.fn.self.trace)) (machine_of l.fn.self (map (option_map (λ b. (goal.Listener-dyn g (b.vtable, b.value)).heard b.value)) l.fn.listeners.boxes.items));
}

abbrev pub decreases-loop-turned : goal.decreases-loop-turned
decreases-loop-turned g l = left_of (world_of l.fn.self.table (g.T.Trace.samples l.fn.self.trace)) l.self.motion l.self.place
