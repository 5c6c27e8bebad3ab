use Rattle.std.proofs.Common.{◌≡◌, false, map, option_map}
use Rattle.dbg_core.specs.World.{world_of}
use Rattle.dbg_core.specs.State.{machine_of}
use Rattle.duo_run.specs.Desks.{HasRoom}
use Rattle.duo_run.proofs.Serving.{Going}
use Rattle.duo_run.proofs.lockstep.serve_lockstep.Given as goal

abbrev pub invariant-loop : goal.invariant-loop
invariant-loop g l = record {
  table : l.session.table ≡ l.fn.session.table;
  samples : g.T.Trace.samples l.session.trace ≡ g.T.Trace.samples l.fn.session.trace;
  going : Going (world_of l.fn.session.table (g.T.Trace.samples l.fn.session.trace))
      (machine_of l.fn.session (map (option_map (λ b. (goal.Listener-dyn g (b.vtable, b.value)).heard b.value)) l.fn.listeners.boxes.items))
      (g.L.Link.meaning l.fn.link) (g.L.Link.meaning l.desk.outlet.link) l.desk
      (machine_of l.session (map (option_map (λ b. (goal.Listener-dyn g (b.vtable, b.value)).heard b.value)) l.listeners.boxes.items));
  usable : (g.L.Link.meaning l.desk.outlet.link).shut ≡ false;
  room : HasRoom l.desk;
}
