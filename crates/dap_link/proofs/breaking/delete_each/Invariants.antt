use Rattle.std.proofs.Common.{◌≡◌, [], drop}
use Rattle.machine_core.specs.Reading.{Reader, IsReader}
use Rattle.dbg_core.specs.World.{world_of}
use Rattle.dbg_core.specs.State.{machine_of}
use Rattle.dap_link.specs.Conversation.{delete_each}
use Rattle.dap_link.proofs.breaking.delete_each.Given as goal

-- what is left to be deleted is deleted behind what was deleted so far
abbrev pub invariant-loop-b : goal.invariant-loop-b
invariant-loop-b g l = record {
  table : l.session.table ≡ l.initial.session.table;
  samples : g.T.Trace.samples l.session.trace ≡ g.T.Trace.samples l.initial.session.trace;
  left : (read : Reader) → IsReader read →
      delete_each read (world_of l.initial.session.table (g.T.Trace.samples l.initial.session.trace)) l.file (drop l.b-index l.set) (machine_of l.session [])
      ≡ delete_each read (world_of l.initial.session.table (g.T.Trace.samples l.initial.session.trace)) l.file l.set (machine_of l.initial.session []);
}
