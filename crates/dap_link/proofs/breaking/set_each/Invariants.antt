use Rattle.std.proofs.Common.{◌≡◌, [], drop}
use Rattle.machine_core.specs.Reading.{Reader, IsReader}
use Rattle.dbg_core.specs.World.{world_of}
use Rattle.dbg_core.specs.State.{machine_of}
use Rattle.dap_link.specs.Conversation.{set_each}
use Rattle.dap_link.proofs.breaking.set_each.Given as goal

-- what is left to be set is set behind what was set so far
abbrev pub invariant-loop-one : goal.invariant-loop-one
invariant-loop-one g l = record {
  table : l.session.table ≡ l.initial.session.table;
  samples : g.T.Trace.samples l.session.trace ≡ g.T.Trace.samples l.initial.session.trace;
  left : (read : Reader) → IsReader read →
      set_each read (world_of l.initial.session.table (g.T.Trace.samples l.initial.session.trace)) l.file (drop l.one-index l.asked)
      (record { after = machine_of l.session []; set = l.set.items; lines = l.lines.items })
      ≡ set_each read (world_of l.initial.session.table (g.T.Trace.samples l.initial.session.trace)) l.file l.asked
      (record { after = machine_of l.initial.session []; set = l.initial.set.items; lines = l.initial.lines.items });
}
