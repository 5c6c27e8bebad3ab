use Rattle.std.proofs.Common.{◌≡◌, ◌+◌, ◌-◌, ◌*◌, ◌<◌, length}
use Rattle.sim_hist.specs.Recalled.{AreRecalled}
use Rattle.sim_hist.specs.Kept.{IsAt, more}
use Rattle.sim_hist.proofs.settle.walk.Given as goal

-- the simulator stands in the cycle, and was settled in each since the first
abbrev pub invariant-loop-at : goal.invariant-loop-at
invariant-loop-at g l = record {
  net : l.simulator.net ≡ l.fn.simulator.net;
  columns : l.feed.columns.items ≡ l.fn.feed.columns.items;
  stands : IsAt l.simulator l.stim l.at;
  recalled : AreRecalled l.simulator.net l.stim l.history;
  entered : l.at < 256 * length l.history.firsts;
  settles : l.simulator.settles ≡ more (l.at + 1 - l.from) l.fn.simulator.settles;
  steps : l.steps ≡ l.fn.steps + (l.at + 1 - l.from);
}
