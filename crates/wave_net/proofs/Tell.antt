-- The waves of a compiled design have the values of the run.
use Rattle.std.proofs.Common.{◌≡◌, ℕ, List, length, sym, ◌∙◌}
use Rattle.bv_core.specs.Value.{Bits}
use Rattle.bv_core.specs.declared.reference.Sample.TheVariants.{Known}
use Rattle.tree_core.specs.Tree.{value_of}
use Rattle.net_core.specs.Nodes.{tree_at}
use Rattle.trace_core.specs.Samples.{SameSamples}
use Rattle.sim_hist.specs.Run.{run_samples}
use Rattle.world_core.specs.Kept.{kept_trees}
use Rattle.trim_core.specs.KeptNet.{kept_net}
use Rattle.trim_laws.specs.Simulated.{state_of, tree_samples}
use Rattle.trim_laws.proofs.Simulated.{simulated_are_runs}
use Rattle.verilog_net.proofs.Alike.{compiled_are_kept}
use Rattle.vcd_write.specs.Run.{value_in}
use Rattle.wave_net.specs.Waves.{WavesTellRuns}
use Rattle.wave_net.proofs.Alike.{value_same}

pub waves_tell : WavesTellRuns
waves_tell d pairs mode net parts stim run h t j within below =
    let same : SameSamples (run_samples net stim) (tree_samples d (length pairs) mode run) = simulated_are_runs d pairs mode net parts stim run h in
    let known : Known (value_in net stim t j) ≡ Known (value_of (state_of d run t) (tree_at (kept_trees d (length pairs) mode) j)) = same.sample t j within below in
    let one : value_in net stim t j ≡ value_of (state_of d run t) (tree_at (kept_trees d (length pairs) mode) j) = cc in
    sym (value_same net (kept_net d (length pairs) mode) stim (compiled_are_kept d (length pairs) mode net h.sound h.trimmed.is_kept) t j) ∙ one
