-- Laws of the samples of a net under a stimulus.
use Rattle.std.specs.Prelude.{ℕ, ◌<◌, length}
use Rattle.net_core.specs.Nodes.{width_at}
use Rattle.net_core.specs.Nets.{NetParts, IsNet}
use Rattle.trace_core.specs.Samples.{HasWidth}
use Rattle.stim_text.specs.Stimulus.{Stimulus, IsStimulus}
use Rattle.sim_hist.specs.Run.{run_samples}

-- each sample has its node's width
abbrev pub SamplesHaveWidths : Type 0
SamplesHaveWidths = (net : NetParts) → IsNet net → (s : Stimulus) → IsStimulus s
    → (t n : ℕ) → t < length s.rows → n < length net.nodes → HasWidth (width_at net.nodes n) ((run_samples net s).sample t n)
