-- What `sim` prints tells the run of the source.
use Rattle.std.specs.Prelude.{◌≡◌, ℕ, ◌<◌, List, length, Some}
use Rattle.tree_core.specs.Tree.{value_of}
use Rattle.net_core.specs.Nodes.{tree_at}
use Rattle.stim_text.specs.Stimulus.{Stimulus}
use Rattle.world_core.specs.Kept.{kept_trees}
use Rattle.trim_core.specs.KeptNet.{kept_net}
use Rattle.trim_laws.specs.Simulated.{state_of}
use Rattle.vcd_write.specs.Run.{value_in, waves_text}
use Rattle.listen.specs.Pairs.{Heard}
use Rattle.dbg_app.specs.Command.{Waves, Command, command_of}
use Rattle.dbg_app.specs.Answers.{Contents, Held, Holds, Asks}
use Rattle.dbg_app.specs.Compiled.{CompilesCommand}

abbrev pub rows_held : Held → Stimulus
rows_held held = record { ports = held.ports; rows = held.rows }

-- the text is that of the waves of the kept trees over the rows that the files hold; and in each cycle of it each node has the value of its
-- tree under the inputs of that row and the registers of the run
pub record WavesOfRun (told : Contents) (sim : Command) (dump : List ℕ) : Type 0 where
  pub held : Held
  pub holds : Holds told sim held
  pub text : dump ≡ waves_text (kept_net held.design held.driven held.mode) (rows_held held)
  pub values : (t j : ℕ) → t < length held.run → j < length (kept_trees held.design held.driven held.mode) →
      value_in (kept_net held.design held.driven held.mode) (rows_held held) t j ≡ value_of (state_of held.design held.run t) (tree_at (kept_trees held.design held.driven held.mode) j)

-- so it is of each `sim` that words are and that asks for status 0 and a text, as `run` tells of those that end so
abbrev pub WavesTellTheRun : Type 0
WavesTellTheRun =
    (heard : List Heard) (words : List (List ℕ)) (sim : Command) → command_of words ≡ Some sim → sim.task ≡ Waves → (told : Contents) (dump : List ℕ) → Asks heard told sim (record { status = 0; text = dump }) → CompilesCommand told sim →
    WavesOfRun told sim dump
