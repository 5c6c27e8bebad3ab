-- A conversation with an editor over a new session of what a service shows: what was written is the text of the conversation over each run of
-- it, where no breakpoint, no watch and no listener is there at its beginning.
use Rattle.std.specs.Prelude.{ℕ, List, [], Option}
use Rattle.bv_core.specs.Value.{Bits}
use Rattle.exec_core.specs.Whole.{Place}
use Rattle.machine_core.specs.Machine.{opening}
use Rattle.machine_core.specs.Reading.{Reader, IsReader}
use Rattle.dap_link.specs.Conversation.{Conversation, begun}
use Rattle.dap_run.specs.Talks.{TalksTo}
use Rattle.dap_run.specs.declared.ends.TalkEnd.{TalkEnd}
use Rattle.show_net.specs.Over.{Over, world_over, RunsAs}

-- nothing was asked, and no listener hears of it
abbrev pub opened : Conversation
opened = begun (opening [])

-- From an input of which this was left, and an output that had taken this, with the names of the files by number: how a conversation over
-- each run of what is shown ended, in whichever reading of conditions.
abbrev pub ConversesOver : Over → List (List ℕ) → TalkEnd → Option (List ℕ) → Option (List ℕ) → Option (List ℕ) → Option (List ℕ) → Type 0
ConversesOver over names end left0 left old new = (run : List (Place → Bits)) → RunsAs over run → (read : Reader) → IsReader read
    → TalksTo end read (world_over over run) names opened left0 left old new
