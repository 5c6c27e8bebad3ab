-- Two clients on one session in lock step, worked by hand over the world of a small design: the first sets a breakpoint on line 10, lets it
-- run and takes its leave; the second is told of the stop, and then asks where the session stands and leaves too.
use Rattle.std.specs.Prelude.{◌≡◌, ℕ, true, List, [], ◌∷◌, None, codes}
use Rattle.world_core.specs.World.{World}
use Rattle.world_core.specs.Seen.{seen}
use Rattle.machine_core.specs.declared.request.Asked.{Asked}
use Rattle.machine_core.specs.declared.request.Asked.TheVariants.{Good}
use Rattle.machine_core.specs.declared.request.Cmd.{Cmd}
use Rattle.machine_core.specs.declared.request.Cmd.TheVariants as cmd
use Rattle.machine_core.specs.declared.reply.Body.TheVariants as body
use Rattle.machine_core.specs.declared.reply.At.TheVariants as at
use Rattle.machine_core.specs.declared.reply.Going.TheVariants as going
use Rattle.machine_core.specs.Machine.{Machine, opening}
use Rattle.machine_core.specs.Journal as core
use Rattle.machine_core.specs.Sample.{reply, stopped}
use Rattle.machine_core.specs.SampleBatch.{world_a, read_a}
use Rattle.req_json.specs.Asked.{asked}
use Rattle.hub_core.specs.declared.event.HubEvent.{HubEvent}
use Rattle.hub_core.specs.declared.event.HubEvent.TheVariants.{Ask, Left, Turns}
use Rattle.hub_core.specs.HubJournals.{hub_deeds, asks_of, client_lines, closing_of}

abbrev pub ask_for : Cmd → Asked
ask_for cmd = Good (record { id = None; cmd = cmd })

abbrev pub world : World
world = seen world_a

abbrev pub start : Machine
start = opening []

-- a breakpoint, a run, and a leave; and what the second asks
abbrev pub journal : (b c y s : List ℕ) → List HubEvent
journal b c y s = Ask 0 b ∷ Ask 0 c ∷ Turns 1 ∷ Ask 0 y ∷ Left 0 ∷ Ask 1 s ∷ Ask 1 y ∷ Left 1 ∷ []

abbrev pub stop : core.Line
stop = stopped 0 2 10 (codes "A" ∷ [])

abbrev pub first_lines : List core.Line
first_lines = reply 1 (body.Break 1 (2 ∷ [])) ∷ reply 2 body.Continue ∷ stop ∷ reply 3 body.Bye ∷ []

abbrev pub second_lines : List core.Line
second_lines = stop ∷ reply 4 (body.Status (at.Position 0 2) (1 ∷ []) [] going.Idle) ∷ reply 5 body.Bye ∷ []

pub record AreServed (b c y s : List ℕ) : Type 0 where
  pub first : client_lines read_a world 0 true start (hub_deeds (journal b c y s)) ≡ first_lines
  pub second : client_lines read_a world 1 true start (hub_deeds (journal b c y s)) ≡ second_lines
  pub asked_first : asks_of 0 (hub_deeds (journal b c y s)) ≡ b ∷ c ∷ y ∷ []
  pub asked_second : asks_of 1 (hub_deeds (journal b c y s)) ≡ s ∷ y ∷ []
  pub closing : closing_of read_a world start (journal b c y s) ≡ []

-- whatever the texts that ask so
abbrev pub TwoAreServed : Type 0
TwoAreServed = (b c y s : List ℕ) → asked b ≡ ask_for (cmd.Break 10 None None) → asked c ≡ ask_for cmd.Continue → asked y ≡ ask_for cmd.Bye → asked s ≡ ask_for cmd.Status → AreServed b c y s
