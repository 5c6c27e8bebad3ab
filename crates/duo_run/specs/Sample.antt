-- A connection that is served in lock step, worked by hand over the world of a small design: a breakpoint on line 10, a run to it, a
-- poll that finds nothing, and a `bye`.
use Rattle.std.specs.Prelude.{◌≡◌, ℕ, true, List, [], ◌∷◌, None, Some, codes}
use Rattle.world_core.specs.World.{World}
use Rattle.world_core.specs.Seen.{seen}
use Rattle.machine_core.specs.declared.request.Asked.{Asked}
use Rattle.machine_core.specs.declared.request.Asked.TheVariants.{Good}
use Rattle.machine_core.specs.declared.request.Cmd.{Cmd}
use Rattle.machine_core.specs.declared.request.Cmd.TheVariants as cmd
use Rattle.machine_core.specs.declared.reply.Body.TheVariants as body
use Rattle.machine_core.specs.Machine.{opening}
use Rattle.machine_core.specs.Journal.{Line}
use Rattle.machine_core.specs.Sample.{reply, stopped}
use Rattle.machine_core.specs.SampleBatch.{world_a, read_a}
use Rattle.req_json.specs.Asked.{asked}
use Rattle.duo_run.specs.Deeds.{Deed, Asks, Goes, Stage, at_start, after_deeds, lines_of, is_paced, ends_with_leave}
use Rattle.duo_run.specs.Polls.{Poll, given}

abbrev pub asks : Cmd → Asked
asks cmd = Good (record { id = None; cmd = cmd })

abbrev pub world : World
world = seen world_a

abbrev pub start : Stage
start = at_start (opening [])

abbrev pub polls : (b c y : List ℕ) → List Poll
polls b c y = Some b ∷ Some c ∷ None ∷ Some y ∷ []

-- the two requests before the run bring one turn, and the poll that found nothing brings none
abbrev pub deeds : (b c y : List ℕ) → List Deed
deeds b c y = Asks b ∷ Asks c ∷ Goes ∷ Asks y ∷ []

abbrev pub lines : List Line
lines = reply 1 (body.Break 1 (2 ∷ [])) ∷ reply 2 body.Continue ∷ stopped 0 2 10 (codes "A" ∷ []) ∷ reply 3 body.Bye ∷ []

pub record IsServed (b c y : List ℕ) : Type 0 where
  pub gives : given read_a world start (polls b c y) ≡ deeds b c y
  pub tells : lines_of read_a world start (deeds b c y) ≡ lines
  pub leaves : (after_deeds read_a world start (deeds b c y)).left ≡ true
  pub paced : is_paced read_a world start (deeds b c y) ≡ true
  pub last : ends_with_leave read_a world start (deeds b c y) ≡ true

-- whatever the texts that ask so
abbrev pub LockStepIsServed : Type 0
LockStepIsServed = (b c y : List ℕ) → asked b ≡ asks (cmd.Break 10 None None) → asked c ≡ asks cmd.Continue → asked y ≡ asks cmd.Bye → IsServed b c y
