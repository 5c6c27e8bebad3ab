-- Two sessions with watches, worked by hand.
--
-- Over the world of a register (`SampleBatch`) the wire `t` is 5, 5 and 4 behind its last assignment, so a watch of it on line 12 matches in
-- cycle 2 alone, both ways. Over the world of three instances (`Sample`) `x` is 7, not known and 9, so no watch of it ever matches; and no
-- instance but the watch's own counts.
use Rattle.std.specs.Prelude.{◌≡◌, ℕ, List, [], ◌∷◌, None, codes}
use Rattle.gen_tree.specs.Tree.{read}
use Rattle.listen.specs.Pairs.{Heard}
use Rattle.machine_core.specs.declared.request.Asked.TheVariants.{Good}
use Rattle.machine_core.specs.declared.request.Cmd.{Cmd}
use Rattle.machine_core.specs.declared.request.Cmd.TheVariants as cmd
use Rattle.machine_core.specs.declared.reply.Body.TheVariants as body
use Rattle.machine_core.specs.declared.turn.Notice.TheVariants as notice
use Rattle.machine_core.specs.Reading.{Reader, Condition}
use Rattle.machine_core.specs.Journal.{Line, Noticed, Entry, Ask, Turns, journal_output}
use Rattle.machine_core.specs.Sample.{reply, stopped, changed, world_f}
use Rattle.machine_core.specs.SampleBatch.{world_a}

abbrev asks : Cmd → Entry
asks cmd = Ask (Good (record { id = None; cmd = cmd }))

-- a name alone, as it is read; no other text stands in the session
abbrev reads_name : List ℕ → Reader
reads_name name text = Condition (read (record { name = name; index = None })) (0 ∷ [])

-- the stops of slots where a watch matches, counted by a listener of kind 3
abbrev toggles : List Heard
toggles = record { kind = 3; pairs = [] } ∷ []

-- ---- a wire that changes

abbrev journal_t : List Entry
journal_t =
    asks (cmd.Watch 12 (codes "A") (codes "t"))
    ∷ asks cmd.Continue ∷ Turns 1
    ∷ asks cmd.Continue ∷ Turns 1
    ∷ asks cmd.Reverse ∷ Turns 1
    ∷ asks cmd.Reverse ∷ Turns 1
    ∷ asks (cmd.Unwatch 9)
    ∷ asks (cmd.Watch 7 (codes "A") (codes "t"))
    ∷ asks (cmd.Watch 12 (codes "B") (codes "t"))
    ∷ asks (cmd.Watch 8 (codes "A") (codes "t"))
    ∷ asks (cmd.Unwatch 1)
    ∷ asks cmd.Continue ∷ Turns 1
    ∷ []

abbrev output_t : List Line
output_t =
    reply 1 (body.Watch (3 ∷ []) 1)
    ∷ reply 2 body.Continue
    ∷ changed 2 3 12 (codes "A" ∷ []) (1 ∷ [])
    ∷ reply 3 body.Continue
    ∷ Noticed notice.Ended
    ∷ reply 4 body.Reverse
    ∷ changed 2 3 12 (codes "A" ∷ []) (1 ∷ [])
    ∷ reply 5 body.Reverse
    ∷ Noticed notice.Start
    ∷ reply 6 (body.NoWatch 9)
    ∷ reply 7 (body.NoSite 7)
    ∷ reply 8 (body.NoInstance (codes "B"))
    ∷ reply 9 (body.CondUnset (codes "t") 0)
    ∷ reply 10 body.Unwatch
    ∷ reply 11 body.Continue
    ∷ Noticed notice.Ended
    ∷ Noticed (notice.Rows 0 ((3, 2) ∷ []))
    ∷ []

abbrev pub a_wire_is_watched : Type 0
a_wire_is_watched = journal_output (reads_name (codes "t")) world_a toggles journal_t ≡ output_t

-- ---- a value that is not known between

-- `T.a` is a thread in each cycle, `T.b` in cycle 1 alone; a step tells no watch where none matches
abbrev journal_x : List Entry
journal_x =
    asks (cmd.Watch 4 (codes "T.a") (codes "x"))
    ∷ asks (cmd.Watch 4 (codes "T.b") (codes "x"))
    ∷ asks cmd.Continue ∷ Turns 1
    ∷ asks cmd.Reverse ∷ Turns 1
    ∷ asks (cmd.Step None) ∷ Turns 1
    ∷ []

abbrev output_x : List Line
output_x =
    reply 1 (body.Watch (0 ∷ []) 1)
    ∷ reply 2 (body.Watch (0 ∷ []) 2)
    ∷ reply 3 body.Continue
    ∷ Noticed notice.Ended
    ∷ reply 4 body.Reverse
    ∷ Noticed notice.Start
    ∷ reply 5 body.Step
    ∷ stopped 0 0 4 (codes "T.a" ∷ [])
    ∷ Noticed (notice.Rows 0 [])
    ∷ []

abbrev pub no_unknown_is_a_change : Type 0
no_unknown_is_a_change = journal_output (reads_name (codes "x")) world_f toggles journal_x ≡ output_x
