-- A world of three instances, two slots and three cycles, and a session over it, worked by hand. The top `T` has slot 1 in every
-- cycle. Its children `T.a` and `T.b` have slot 0: the one in every cycle, the other in cycle 1 alone. The name `x` shows 7, then
-- what is not known, then 9.
use Rattle.std.specs.Prelude.{◌≡◌, ℕ, List, [], ◌∷◌, ◌==◌, length, Some, None, codes, if◌then◌else◌}
use Rattle.gen_tree.specs.declared.Op.TheVariants as op
use Rattle.gen_tree.specs.Tree.{Expr, plain, read, value, binary}
use Rattle.listen.specs.Pairs.{Heard}
use Rattle.world_core.specs.World as world
use Rattle.world_core.specs.World.{World, Shows, Status, IsUnset, HasWidth}
use Rattle.machine_core.specs.declared.request.Asked.TheVariants.{Good}
use Rattle.machine_core.specs.declared.request.Cmd.{Cmd}
use Rattle.machine_core.specs.declared.request.Cmd.TheVariants as cmd
use Rattle.machine_core.specs.declared.reply.Body.{Body}
use Rattle.machine_core.specs.declared.reply.Body.TheVariants as body
use Rattle.machine_core.specs.declared.reply.Shown.TheVariants as shown
use Rattle.machine_core.specs.declared.turn.Notice.TheVariants as notice
use Rattle.machine_core.specs.Reading.{Reader, Condition}
use Rattle.machine_core.specs.Journal.{Line, Replied, Noticed, Entry, Ask, Turns, journal_output}

-- ---- the world

abbrev statement : ℕ → List (List ℕ) → List ℕ → Shows
statement line names instances = record { line = line; gens = []; names = names; instances = instances }

abbrev threads_of_f : (cycle slot : ℕ) → List ℕ
threads_of_f t k = if k == 1 then 0 ∷ [] else if t == 1 then 1 ∷ 2 ∷ [] else 1 ∷ []

abbrev x_in : ℕ → world.Shown
x_in t = if t == 1 then world.Unknown else world.Value (record { width = 8; value = if t == 0 then 7 else 9 })

abbrev pub world_f : World
world_f = record {
  cycles = 3;
  paths = codes "T" ∷ codes "T.a" ∷ codes "T.b" ∷ [];
  slots = statement 4 (codes "x" ∷ []) (1 ∷ 2 ∷ []) ∷ statement 9 [] (0 ∷ []) ∷ [];
  status = λ k i x. HasWidth 8;
  threads = threads_of_f;
  shown = λ t k i x. x_in t;
}

-- ---- the session

-- the text `(x == 8'd9)` as it is read; no other text stands in the session
abbrev x_is_9 : Expr
x_is_9 = binary op.Eq (read (record { name = codes "x"; index = None })) (value (plain 8 9))

abbrev pub read_f : Reader
read_f text = Condition x_is_9 (0 ∷ 1 ∷ 3 ∷ 6 ∷ 10 ∷ [])

abbrev condition : List ℕ
condition = codes "(x == 8'd9)"

abbrev asks : Cmd → Entry
asks cmd = Ask (Good (record { id = None; cmd = cmd }))

abbrev pub reply : ℕ → Body → Line
reply seq body = Replied (record { seq = seq; id = None; body = body })

-- a stop where these watches match
abbrev pub changed : (cycle slot line : ℕ) → List (List ℕ) → List ℕ → Line
changed cycle slot line paths watches =
    Noticed (notice.Stopped (record { cycle = cycle; slot = slot; line = line; threads = length paths; watches = length watches }) [] paths watches)

abbrev pub stopped : (cycle slot line : ℕ) → List (List ℕ) → Line
stopped cycle slot line paths = changed cycle slot line paths []

-- the stops of lines, counted by a listener of kind 1
abbrev pub listeners_f : List Heard
listeners_f = record { kind = 1; pairs = [] } ∷ []

abbrev pub journal_f : List Entry
journal_f =
    asks (cmd.Break 4 None (Some condition))
    ∷ asks cmd.Continue ∷ Turns 1
    ∷ asks cmd.Reverse ∷ Turns 1
    ∷ asks (cmd.Step (Some (codes "T.b"))) ∷ Turns 1
    ∷ asks (cmd.Values (codes "T.b"))
    ∷ asks (cmd.Break 4 (Some (codes "T")) None)
    ∷ asks (cmd.Break 9 None (Some condition))
    ∷ asks (cmd.Break 9 None None)
    ∷ asks cmd.Reverse ∷ Turns 1
    ∷ []

abbrev pub output_f : List Line
output_f =
    reply 1 (body.Break 1 (0 ∷ []))
    ∷ reply 2 body.Continue
    ∷ stopped 2 0 4 (codes "T.a" ∷ [])
    ∷ reply 3 body.Reverse
    ∷ Noticed notice.Start
    ∷ reply 4 body.Step
    ∷ stopped 1 0 4 (codes "T.a" ∷ codes "T.b" ∷ [])
    ∷ reply 5 (body.Values ((codes "x", shown.Unknown) ∷ []))
    ∷ reply 6 (body.NoInstance (codes "T"))
    ∷ reply 7 (body.BadCondName (codes "x"))
    ∷ reply 8 (body.Break 2 (1 ∷ []))
    ∷ reply 9 body.Reverse
    ∷ stopped 0 1 9 (codes "T" ∷ [])
    ∷ Noticed (notice.Rows 0 ((4, 2) ∷ (9, 1) ∷ []))
    ∷ []

-- the machine puts this out
abbrev pub table_f_is_debugged : Type 0
table_f_is_debugged = journal_output read_f world_f listeners_f journal_f ≡ output_f
