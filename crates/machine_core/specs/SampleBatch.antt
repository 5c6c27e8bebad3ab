-- The world of a register that adds while it is enabled, over three cycles, and a batch of requests over it, worked by hand.
--
--  1: module A {                 8:     t = r;
--  2:   input en : 1;            9:     if en {
--  3:   input d : 8;            10:       t = (t + d);
--  4:   output q : 8;           11:     }
--  5:   wire t : 8;             12:     q = t;
--  6:   reg r : 8 = 8'h00;      13:   }
--  7:   comb {                  14:   ff { r <= t; } }
--
-- The rows are 1 5, 0 9 and 1 255, so `r` is 0, 5 and 5, and line 10 is not executed in cycle 1.
use Rattle.std.specs.Prelude.{◌≡◌, ℕ, ◌==◌, ◌&&◌, nat_lt, List, [], ◌∷◌, None, codes, bytes_eq, if◌then◌else◌}
use Rattle.exec_core.specs.Block.{Name}
use Rattle.world_core.specs.World as world
use Rattle.world_core.specs.World.{World, Shows, Status, IsUnset, HasWidth}
use Rattle.machine_core.specs.declared.request.Asked.{Asked}
use Rattle.machine_core.specs.declared.request.Asked.TheVariants.{Good}
use Rattle.machine_core.specs.declared.request.Cmd.{Cmd}
use Rattle.machine_core.specs.declared.request.Cmd.TheVariants as cmd
use Rattle.machine_core.specs.declared.reply.Body.TheVariants as body
use Rattle.machine_core.specs.declared.reply.Shown.{Shown}
use Rattle.machine_core.specs.declared.reply.Shown.TheVariants as shown
use Rattle.machine_core.specs.declared.turn.Notice.TheVariants as notice
use Rattle.machine_core.specs.Reading.{Reader, NoCondition}
use Rattle.machine_core.specs.Journal.{Line, Noticed, batch_output}
use Rattle.machine_core.specs.Sample.{reply, stopped}

abbrev names : List Name
names = codes "en" ∷ codes "d" ∷ codes "q" ∷ codes "t" ∷ codes "r" ∷ []

abbrev statement : ℕ → Shows
statement line = record { line = line; gens = []; names = names; instances = 0 ∷ [] }

-- the output is not assigned before line 12, nor the wire before line 8
abbrev status_of_a : (slot : ℕ) → Name → Status
status_of_a k x =
    if bytes_eq x (codes "q") && nat_lt k 4 then IsUnset else if bytes_eq x (codes "t") && k == 0 then IsUnset
    else HasWidth (if bytes_eq x (codes "en") then 1 else 8)

-- ---- what each name has in each cycle

abbrev byte : ℕ → world.Shown
byte n = world.Value (record { width = 8; value = n })

abbrev enable_in : ℕ → world.Shown
enable_in t = world.Value (record { width = 1; value = if t == 1 then 0 else 1 })

abbrev data_in : ℕ → world.Shown
data_in t = byte (if t == 0 then 5 else if t == 1 then 9 else 255)

abbrev register_in : ℕ → world.Shown
register_in t = byte (if t == 0 then 0 else 5)

-- after line 10, where it is executed
abbrev sum_in : ℕ → world.Shown
sum_in t = byte (if t == 2 then 4 else 5)

abbrev wire_at : (cycle slot : ℕ) → world.Shown
wire_at t k = if k == 0 then world.Unset else if nat_lt k 3 then register_in t else sum_in t

abbrev output_at : (cycle slot : ℕ) → world.Shown
output_at t k = if nat_lt k 4 then world.Unset else sum_in t

abbrev shown_in_a : (cycle slot : ℕ) → Name → world.Shown
shown_in_a t k x =
    if bytes_eq x (codes "en") then enable_in t else if bytes_eq x (codes "d") then data_in t else if bytes_eq x (codes "q") then output_at t k
    else if bytes_eq x (codes "t") then wire_at t k else register_in t

abbrev pub world_a : World
world_a = record {
  cycles = 3;
  paths = codes "A" ∷ [];
  slots = statement 8 ∷ statement 9 ∷ statement 10 ∷ statement 12 ∷ statement 14 ∷ [];
  status = λ k i x. status_of_a k x;
  threads = λ t k. if t == 1 && k == 2 then [] else 0 ∷ [];
  shown = λ t k i x. shown_in_a t k x;
}

-- ---- the batch; no text stands in it

abbrev pub read_a : Reader
read_a text = NoCondition 0

abbrev asks : Cmd → Asked
asks cmd = Good (record { id = None; cmd = cmd })

abbrev pub batch_a : List Asked
batch_a =
    asks (cmd.Break 10 None None)
    ∷ asks cmd.Continue ∷ asks cmd.Continue
    ∷ asks (cmd.Step None) ∷ asks (cmd.Values (codes "A"))
    ∷ asks cmd.Reverse ∷ asks cmd.Reverse ∷ asks cmd.Reverse
    ∷ []

abbrev in_a : (cycle slot line : ℕ) → Line
in_a cycle slot line = stopped cycle slot line (codes "A" ∷ [])

abbrev of_width : ℕ → ℕ → Shown
of_width width value = shown.Value (record { width = width; value = value })

abbrev pub output_a : List Line
output_a =
    reply 1 (body.Break 1 (2 ∷ []))
    ∷ reply 2 body.Continue ∷ in_a 0 2 10
    ∷ reply 3 body.Continue ∷ in_a 2 2 10
    ∷ reply 4 body.Step ∷ in_a 2 3 12
    ∷ reply 5 (body.Values ((codes "en", of_width 1 1) ∷ (codes "d", of_width 8 255) ∷ (codes "q", shown.Unset) ∷ (codes "t", of_width 8 4) ∷ (codes "r", of_width 8 5) ∷ []))
    ∷ reply 6 body.Reverse ∷ in_a 2 2 10
    ∷ reply 7 body.Reverse ∷ in_a 0 2 10
    ∷ reply 8 body.Reverse ∷ Noticed notice.Start
    ∷ []

-- the machine puts this out
abbrev pub batch_a_is_debugged : Type 0
batch_a_is_debugged = batch_output read_a world_a [] batch_a ≡ output_a
