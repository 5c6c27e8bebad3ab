-- What a session puts out: for a journal of requests and turns, and for a batch of requests each of which is waited for.
use Rattle.std.specs.Prelude.{◌≡◌, ◌⊎◌, ℕ, zero, suc, ◌+◌, Bool, true, false, List, [], ◌∷◌, ◌++◌, map, Option, Some, None, if◌then◌else◌}
use Rattle.std.specs.List.{enumerate_from, flat_map}
use Rattle.listen.specs.Pairs.{Heard}
use Rattle.world_core.specs.World.{World, path_in}
use Rattle.world_core.specs.Seen.{seen}
use Rattle.machine_core.specs.declared.request.Asked.{Asked}
use Rattle.machine_core.specs.declared.reply.Body.{Body}
use Rattle.machine_core.specs.declared.reply.Body.TheVariants as body
use Rattle.machine_core.specs.declared.reply.Reply.{Reply}
use Rattle.machine_core.specs.declared.turn.Notice.{Notice}
use Rattle.machine_core.specs.declared.turn.Notice.TheVariants as notice
use Rattle.machine_core.specs.declared.turn.Turned.{Turned}
use Rattle.machine_core.specs.declared.turn.Turned.TheVariants as turned
use Rattle.machine_core.specs.Positions.{position_count}
use Rattle.machine_core.specs.Reading.{Reader}
use Rattle.machine_core.specs.Matching.{Watch, watches_at}
use Rattle.machine_core.specs.Machine.{Machine, opening, turn_of, Answer, answer_of, gens_at}

-- a line of the output: a reply, or a notice
pub data Line : Type 0 where
  Replied : Reply → Line
  Noticed : Notice → Line

-- the numbers of the watches of a machine that match at a slot in a cycle
abbrev pub watch_numbers : World → Machine → (cycle slot : ℕ) → List ℕ
watch_numbers w m t k = map (λ (watch : Watch). watch.number) (watches_at w t k m.watches)

-- what is told of a turn of a machine; nothing of one that only moved, or did nothing
abbrev pub notices_of : World → Machine → Turned → List Line
notices_of w m turned.Idle = []
notices_of w m turned.Moved = []
notices_of w m (turned.Stopped note) =
    Noticed (notice.Stopped note (gens_at w note.slot) (map (path_in w) (w.threads note.cycle note.slot)) (watch_numbers w m note.cycle note.slot)) ∷ []
notices_of w m turned.AtEnd = Noticed notice.Ended ∷ []
notices_of w m turned.AtStart = Noticed notice.Start ∷ []

-- what is told, if there is something
abbrev pub told_lines : Option Notice → List Line
told_lines None = []
told_lines (Some notice) = Noticed notice ∷ []

-- a reply, and what is told behind it
abbrev pub answered_lines : Reply → Option Notice → List Line
answered_lines reply notice = Replied reply ∷ told_lines notice

-- the closing lines: one for each listener that remains, with its pairs
abbrev pub closing_line : ℕ × Option Heard → List Line
closing_line (k, None) = []
closing_line (k, Some heard) = Noticed (notice.Rows k heard.pairs) ∷ []

abbrev pub closing_lines : List (Option Heard) → List Line
closing_lines heard = flat_map closing_line (enumerate_from 0 heard)

-- where a machine has come to, and the lines on the way there
pub record Ran : Type 0 where
  pub after : Machine
  pub lines : List Line

abbrev pub behind : List Line → Ran → Ran
behind lines ran = record { after = ran.after; lines = lines ++ ran.lines }

-- ---- a journal

-- so many turns
abbrev pub turns_from : World → ℕ → Machine → Ran
turns_from w zero m = record { after = m; lines = [] }
turns_from w (suc n) m = behind (notices_of w (turn_of w m).after (turn_of w m).turned) (turns_from w n (turn_of w m).after)

-- what is done with a session: it is asked, or makes so many turns
pub data Entry : Type 0 where
  Ask : Asked → Entry
  Turns : ℕ → Entry

abbrev pub entry_from : Reader → World → Machine → Entry → Ran
entry_from read w m (Ask asked) = record { after = (answer_of read w m asked).after; lines = Replied (answer_of read w m asked).reply ∷ [] }
entry_from read w m (Turns n) = turns_from w n m

abbrev pub journal_from : Reader → World → Machine → List Entry → Ran
journal_from read w m [] = record { after = m; lines = [] }
journal_from read w m (e ∷ rest) = behind (entry_from read w m e).lines (journal_from read w (entry_from read w m e).after rest)

-- the lines on the way, and the closing lines
abbrev pub closed : Ran → List Line
closed ran = ran.lines ++ closing_lines ran.after.heard

-- the output of a journal over a world, as it is seen, from listeners that mean this
abbrev pub journal_output : Reader → World → List Heard → List Entry → List Line
journal_output read w heard journal = closed (journal_from read (seen w) (opening heard) journal)

-- ---- a batch

-- turns until the machine is idle: there are not more of them than positions and one, and those of an idle machine do nothing
abbrev pub until_idle : World → Machine → Ran
until_idle w m = turns_from w (position_count w + 1) m

-- the last request
abbrev pub is_bye : Body → Bool
is_bye body.Bye = true
is_bye other = false

-- what follows an answer: nothing, where it is the last; or turns until the machine is idle, and the rest
abbrev pub waited : Ran → (Machine → Ran) → Ran
waited ran rest = behind ran.lines (rest ran.after)

abbrev pub after_answer : World → Answer → (Machine → Ran) → Ran
after_answer w answer rest = if is_bye answer.reply.body then record { after = answer.after; lines = [] } else waited (until_idle w answer.after) rest

-- each request, followed by turns until the machine is idle; up to the first `bye` that is accepted
abbrev pub batch_from : Reader → World → List Asked → Machine → Ran
batch_from read w [] m = record { after = m; lines = [] }
batch_from read w (asked ∷ rest) m =
    behind (Replied (answer_of read w m asked).reply ∷ []) (after_answer w (answer_of read w m asked) (batch_from read w rest))

-- the output of a batch over a world, as it is seen, from listeners that mean this
abbrev pub batch_output : Reader → World → List Heard → List Asked → List Line
batch_output read w heard requests = closed (batch_from read (seen w) requests (opening heard))

-- ---- what is left where memory ran out

-- a request that was to be answered, with the turns behind it, as a batch of it alone: all is as before, or as they leave it, and what is
-- lost is what they tell
abbrev pub IsLeft : Reader → World → Asked → (old new : Machine) → Type 0
IsLeft read w asked old new = (new ≡ old) ⊎ (new ≡ (batch_from read w (asked ∷ []) old).after)
