-- A replay of what `symbols` and `sim` print is asked for what `debug` prints.
use Rattle.std.specs.Prelude.{◌≡◌, ℕ, ◌≤◌, ◌^◌, List, length, Some}
use Rattle.listen.specs.Pairs.{Heard}
use Rattle.replay_run.specs.Asked.{Names, Contents}
use Rattle.headline_laws.specs.Headline.{AsksFor}
use Rattle.dbg_app.specs.Command.{Symbols, Waves, Session, Command, command_of}
use Rattle.dbg_app.specs.Answers as answers
use Rattle.dbg_app.specs.Answers.{Held, Holds, HoldsRequests, Asks, text_of}
use Rattle.dbg_app.specs.Compiled.{HasNet, CompilesCommand}

-- ---- of what is held

-- the files of a replay hold the symbol file and the waves of what the files of a command hold, of at most 64 MiB each, and the same
-- requests; the scope is the name of the top
pub record HoldTexts (heard : List Heard) (files : Contents) (names : Names) (held : Held) : Type 0 where
  pub symbols : files names.symbols ≡ Some (text_of heard Symbols held)
  pub short_symbols : length (text_of heard Symbols held) ≤ 2 ^ 26
  pub waves : files names.dump ≡ Some (text_of heard Waves held)
  pub short_waves : length (text_of heard Waves held) ≤ 2 ^ 26
  pub scope : names.scope ≡ held.ports.module
  pub requests : files names.requests ≡ Some held.requests

-- of every command that words are, whose files are accepted and hold a design that has a net and a table: a replay of such files asks for
-- status 0 and the text of a session of the command, and for nothing else
abbrev pub HeldIsReplayed : Type 0
HeldIsReplayed =
    (heard : List Heard) (words : List (List ℕ)) (command : Command) → command_of words ≡ Some command → (told : answers.Contents) (held : Held) → Holds told command held → HasNet held.design held.driven held.mode →
    (files : Contents) (names : Names) → HoldTexts heard files names held → AsksFor heard files names (text_of heard Session held)

-- ---- of three runs

-- `symbols`, `sim` and `debug` of one source and top, in one mode, the latter two over one stimulus
pub record AreOfOne (symbols sim debug : Command) : Type 0 where
  pub tasks : (symbols.task ≡ Symbols) × (sim.task ≡ Waves) × (debug.task ≡ Session)
  pub modes : (symbols.mode ≡ debug.mode) × (sim.mode ≡ debug.mode)
  pub sources : (symbols.source ≡ debug.source) × (sim.source ≡ debug.source)
  pub tops : (symbols.top ≡ debug.top) × (sim.top ≡ debug.top)
  pub stimulus : sim.stimulus ≡ debug.stimulus

-- the files of a replay hold what the first two printed, of at most 64 MiB each, and the requests of the third; the scope is its top
pub record HoldPrints (files : Contents) (names : Names) (told : answers.Contents) (debug : Command) (table dump : List ℕ) : Type 0 where
  pub symbols : files names.symbols ≡ Some table
  pub short_symbols : length table ≤ 2 ^ 26
  pub waves : files names.dump ≡ Some dump
  pub short_waves : length dump ≤ 2 ^ 26
  pub scope : names.scope ≡ debug.top.name
  pub requests : HoldsRequests told debug.requests (files names.requests)

-- where the three ask for status 0 and these texts, as `run` tells of those that end so, and the design has the net and the table that
-- `run` tells of then: the replay asks for status 0 and the text of the third, and for nothing else
abbrev pub PrintsAreReplayed : Type 0
PrintsAreReplayed =
    (heard : List Heard) (words : List (List ℕ)) (symbols sim debug : Command) → command_of words ≡ Some debug → AreOfOne symbols sim debug → (told : answers.Contents) (table dump lines : List ℕ) →
    Asks heard told symbols (record { status = 0; text = table }) → Asks heard told sim (record { status = 0; text = dump }) → Asks heard told debug (record { status = 0; text = lines }) → CompilesCommand told debug →
    (files : Contents) (names : Names) → HoldPrints files names told debug table dump → AsksFor heard files names lines
