-- The words of the program.
use Rattle.std.specs.Prelude.{ℕ, ◌+◌, ◌==◌, ℤ, pos, ◌-ℤ◌, Bool, true, false, not, List, [], ◌∷◌, ◌++◌, length, take, drop, Option, Some, None, option_map, option_and_then, is_some, codes, if◌then◌else◌, ◌&&◌, nat_le, nat_lt}
use Rattle.std.specs.List.{list_all, prefix_len, filter_map}
use Rattle.std.specs.Str.{bytes_eq}
use Rattle.text_core.specs.Digits.{is_digit_of, number_of}
use Rattle.gen_token.specs.Spelling.{is_name}
use Rattle.exec_core.specs.Block.{Name}
use Rattle.design_judge.specs.Judgement.{Top}
use Rattle.world_core.specs.declared.mode.Mode.{Mode}
use Rattle.world_core.specs.declared.mode.Mode.TheVariants.{Opt, Keep}

-- ---- an argument NAME=N of the top

-- decimal digits, at least one, of a number up to 2^62
abbrev pub natural_of : List ℕ → Option ℕ
natural_of digits =
    if not (bytes_eq digits []) && prefix_len (is_digit_of 10) digits == length digits && nat_le (number_of 10 digits) 4611686018427387904 then Some (number_of 10 digits) else None

abbrev pub negative : ℕ → ℤ
negative n = pos 0 -ℤ pos n

abbrev pub has_minus : List ℕ → Bool
has_minus [] = false
has_minus (byte ∷ digits) = byte == 45

-- digits, with a minus or without
abbrev pub whole_of : List ℕ → Option ℤ
whole_of digits = if has_minus digits then option_map negative (natural_of (drop 1 digits)) else option_map pos (natural_of digits)

-- how many bytes stand before the first equals sign
abbrev pub no_equals : ℕ → Bool
no_equals byte = not (byte == 61)

abbrev pub name_len : List ℕ → ℕ
name_len word = prefix_len no_equals word

-- a name of the language, an equals sign and a number
abbrev pub argument_of : List ℕ → Option (Name × ℤ)
argument_of word =
    if nat_lt (name_len word) (length word) && is_name (take (name_len word) word) then
    option_map (λ number. (take (name_len word) word, number)) (whole_of (drop (name_len word + 1) word)) else None

abbrev pub is_argument : List ℕ → Bool
is_argument word = is_some (argument_of word)

-- ---- commands

-- which names are kept: `opt`, those that are needed anyway; `keep`, all of them
abbrev pub mode_of : List ℕ → Option Mode
mode_of word = if bytes_eq word (codes "opt") then Some Opt else if bytes_eq word (codes "keep") then Some Keep else None

-- what is asked of a design: the trail of its run, its Verilog, its symbol file, the waves of its run, or what a session over its run
-- puts out
pub data Task : Type 0 where
  Trail : Task
  Verilog : Task
  Symbols : Task
  Waves : Task
  Session : Task

-- a command: what it asks, in which mode, of which source file, over which stimulus file and by which file of requests where it names
-- them, and of which top
pub record Command : Type 0 where
  pub task : Task
  pub mode : Mode
  pub source : List ℕ
  pub stimulus : Option (List ℕ)
  pub requests : Option (List ℕ)
  pub top : Top

-- a file is any word that is not empty
abbrev pub has_file : Option (List ℕ) → Bool
has_file None = true
has_file (Some name) = not (bytes_eq name [])

-- TOP is a name of the language, and the rest are at most 64 arguments
abbrev pub command_with : Task → List ℕ → Option (List ℕ) → Option (List ℕ) → List ℕ → List (List ℕ) → Mode → Option Command
command_with task source stimulus requests top rest mode =
    if not (bytes_eq source []) && (has_file stimulus && has_file requests) && is_name top && nat_le (length rest) 64 && list_all is_argument rest then
    Some (record { task = task; mode = mode; source = source; stimulus = stimulus; requests = requests; top = record { name = top; given = filter_map argument_of rest } }) else None

-- the words `.. MODE SRC STIM TOP [NAME=N]..`
abbrev pub over_rows : Task → List (List ℕ) → Option Command
over_rows task (word ∷ mode ∷ source ∷ stimulus ∷ top ∷ rest) = option_and_then (command_with task source (Some stimulus) None top rest) (mode_of mode)
over_rows task words = None

-- the words `.. MODE SRC TOP [NAME=N]..`
abbrev pub of_design : Task → List (List ℕ) → Option Command
of_design task (word ∷ mode ∷ source ∷ top ∷ rest) = option_and_then (command_with task source None None top rest) (mode_of mode)
of_design task words = None

-- the words `.. MODE SRC STIM REQ TOP [NAME=N]..`
abbrev pub by_requests : List (List ℕ) → Option Command
by_requests (word ∷ mode ∷ source ∷ stimulus ∷ requests ∷ top ∷ rest) =
    option_and_then (command_with Session source (Some stimulus) (Some requests) top rest) (mode_of mode)
by_requests words = None

-- what a first word asks: of a design over the rows of a stimulus, which is then named; of the design alone; or of a session over the
-- rows by requests, both of which are then named
pub data Form : Type 0 where
  Over : Task → Form
  Alone : Task → Form
  ByRequests : Form

-- the commands by their first words
abbrev pub form_of : List ℕ → Option Form
form_of word =
    if bytes_eq word (codes "trail") then Some (Over Trail) else
    if bytes_eq word (codes "compile") then Some (Alone Verilog) else
    if bytes_eq word (codes "symbols") then Some (Alone Symbols) else
    if bytes_eq word (codes "sim") then Some (Over Waves) else
    if bytes_eq word (codes "debug") then Some ByRequests else None

-- and by those behind it
abbrev pub command_by : List (List ℕ) → Form → Option Command
command_by words (Over task) = over_rows task words
command_by words (Alone task) = of_design task words
command_by words ByRequests = by_requests words

abbrev pub command_of : List (List ℕ) → Option Command
command_of [] = None
command_of (word ∷ words) = option_and_then (command_by (word ∷ words)) (form_of word)

-- the names of the files that are taken behind those of the design
abbrev pub file_names : Option (List ℕ) → List (List ℕ)
file_names None = []
file_names (Some name) = name ∷ []

abbrev pub rest_names : Command → List (List ℕ)
rest_names command = file_names command.stimulus ++ file_names command.requests
