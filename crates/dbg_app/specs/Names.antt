-- Which files a command asks for: those of its design, and then its stimulus and its requests.
use Rattle.std.specs.Prelude.{◌≡◌, ℕ, List, ◌++◌, Option, Some, None, IfSome}
use Rattle.io_edge.specs.Taken.{Appends, AppendsFront}
use Rattle.io_edge.specs.Unread.{StopsAt}
use Rattle.project_read.specs.Projects.{Contents}
use Rattle.project_read.specs.Asking.{AreNames, AreAllNumbered}
use Rattle.dbg_app.specs.Command.{Command, rest_names}

-- these are its files, in the order in which they are taken, as far as files of the design are numbered
pub record AreNamesOf (told : Option Contents) (command : Command) (all : List (List ℕ)) : Type 0 where
  pub names : List (List ℕ)
  pub are : AreNames told command.source names
  pub split : all ≡ names ++ rest_names command

-- some of them were asked for; none where the words are no command
abbrev pub AsksFrontOf : Option Contents → Option Command → Option (List (List ℕ)) → Option (List (List ℕ)) → Type 0
AsksFrontOf told None old new = new ≡ old
AsksFrontOf told (Some command) old new = (all : List (List ℕ)) × AreNamesOf told command all × AppendsFront old new all

-- the last of them that was asked for was not read
abbrev pub StopsInsideOf : {S : Type 0} → Option Contents → Option Command → (S → Option (List (List ℕ))) → (S → ℕ) → S → S → Type 0
StopsInsideOf told None asked fault_count old new = ⊥
StopsInsideOf told (Some command) asked fault_count old new = (all : List (List ℕ)) × AreNamesOf told command all × StopsAt asked fault_count old new all

-- all files of the design were asked for, in order, and then these
abbrev pub AsksBehind : Option Contents → List ℕ → List (List ℕ) → Option (List (List ℕ)) → Option (List (List ℕ)) → Type 0
AsksBehind told src more old new = (names : List (List ℕ)) × AreNames told src names × IfSome told (λ files. AreAllNumbered files src names) × Appends old new (names ++ more)
