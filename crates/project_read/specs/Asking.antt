-- Which files are asked for.
use Rattle.std.specs.Prelude.{◌≡◌, ◌≢◌, ◌≤◌, ℕ, ◌+◌, List, ◌∷◌, Option, Result, Ok, Err, Vec, length, take, IfSome}
use Rattle.std.specs.declared.alloc.Global.{Global}
use Rattle.list_core.specs.Lists.{EachOf}
use Rattle.io_edge.specs.Taken.{Appends, AppendsFront}
use Rattle.io_edge.specs.Unread.{StopsAt}
use Rattle.gen_token.specs.Spelling.{IsName}
use Rattle.gen_text.specs.declared.TextFault.TheVariants as text_faults
use Rattle.gen_tree.specs.Tree.{Source}
use Rattle.gen_tree.specs.View.{sources_of}
use Rattle.gen_tree.specs.declared.Source as code_source
use Rattle.elab_laws.specs.Laws.{AreReadFromTexts}
use Rattle.project_read.specs.Names.{folder_of, file_name}
use Rattle.project_read.specs.Projects.{Contents, AreRead}
use Rattle.project_read.specs.declared.end.ProjectEnd.{ProjectEnd}
use Rattle.project_read.specs.declared.end.ProjectEnd.TheVariants as ends

-- it is the file of some name of the language, in this folder
pub record IsImported (folder file : List ℕ) : Type 0 where
  pub name : List ℕ
  pub is_name : IsName name
  pub is : file ≡ file_name folder name

-- these are the names that the files number, as far as some of them are read
pub record AreNumbered (files : Contents) (src : List ℕ) (names : List (List ℕ)) : Type 0 where
  pub sources : List Source
  pub read : AreRead files src sources names

-- These are names of the files of a design, 64 at most: first SRC, and then files of imported names beside it. Where the files are
-- told, they are those that are numbered
pub record AreNames (told : Option Contents) (src : List ℕ) (names : List (List ℕ)) : Type 0 where
  pub imported : List (List ℕ)
  pub split : names ≡ src ∷ imported
  pub each : EachOf (IsImported (folder_of src)) imported
  pub few : length names ≤ 64
  pub numbered : IfSome told (λ files. AreNumbered files src names)

-- and all of them, where all files that are numbered are read
pub record AreAllNumbered (files : Contents) (src : List ℕ) (names : List (List ℕ)) : Type 0 where
  pub sources : List Source
  pub read : AreRead files src sources names
  pub all : length sources ≡ length names

-- all names of the files of a design were asked for, in order; or the first ones, as many as these
abbrev pub AsksAll : Option Contents → List ℕ → Option (List (List ℕ)) → Option (List (List ℕ)) → Type 0
AsksAll told src old new = (names : List (List ℕ)) × AreNames told src names × IfSome told (λ files. AreAllNumbered files src names) × Appends old new names

abbrev pub AsksSome : Option Contents → List ℕ → Option (List (List ℕ)) → Option (List (List ℕ)) → ℕ → Type 0
AsksSome told src old new count = (names : List (List ℕ)) × AreNames told src names × Appends old new (take count names)

-- all of the names were asked for, in order, where the files are these sources; and those up to the file that is refused
abbrev pub AsksProject : Option Contents → List ℕ → Option (List (List ℕ)) → Option (List (List ℕ)) → Result (Vec code_source.Source Global) ProjectEnd → Type 0
AsksProject told src old new (Ok sources) = AsksAll told src old new
AsksProject told src old new (Err (ends.Text file fault)) = AsksSome told src old new (file + 1)
AsksProject told src old new (Err (ends.TooManyFiles line name limit)) = (count : ℕ) × AsksSome told src old new count
AsksProject told src old new (Err ends.ReadFault) = Unit {0}
AsksProject told src old new (Err ends.NoMemory) = Unit {0}

-- some of them were asked for, however it ends
abbrev pub AsksFront : Option Contents → List ℕ → Option (List (List ℕ)) → Option (List (List ℕ)) → Type 0
AsksFront told src old new = (names : List (List ℕ)) × AreNames told src names × AppendsFront old new names

-- the last of them that was asked for was not read
abbrev pub StopsInside : {S : Type 0} → Option Contents → List ℕ → (S → Option (List (List ℕ))) → (S → ℕ) → S → S → Type 0
StopsInside told src asked fault_count old new = (names : List (List ℕ)) × AreNames told src names × StopsAt asked fault_count old new names

-- sources were read from texts, each in the file of its number; what is refused is not refused for want of memory, and the limit is 64
abbrev pub IsFitProject : Result (Vec code_source.Source Global) ProjectEnd → Type 0
IsFitProject (Ok sources) = AreReadFromTexts (sources_of sources.items)
IsFitProject (Err (ends.Text file fault)) = fault ≢ text_faults.NoMemory
IsFitProject (Err (ends.TooManyFiles line name limit)) = limit ≡ 64
IsFitProject (Err ends.ReadFault) = Unit {0}
IsFitProject (Err ends.NoMemory) = Unit {0}
