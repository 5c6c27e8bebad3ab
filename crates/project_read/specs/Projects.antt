-- Which sources the files of a design are, or why they are none. Files are taken by number: each is read, and then the files of its
-- imports are numbered, in order.
use Rattle.std.specs.Prelude.{◌≡◌, ◌≢◌, ℕ, ◌+◌, List, [], ◌∷◌, Option, Some, Result, Ok, Err, Vec, slice_get, length}
use Rattle.std.specs.declared.alloc.Global.{Global}
use Rattle.gen_tree.specs.Tree.{Source}
use Rattle.gen_tree.specs.View.{sources_of}
use Rattle.gen_tree.specs.declared.Source as code_source
use Rattle.gen_text.specs.declared.TextFault.{TextFault}
use Rattle.gen_text.specs.declared.TextFault.TheVariants as text_faults
use Rattle.gen_text.specs.Source.{Reads, IsCause}
use Rattle.project_read.specs.Names.{folder_of, numbered}
use Rattle.project_read.specs.declared.end.ProjectEnd.{ProjectEnd}
use Rattle.project_read.specs.declared.end.ProjectEnd.TheVariants as ends

-- the bytes of each file by its name
abbrev pub Contents : Type 0
Contents = List ℕ → Option (List ℕ)

-- ---- a file

-- the file of this number, among these names, has this text
pub record HasText (files : Contents) (names : List (List ℕ)) (file : ℕ) (text : List ℕ) : Type 0 where
  pub name : List ℕ
  pub at : slice_get names file ≡ Some name
  pub found : files name ≡ Some text

-- it is read as this source
pub record IsSourceOf (files : Contents) (names : List (List ℕ)) (file : ℕ) (source : Source) : Type 0 where
  pub text : List ℕ
  pub has : HasText files names file text
  pub reads : Reads file text source

-- it is not read, for this cause, which is not want of memory
pub record IsNoSource (files : Contents) (names : List (List ℕ)) (file : ℕ) (fault : TextFault) : Type 0 where
  pub text : List ℕ
  pub has : HasText files names file text
  pub cause : IsCause file text fault
  pub refuses : fault ≢ text_faults.NoMemory

-- ---- the files

-- From this number on files are read as these sources, where the first of the names were numbered before and all of them in the end
abbrev pub AreReadOn : Contents → List ℕ → List (List ℕ) → ℕ → List Source → List (List ℕ) → Type 0
AreReadOn files folder names file [] all = names ≡ all
AreReadOn files folder names file (s ∷ sources) all =
    IsSourceOf files names file s × (more : List (List ℕ)) × (numbered folder names s.imports ≡ Ok more) × AreReadOn files folder more (file + 1) sources all

-- so they are from SRC on, which is file 0
abbrev pub AreRead : Contents → List ℕ → List Source → List (List ℕ) → Type 0
AreRead files src sources all = AreReadOn files (folder_of src) (src ∷ []) 0 sources all

-- why files are refused: the text of the file of this number is no source, or an import, at this place, would be the 65th file
pub data Refusal : Type 0 where
  Text : (file : ℕ) → (fault : TextFault) → Refusal
  TooManyFiles : (line : ℕ) → (name : List ℕ) → Refusal

-- the file of this number, where these are numbered, is refused
abbrev pub IsRefusedAt : Contents → List ℕ → List (List ℕ) → ℕ → Refusal → Type 0
IsRefusedAt files folder names at (Text file fault) = (file ≡ at) × IsNoSource files names at fault
IsRefusedAt files folder names at (TooManyFiles line name) =
    (source : Source) × IsSourceOf files names at source × (numbered folder names source.imports ≡ Err (record { line = line; name = name }))

-- all files that are numbered are read, as these sources
pub record AreAllRead (files : Contents) (src : List ℕ) (sources : List Source) : Type 0 where
  pub names : List (List ℕ)
  pub read : AreRead files src sources names
  pub all : length sources ≡ length names

-- some files are read, and the next one is refused
pub record IsNotRead (files : Contents) (src : List ℕ) (refusal : Refusal) : Type 0 where
  pub sources : List Source
  pub names : List (List ℕ)
  pub read : AreRead files src sources names
  pub next : IsRefusedAt files (folder_of src) names (length sources) refusal

-- the files of a design are these sources, or they are refused for this
abbrev pub IsProject : Contents → List ℕ → Result (List Source) Refusal → Type 0
IsProject files src (Ok sources) = AreAllRead files src sources
IsProject files src (Err refusal) = IsNotRead files src refusal

-- so the code tells it; the limit is 64
abbrev pub TellsProject : Contents → List ℕ → Result (Vec code_source.Source Global) ProjectEnd → Type 0
TellsProject files src (Ok sources) = IsProject files src (Ok (sources_of sources.items))
TellsProject files src (Err (ends.Text file fault)) = IsProject files src (Err (Text file fault))
TellsProject files src (Err (ends.TooManyFiles line name limit)) = IsProject files src (Err (TooManyFiles line name)) × (limit ≡ 64)
TellsProject files src (Err ends.ReadFault) = Unit {0}
TellsProject files src (Err ends.NoMemory) = Unit {0}
