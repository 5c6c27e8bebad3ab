-- What one file is, and what it adds.
use Rattle.std.specs.Prelude.{◌≡◌, ◌≢◌, ℕ, List, [], ◌∷◌, Option, Some, Result, Ok, Err, slice_index_or}
use Rattle.io_edge.specs.Taken.{Appends}
use Rattle.gen_tree.specs.Tree.{Import}
use Rattle.gen_tree.specs.View.{source_of}
use Rattle.gen_tree.specs.declared.Source as code_source
use Rattle.gen_text.specs.declared.TextFault.TheVariants as text_faults
use Rattle.gen_text.specs.Source.{Reads, IsCause}
use Rattle.project_read.specs.Names.{numbered}
use Rattle.project_read.specs.Projects.{Contents, IsSourceOf, IsRefusedAt, Text, TooManyFiles}
use Rattle.project_read.specs.declared.end.ProjectEnd.{ProjectEnd}
use Rattle.project_read.specs.declared.end.ProjectEnd.TheVariants as ends

-- the imports were numbered, and these names have numbers; or one of them is the 65th file
abbrev pub TellsNumbers : {A : Type 0} → Result (List (List ℕ)) Import → Result A ProjectEnd → List (List ℕ) → Type 0
TellsNumbers found (Ok x) names = found ≡ Ok names
TellsNumbers found (Err (ends.TooManyFiles line name limit)) names = (found ≡ Err (record { line = line; name = name })) × (limit ≡ 64)
TellsNumbers found (Err (ends.Text file fault)) names = ⊥
TellsNumbers found (Err ends.ReadFault) names = ⊥
TellsNumbers found (Err ends.NoMemory) names = Unit {0}

-- a file of these bytes was read under this number
abbrev pub TellsFile : Option (List ℕ) → ℕ → Result code_source.Source ProjectEnd → Type 0
TellsFile file number (Ok s) = (text : List ℕ) × (file ≡ Some text) × Reads number text (source_of s)
TellsFile file number (Err (ends.Text at fault)) = (text : List ℕ) × (file ≡ Some text) × IsCause number text fault
TellsFile file number (Err (ends.TooManyFiles line name limit)) = Unit {0}
TellsFile file number (Err ends.ReadFault) = Unit {0}
TellsFile file number (Err ends.NoMemory) = Unit {0}

-- whatever its bytes are: what is read was read from some text, and only a text is refused
abbrev pub IsOfFile : ℕ → Result code_source.Source ProjectEnd → Type 0
IsOfFile number (Ok s) = (text : List ℕ) × Reads number text (source_of s)
IsOfFile number (Err (ends.Text at fault)) = (at ≡ number) × (fault ≢ text_faults.NoMemory)
IsOfFile number (Err (ends.TooManyFiles line name limit)) = ⊥
IsOfFile number (Err ends.ReadFault) = Unit {0}
IsOfFile number (Err ends.NoMemory) = Unit {0}

-- its name was asked for, unless it was not read or memory ran out
abbrev pub AsksName : List ℕ → Option (List (List ℕ)) → Option (List (List ℕ)) → Result code_source.Source ProjectEnd → Type 0
AsksName name old new (Ok s) = Appends old new (name ∷ [])
AsksName name old new (Err (ends.Text at fault)) = Appends old new (name ∷ [])
AsksName name old new (Err (ends.TooManyFiles line x limit)) = Appends old new (name ∷ [])
AsksName name old new (Err ends.ReadFault) = Unit {0}
AsksName name old new (Err ends.NoMemory) = Unit {0}

-- the name of this number
abbrev pub name_at : List (List ℕ) → ℕ → List ℕ
name_at names file = slice_index_or names file []

-- the next file was read, and more names have numbers behind it; or it is refused
abbrev pub TellsNext : Contents → List ℕ → List (List ℕ) → ℕ → Result code_source.Source ProjectEnd → List (List ℕ) → Type 0
TellsNext files folder names file (Ok s) more = IsSourceOf files names file (source_of s) × (numbered folder names (source_of s).imports ≡ Ok more)
TellsNext files folder names file (Err (ends.Text at fault)) more = IsRefusedAt files folder names file (Text at fault)
TellsNext files folder names file (Err (ends.TooManyFiles line name limit)) more = IsRefusedAt files folder names file (TooManyFiles line name)
TellsNext files folder names file (Err ends.ReadFault) more = Unit {0}
TellsNext files folder names file (Err ends.NoMemory) more = Unit {0}

-- whatever the files are
abbrev pub IsNext : List ℕ → List (List ℕ) → ℕ → Result code_source.Source ProjectEnd → List (List ℕ) → Type 0
IsNext folder names file (Ok s) more = (text : List ℕ) × Reads file text (source_of s) × (numbered folder names (source_of s).imports ≡ Ok more)
IsNext folder names file (Err (ends.Text at fault)) more = (at ≡ file) × (fault ≢ text_faults.NoMemory)
IsNext folder names file (Err (ends.TooManyFiles line name limit)) more = limit ≡ 64
IsNext folder names file (Err ends.ReadFault) more = Unit {0}
IsNext folder names file (Err ends.NoMemory) more = Unit {0}
