-- Files in memory: what they hold, which calls fail, and what a call leaves.
use Rattle.std.specs.Prelude.{ℕ, List, Bool, ◌==◌, length, Option, None, Result, Ok, Err, Vec, if◌then◌else◌}
use Rattle.std.specs.List.{list_any}
use Rattle.std.specs.declared.alloc.Global.{Global}
use Rattle.io_edge.specs.Faults.{one_more}
use Rattle.io_edge.specs.Files.{file_of, asked_after}
use Rattle.io_edge.specs.declared.files.FileEnd.{FileEnd}
use Rattle.io_edge.specs.declared.files.FileEnd.TheVariants.{Failed, TooLong, NoMemory}

-- the names and bytes of files, the numbers of the calls that fail, the names asked for, and the count of faults
pub record FilesInMemory : Type 0 where
  pub files : List (List ℕ × List ℕ)
  pub failing : List ℕ
  pub asked : List (List ℕ)
  pub faults : ℕ

-- the next call is one of those that fail; its number is how many names were asked for before it
abbrev pub next_read_fails : FilesInMemory → Bool
next_read_fails memory = list_any (λ number. number == length memory.asked) memory.failing

-- the bytes that the next call finds for a name: none where it is one of those that fail
abbrev pub found_by : FilesInMemory → List ℕ → Option (List ℕ)
found_by memory name = if next_read_fails memory then None else file_of memory.files name

-- the count of faults after a call that answered so: one more where it failed
abbrev pub faults_after : Result (Vec ℕ Global) FileEnd → ℕ → ℕ
faults_after (Err Failed) faults = one_more faults
faults_after (Err TooLong) faults = faults
faults_after (Err NoMemory) faults = faults
faults_after (Ok bytes) faults = faults

-- what a call with this name that answered so leaves
abbrev pub after_read : List ℕ → Result (Vec ℕ Global) FileEnd → FilesInMemory → FilesInMemory
after_read name result memory =
    record memory { asked = asked_after name result memory.asked; faults = faults_after result memory.faults }
