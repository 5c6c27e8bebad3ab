-- What files hold, what a read of one answers, and which names were asked for.
use Rattle.std.specs.Prelude.{◌≡◌, ℕ, ◌<◌, ◌≤◌, List, [], ◌∷◌, ◌++◌, Option, Some, None, Result, Ok, Err, Vec, String, string_bytes, length, map, IsSomeAnd, if◌then◌else◌}
use Rattle.std.specs.Str.{bytes_eq}
use Rattle.std.specs.declared.alloc.Global.{Global}
use Rattle.io_edge.specs.declared.files.FileEnd.{FileEnd}
use Rattle.io_edge.specs.declared.files.FileEnd.TheVariants.{Failed, TooLong, NoMemory}

-- the bytes of the first file of this name, in a list of names and bytes
abbrev pub file_of : List (List ℕ × List ℕ) → List ℕ → Option (List ℕ)
file_of [] name = None
file_of (file ∷ files) name = if bytes_eq file.0 name then Some file.1 else file_of files name

-- the names and bytes of these files
abbrev pub contents : List (String Global × Vec ℕ Global) → List (List ℕ × List ℕ)
contents files = map (λ file. (string_bytes file.0, file.1.items)) files

-- what a read of at most so many bytes answers, where the file's bytes are these, or there is no file: the bytes, or
-- that they are more; a fault and want of memory say nothing of them
abbrev pub Answers : Option (List ℕ) → ℕ → Result (Vec ℕ Global) FileEnd → Type 0
Answers file most (Ok bytes) = (file ≡ Some bytes.items) × (length bytes.items ≤ most)
Answers file most (Err TooLong) = IsSomeAnd file (λ bytes. most < length bytes)
Answers file most (Err Failed) = Unit {0}
Answers file most (Err NoMemory) = Unit {0}

-- what a read of at most so many bytes of the file of this name answers
abbrev pub Reads : (List ℕ → Option (List ℕ)) → List ℕ → ℕ → Result (Vec ℕ Global) FileEnd → Type 0
Reads files name most result = Answers (files name) most result

-- the names asked for, after a call with this name that answered so: one more at the end, unless memory ran out
abbrev pub asked_after : List ℕ → Result (Vec ℕ Global) FileEnd → List (List ℕ) → List (List ℕ)
asked_after name (Err NoMemory) names = names
asked_after name (Err Failed) names = names ++ name ∷ []
asked_after name (Err TooLong) names = names ++ name ∷ []
asked_after name (Ok bytes) names = names ++ name ∷ []

-- what a bounded read finds: the bytes of a file, or that they are more; where there is no file it finds nothing
abbrev pub Finds : Option (List ℕ) → ℕ → Option (Vec ℕ Global) → Type 0
Finds file most (Some bytes) = (file ≡ Some bytes.items) × (length bytes.items ≤ most)
Finds file most None = (bytes : List ℕ) × (file ≡ Some bytes) × (most < length bytes)
