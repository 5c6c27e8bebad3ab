-- How the files of a design are named, and numbered: its source, which is file 0, and beside it a file for each name that is imported.
use Rattle.std.specs.Prelude.{ℕ, Bool, ◌==◌, List, [], ◌∷◌, ◌++◌, Result, Ok, Err, String, string_bytes, map, length, codes, if◌then◌else◌}
use Rattle.std.specs.declared.alloc.Global.{Global}
use Rattle.std.specs.List.{list_any}
use Rattle.std.specs.Str.{bytes_eq}
use Rattle.gen_tree.specs.Tree.{Import}

-- the folder of a name: the bytes at which, or behind which, a slash stands
abbrev pub folder_of : List ℕ → List ℕ
folder_of [] = []
folder_of (byte ∷ bytes) = if list_any (λ b. b == 47) (byte ∷ bytes) then byte ∷ folder_of bytes else []

-- the file of an imported name, in a folder
abbrev pub file_name : List ℕ → List ℕ → List ℕ
file_name folder name = folder ++ (name ++ codes ".hg")

-- the name has a number
abbrev pub has_number : List (List ℕ) → List ℕ → Bool
has_number names name = list_any (λ known. bytes_eq known name) names

-- Behind the names that are numbered, the files of imports get the next numbers, in order: each that has none yet. Or this is the import
-- whose file would get the number 64
abbrev pub numbered : List ℕ → List (List ℕ) → List Import → Result (List (List ℕ)) Import
numbered folder names [] = Ok names
numbered folder names (i ∷ imports) =
    if has_number names (file_name folder i.name) then numbered folder names imports else
    if length names == 64 then Err i else numbered folder (names ++ file_name folder i.name ∷ []) imports

-- names as the code has them
abbrev pub names_in : List (String Global) → List (List ℕ)
names_in names = map (λ name. string_bytes name) names
