-- Names and numbers, on samples.
use Rattle.std.specs.Prelude.{◌≡◌, ℕ, List, [], ◌∷◌, Ok, Err, map, codes}
use Rattle.list_core.specs.Lists.{from}
use Rattle.gen_tree.specs.Tree.{Import}
use Rattle.project_read.specs.Names.{folder_of, file_name, numbered}

abbrev import_at : ℕ → List ℕ → Import
import_at line name = record { line = line; name = name }

-- 64 names of different lengths
abbrev many : List (List ℕ)
many = map (λ n. from 65 n) (from 1 64)

pub record NumbersAreSo : Type 0 where
  pub folder : folder_of (codes "a/b/top.hg") ≡ codes "a/b/"
  pub no_folder : folder_of (codes "top.hg") ≡ []
  pub root : folder_of (codes "/top") ≡ codes "/"
  pub file : file_name (codes "a/b/") (codes "leaf") ≡ codes "a/b/leaf.hg"
  -- two files, the first of which is imported twice
  pub two : numbered [] (codes "top.hg" ∷ []) (import_at 1 (codes "b") ∷ import_at 2 (codes "a") ∷ import_at 3 (codes "b") ∷ []) ≡ Ok (codes "top.hg" ∷ codes "b.hg" ∷ codes "a.hg" ∷ [])
  -- the source itself has number 0, and `m` is another name than that of the file of `import m;`
  pub itself : numbered [] (codes "top.hg" ∷ []) (import_at 1 (codes "top") ∷ []) ≡ Ok (codes "top.hg" ∷ [])
  pub other : numbered [] (codes "m" ∷ []) (import_at 1 (codes "m") ∷ []) ≡ Ok (codes "m" ∷ codes "m.hg" ∷ [])
  pub too_many : numbered [] many (import_at 7 (codes "x") ∷ []) ≡ Err (import_at 7 (codes "x"))
