-- Laws of numbers and of projects.
use Rattle.std.specs.Prelude.{◌≡◌, ℕ, List, ◌++◌, Result, Ok}
use Rattle.list_core.specs.Lists.{EachOf, IsIn, AreApart}
use Rattle.gen_tree.specs.Tree.{Import, Source}
use Rattle.project_read.specs.Names.{file_name, numbered}
use Rattle.project_read.specs.Projects.{Contents, Refusal, IsProject}

-- Behind numbered names, the files of imports got numbers: the names are all different if those before were, those before keep their
-- numbers, and the file of each import is among them, whether it is imported once or more often
pub record AreGivenOnce (folder : List ℕ) (names : List (List ℕ)) (imports : List Import) (all : List (List ℕ)) : Type 0 where
  pub others : List (List ℕ)
  pub kept : all ≡ names ++ others
  pub apart : AreApart all
  pub each : EachOf (λ (i : Import). IsIn (file_name folder i.name) all) imports

abbrev pub NumbersAreGivenOnce : Type 0
NumbersAreGivenOnce =
    (folder : List ℕ) (names : List (List ℕ)) (imports : List Import) (all : List (List ℕ)) → AreApart names → numbered folder names imports ≡ Ok all → AreGivenOnce folder names imports all

-- the files of a design are one list of sources, or are refused for one cause
abbrev pub FilesAreOneProject : Type 0
FilesAreOneProject = (files : Contents) (src : List ℕ) (a b : Result (List Source) Refusal) → IsProject files src a → IsProject files src b → a ≡ b
