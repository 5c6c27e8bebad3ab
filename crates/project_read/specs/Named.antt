-- The names of a design's files, beside the sources that they are.
use Rattle.std.specs.Prelude.{◌≡◌, ℕ, List, Option, Result, Ok, Err, Vec, length, IfSome}
use Rattle.std.specs.declared.alloc.Global.{Global}
use Rattle.gen_tree.specs.Tree.{Source}
use Rattle.gen_tree.specs.View.{sources_of}
use Rattle.gen_tree.specs.declared.Source as code_source
use Rattle.project_read.specs.Names.{names_in}
use Rattle.project_read.specs.Projects.{Contents, AreRead}
use Rattle.project_read.specs.Asking.{AreNames}
use Rattle.project_read.specs.declared.end.ProjectEnd.{ProjectEnd}
use Rattle.project_read.specs.declared.project.Project.{Project}

-- the sources alone
abbrev pub sources_read : Result Project ProjectEnd → Result (Vec code_source.Source Global) ProjectEnd
sources_read (Ok project) = Ok project.sources
sources_read (Err end) = Err end

-- These are all names of the files of a design, a name for each source. Where the files are told, the files of these names are these sources, by
-- their numbers
pub record AreNamesOf (told : Option Contents) (src : List ℕ) (sources : List Source) (names : List (List ℕ)) : Type 0 where
  pub are : AreNames told src names
  pub read : IfSome told (λ files. AreRead files src sources names)
  pub all : length sources ≡ length names

abbrev pub NamesProject : Option Contents → List ℕ → Project → Type 0
NamesProject told src project = AreNamesOf told src (sources_of project.sources.items) (names_in project.names.items)
