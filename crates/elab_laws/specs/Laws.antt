-- What each design that elaboration gives keeps.
use Rattle.std.specs.Prelude.{◌≡◌, ◌≤◌, ℕ, ◌+◌, List, [], ◌∷◌, Ok, length}
use Rattle.gen_text.specs.Source.{Reads}
use Rattle.gen_tree.specs.Tree.{Source}
use Rattle.exec_core.specs.Block.{Name}
use Rattle.design_core.specs.Design.{Gens, AreInRange, Design}
use Rattle.design_core.specs.WellFormed.{IsDesign}
use Rattle.elab_core.specs.Design.{elaborated_files}

-- texts are read as these sources, in the files from this number on
abbrev pub AreReadFrom : ℕ → List Source → Type 0
AreReadFrom file [] = Unit {0}
AreReadFrom file (s ∷ sources) = ((text : List ℕ) × Reads file text s) × AreReadFrom (file + 1) sources

-- some texts are read as these sources, each in the file of its number, of which there are 64 at most
abbrev pub AreReadFromTexts : List Source → Type 0
AreReadFromTexts sources = ∥ AreReadFrom 0 sources ∥₁ × (length sources ≤ 64)

-- it is well formed, where the sources were read from texts and the parameters of the top are from -2^62 to 2^62
abbrev pub ElaborationKeeps : Type 0
ElaborationKeeps =
    (sources : List Source) (top : Name) (rest : Gens) (d : Design) → AreReadFrom 0 sources → length sources ≤ 64 → AreInRange rest → elaborated_files sources top rest ≡ Ok d → IsDesign d
