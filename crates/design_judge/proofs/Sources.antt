-- Sources that were read, judged.
use Rattle.std.proofs.Common.{◌≤◌, ◌+◌, ℕ, List, [], ◌∷◌, length, Option, Result, Ok, Err, sym, ap, subst, ◌∙◌, arith}
use Rattle.gen_tree.specs.Tree.{Source}
use Rattle.elab_laws.specs.Laws.{AreReadFrom}
use Rattle.design_core.specs.Design.{Design}
use Rattle.design_judge.specs.declared.accepted.Accepted.{Accepted}
use Rattle.design_judge.specs.declared.design_fault.DesignFault.{DesignFault}
use Rattle.design_judge.specs.declared.design_fault.DesignFault.TheVariants.{Text, TooManyFiles, Elaboration, Check, CombLoop}
use Rattle.design_judge.specs.Judgement.{Top, Reading, AreOfText, IsDesignOf}
use Rattle.design_judge.specs.Judging.{JudgesDesign, JudgesSources, JudgesRead, AsksFiles}
use Rattle.project_read.specs.Names.{folder_of}
use Rattle.project_read.specs.Projects.{Contents, AreReadOn, IsProject}
use Rattle.project_read.proofs.Imported.{imports_named}
use Rattle.project_read.proofs.Numbering.{grown}
use Rattle.project_read.specs.Asking.{AsksAll}

-- the source of a text was read from it
pub read_so : (text : List ℕ) (sources : List Source) → AreOfText text (Ok sources) → AreReadFrom 0 sources × (length sources ≤ 64)
read_so text sources are = subst (λ (list : List Source). AreReadFrom 0 list × (length list ≤ 64)) (sym are.2) (((text, are.1), tt), omega arith)

-- files that are read on were read from texts, and few names are numbered
on_from : (files : Contents) (folder : List ℕ) (names : List (List ℕ)) (file : ℕ) (sources : List Source) (all : List (List ℕ)) → length names ≤ 64 → AreReadOn files folder names file sources all
    → AreReadFrom file sources × (length all ≤ 64)
on_from files folder names file [] all few read = (tt, subst (λ (l : List (List ℕ)). length l ≤ 64) read few)
on_from files folder names file (s ∷ sources) all few read =
    let is = read.0 in
    let g = grown folder names s.imports read.1 (imports_named file is.text s is.reads) read.2 in
    let rest = on_from files folder read.1 (file + 1) sources all (g.few few) read.3 in
    (((is.text, is.reads), rest.0), rest.1)

-- so are the files of a design
pub files_so : (files : Contents) (src : List ℕ) (sources : List Source) → IsProject files src (Ok sources) → AreReadFrom 0 sources × (length sources ≤ 64)
files_so files src sources are = let on = on_from files (folder_of src) (src ∷ []) 0 sources are.names (omega arith) are.read in (on.0, omega (arith, are.all, on.1))

-- ---- the judgement

-- of the design of sources, that of the sources
pub sources_judged : (top : Top) (sources : List Source) (d : Design) (found : Result Accepted DesignFault) → IsDesignOf top sources d → JudgesDesign d found → JudgesSources top sources found
sources_judged top sources d (Ok a) e j = (e ∙ ap (λ (x : Design). Ok x) (sym j.0), record { clean = j.1.sound.accepted; pairs = a.order; order = j.1.order })
sources_judged top sources d (Err (Text file fault)) e j = absurd j
sources_judged top sources d (Err (TooManyFiles line name)) e j = absurd j
sources_judged top sources d (Err (Elaboration fault)) e j = absurd j
sources_judged top sources d (Err (Check fault)) e j = (d, e, j)
sources_judged top sources d (Err (CombLoop paths)) e j = (d, e, j)

-- of the sources that are read, that of what is read
pub read_judged : (top : Top) (read : Reading) (sources : List Source) (found : Result Accepted DesignFault) → read (Ok sources) → JudgesSources top sources found → JudgesRead top read found
read_judged top read sources (Ok a) are j = (record { sources = sources; are = are; elaborates = j.0 }, j.1)
read_judged top read sources (Err (Text file fault)) are j = absurd j
read_judged top read sources (Err (TooManyFiles line name)) are j = absurd j
read_judged top read sources (Err (Elaboration fault)) are j = (sources, are, j)
read_judged top read sources (Err (Check fault)) are j = (j.0, record { sources = sources; are = are; elaborates = j.1 }, j.2)
read_judged top read sources (Err (CombLoop paths)) are j = (j.0, record { sources = sources; are = are; elaborates = j.1 }, j.2)

-- all files were asked for, whatever the design is judged
pub asked_all : (told : Option Contents) (src : List ℕ) (old new : Option (List (List ℕ))) (top : Top) (sources : List Source) (found : Result Accepted DesignFault) → JudgesSources top sources found
    → AsksAll told src old new → AsksFiles told src old new found
asked_all told src old new top sources (Ok a) j h = h
asked_all told src old new top sources (Err (Text file fault)) j h = absurd j
asked_all told src old new top sources (Err (TooManyFiles line name)) j h = absurd j
asked_all told src old new top sources (Err (Elaboration fault)) j h = h
asked_all told src old new top sources (Err (Check fault)) j h = h
asked_all told src old new top sources (Err (CombLoop paths)) j h = h
