-- What the calls answer for a file, beside what is defined of its bytes.
use Rattle.std.specs.Prelude.{◌≡◌, ◌≢◌, ℕ, ◌+◌, false, List, Option, Some, Result, Ok, Err, Vec}
use Rattle.std.specs.declared.alloc.Global.{Global}
use Rattle.gen_tree.specs.Tree.{Source}
use Rattle.gen_tree.specs.View.{sources_of}
use Rattle.gen_tree.specs.declared.Source as code_source
use Rattle.gen_text.specs.declared.TextFault.{TextFault}
use Rattle.project_read.specs.Projects as refused
use Rattle.project_read.specs.Projects.{Contents, IsProject}
use Rattle.project_read.specs.Asking.{AsksAll, AsksSome}
use Rattle.check_core.specs.Verdict.{verdict}
use Rattle.design_core.specs.declared.Ports.{Ports}
use Rattle.design_core.specs.Design.{Design}
use Rattle.design_core.specs.DesignView.{design_of}
use Rattle.stim_text.specs.Rows.{rows_of}
use Rattle.stim_text.specs.Stimulus.{Stimulus, IsStimulus}
use Rattle.stim_text.specs.declared.StimFault.{StimFault}
use Rattle.stim_text.specs.declared.StimFault.TheVariants.{NoMemory}
use Rattle.design_judge.specs.declared.design_fault.DesignFault.{DesignFault}
use Rattle.design_judge.specs.declared.design_fault.DesignFault.TheVariants.{Text, TooManyFiles, Elaboration, Check, CombLoop}
use Rattle.design_judge.specs.declared.accepted.Accepted.{Accepted}
use Rattle.design_judge.specs.Refusals.{is_no_memory}
use Rattle.design_judge.specs.Judgement.{Top, Reading, AreOfText, HasLoop, AreJudged, IsAccepted, IsRefused}
use Rattle.design_judge.specs.Accepting.{IsKept, accepting_of}

-- ---- a source

-- a design was judged: it is accepted, or refused by the checks, or for a loop
abbrev pub JudgesDesign : Design → Result Accepted DesignFault → Type 0
JudgesDesign d (Ok a) = (design_of a.design ≡ d) × IsKept (accepting_of a)
JudgesDesign d (Err (Text file fault)) = ⊥
JudgesDesign d (Err (TooManyFiles line name)) = ⊥
JudgesDesign d (Err (Elaboration fault)) = ⊥
JudgesDesign d (Err (Check fault)) = verdict d ≡ Some fault
JudgesDesign d (Err (CombLoop paths)) = HasLoop d paths

-- what is read is an accepted design, or it is refused
abbrev pub JudgesRead : Top → Reading → Result Accepted DesignFault → Type 0
JudgesRead top read (Ok a) = IsAccepted top read (design_of a.design)
JudgesRead top read (Err fault) = IsRefused top read fault

-- so a text is, and so are files
abbrev pub JudgesText : Top → List ℕ → Result Accepted DesignFault → Type 0
JudgesText top text found = JudgesRead top (AreOfText text) found

abbrev pub JudgesFiles : Contents → List ℕ → Top → Result Accepted DesignFault → Type 0
JudgesFiles files src top found = JudgesRead top (IsProject files src) found

-- a text was read: it is these sources, or it is not read
abbrev pub TellsSources : List ℕ → Result (Vec code_source.Source Global) TextFault → Type 0
TellsSources text (Ok sources) = AreOfText text (Ok (sources_of sources.items))
TellsSources text (Err fault) = AreOfText text (Err (refused.Text 0 fault))

-- sources that were read are an accepted design, or they are refused
abbrev pub JudgesSources : Top → List Source → Result Accepted DesignFault → Type 0
JudgesSources top sources (Ok a) = AreJudged top sources (Ok (design_of a.design))
JudgesSources top sources (Err fault) = AreJudged top sources (Err fault)

-- what is accepted is kept so, and a refusal is not want of memory
abbrev pub IsFit : Result Accepted DesignFault → Type 0
IsFit (Ok a) = IsKept (accepting_of a)
IsFit (Err fault) = is_no_memory fault ≡ false

-- ---- the files that were asked for

-- all files of the design, in order, where they are read; those up to the one that is refused, where one is
abbrev pub AsksFiles : Option Contents → List ℕ → Option (List (List ℕ)) → Option (List (List ℕ)) → Result Accepted DesignFault → Type 0
AsksFiles told src old new (Ok a) = AsksAll told src old new
AsksFiles told src old new (Err (Text file fault)) = AsksSome told src old new (file + 1)
AsksFiles told src old new (Err (TooManyFiles line name)) = (count : ℕ) × AsksSome told src old new count
AsksFiles told src old new (Err (Elaboration fault)) = AsksAll told src old new
AsksFiles told src old new (Err (Check fault)) = AsksAll told src old new
AsksFiles told src old new (Err (CombLoop paths)) = AsksAll told src old new

-- ---- a stimulus

-- a text was judged: it has these rows, or it is refused
abbrev pub JudgesRows : List ℕ → Ports → Result Stimulus StimFault → Type 0
JudgesRows text ports (Ok stim) = rows_of ports text ≡ Ok stim.rows
JudgesRows text ports (Err fault) = rows_of ports text ≡ Err fault

-- a stimulus was judged, by what its file holds
abbrev pub JudgesStimulus : Option (List ℕ) → Ports → Result Stimulus StimFault → Type 0
JudgesStimulus file ports found = (text : List ℕ) × (file ≡ Some text) × JudgesRows text ports found

-- a stimulus of these ports, each of whose rows has their widths; or a refusal that is not want of memory
abbrev pub IsWhole : Ports → Result Stimulus StimFault → Type 0
IsWhole ports (Ok stim) = (stim.ports ≡ ports) × IsStimulus stim
IsWhole ports (Err fault) = fault ≢ NoMemory
