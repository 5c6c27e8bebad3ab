-- What it is that the files of a design are accepted, and why they are refused.
use Rattle.std.specs.Prelude.{◌≡◌, ◌≢◌, ℕ, false, true, List, [], ◌∷◌, Some, None, Result, Ok, Err, ◌⊎◌}
use Rattle.gen_tree.specs.Tree.{Source}
use Rattle.gen_text.specs.declared.TextFault.TheVariants as text_faults
use Rattle.gen_text.specs.Source.{Reads, IsCause}
use Rattle.project_read.specs.Projects as refused
use Rattle.project_read.specs.Projects.{Contents, Refusal, IsProject}
use Rattle.exec_core.specs.Block.{Name}
use Rattle.design_core.specs.declared.Ports.{Ports}
use Rattle.design_core.specs.Design.{Gens, Design}
use Rattle.design_core.specs.Ports.{ports_in, top_signals}
use Rattle.design_core.specs.WellFormed.{registers}
use Rattle.elab_core.specs.declared.fault.ElabFault.{ElabFault}
use Rattle.elab_core.specs.declared.fault.ElabFault.TheVariants as elab_faults
use Rattle.elab_core.specs.Walk as walk
use Rattle.elab_core.specs.Design.{elaborated_files}
use Rattle.check_core.specs.Verdict.{verdict}
use Rattle.place_core.specs.Orders.{Pair, TellsOrder}
use Rattle.dep_order.specs.Results.{TellsLoop}
use Rattle.design_judge.specs.declared.design_fault.DesignFault.{DesignFault}
use Rattle.design_judge.specs.declared.design_fault.DesignFault.TheVariants.{Text, TooManyFiles, Elaboration, Check, CombLoop}
use Rattle.design_judge.specs.Loops.{signal_paths}

-- a module, and what it is given
pub record Top : Type 0 where
  pub name : List ℕ
  pub given : Gens

-- ---- what is read

-- what it is that something is sources, or is refused: a text alone, or the files of a design
abbrev pub Reading : Type 1
Reading = Result (List Source) Refusal → Type 0

-- a text is read so that is the one file of a design
abbrev pub AreOfText : List ℕ → Reading
AreOfText text (Ok sources) = (source : Source) × Reads 0 text source × (sources ≡ source ∷ [])
AreOfText text (Err (refused.Text file fault)) = (file ≡ 0) × IsCause 0 text fault × (fault ≢ text_faults.NoMemory)
AreOfText text (Err (refused.TooManyFiles line name)) = ⊥

-- it is one thing
abbrev pub IsOne : Reading → Type 0
IsOne read = (a b : Result (List Source) Refusal) → read a → read b → a ≡ b

-- ---- the steps behind it

-- a faulty event of the walk of elaboration, as the code tells it
abbrev pub told_fault : walk.Fault → ElabFault
told_fault (walk.UnknownModule line x) = elab_faults.UnknownModule line x
told_fault (walk.UnknownParameter line x) = elab_faults.UnknownParameter line x
told_fault (walk.ElabRange line) = elab_faults.ElabRange line
told_fault (walk.TooDeep line x) = elab_faults.TooDeep line x
told_fault (walk.TooLarge line what limit) = elab_faults.TooLarge line what limit

-- the walk over the sources from the top meets this fault first
pub record Stumbles (top : Top) (sources : List Source) (fault : ElabFault) : Type 0 where
  pub event : walk.Fault
  pub fails : elaborated_files sources top.name top.given ≡ Err event
  pub told : fault ≡ told_fault event

-- the design of the sources from their top is this one
abbrev pub IsDesignOf : Top → List Source → Design → Type 0
IsDesignOf top sources d = elaborated_files sources top.name top.given ≡ Ok d

-- no check refuses the design, and its driven signals depend on one another in a loop, which is told by their paths
pub record HasLoop (d : Design) (paths : List Name) : Type 0 where
  pub clean : verdict d ≡ None
  pub pairs : List Pair
  pub loop : TellsLoop d pairs
  pub told : paths ≡ signal_paths d pairs

-- no check refuses the design, and its driven signals have an order, in which each stands behind those that it depends on
pub record HasOrder (d : Design) : Type 0 where
  pub clean : verdict d ≡ None
  pub pairs : List Pair
  pub order : TellsOrder d pairs

-- ---- the judgement

-- Of sources that were read, and their top: the design that is accepted, or why it is refused. The steps are taken in this order, each
-- on what the one before it made, so what a later one refuses no earlier one did:
--   5 to 9     the top is elaborated: the first faulty event of the walk
--   10 to 19   its design is checked: the first in the order of the checks, which is that of their numbers but for 13, behind 15
--   20         its driven signals are put in order: a loop of them
abbrev pub AreJudged : Top → List Source → Result Design DesignFault → Type 0
AreJudged top sources (Err (Text file fault)) = ⊥
AreJudged top sources (Err (TooManyFiles line name)) = ⊥
AreJudged top sources (Err (Elaboration fault)) = Stumbles top sources fault
AreJudged top sources (Err (Check fault)) = (d : Design) × IsDesignOf top sources d × (verdict d ≡ Some fault)
AreJudged top sources (Err (CombLoop paths)) = (d : Design) × IsDesignOf top sources d × HasLoop d paths
AreJudged top sources (Ok d) = IsDesignOf top sources d × HasOrder d

-- what is read are sources whose design from their top is this one
pub record Describes (top : Top) (read : Reading) (d : Design) : Type 0 where
  pub sources : List Source
  pub are : read (Ok sources)
  pub elaborates : IsDesignOf top sources d

-- Of what is read, and its top: the same, behind
--   1 to 4     the text of each file is read, file by file: of its faults the first in this order
--   21         its imports are numbered: the one that would be the 65th file
abbrev pub IsJudged : Top → Reading → Result Design DesignFault → Type 0
IsJudged top read (Err (Text file fault)) = read (Err (refused.Text file fault))
IsJudged top read (Err (TooManyFiles line name)) = read (Err (refused.TooManyFiles line name))
IsJudged top read (Err (Elaboration fault)) = (sources : List Source) × read (Ok sources) × Stumbles top sources fault
IsJudged top read (Err (Check fault)) = (d : Design) × Describes top read d × (verdict d ≡ Some fault)
IsJudged top read (Err (CombLoop paths)) = (d : Design) × Describes top read d × HasLoop d paths
IsJudged top read (Ok d) = Describes top read d × HasOrder d

-- it is accepted as this design, or refused for this
abbrev pub IsAccepted : Top → Reading → Design → Type 0
IsAccepted top read d = IsJudged top read (Ok d)

abbrev pub IsRefused : Top → Reading → DesignFault → Type 0
IsRefused top read fault = IsJudged top read (Err fault)

-- it describes a design with this loop
pub record IsLooped (top : Top) (read : Reading) (d : Design) (paths : List Name) : Type 0 where
  pub describes : Describes top read d
  pub loop : HasLoop d paths

-- both refusals tell loops of one design
pub record TellLoops (top : Top) (read : Reading) (a b : Result Design DesignFault) : Type 0 where
  pub design : Design
  pub paths : List Name
  pub others : List Name
  pub first : a ≡ Err (CombLoop paths)
  pub second : b ≡ Err (CombLoop others)
  pub one : IsLooped top read design paths
  pub other : IsLooped top read design others

-- a text has one judgement, but that a design with several loops is refused for any of them
abbrev pub HasOneJudgement : Type 0
HasOneJudgement =
    (top : Top) (text : List ℕ) (a b : Result Design DesignFault) → IsJudged top (AreOfText text) a → IsJudged top (AreOfText text) b
    → (a ≡ b) ⊎ TellLoops top (AreOfText text) a b

-- and so have the files of a design
abbrev pub FilesHaveOneJudgement : Type 0
FilesHaveOneJudgement =
    (top : Top) (files : Contents) (src : List ℕ) (a b : Result Design DesignFault) → IsJudged top (IsProject files src) a → IsJudged top (IsProject files src) b
    → (a ≡ b) ⊎ TellLoops top (IsProject files src) a b

-- both refusals tell loops of the design of the sources
pub record TellItsLoops (top : Top) (sources : List Source) (a b : Result Design DesignFault) : Type 0 where
  pub design : Design
  pub is : IsDesignOf top sources design
  pub paths : List Name
  pub others : List Name
  pub first : a ≡ Err (CombLoop paths)
  pub second : b ≡ Err (CombLoop others)
  pub one : HasLoop design paths
  pub other : HasLoop design others

-- so have sources that were read
abbrev pub HaveOneJudgement : Type 0
HaveOneJudgement =
    (top : Top) (sources : List Source) (a b : Result Design DesignFault) → AreJudged top sources a → AreJudged top sources b → (a ≡ b) ⊎ TellItsLoops top sources a b

-- ---- what is kept of an accepted design

-- the top of a design as its surroundings see it: its name, its inputs and its outputs in order, and how many registers there are
pub record ArePortsOf (d : Design) (ports : Ports) : Type 0 where
  pub «module» : ports.module ≡ d.top
  pub inputs : ports.inputs ≡ ports_in false (top_signals d)
  pub outputs : ports.outputs ≡ ports_in true (top_signals d)
  pub registers : ports.registers ≡ registers d.variants d.instances
