-- A demo, judged, and the text that goes with what was judged.
use Rattle.std.specs.Prelude.{◌≡◌, ◌≢◌, ◌≤◌, ℕ, false, List, [], ◌∷◌, Option, Some, Ok, length}
use Rattle.bv_core.specs.Value.{Bits}
use Rattle.exec_core.specs.Whole.{Place}
use Rattle.io_edge.specs.Taken.{Appends, AppendsFront}
use Rattle.listen.specs.Pairs.{Heard}
use Rattle.design_core.specs.Design.{Design}
use Rattle.design_core.specs.DesignView.{design_of}
use Rattle.stim_text.specs.Stimulus.{IsStimulus}
use Rattle.stim_text.specs.declared.StimFault.TheVariants.{NoMemory}
use Rattle.design_judge.specs.Refusals.{is_no_memory, design_line, stimulus_line}
use Rattle.design_judge.specs.Accepting.{IsKept, accepting_of}
use Rattle.world_core.specs.declared.mode.Mode.{Mode}
use Rattle.world_core.specs.Source.{source_world}
use Rattle.trim_laws.specs.Runs.{RunsOver}
use Rattle.machine_core.specs.Reading.{Reader, IsReader}
use Rattle.batch_run.specs.Texts.{requests_fault, most_requests}
use Rattle.run_status.specs.Statuses.{status_of}
use Rattle.run_status.specs.declared.Ending.TheVariants as ends
use Rattle.demo_run.specs.Asked.{Given, Contents, IsChain, HasRows, HoldsRequests, RefusesDesign, RefusesStimulus, RefusesRequests, line_over}
use Rattle.demo_run.specs.declared.judge.Demo.{Demo}
use Rattle.demo_run.specs.declared.walk.Walk.{Walk}
use Rattle.demo_run.specs.declared.judge.Judged.{Judged}
use Rattle.demo_run.specs.declared.judge.Judged.TheVariants as judged

-- without where the name lies in memory
abbrev pub given_as : Demo → Given
given_as demo = record { mode = demo.mode; number = demo.number; requests = demo.requests.now }

-- what a session walks is what is there
pub record HoldsWalk (files : Contents) (given : Given) (walk : Walk) : Type 0 where
  pub mode : walk.mode ≡ given.mode
  pub number : walk.number ≡ given.number
  pub accepted : IsChain given (design_of walk.accepted.design)
  pub rows : HasRows walk.accepted.ports (Ok walk.stim.rows)
  pub requests : HoldsRequests files given (Some walk.requests.items)

-- so a demo is judged
abbrev pub Judges : Contents → Given → Judged → Type 0
Judges files given (judged.NoDesign fault) = RefusesDesign given 3 (design_line fault)
Judges files given (judged.NoStimulus fault) = RefusesStimulus given 4 (stimulus_line fault)
Judges files given judged.NoRequests = RefusesRequests files given 6 requests_fault
Judges files given (judged.Walked walk) = HoldsWalk files given walk

-- the names that were asked for before it was judged so
abbrev pub asked_for : Given → Judged → List (List ℕ)
asked_for given (judged.NoDesign fault) = []
asked_for given (judged.NoStimulus fault) = []
asked_for given judged.NoRequests = given.requests ∷ []
asked_for given (judged.Walked walk) = given.requests ∷ []

-- what is walked is kept so, and the stimulus is one of its ports
pub record IsWalk (walk : Walk) : Type 0 where
  pub kept : IsKept (accepting_of walk.accepted)
  pub ports : walk.stim.ports ≡ walk.accepted.ports
  pub stimulus : IsStimulus walk.stim
  pub short : length walk.requests.items ≤ most_requests

-- what was refused has a line
abbrev pub HasText : Judged → Type 0
HasText (judged.NoDesign fault) = is_no_memory fault ≡ false
HasText (judged.NoStimulus fault) = fault ≢ NoMemory
HasText judged.NoRequests = Unit {0}
HasText (judged.Walked walk) = IsWalk walk

abbrev pub judged_status : Judged → ℕ
judged_status (judged.NoDesign fault) = status_of ends.NoDesign
judged_status (judged.NoStimulus fault) = status_of ends.NoStimulus
judged_status judged.NoRequests = status_of ends.NoRequests
judged_status (judged.Walked walk) = status_of ends.Written

-- the line of a design and a mode, over some run and by the one way to read conditions; n is how many signals are driven
abbrev pub IsSessionLine : List Heard → ℕ → Design → ℕ → Mode → List (List Bits) → List ℕ → List ℕ → Type 0
IsSessionLine heard number d n mode rows requests text =
    (run : List (Place → Bits)) × RunsOver d rows run × (read : Reader) × IsReader read × (text ≡ line_over heard number (source_world d n mode run) read requests)

abbrev pub IsWalkLine : List Heard → Walk → List ℕ → Type 0
IsWalkLine heard walk text =
    IsSessionLine heard walk.number (design_of walk.accepted.design) (length walk.accepted.order) walk.mode walk.stim.rows walk.requests.items text

-- the text that goes with what was judged
abbrev pub IsTextOf : List Heard → Judged → List ℕ → Type 0
IsTextOf heard (judged.NoDesign fault) text = text ≡ design_line fault
IsTextOf heard (judged.NoStimulus fault) text = text ≡ stimulus_line fault
IsTextOf heard judged.NoRequests text = text ≡ requests_fault
IsTextOf heard (judged.Walked walk) text = IsWalkLine heard walk text

-- each text that goes with what was judged is this one
pub record IsTheText (heard : List Heard) (judged : Judged) (line : List ℕ) : Type 0 where
  pub is : (text : List ℕ) → IsTextOf heard judged text → text ≡ line

pub record IsTheLine (heard : List Heard) (walk : Walk) (line : List ℕ) : Type 0 where
  pub is : (text : List ℕ) → IsWalkLine heard walk text → text ≡ line

-- it was taken, or a front of it
pub record TakesJudged (heard : List Heard) (judged : Judged) (old new : Option (List ℕ)) : Type 0 where
  pub taken : (text : List ℕ) → IsTextOf heard judged text → Appends old new text

pub record TakesJudgedFront (heard : List Heard) (judged : Judged) (old new : Option (List ℕ)) : Type 0 where
  pub taken : (text : List ℕ) → IsTextOf heard judged text → AppendsFront old new text
