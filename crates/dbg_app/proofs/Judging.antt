-- What was judged, file by file, is what the command asks for.
use Rattle.std.proofs.Common.{◌≡◌, arith, ℕ, List, [], Option, Some, None, Result, Ok, Err, IfOk, IfSome, refl, ap, ◌∙◌}
use Rattle.std.proofs.lemmas.List.Elements.{All-nil}
use Rattle.std.proofs.lemmas.Bool.Decides.{nat_tests}
use Rattle.design_core.specs.declared.Ports.{Ports}
use Rattle.stim_text.specs.Stimulus.{Stimulus, IsStimulus}
use Rattle.stim_text.specs.declared.StimFault.{StimFault}
use Rattle.world_core.specs.declared.mode.Mode.{Mode}
use Rattle.trim_laws.specs.Runs.{HasInputs}
use Rattle.trim_laws.proofs.Running.{designs_run}
use Rattle.design_core.specs.Design.{Design}
use Rattle.design_core.specs.DesignView.{design_of}
use Rattle.design_judge.specs.declared.Accepted.{Accepted}
use Rattle.design_judge.specs.Refusals.{stimulus_line}
use Rattle.design_judge.specs.Accepting.{IsKept, accepting_of}
use Rattle.design_judge.specs.Judging.{JudgesFiles, JudgesStimulus, IsWhole}
use Rattle.dbg_app.specs.Command.{Session, Command}
use Rattle.dbg_app.specs.Asked.{alone_as, over_as}
use Rattle.batch_run.specs.Texts.{requests_fault}
use Rattle.dbg_app.specs.Answers.{Contents, AreRequests, HoldsDesign, RefusesStimulus, RefusesRequests}
use Rattle.dbg_app.specs.declared.command.OfDesign.{OfDesign}
use Rattle.dbg_app.specs.declared.command.OverRows.{OverRows}
use Rattle.dbg_app.specs.declared.halt.Halt.{Halt}
use Rattle.dbg_app.specs.declared.judge.Judged.{Judged}
use Rattle.dbg_app.specs.Judged.{HasRun, HoldsWork, Judges, alone, over, session}

-- ---- runs

-- a design that is accepted runs over a stimulus for its ports
pub over_runs : (task : OverRows) (mode : Mode) (a : Accepted) (stim : Stimulus) → IsKept (accepting_of a) → IsWhole a.ports (Ok stim) → HasRun (over task mode a stim)
over_runs task mode a stim kept whole =
    let has : HasInputs (design_of a.design) stim.ports = ap (λ (p : Ports). p.inputs) whole.0 ∙ kept.ports.inputs in
    let found = designs_run (design_of a.design) a.order stim kept.sound kept.order whole.1 has in
    record { kept = kept; run = found.0; runs = found.1 }

pub session_runs : (mode : Mode) (a : Accepted) (stim : Stimulus) (requests : List ℕ) → IsKept (accepting_of a) → IsWhole a.ports (Ok stim) → HasRun (session mode a stim requests)
session_runs mode a stim requests kept whole =
    let has : HasInputs (design_of a.design) stim.ports = ap (λ (p : Ports). p.inputs) whole.0 ∙ kept.ports.inputs in
    let found = designs_run (design_of a.design) a.order stim kept.sound kept.order whole.1 has in
    record { kept = kept; run = found.0; runs = found.1 }

-- and over no rows
no_rows : (ports : Ports) → IsStimulus (record { ports = ports; rows = [] })
no_rows ports = record { few = grind (arith, nat_tests); each = All-nil _; bits = All-nil _ }

pub alone_runs : (task : OfDesign) (mode : Mode) (a : Accepted) → IsKept (accepting_of a) → HasRun (alone task mode a)
alone_runs task mode a kept =
    let found = designs_run (design_of a.design) a.order (record { ports = a.ports; rows = [] }) kept.sound kept.order (no_rows a.ports) kept.ports.inputs in
    record { kept = kept; run = found.0; runs = found.1 }

-- ---- what the files hold

-- the source is this design, and nothing more is asked
pub alone_held : (told : Option Contents) (command : Command) (task : OfDesign) (mode : Mode) (a : Accepted) → alone_as task ≡ command.task → mode ≡ command.mode → command.stimulus ≡ None → command.requests ≡ None → IsKept (accepting_of a)
    → IfSome told (λ files. JudgesFiles files command.source command.top (Ok a)) → IfSome told (λ files. HoldsWork files command (alone task mode a))
alone_held None command task mode a t m none bare kept s = tt
alone_held (Some files) command task mode a t m none bare kept s =
    record { task = t; mode = m; kept = kept; design = record { accepted = s }; rows = rw none refl; requests = rw bare refl }

-- the source is this design, and the stimulus has these rows for it
pub over_held : (told : Option Contents) (command : Command) (name : List ℕ) (task : OverRows) (mode : Mode) (a : Accepted) (stim : Stimulus) → over_as task ≡ command.task → mode ≡ command.mode → command.stimulus ≡ Some name → command.requests ≡ None → IsKept (accepting_of a)
    → IfSome told (λ files. JudgesFiles files command.source command.top (Ok a)) → IfSome told (λ files. JudgesStimulus (files name) a.ports (Ok stim)) → IfSome told (λ files. HoldsWork files command (over task mode a stim))
over_held None command name task mode a stim t m named bare kept s r = tt
over_held (Some files) command name task mode a stim t m named bare kept s r =
    record { task = t; mode = m; kept = kept; design = record { accepted = s }; rows = rw named r; requests = rw bare refl }

-- the source is this design, and the stimulus is refused for it
pub over_refused : (told : Option Contents) (command : Command) (name : List ℕ) (a : Accepted) (fault : StimFault) → command.stimulus ≡ Some name → IsKept (accepting_of a)
    → IfSome told (λ files. JudgesFiles files command.source command.top (Ok a)) → IfSome told (λ files. JudgesStimulus (files name) a.ports (Err fault))
    → IfSome told (λ files. RefusesStimulus files command (record { status = 4; text = stimulus_line fault }))
over_refused None command name a fault named kept s r = tt
over_refused (Some files) command name a fault named kept s r =
    record { design = design_of a.design; holds = record { accepted = s }; ports = a.ports; are = kept.ports; fault = fault; refused = rw named r; is = refl }

-- ---- the same of a session, where the source was judged before

pub session_held : (told : Option Contents) (command : Command) (name other : List ℕ) (mode : Mode) (a : Accepted) (stim : Stimulus) (text : List ℕ) → Session ≡ command.task → mode ≡ command.mode → command.stimulus ≡ Some name
    → command.requests ≡ Some other → IsKept (accepting_of a) → IfSome told (λ files. JudgesStimulus (files name) a.ports (Ok stim)) → IfSome told (λ files. AreRequests (files other) (Some text))
    → IfSome told (λ files. HoldsDesign files command (design_of a.design) → HoldsWork files command (session mode a stim text))
session_held None command name other mode a stim text t m named asked kept r q = tt
session_held (Some files) command name other mode a stim text t m named asked kept r q = λ design. record { task = t; mode = m; kept = kept; design = design; rows = rw named r; requests = rw asked q }

-- the stimulus is refused
pub session_refused : (told : Option Contents) (command : Command) (name : List ℕ) (a : Accepted) (fault : StimFault) → command.stimulus ≡ Some name → IsKept (accepting_of a) → IfSome told (λ files. JudgesStimulus (files name) a.ports (Err fault))
    → IfSome told (λ files. HoldsDesign files command (design_of a.design) → RefusesStimulus files command (record { status = 4; text = stimulus_line fault }))
session_refused None command name a fault named kept r = tt
session_refused (Some files) command name a fault named kept r = λ design. record { design = design_of a.design; holds = design; ports = a.ports; are = kept.ports; fault = fault; refused = rw named r; is = refl }

-- the requests are too long
pub requests_refused : (told : Option Contents) (command : Command) (name other : List ℕ) (a : Accepted) (stim : Stimulus) → command.stimulus ≡ Some name → command.requests ≡ Some other → IsKept (accepting_of a)
    → IfSome told (λ files. JudgesStimulus (files name) a.ports (Ok stim)) → IfSome told (λ files. AreRequests (files other) None)
    → IfSome told (λ files. HoldsDesign files command (design_of a.design) → RefusesRequests files command (record { status = 6; text = requests_fault }))
requests_refused None command name other a stim named asked kept r q = tt
requests_refused (Some files) command name other a stim named asked kept r q =
    λ design. record { design = design_of a.design; holds = design; ports = a.ports; are = kept.ports; rows = stim.rows; stimulus = rw named r; refused = rw asked q; is = refl }

-- what a source was judged to be is held
pub source_held : (told : Option Contents) (command : Command) (a : Accepted) → IfSome told (λ files. JudgesFiles files command.source command.top (Ok a)) → IfSome told (λ files. HoldsDesign files command (design_of a.design))
source_held None command a s = tt
source_held (Some files) command a s = record { accepted = s }

-- what was judged so where the source holds a design is judged so
judged_of_held : (told : Option Contents) (command : Command) (d : Design) (judged : Judged) → IfSome told (λ files. HoldsDesign files command d) → IfSome told (λ files. HoldsDesign files command d → Judges files command judged)
    → IfSome told (λ files. Judges files command judged)
judged_of_held None command d judged h j = tt
judged_of_held (Some files) command d judged h j = j h

pub session_judged : (told : Option Contents) (command : Command) (d : Design) (result : Result Judged Halt) → IfSome told (λ files. HoldsDesign files command d)
    → IfOk result (λ judged. IfSome told (λ files. HoldsDesign files command d → Judges files command judged)) → IfOk result (λ judged. IfSome told (λ files. Judges files command judged))
session_judged told command d (Ok judged) h j = judged_of_held told command d judged h j
session_judged told command d (Err halt) h j = tt
