-- The net and the table behind what was written are those of the design that the files of the command hold.
use Rattle.std.proofs.Common.{◌≡◌, ℕ, length, Option, Some, None, sym, ◌∙◌, subst}
use Rattle.design_core.specs.Design.{Design}
use Rattle.place_core.specs.Orders.{TellsOrder}
use Rattle.world_core.specs.declared.mode.Mode.{Mode}
use Rattle.trim_laws.proofs.Orders.{one_length}
use Rattle.dbg_app.specs.Command.{Task, Command}
use Rattle.dbg_app.specs.Answers.{Contents, IfAsked}
use Rattle.dbg_app.specs.Compiled.{StandsOnNet, CompilesCommand}
use Rattle.dbg_app.specs.Judged.{HoldsWork, IsCompiled, Judges, Work, WorkStands, alone, judged_status, over, session}
use Rattle.dbg_app.specs.declared.judge.Judged.{Judged}
use Rattle.dbg_app.specs.declared.judge.Judged.TheVariants as judged
use Rattle.dbg_app.proofs.Asking.{same_design}

work_compiles : (files : Contents) (command : Command) (work : Work) → HoldsWork files command work → WorkStands work → CompilesCommand files command
work_compiles files command work w stands = λ d holds.
    let design : work.accepting.design ≡ d = same_design files command work.accepting.design d w.design holds in
    let order : TellsOrder d work.accepting.order = subst (λ (x : Design). TellsOrder x work.accepting.order) design w.kept.order in
    let driven : length work.accepting.order ≡ length holds.accepted.1.pairs = one_length d work.accepting.order holds.accepted.1.pairs order holds.accepted.1.order in
    let by_task = subst (λ (t : Task). StandsOnNet t work.accepting.design (length work.accepting.order) work.mode) w.task stands in
    let by_mode = subst (λ (m : Mode). StandsOnNet command.task work.accepting.design (length work.accepting.order) m) w.mode by_task in
    let by_driven = subst (λ (n : ℕ). StandsOnNet command.task work.accepting.design n command.mode) driven by_mode in
    subst (λ (x : Design). StandsOnNet command.task x (length holds.accepted.1.pairs) command.mode) design by_driven

pub command_compiles : (told : Option Contents) (command : Option Command) (j : Judged) (status : ℕ) → status ≡ 0 → status ≡ judged_status j → IfAsked told command (λ files command. Judges files command j) → IsCompiled j
    → IfAsked told command CompilesCommand
command_compiles None command j status zero is judges h = tt
command_compiles (Some files) None j status zero is judges h = tt
command_compiles (Some files) (Some command) judged.NoCommand status zero is judges h = absurd judges
command_compiles (Some files) (Some command) (judged.NoDesign fault) status zero is judges h = absurd (let same : 0 ≡ 3 = sym zero ∙ is in cc)
command_compiles (Some files) (Some command) (judged.NoStimulus fault) status zero is judges h = absurd (let same : 0 ≡ 4 = sym zero ∙ is in cc)
command_compiles (Some files) (Some command) judged.NoRequests status zero is judges h = absurd (let same : 0 ≡ 6 = sym zero ∙ is in cc)
command_compiles (Some files) (Some command) (judged.Alone task mode a) status zero is judges h = work_compiles files command (alone task mode a) judges h
command_compiles (Some files) (Some command) (judged.Over task mode a stim) status zero is judges h = work_compiles files command (over task mode a stim) judges h
command_compiles (Some files) (Some command) (judged.Session mode a stim requests) status zero is judges h = work_compiles files command (session mode a stim requests.items) judges h
