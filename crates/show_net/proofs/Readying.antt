-- A table and a trace that are made anew tell the runs of what a service shows.
use Rattle.std.proofs.Common.{◌≡◌, List, Result, Ok, Err, length, refl, sym, ◌∙◌, ap, subst}
use Rattle.bv_core.specs.Value.{Bits}
use Rattle.design_core.specs.declared.Ports.{Ports}
use Rattle.design_core.specs.Design.{Design}
use Rattle.design_core.specs.DesignView.{design_of}
use Rattle.net_core.specs.Nets.{NetParts}
use Rattle.symtab.specs.declared.parts.TableParts.{TableParts}
use Rattle.stim_text.specs.Rows.{rows_of}
use Rattle.stim_text.specs.Stimulus.{Stimulus, IsStimulus}
use Rattle.stim_text.specs.declared.StimFault.{StimFault}
use Rattle.sim_hist.specs.Run.{run_samples}
use Rattle.trim_core.specs.Trimmed.{IsTrimmed}
use Rattle.trim_laws.specs.Runs.{HasInputs, RunsOver}
use Rattle.trim_laws.proofs.Worlds.{worlds_are_seen_alike}
use Rattle.show_net.specs.declared.service.Service.{Service}
use Rattle.show_net.specs.Over.{Over, Shows}
use Rattle.show_net.specs.Readied.{TellsRuns}

value_in : {A E : Type 0} → A → Result A E → A
value_in d (Ok z) = z
value_in d (Err e) = d

pub same_rows : (read : Result (List (List Bits)) StimFault) (x y : List (List Bits)) → read ≡ Ok x → read ≡ Ok y → x ≡ y
unfolding value_in
same_rows read x y p q = ap (value_in x) (sym p ∙ q)

pub inputs_of : (service : Service) (over : Over) (ports : Ports) → Shows service over → ports ≡ service.accepted.ports → HasInputs (design_of service.accepted.design) ports
inputs_of service over ports shows same = ap (λ (p : Ports). p.inputs) same ∙ shows.kept.ports.inputs

pub readied : (service : Service) (over : Over) (net : NetParts) (parts : TableParts) (stim : Stimulus) → Shows service over
    → IsTrimmed (design_of service.accepted.design) (length service.accepted.order) service.mode net parts → IsStimulus stim → stim.ports ≡ service.accepted.ports
    → rows_of service.accepted.ports service.stimulus.items ≡ Ok stim.rows → TellsRuns over parts (run_samples net stim)
readied service over net parts stim shows trimmed kept same_ports read run runs =
    let d = design_of service.accepted.design in
    let rows : over.rows ≡ stim.rows = same_rows (rows_of service.accepted.ports service.stimulus.items) over.rows stim.rows shows.rows read in
    let runs_over : RunsOver d stim.rows run = subst (λ (rows : List (List Bits)). RunsOver d rows run) rows (subst (λ (d : Design). RunsOver d over.rows run) shows.design runs) in
    worlds_are_seen_alike d service.accepted.order service.mode net parts stim run (record { sound = shows.kept.sound; order = shows.kept.order; trimmed = trimmed; stimulus = kept; inputs = inputs_of service over stim.ports shows same_ports; run_over = runs_over })
    ∙ rw (shows.design, shows.driven, shows.mode) refl
