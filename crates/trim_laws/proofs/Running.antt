-- An accepted design with an order has a run over every stimulus for its inputs.
use Rattle.std.proofs.Common.{false, List, subst}
use Rattle.std.specs.Prelude.{All}
use Rattle.list_core.specs.Lists.{EachOf}
use Rattle.exec_core.specs.States.{RowFits}
use Rattle.design_core.specs.Design.{Design}
use Rattle.design_core.specs.Ports.{ports_in, top_signals}
use Rattle.design_exec.specs.Processes.{processes_of}
use Rattle.stim_text.specs.Stimulus.{Stimulus, IsStimulus}
use Rattle.check_exec.specs.Premises.{IsSound}
use Rattle.check_exec.proofs.Ready.{runs_of_accepted_agree}
use Rattle.world_core.specs.Source.{rows_named}
use Rattle.trim_laws.specs.Runs.{HasInputs, DesignsRun}
use Rattle.world_laws.proofs.RowsFit.{Port, HasWidths, rows_fit}

pub rows_of_stimulus : (d : Design) (stim : Stimulus) → IsSound d → IsStimulus stim → HasInputs d stim.ports → EachOf (RowFits (processes_of d)) (rows_named (ports_in false (top_signals d)) stim.rows)
rows_of_stimulus d stim sound kept inputs =
    rows_fit d sound stim.rows (subst (λ (l : List Port). All (HasWidths l) stim.rows) inputs kept.each) kept.bits

pub designs_run : DesignsRun
designs_run d pairs stim sound told kept inputs =
    let all = runs_of_accepted_agree d sound told.order told.in_order (rows_named (ports_in false (top_signals d)) stim.rows) (rows_of_stimulus d stim sound kept inputs) in
    (all.run, all.is_run)
