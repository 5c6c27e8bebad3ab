-- What the checks accept meets the premises of the theorem on runs.
use Rattle.exec_core.proofs.Running.{runs_agree}
use Rattle.design_exec.specs.Processes.{processes_of}
use Rattle.check_exec.specs.Premises.{AcceptedIsReady, RunsOfAcceptedAgree}
use Rattle.check_exec.proofs.Slots.{slots_are_apart}
use Rattle.check_exec.proofs.Latches.{no_latch_is_left}
use Rattle.check_exec.proofs.Givens.{givens_fit, givens_are_apart}
use Rattle.check_exec.proofs.Checks.{blocks_are_checked}
use Rattle.check_exec.proofs.Links.{links_fit}
use Rattle.check_exec.proofs.Sources.{one_source_each}

pub accepted_is_ready : AcceptedIsReady
accepted_is_ready d sound order in_order = record {
  blocks = blocks_are_checked d sound;
  no_latch = no_latch_is_left d sound;
  links = links_fit d sound;
  givens = givens_fit d sound;
  one_source = one_source_each d sound;
  apart = givens_are_apart d sound;
  slots = slots_are_apart d sound.kept;
  in_order = in_order;
}

pub runs_of_accepted_agree : RunsOfAcceptedAgree
runs_of_accepted_agree d sound order in_order rows fit = runs_agree (processes_of d) order (accepted_is_ready d sound order in_order) rows fit
