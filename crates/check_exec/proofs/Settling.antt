-- Each cycle of an accepted design settles in exactly one way.
use Rattle.exec_core.proofs.Running.{cycles_settle}
use Rattle.design_exec.specs.Processes.{processes_of}
use Rattle.check_exec.specs.Settling.{CyclesOfAcceptedSettle}
use Rattle.check_exec.proofs.Ready.{accepted_is_ready}

pub cycles_of_accepted_settle : CyclesOfAcceptedSettle
cycles_of_accepted_settle d sound order in_order registers fit row fits =
    cycles_settle (processes_of d) order (accepted_is_ready d sound order in_order) registers fit row fits
