use Rattle.check_core.proofs.Sampled as samples
use Rattle.check_core.proofs.laws.checks_the_samples.Goals as goal

pub returns-clause-wide : goal.returns-clause-wide
returns-clause-wide c = samples.wide

pub returns-clause-narrow : goal.returns-clause-narrow
returns-clause-narrow c = samples.narrow

pub returns-clause-second_driver : goal.returns-clause-second_driver
returns-clause-second_driver c = samples.second_driver

pub returns-clause-latch : goal.returns-clause-latch
returns-clause-latch c = samples.latch

pub returns-clause-default : goal.returns-clause-default
returns-clause-default c = samples.default

pub returns-clause-early_read : goal.returns-clause-early_read
returns-clause-early_read c = samples.early_read

pub returns-clause-cycle : goal.returns-clause-cycle
returns-clause-cycle c = samples.cycle

pub returns-clause-other_let : goal.returns-clause-other_let
returns-clause-other_let c = samples.other_let

pub returns-clause-second_name : goal.returns-clause-second_name
returns-clause-second_name c = samples.second_name

pub returns-clause-undriven : goal.returns-clause-undriven
returns-clause-undriven c = samples.undriven

pub returns-clause-unbound : goal.returns-clause-unbound
returns-clause-unbound c = samples.unbound

pub returns-clause-unknown_port : goal.returns-clause-unknown_port
returns-clause-unknown_port c = samples.unknown_port

pub returns-clause-connected : goal.returns-clause-connected
returns-clause-connected c = samples.connected

pub returns-clause-parts : goal.returns-clause-parts
returns-clause-parts c = samples.parts

pub returns-clause-part : goal.returns-clause-part
returns-clause-part c = samples.part

pub returns-clause-early_part : goal.returns-clause-early_part
returns-clause-early_part c = samples.early_part

pub returns-clause-high_part : goal.returns-clause-high_part
returns-clause-high_part c = samples.high_part
