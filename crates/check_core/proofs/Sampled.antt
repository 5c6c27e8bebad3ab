-- The samples, computed.
use Rattle.std.proofs.Common.{refl}
use Rattle.check_core.specs.Samples.{wide_is_refused, narrow_is_refused, second_driver_is_refused, latch_is_refused, default_is_accepted, early_read_is_refused, cycle_is_accepted, other_let_is_refused, second_name_is_refused, undriven_is_refused, unbound_is_refused, unknown_port_is_refused, connected_is_accepted, parts_are_accepted, part_is_refused, early_part_is_refused, high_part_is_refused}

pub wide : wide_is_refused
wide = refl

pub narrow : narrow_is_refused
narrow = refl

pub second_driver : second_driver_is_refused
second_driver = refl

pub latch : latch_is_refused
latch = refl

pub default : default_is_accepted
default = refl

pub early_read : early_read_is_refused
early_read = refl

pub cycle : cycle_is_accepted
cycle = refl

pub other_let : other_let_is_refused
other_let = refl

pub second_name : second_name_is_refused
second_name = refl

pub undriven : undriven_is_refused
undriven = refl

pub unbound : unbound_is_refused
unbound = refl

pub unknown_port : unknown_port_is_refused
unknown_port = refl

pub connected : connected_is_accepted
connected = refl

pub parts : parts_are_accepted
parts = refl

pub part : part_is_refused
part = refl

pub early_part : early_part_is_refused
early_part = refl

pub high_part : high_part_is_refused
high_part = refl
