-- The samples of the example, computed.
use Rattle.std.proofs.Common.{refl}
use Rattle.vcd_samples.specs.Example.{IsRead}

pub is_read : IsRead
is_read = record {
  times = refl;
  cycle_count = refl;
  enable_first = refl;
  enable_then = refl;
  data_first = refl;
  data_then = refl;
  register_first = refl;
  register_then = refl;
  node_then = refl;
  not_declared = refl;
  no_scope = refl;
  extended_by_x = refl;
  too_wide = refl;
}
