-- The samples and the refusals of the example, computed.
use Rattle.std.proofs.Common.{refl}
use Rattle.vcd_trace.specs.Example.{IsSeen, IsRefusedFor}

pub is_seen : IsSeen
is_seen = record {
  accepted = refl;
  cycle_count = refl;
  node_count = refl;
  enable_first = refl;
  enable_then = refl;
  data_then = refl;
  not_named = refl;
  node_then = refl;
}

pub is_refused : IsRefusedFor
is_refused = record { scope = refl; clock = refl; size = refl; first_counts = refl; wide_clock = refl; empty_scope = refl }
