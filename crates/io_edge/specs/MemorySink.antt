-- A sink in memory: what it took, which puts fail, and what a put leaves.
use Rattle.std.specs.Prelude.{ℕ, ◌+◌, ◌/◌, List, [], ◌++◌, Bool, ◌==◌, ◌&&◌, not, length, take, nat_le, if◌then◌else◌}
use Rattle.std.specs.List.{list_any}
use Rattle.io_edge.specs.Faults.{one_more}

-- the bytes taken, the room for all bytes, the numbers of the puts that fail, the number of the next put (which stays
-- at 2^64 - 1), and the count of faults
pub record SinkInMemory : Type 0 where
  pub taken : List ℕ
  pub room : ℕ
  pub failing : List ℕ
  pub puts : ℕ
  pub faults : ℕ

-- the next put is one of those that fail
abbrev pub next_put_fails : SinkInMemory → Bool
next_put_fails sink = list_any (λ number. number == sink.puts) sink.failing

-- the part of a piece that the next put is to take: the first half, rounded down, where it is one of those that fail,
-- and else the whole
abbrev pub part_put : SinkInMemory → List ℕ → List ℕ
part_put sink piece = if next_put_fails sink then take (length piece / 2) piece else piece

-- there is room left for so many bytes
abbrev pub has_room : SinkInMemory → ℕ → Bool
has_room sink count = nat_le (length sink.taken + count) sink.room

-- the part of a piece that the next put takes: nothing where the part that it is to take is beyond the room left
abbrev pub part_taken : SinkInMemory → List ℕ → List ℕ
part_taken sink piece = if has_room sink (length (part_put sink piece)) then part_put sink piece else []

-- the next put takes its whole piece and does not fail
abbrev pub takes_whole : SinkInMemory → List ℕ → Bool
takes_whole sink piece = not (next_put_fails sink) && has_room sink (length piece)

-- what a put of this piece leaves
abbrev pub after_put : List ℕ → SinkInMemory → SinkInMemory
after_put piece sink = record sink {
  taken = sink.taken ++ part_taken sink piece;
  puts = one_more sink.puts;
  faults = if takes_whole sink piece then sink.faults else one_more sink.faults;
}
