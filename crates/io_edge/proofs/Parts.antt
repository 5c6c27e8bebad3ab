-- The part of a piece that a sink in memory takes is a front of it.
use Rattle.std.proofs.Common.{◌≡◌, ℕ, ◌/◌, List, [], ◌++◌, Bool, true, false, length, take, drop, refl, sym, ap, Some, if◌then◌else◌}
use Rattle.std.proofs.lemmas.List.{take-append-drop, append-nil}
use Rattle.io_edge.specs.Taken.{AppendsFront}
use Rattle.io_edge.specs.MemorySink.{SinkInMemory, next_put_fails, has_room, part_put, part_taken}

part_is_front : (old new piece : List ℕ) (half : ℕ) (fails fits : Bool) → new ≡ old ++ (if fits then (if fails then take half piece else piece) else []) → AppendsFront (Some old) (Some new) piece
part_is_front old new piece half true true e = record { front = take half piece; rest = drop half piece; split = sym (take-append-drop half piece); grown = ap Some e }
part_is_front old new piece half false true e = record { front = piece; rest = []; split = sym (append-nil piece); grown = ap Some e }
part_is_front old new piece half fails false e = record { front = []; rest = piece; split = refl; grown = ap Some e }

-- a sink that took its part of a piece has grown by a front of that piece
pub front_taken : (sink : SinkInMemory) (piece new : List ℕ) → new ≡ sink.taken ++ part_taken sink piece → AppendsFront (Some sink.taken) (Some new) piece
front_taken sink piece new e =
    part_is_front sink.taken new piece (length piece / 2) (next_put_fails sink) (has_room sink (length (part_put sink piece))) e
