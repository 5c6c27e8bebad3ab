use Rattle.std.proofs.Common.{◌≡◌, ◌==◌, ◌+◌, take}
use Rattle.std.specs.List.{count_by}
use Rattle.places.specs.Places.{place}
use Rattle.gen_text.proofs.source.end_line.Given as goal

abbrev pub invariant-loop-byte : goal.invariant-loop-byte
invariant-loop-byte l = l.line ≡ place l.file 1 + count_by (λ byte. byte == 10) (take l.byte-index l.text)
