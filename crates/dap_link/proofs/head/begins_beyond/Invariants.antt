use Rattle.std.proofs.Common.{◌≡◌, drop}
use Rattle.dap_link.specs.Heads.{begins_beyond}
use Rattle.dap_link.proofs.head.begins_beyond.Given as goal

-- what is left tells what all tells
abbrev pub invariant-loop-byte : goal.invariant-loop-byte
invariant-loop-byte l = begins_beyond l.left (drop l.byte-index l.text) ≡ begins_beyond l.fn.lines l.fn.text
