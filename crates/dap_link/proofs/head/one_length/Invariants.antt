use Rattle.std.proofs.Common.{◌≡◌, drop, map}
use Rattle.std.specs.Prelude.{option_map, None}
use Rattle.httparse.specs.Spans.{header_bytes}
use Rattle.dap_link.specs.Heads.{told_once}
use Rattle.dap_link.proofs.head.one_length.Given as goal

-- what is left tells what all tells
abbrev pub invariant-loop-field : goal.invariant-loop-field
invariant-loop-field l = told_once (option_map (λ digits. digits.now) l.told) (map (header_bytes l.text) (drop l.field-index l.fields)) ≡ told_once None (map (header_bytes l.fn.text) l.fn.fields)
