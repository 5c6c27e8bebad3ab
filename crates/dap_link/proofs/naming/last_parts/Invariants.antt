use Rattle.std.proofs.Common.{◌≡◌, map, string_bytes, take}
use Rattle.dap_link.specs.Conversation.{last_part}
use Rattle.dap_link.proofs.naming.last_parts.Given as goal

abbrev pub invariant-loop-name : goal.invariant-loop-name
invariant-loop-name l = map (λ part. string_bytes part) l.parts.items ≡ map (λ name. last_part (string_bytes name)) (take l.name-index l.names)
