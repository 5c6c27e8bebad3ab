use Rattle.std.proofs.Common.{◌≡◌, map, take, string_bytes}
use Rattle.dap_link.proofs.adapter.texts_of.Given as goal

abbrev pub invariant-loop-name : goal.invariant-loop-name
invariant-loop-name l = l.texts.items ≡ map (λ name. string_bytes name) (take l.name-index l.names)
