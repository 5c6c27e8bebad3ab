use Rattle.std.proofs.Common.{◌≡◌, filter, take}
use Rattle.dap_link.specs.Conversation.{is_elsewhere}
use Rattle.dap_link.proofs.breaking.others.Given as goal

abbrev pub invariant-loop-b : goal.invariant-loop-b
invariant-loop-b l = l.kept.items ≡ filter (is_elsewhere l.file) (take l.b-index l.set)
