use Rattle.std.proofs.Common.{◌≡◌, map, take}
use Rattle.dap_link.specs.Conversation.{no_file}
use Rattle.dap_link.proofs.breaking.no_files.Given as goal

abbrev pub invariant-loop-one : goal.invariant-loop-one
invariant-loop-one l = l.lines.items ≡ map no_file (take l.one-index l.asked)
