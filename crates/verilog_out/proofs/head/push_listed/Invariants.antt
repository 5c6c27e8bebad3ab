use Rattle.std.proofs.Common.{◌≡◌, ◌++◌, take}
use Rattle.std.specs.List.{flat_map}
use Rattle.verilog_out.specs.Spelling.{listed_text}
use Rattle.verilog_out.proofs.head.push_listed.Given as goal

-- the names so far
abbrev pub invariant-loop-name : goal.invariant-loop-name
invariant-loop-name l = l.text.items ≡ l.initial.text.items ++ flat_map listed_text (take l.name-index l.ports)
