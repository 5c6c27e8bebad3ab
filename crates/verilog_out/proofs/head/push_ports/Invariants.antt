use Rattle.std.proofs.Common.{◌≡◌, ◌++◌, take}
use Rattle.std.specs.List.{flat_map}
use Rattle.verilog_out.specs.Spelling.{port_text}
use Rattle.verilog_out.proofs.head.push_ports.Given as goal

-- the ports so far
abbrev pub invariant-loop-name : goal.invariant-loop-name
invariant-loop-name l = l.text.items ≡ l.initial.text.items ++ flat_map (port_text l.kind) (take l.name-index l.ports)
