use Rattle.std.proofs.Common.{◌≡◌, drop}
use Rattle.project_read.specs.Names.{has_number, names_in}
use Rattle.project_read.proofs.names.has_number.Given as goal

-- no name before this one is it
abbrev pub invariant-loop-known : goal.invariant-loop-known
invariant-loop-known l = has_number (names_in l.names) l.name ≡ has_number (names_in (drop l.known-index l.names)) l.name
