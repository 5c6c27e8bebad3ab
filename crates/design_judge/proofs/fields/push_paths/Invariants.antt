use Rattle.std.proofs.Common.{◌≡◌, ◌++◌, take}
use Rattle.std.specs.List.{flat_map}
use Rattle.design_judge.specs.Loops.{behind_blank}
use Rattle.design_judge.proofs.fields.push_paths.Given as goal

-- the paths so far
abbrev pub invariant-loop-path : goal.invariant-loop-path
invariant-loop-path l = l.line.items ≡ l.initial.line.items ++ flat_map behind_blank (take l.path-index l.paths)
