use Rattle.std.proofs.Common.{arith}
use Rattle.project_read.proofs.Folder.{none_before, one_before}
use Rattle.project_read.proofs.names.folder_len.Goals as goal

pub returns-else-name-end-ne47-clause-folder : goal.returns-else-name-end-ne47-clause-folder
returns-else-name-end-ne47-clause-folder c = one_before c.args.name.now c.loop-end.end c.loop-end.invariant.0 c.loop-end-test.true c.loop-end.invariant.1 c.if-name-end-ne47.false

pub returns-after-loop-end-clause-folder : goal.returns-after-loop-end-clause-folder
returns-after-loop-end-clause-folder c = none_before c.args.name.now c.loop-end.end (omega (arith, c.loop-end-test.false)) c.loop-end.invariant.1
