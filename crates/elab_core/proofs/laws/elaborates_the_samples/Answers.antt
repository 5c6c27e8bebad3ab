use Rattle.elab_core.proofs.SampleWalks as samples
use Rattle.elab_core.proofs.laws.elaborates_the_samples.Goals as goal

pub returns-clause-loops : goal.returns-clause-loops
returns-clause-loops c = samples.loops

pub returns-clause-loops_refused : goal.returns-clause-loops_refused
returns-clause-loops_refused c = samples.loops_refused

pub returns-clause-endless : goal.returns-clause-endless
returns-clause-endless c = samples.endless

pub returns-clause-family : goal.returns-clause-family
returns-clause-family c = samples.family

pub returns-clause-files : goal.returns-clause-files
returns-clause-files c = samples.files

pub returns-clause-files_refused : goal.returns-clause-files_refused
returns-clause-files_refused c = samples.files_refused
