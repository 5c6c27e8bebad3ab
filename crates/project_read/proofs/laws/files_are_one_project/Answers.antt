use Rattle.project_read.proofs.OneProject.{one_project}
use Rattle.project_read.proofs.laws.files_are_one_project.Goals as goal

pub returns : goal.returns
returns c = one_project
