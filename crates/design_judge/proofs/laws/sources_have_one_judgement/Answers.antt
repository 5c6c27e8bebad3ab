use Rattle.design_judge.proofs.OneJudgement.{files_have_one, text_has_one, one_judged}
use Rattle.design_judge.proofs.laws.sources_have_one_judgement.Goals as goal

pub returns-clause-files : goal.returns-clause-files
returns-clause-files c = files_have_one

pub returns-clause-text : goal.returns-clause-text
returns-clause-text c = text_has_one

pub returns-clause-sources : goal.returns-clause-sources
returns-clause-sources c = one_judged
