use Rattle.gen_text.proofs.Sample.{source, fault, imported, late, lone}
use Rattle.gen_text.proofs.laws.spells_the_sample.Goals as goal

pub returns-clause-source : goal.returns-clause-source
returns-clause-source c = source

pub returns-clause-fault : goal.returns-clause-fault
returns-clause-fault c = fault

pub returns-clause-import : goal.returns-clause-import
returns-clause-import c = imported

pub returns-clause-late : goal.returns-clause-late
returns-clause-late c = late

pub returns-clause-lone : goal.returns-clause-lone
returns-clause-lone c = lone
