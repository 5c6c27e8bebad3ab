use Rattle.project_read.proofs.Asked.{first_front}
use Rattle.dbg_app.proofs.judge.judge_files.Goals as goal

pub returns-in_err-given-clause-front : goal.returns-in_err-given-clause-front
returns-in_err-given-clause-front g c = first_front (g.F.Files.told c.args.files.now) c.args.command.now.source.now (g.F.Files.asked c.args.files.now)
