use Rattle.std.proofs.Common.{rules}
use Rattle.std.proofs.lemmas.Option.{IfSome_then}
use Rattle.trace_judge.specs.Judgement.{JudgesTableText}
use Rattle.trace_judge.proofs.files.judge_table.Goals as goal

pub returns-in_ok-table_of-in-Some-clause-judged : goal.returns-in_ok-table_of-in-Some-clause-judged
returns-in_ok-table_of-in-Some-clause-judged g c =
    let found = rw c.in-Some.is at c.in_ok-text.ensures.found in
    let judged : JudgesTableText c.in-Some.text.items c.in_ok-table_of-in-Some.field-0 = search rules in
    IfSome_then (g.F.Files.told c.args.files.now) found (λ told p. (c.in-Some.text.items, p.0, judged))
