use Rattle.std.proofs.Common.{List, Ok, sym, subst}
use Rattle.std.proofs.lemmas.Result.{IfOk-weaker}
use Rattle.gen_tree.specs.declared.Source as code_source
use Rattle.gen_tree.specs.View.{sources_of}
use Rattle.elab_laws.specs.Laws.{AreReadFromTexts}
use Rattle.design_judge.specs.Judgement.{Top, AreOfText}
use Rattle.design_judge.specs.Judging.{TellsSources, JudgesSources, JudgesText}
use Rattle.design_judge.proofs.Sources.{read_so, read_judged}
use Rattle.design_judge.proofs.source.judge_text.Goals as goal

pub judge_sources-requires : goal.judge_sources-requires
judge_sources-requires c =
    let read = read_so c.args.source.now (sources_of c.in-Ok.sources.items) (subst (TellsSources c.args.source.now) c.in-Ok.is c.in_ok-sources.ensures) in
    subst (λ (l : List code_source.Source). AreReadFromTexts (sources_of l)) (sym c.deref.ensures.value) (∣ read.0 ∣₁, read.1)

pub returns-in-Ok-clause-judged : goal.returns-in-Ok-clause-judged
returns-in-Ok-clause-judged c =
    let top : Top = record { name = c.args.top.now; given = c.args.given.now } in
    let are = subst (λ (l : List code_source.Source). AreOfText c.args.source.now (Ok (sources_of l))) (sym c.deref.ensures.value) (subst (TellsSources c.args.source.now) c.in-Ok.is c.in_ok-sources.ensures) in
    IfOk-weaker c.judge_sources.result (JudgesSources top (sources_of c.deref.result.now)) (JudgesText top c.args.source.now)
    (λ found j. read_judged top (AreOfText c.args.source.now) (sources_of c.deref.result.now) found are j) c.judge_sources.ensures.judged
