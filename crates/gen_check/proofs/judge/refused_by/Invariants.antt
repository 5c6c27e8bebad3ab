use Rattle.std.proofs.Common.{◌≡◌, drop}
use Rattle.design_core.specs.DesignView.{design_of}
use Rattle.check_core.specs.Faults.{first_of}
use Rattle.check_core.specs.Verdict.{refused_at, refused_by}
use Rattle.gen_check.specs.Judged.{AreClean}
use Rattle.gen_check.proofs.judge.refused_by.Given as goal

-- what is left tells what all tells; and what was judged is not refused
abbrev pub invariant-loop-instance : goal.invariant-loop-instance
invariant-loop-instance l = record {
  told : first_of (refused_at l.refusal (design_of l.design)) (drop l.instance-index l.design.instances) ≡ refused_by (design_of l.design) l.refusal;
  clean : AreClean l.refusal (design_of l.design) l.judged;
}
