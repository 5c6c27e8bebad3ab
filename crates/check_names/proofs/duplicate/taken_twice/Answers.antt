use Rattle.std.proofs.Common.{ap, sym, ◌∙◌, []}
use Rattle.names.specs.Known.{has, either}
use Rattle.check_core.specs.Names.{taken_twice}
use Rattle.check_names.specs.Things.{things_at}
use Rattle.check_names.proofs.TakenSteps.{taken_turn}
use Rattle.check_names.proofs.duplicate.taken_twice.Goals as goal

pub loop-line-init : goal.loop-line-init
loop-line-init c = ap (λ known. taken_twice (either known (has c.args.taken.now)) (things_at c.args.things.now)) c.new-met.ensures.known

pub loop-line-preserved : goal.loop-line-preserved
loop-line-preserved c =
    taken_turn _ _ _ c.args.things.now c.loop-line.line-index (0, record { ref_ptr = (0, 0); now = [] }) c.loop-line-test.true
    (sym c.in_ok-is_taken.ensures.taken ∙ c.if-branch.false) c.in_ok-is_taken.ensures.met ∙ c.loop-line.invariant
