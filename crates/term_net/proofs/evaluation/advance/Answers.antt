use Rattle.term_net.proofs.Advancing.{on_ok, both_ok, top_within, put_off_falls, put_off_less, settled_falls, settled_less}
use Rattle.term_net.proofs.evaluation.advance.Goals as goal

pub missing-requires-clause-within : goal.missing-requires-clause-within
missing-requires-clause-within c = top_within _ _ _ _ _ _ c.args.top c.requires.fits c.requires.numbered c.requires.falls c.requires.pending

pub settle-requires-clause-within : goal.settle-requires-clause-within
settle-requires-clause-within c = top_within _ _ _ _ _ _ c.args.top c.requires.fits c.requires.numbered c.requires.falls c.requires.pending

pub returns-in-Some-clause-falls : goal.returns-in-Some-clause-falls
returns-in-Some-clause-falls c =
    on_ok c.put_off.result _ _ (λ e. put_off_falls _ _ _ _ _ _ c.args.top c.requires.fits c.requires.numbered c.requires.falls c.requires.pending c.in-Some.operand _ c.in-Some.ensures e) c.put_off.ensures

pub returns-in-Some-clause-less : goal.returns-in-Some-clause-less
returns-in-Some-clause-less c =
    on_ok c.put_off.result _ _ (λ e. put_off_less _ _ _ _ _ _ c.args.top c.requires.fits c.requires.numbered c.requires.falls c.requires.pending c.in-Some.operand _ c.in-Some.ensures e) c.put_off.ensures

pub returns-in-None-clause-falls : goal.returns-in-None-clause-falls
returns-in-None-clause-falls c =
    both_ok c.settle.result _ _ _ (λ g s. settled_falls _ _ _ _ _ _ c.args.top c.requires.fits c.requires.numbered c.requires.falls c.requires.pending _ _ g s) c.settle.ensures.grown c.settle.ensures.set

pub returns-in-None-clause-less : goal.returns-in-None-clause-less
returns-in-None-clause-less c =
    both_ok c.settle.result _ _ _ (λ g s. settled_less _ _ _ _ _ _ c.args.top c.requires.fits c.requires.numbered c.requires.falls c.requires.pending _ _ g s) c.settle.ensures.grown c.settle.ensures.set
