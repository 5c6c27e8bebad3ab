use Rattle.std.proofs.Common.{◌+◌, ◌*◌, ◌<◌, length, subst, sym}
use Rattle.names.specs.Maps.{value_of}
use Rattle.term_net.specs.Pending.{IsPending, work, unknown_count}
use Rattle.term_net.proofs.Stacks.{top_taken}
use Rattle.term_net.proofs.Overs.{grown_twice}
use Rattle.term_net.proofs.Fitting.{stay_twice, ready_more}
use Rattle.term_net.proofs.evaluation.evaluate_term.Goals as goal

pub returns-in-Some-clause-stands : goal.returns-in-Some-clause-stands
returns-in-Some-clause-stands c = c.loop-memo.invariant.fits.stands c.args.root.0 c.in-Some.id c.in-Some.is

pub advance-requires-clause-falls : goal.advance-requires-clause-falls
advance-requires-clause-falls c =
    (top_taken (IsPending c.loop-memo.builder (value_of c.args.places.now) c.args.nodes.now c.args.terms.now c.loop-memo.memo) (length c.args.terms.now) c.loop-memo.stack.items c.next-top.new.stack.items c.args.root c.next-top.result c.next-top.ensures c.requires.within
    (record { unknown = c.in-None.is; ready = c.loop-memo.invariant.ready }) c.loop-memo.invariant.falls).falls

pub advance-requires-clause-pending : goal.advance-requires-clause-pending
advance-requires-clause-pending c =
    (top_taken (IsPending c.loop-memo.builder (value_of c.args.places.now) c.args.nodes.now c.args.terms.now c.loop-memo.memo) (length c.args.terms.now) c.loop-memo.stack.items c.next-top.new.stack.items c.args.root c.next-top.result c.next-top.ensures c.requires.within
    (record { unknown = c.in-None.is; ready = c.loop-memo.invariant.ready }) c.loop-memo.invariant.falls).pending

pub loop-memo-smaller : goal.loop-memo-smaller
loop-memo-smaller c =
    let top = top_taken (IsPending c.loop-memo.builder (value_of c.args.places.now) c.args.nodes.now c.args.terms.now c.loop-memo.memo) (length c.args.terms.now) c.loop-memo.stack.items c.next-top.new.stack.items c.args.root c.next-top.result c.next-top.ensures c.requires.within
    (record { unknown = c.in-None.is; ready = c.loop-memo.invariant.ready }) c.loop-memo.invariant.falls in
    subst (λ k. work c.args.root.0 c.advance.new.memo c.advance.new.stack.items < unknown_count c.loop-memo.memo * (length c.loop-memo.memo + 1) + k) (sym top.is) (c.in_ok-advance.ensures.less c.args.root.0 c.requires.within)

pub loop-memo-preserved : goal.loop-memo-preserved
loop-memo-preserved c = record {
  fits = c.in_ok-advance.ensures.fits;
  grown = grown_twice _ _ _ c.loop-memo.invariant.grown c.in_ok-advance.ensures.grown;
  stay = stay_twice _ _ _ c.loop-memo.invariant.stay c.in_ok-advance.ensures.stay;
  falls = c.in_ok-advance.ensures.falls;
  ready = ready_more _ _ _ _ _ c.in_ok-advance.ensures.grown.keeps c.loop-memo.invariant.fits.leaves c.loop-memo.invariant.ready;
}
