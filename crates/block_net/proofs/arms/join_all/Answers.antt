use Rattle.std.proofs.Common.{arith}
use Rattle.names.specs.Maps.{value_of}
use Rattle.name_widths.specs.DeclaredWidths.{width_at}
use Rattle.block_net.proofs.TermLists.{extends_none, extends_twice}
use Rattle.block_net.proofs.ArmSteps.{end_has, joins_end, joins_next, joins_start}
use Rattle.block_net.proofs.arms.join_all.Goals as goal

pub loop-left-init : goal.loop-left-init
loop-left-init c = record {
  inside = omega arith;
  fits = c.requires.fits;
  shows = c.requires.shows;
  terms = extends_none _;
  joins = joins_start (width_at (value_of c.args.widths.now)) c.args.ends.now c.args.walk.now c.requires.shows c.requires.fits;
}

pub join-requires-clause-test : goal.join-requires-clause-test
join-requires-clause-test c =
    (end_has _ _ c.args.ends.now _ c.index-ends-left.result (omega (arith, c.loop-left.invariant.inside, c.loop-left-test.true)) c.index-ends-left.is c.loop-left.invariant.terms c.requires.within).0

pub join-requires-clause-within : goal.join-requires-clause-within
join-requires-clause-within c =
    (end_has _ _ c.args.ends.now _ c.index-ends-left.result (omega (arith, c.loop-left.invariant.inside, c.loop-left-test.true)) c.index-ends-left.is c.loop-left.invariant.terms c.requires.within).1

pub loop-left-preserved : goal.loop-left-preserved
loop-left-preserved c = record {
  inside = omega (arith, c.loop-left.invariant.inside);
  fits = c.in_ok-join.ensures.fits;
  shows = c.in_ok-join.ensures.shows;
  terms = extends_twice _ _ _ c.loop-left.invariant.terms c.in_ok-join.ensures.terms;
  joins = joins_next (width_at (value_of c.args.widths.now)) c.args.ends.now _ c.loop-left.left c.index-ends-left.result c.args.walk.now c.loop-left.walk c.join.new.walk (omega (arith, c.loop-left.invariant.inside, c.loop-left-test.true)) (omega (arith, c.loop-left-test.true))
      c.index-ends-left.is c.loop-left.invariant.terms c.in_ok-join.ensures.joins c.loop-left.invariant.joins;
}

pub returns : goal.returns
returns c = joins_end (width_at (value_of c.args.widths.now)) c.args.ends.now c.loop-left.left c.args.walk.now c.loop-left.walk (omega (arith, c.loop-left-test.false)) c.loop-left.invariant.joins
