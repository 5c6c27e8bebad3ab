use Rattle.names.specs.Maps.{value_of}
use Rattle.name_widths.specs.DeclaredWidths.{width_at}
use Rattle.block_net.proofs.TermLists.{extends_none, extends_twice}
use Rattle.block_net.proofs.WalkSteps.{walked_shows}
use Rattle.block_net.proofs.BindSteps.{chosen_within, set_nothing, set_one, set_all_of}
use Rattle.block_net.proofs.bindings.set_all.Goals as goal

pub loop-binding-init : goal.loop-binding-init
loop-binding-init c = record {
  fits = c.requires.fits;
  shows = c.requires.shows;
  terms = extends_none _;
  set = set_nothing (width_at (value_of c.args.widths.now)) c.args.walk.now c.args.bindings.now c.requires.shows c.requires.fits;
}

pub set-requires-clause-within : goal.set-requires-clause-within
set-requires-clause-within c = chosen_within _ _ _ _ _ c.loop-binding.invariant.terms c.requires.within c.loop-binding-test.true c.binding-item.is

pub loop-binding-preserved : goal.loop-binding-preserved
loop-binding-preserved c = record {
  fits = c.in_ok-set.ensures.fits;
  shows = walked_shows (width_at (value_of c.args.widths.now)) _ _ _ _ c.in_ok-set.ensures;
  terms = extends_twice _ _ _ c.loop-binding.invariant.terms c.in_ok-set.ensures.terms;
  set = set_one (width_at (value_of c.args.widths.now)) _ _ _ _ _ _ _ c.loop-binding-test.true c.binding-item.is c.in_ok-key.ensures c.loop-binding.invariant.terms c.in_ok-set.ensures c.loop-binding.invariant.set;
}

pub returns-clause-sets : goal.returns-clause-sets
returns-clause-sets c = set_all_of (width_at (value_of c.args.widths.now)) _ _ _ _ c.loop-binding-test.false c.loop-binding.invariant.set
