use Rattle.std.proofs.Common.{◌≤◌, List, length, take, sym, subst, arith}
use Rattle.std.specs.Borrow.{Bor}
use Rattle.std.proofs.lemmas.List.{take_all}
use Rattle.exec_core.specs.Block.{Name}
use Rattle.names.specs.Known.{has}
use Rattle.names.specs.Maps.{value_of}
use Rattle.place_core.specs.Assigned.{names_at}
use Rattle.dep_order.specs.Blocks.{EndsStand, version_of}
use Rattle.dep_order.proofs.Blocks.{ends_push, version_kept}
use Rattle.dep_order.proofs.Growing.{grown_after}
use Rattle.dep_order.proofs.Names.{more_names}
use Rattle.dep_order.proofs.block.end_versions.Goals as goal

pub loop-name-preserved : goal.loop-name-preserved
loop-name-preserved c =
    let number = value_of c.args.numbers.now in
    let i = c.loop-name.name-index in
    record {
      grown = grown_after c.args.graph.now c.loop-name.graph c.end_version.new.graph c.loop-name.invariant.grown c.in_ok-version.ensures.grown;
      graph = c.in_ok-version.ensures.graph;
      ends = λ base low followed.
          subst (λ (k : List Name). EndsStand base c.end_version.new.graph number (has k) c.args.terms.now (version_of c.set.new.self)) (sym (more_names c.args.names.now i _ c.loop-name-test.true))
          (ends_push base c.loop-name.graph c.end_version.new.graph number c.args.terms.now (names_at (take i c.args.names.now)) _ (version_of c.loop-name.ends) (version_of c.set.new.self) c.in_ok-version.version c.loop-name.invariant.graph c.in_ok-version.ensures.grown
          (c.in_ok-version.ensures.end base (omega (arith, low, c.loop-name.invariant.grown.longer)) (λ j inside. version_kept base c.args.graph.now c.loop-name.graph number _ _ c.requires.graph c.loop-name.invariant.grown (followed j inside)))
          c.in_ok-set.ensures (c.loop-name.invariant.ends base low followed));
    }

pub returns-clause-ends : goal.returns-clause-ends
returns-clause-ends c base low followed =
    let past : length c.args.names.now ≤ c.loop-name.name-index = omega arith in
    subst (λ (names : List (Bor Name)). EndsStand base c.loop-name.graph (value_of c.args.numbers.now) (has (names_at names)) c.args.terms.now (version_of c.loop-name.ends))
    (take_all c.loop-name.name-index c.args.names.now past) (c.loop-name.invariant.ends base low followed)
