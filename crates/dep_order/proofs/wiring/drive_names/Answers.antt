use Rattle.std.proofs.Common.{ℕ, ◌≤◌, List, [], length, take, get_or, option_map, sym, subst, arith}
use Rattle.std.specs.Borrow.{Bor}
use Rattle.std.proofs.lemmas.List.{take_all}
use Rattle.exec_core.specs.Block.{Name}
use Rattle.names.specs.Known.{has}
use Rattle.names.specs.Maps.{value_of}
use Rattle.place_core.specs.Assigned.{names_at}
use Rattle.dep_order.specs.Standing.{AreVertices}
use Rattle.dep_order.specs.Blocks.{single, version_of}
use Rattle.dep_order.specs.Wiring.{DrivesNames}
use Rattle.dep_order.proofs.Names.{more_names, name_has, names_next, names_none, others_after, others_same}
use Rattle.dep_order.proofs.wiring.drive_names.Goals as goal

pub loop-name-init : goal.loop-name-init
loop-name-init c = record {
  others = others_same c.args.graph.now (value_of c.args.numbers.now) c.requires.graph;
  drives = names_none c.args.graph.now c.args.driven.now (value_of c.args.numbers.now) (version_of c.args.ends.now);
}

pub drive_name-requires-clause-version : goal.drive_name-requires-clause-version
drive_name-requires-clause-version c =
    let none : Bor Name = record { ref_ptr = (0, 0); now = [] } in
    let x : Name = (get_or c.args.names.now c.loop-name.name-index none).now in
    subst (λ (n : ℕ). AreVertices n (option_map single (version_of c.args.ends.now x))) (sym c.loop-name.invariant.others.count)
    (c.requires.versions x (name_has c.args.names.now c.loop-name.name-index none c.loop-name-test.true))

pub loop-name-preserved : goal.loop-name-preserved
loop-name-preserved c =
    let i = c.loop-name.name-index in
    record {
      others = others_after c.args.graph.now c.loop-name.graph c.drive_name.new.graph (value_of c.args.numbers.now) c.loop-name.invariant.others c.in_ok-drive_name.ensures.others;
      drives =
          subst (λ (k : List Name). DrivesNames c.args.graph.now c.args.driven.now c.drive_name.new.graph c.drive_name.new.driven (value_of c.args.numbers.now) (has k) (version_of c.args.ends.now))
          (sym (more_names c.args.names.now i _ c.loop-name-test.true))
          (names_next c.args.graph.now c.loop-name.graph c.drive_name.new.graph c.args.driven.now c.loop-name.driven c.drive_name.new.driven (value_of c.args.numbers.now) (names_at (take i c.args.names.now)) _ (version_of c.args.ends.now)
          c.requires.graph c.loop-name.invariant.others (c.requires.versions _ (name_has c.args.names.now i _ c.loop-name-test.true)) c.loop-name.invariant.drives c.in_ok-drive_name.ensures.drives);
    }

pub returns-clause-drives : goal.returns-clause-drives
returns-clause-drives c =
    let past : length c.args.names.now ≤ c.loop-name.name-index = omega arith in
    subst (λ (names : List (Bor Name)). DrivesNames c.args.graph.now c.args.driven.now c.loop-name.graph c.loop-name.driven (value_of c.args.numbers.now) (has (names_at names)) (version_of c.args.ends.now))
    (take_all c.loop-name.name-index c.args.names.now past) c.loop-name.invariant.drives
