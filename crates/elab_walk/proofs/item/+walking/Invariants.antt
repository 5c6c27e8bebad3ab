use Rattle.std.proofs.Common.{◌+◌, ◌*◌, ◌-◌, length, pos, ◌+ℤ◌, drop}
use Rattle.gen_tree.specs.View.{item_of, items_of, module_of}
use Rattle.elab_core.specs.Walk.{judge}
use Rattle.elab_core.specs.Elab.{items_walk, turns}
use Rattle.elab_base.specs.Met.{met_of}
use Rattle.elab_walk.specs.Height.{height, height_item, levels}
use Rattle.elab_walk.specs.Walked.{made_of, here_of, modules_in, enter_in, in_turn}
use Rattle.elab_walk.proofs.Counted.{Counted}
use Rattle.elab_walk.proofs.item.+walking.Given as goal

abbrev pub invariant-items-loop-item : goal.invariant-items-loop-item
invariant-items-loop-item l =
    Counted (judge (met_of l.met) (items_walk (modules_in l.walker) (enter_in l.walker) (here_of l.walker.here.now) (items_of (drop l.item-index l.body)) l.walker.scope.now (made_of l.made)))
    (judge (met_of l.initial.met) (items_walk (modules_in l.walker) (enter_in l.walker) (here_of l.walker.here.now) (items_of l.body) l.walker.scope.now (made_of l.initial.made)))
    l.met.instances (l.walker.here.now.number + 1 + length (made_of l.made).below)

abbrev pub invariant-all_turns-loop-turn : goal.invariant-all_turns-loop-turn
invariant-all_turns-loop-turn l =
    Counted (judge (met_of l.met) (turns l.each.line (in_turn (modules_in l.walker) (enter_in l.walker) (here_of l.walker.here.now) (items_of l.body) l.each.name.value l.walker.scope.now) (l.each.turns.from +ℤ pos l.turn) (l.each.turns.count - l.turn) (made_of l.made)))
    (judge (met_of l.initial.met) (turns l.each.line (in_turn (modules_in l.walker) (enter_in l.walker) (here_of l.walker.here.now) (items_of l.body) l.each.name.value l.walker.scope.now) l.each.turns.from l.each.turns.count (made_of l.initial.made)))
    l.met.instances (l.walker.here.now.number + 1 + length (made_of l.made).below)

abbrev pub decreases-one_item : goal.decreases-one_item
decreases-one_item l = levels l.walker.now.room (modules_in l.walker.now) + (8 * height_item (item_of l.item.now) + 1)

abbrev pub decreases-generated : goal.decreases-generated
decreases-generated l = levels l.walker.now.room (modules_in l.walker.now) + 8 * height_item (item_of l.item.now)

abbrev pub decreases-items : goal.decreases-items
decreases-items l = levels l.walker.now.room (modules_in l.walker.now) + (8 * height (items_of l.body.now) + 2)

abbrev pub decreases-one_turn : goal.decreases-one_turn
decreases-one_turn l = levels l.walker.now.room (modules_in l.walker.now) + (8 * height (items_of l.body.now) + 3)

abbrev pub decreases-all_turns : goal.decreases-all_turns
decreases-all_turns l = levels l.walker.now.room (modules_in l.walker.now) + (8 * height (items_of l.body.now) + 4)

abbrev pub decreases-child : goal.decreases-child
decreases-child l = levels l.walker.now.room (modules_in l.walker.now) + 4

abbrev pub decreases-body_of : goal.decreases-body_of
decreases-body_of l = levels l.walker.now.room (modules_in l.walker.now) + (8 * height (module_of l.found.now).items + 3)

abbrev pub decreases-instances_below : goal.decreases-instances_below
decreases-instances_below l = levels l.walker.now.room (modules_in l.walker.now)
