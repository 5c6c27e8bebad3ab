use Rattle.std.proofs.Common.{[], ◌++◌, ◌∷◌, ap, ◌∙◌}
use Rattle.net_core.specs.Nodes.{trees_of}
use Rattle.walk_net.specs.declared.task.Task.TheVariants.{Enter}
use Rattle.walk_net.proofs.Doing.{can_enter, enter_done}
use Rattle.walk_net.proofs.walk.walk_node.Goals as goal

pub do_all-requires-clause-can : goal.do_all-requires-clause-can
do_all-requires-clause-can c =
    can_enter c.args.net.now.nodes c.push.new.self.items c.args.id (trees_of c.args.builder.now) (c.in_ok-push.ensures.items ∙ ap (λ xs. xs ++ Enter c.args.id ∷ []) c.requires.none) c.requires.within

pub returns-clause-walked : goal.returns-clause-walked
returns-clause-walked c =
    enter_done c.args.net.now.nodes c.push.new.self.items c.args.id (trees_of c.args.builder.now) (trees_of c.do_all.new.builder) (c.in_ok-push.ensures.items ∙ ap (λ xs. xs ++ Enter c.args.id ∷ []) c.requires.none) c.in_ok-do_all.ensures.done
