use Rattle.std.proofs.Common.{OnOk, subst, sym}
use Rattle.std.proofs.lemmas.Result.{on_ok_weaker}
use Rattle.net_core.specs.Nodes.{tree_of, trees_of}
use Rattle.walk_net.specs.Tasks.{did, CanDo, CanDoAll, Stacked}
use Rattle.walk_net.specs.Renaming.{id_at}
use Rattle.walk_net.proofs.Nodes.{has_operands}
use Rattle.walk_net.proofs.Doing.{entered_stack, entered_at}
use Rattle.walk_net.proofs.Copies.{known_by}
use Rattle.walk_net.proofs.walk.advance.Goals as goal

pub returns-in-Enter-clause-stacked : goal.returns-in-Enter-clause-stacked
returns-in-Enter-clause-stacked c =
    let ns = c.args.net.now.nodes in
    let new = c.args.builder.now in
    let id = c.in-Enter.id in
    let can = subst (λ task. CanDo ns task (trees_of new)) c.in-Enter.is c.requires.can in
    let rest = subst (λ task. CanDoAll ns c.args.tasks.now.items (did ns task (trees_of new))) c.in-Enter.is c.requires.rest in
    let known = known_by new (tree_of ns id.0) (id_at c.args.ids.now id.0) (c.requires.copies.each id.0 can) in
    let it = entered_at ns c.requires.shared.numbered (trees_of new) (has_operands new c.requires.copies.shared.numbered) id can (id_at c.args.ids.now id.0) known in
    subst (λ task. OnOk c.enter.result (Stacked ns c.args.tasks.now.items task c.enter.new.tasks.items (trees_of new) (trees_of new))) (sym c.in-Enter.is)
    (on_ok_weaker c.enter.result (λ e. entered_stack ns c.args.tasks.now.items c.enter.new.tasks.items _ id (trees_of new) e it rest) c.enter.ensures)
