use Rattle.std.proofs.Common.{[], sym, subst}
use Rattle.ssa_nodes.specs.Parts.{all_in}
use Rattle.next_net.specs.Writers.{AreWriters}
use Rattle.next_net.proofs.Writing.{writers_none}
use Rattle.next_net.proofs.writer.writers_of.Goals as goal

pub put_processes-requires-clause-none : goal.put_processes-requires-clause-none
put_processes-requires-clause-none c =
    let p = c.args.parts.now in
    subst (AreWriters [] p.count (all_in p)) (sym c.deref_mut.ensures.value) (writers_none p.count (all_in p) c.in_ok-list.list.items c.in_ok-list.ensures.count c.in_ok-list.ensures.none)
