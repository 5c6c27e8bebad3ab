use Rattle.exec_core.specs.Design.{place}
use Rattle.next_net.proofs.next.register_next.Goals as goal

pub signal_node-id-requires-clause-has : goal.signal_node-id-requires-clause-has
signal_node-id-requires-clause-has c = c.requires.all (place c.args.instance c.args.name.now) c.requires.signal
