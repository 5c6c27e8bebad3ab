use Rattle.std.proofs.Common.{rules}
use Rattle.graph_order.proofs.Spans.{left_set}
use Rattle.graph_order.proofs.graph.Graph.set.Goals as goal

pub invariant_of-self-2 : goal.invariant_of-self-2
invariant_of-self-2 c =
    (left_set c.self.inside.ends.items c.args.next.now c.extend_from_slice.new.self.items c.self.inside.spans.items c.args.vertex
    (record { first = c.len-first.result; past = c.len-past.result }) c.args.self.now
    c.in_ok-extend_from_slice.ensures.items (search rules) (search rules) c.self.invariant c.self.view_is c.requires.next).0

pub returns-clause-changed : goal.returns-clause-changed
returns-clause-changed c =
    (left_set c.self.inside.ends.items c.args.next.now c.extend_from_slice.new.self.items c.self.inside.spans.items c.args.vertex
    (record { first = c.len-first.result; past = c.len-past.result }) c.args.self.now
    c.in_ok-extend_from_slice.ensures.items (search rules) (search rules) c.self.invariant c.self.view_is c.requires.next).1
