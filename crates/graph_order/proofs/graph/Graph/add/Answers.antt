use Rattle.std.proofs.Common.{◌≡◌, arith, rules}
use Rattle.graph_order.specs.Flat.{graph_of}
use Rattle.graph_order.proofs.Spans.{left_same, left_added}
use Rattle.graph_order.proofs.graph.Graph.add.Goals as goal

pub invariant_of-self-in_err-push : goal.invariant_of-self-in_err-push
invariant_of-self-in_err-push c =
    (left_same c.self.inside.ends.items c.args.next.now c.extend_from_slice.new.self.items c.self.inside.spans.items c.push.new.self.items c.args.self.now
    c.in_ok-extend_from_slice.ensures.items c.in_err-push.ensures.items c.self.invariant c.self.view_is).0

pub returns-in_err-push-clause-same : goal.returns-in_err-push-clause-same
returns-in_err-push-clause-same c =
    let known : graph_of c.extend_from_slice.new.self.items c.push.new.self.items ≡ c.args.self.now =
    (left_same c.self.inside.ends.items c.args.next.now c.extend_from_slice.new.self.items c.self.inside.spans.items c.push.new.self.items c.args.self.now
    c.in_ok-extend_from_slice.ensures.items c.in_err-push.ensures.items c.self.invariant c.self.view_is).1 in
    search (rules, known)

pub invariant_of-self-2 : goal.invariant_of-self-2
invariant_of-self-2 c =
    (left_added c.self.inside.ends.items c.args.next.now c.extend_from_slice.new.self.items c.self.inside.spans.items c.push.new.self.items _ c.args.self.now
    c.in_ok-extend_from_slice.ensures.items c.in_ok-push.ensures.items (search rules) (search rules) c.self.invariant c.self.view_is c.requires (omega arith)).0

pub returns-clause-added : goal.returns-clause-added
returns-clause-added c =
    (left_added c.self.inside.ends.items c.args.next.now c.extend_from_slice.new.self.items c.self.inside.spans.items c.push.new.self.items _ c.args.self.now
    c.in_ok-extend_from_slice.ensures.items c.in_ok-push.ensures.items (search rules) (search rules) c.self.invariant c.self.view_is c.requires (omega arith)).1
