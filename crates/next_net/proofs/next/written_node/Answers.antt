use Rattle.std.proofs.Common.{subst}
use Rattle.exec_core.specs.Design.{place}
use Rattle.design_exec.specs.Processes.{processes_of}
use Rattle.ssa_nodes.specs.Parts.{design_in}
use Rattle.next_net.specs.Writers.{IsWriter}
use Rattle.next_net.proofs.Nexts.{writer_ends, writer_stands}
use Rattle.next_net.proofs.next.written_node.Goals as goal

pub next_node-requires-clause-ends : goal.next_node-requires-clause-ends
next_node-requires-clause-ends c =
    let p = c.args.parts.now in
    let q = place c.args.instance c.args.name.now in
    writer_ends p c.requires.parts c.args.nodes.now q c.in-Some.number (subst (IsWriter (processes_of (design_in p)).processes q) c.in-Some.is c.requires.writer) c.requires.signal c.requires.all

pub returns-in_ok-next-in-Some-clause-stands : goal.returns-in_ok-next-in-Some-clause-stands
returns-in_ok-next-in-Some-clause-stands c =
    let p = c.args.parts.now in
    let q = place c.args.instance c.args.name.now in
    writer_stands p c.requires.parts c.next_node.new.builder q c.in-Some.number c.in_ok-next-in-Some.next (subst (IsWriter (processes_of (design_in p)).processes q) c.in-Some.is c.requires.writer) c.requires.signal c.in_ok-next-in-Some.ensures.told
