use Rattle.std.proofs.Common.{◌≤◌, subst, sym}
use Rattle.verilog_out.proofs.Widths.{node_some}
use Rattle.verilog_out.proofs.line.push_declaration.Goals as goal

pub push_declaration_of-requires : goal.push_declaration_of-requires
push_declaration_of-requires c = subst (λ n. 1 ≤ n) (sym c.width.ensures) (node_some c.args.net.now c.requires.net c.args.id.0 c.requires.node)
