use Rattle.std.proofs.Common.{sym}
use Rattle.gen_token.specs.Words.{placed}
use Rattle.gen_tree.specs.View.{source_of}
use Rattle.gen_text.proofs.Law.{read_found, read_fault}
use Rattle.gen_text.proofs.Answers.{fault_fits, fault_on, stops_at}
use Rattle.gen_text.proofs.source.read_tokens.Goals as goal

pub line_at-requires : goal.line_at-requires
line_at-requires c = fault_fits 64 c.args.tokens.now c.in-Err-At.left (read_fault 64 (placed c.args.tokens.now) c.in-Err-At.left (stops_at c.in-Err-At.field-0 c.in-Err-At.left _ c.in-Err-At.field-0-is c.in-Err-At.ensures))

pub returns-in-Ok-clause-found : goal.returns-in-Ok-clause-found
returns-in-Ok-clause-found c = read_found 64 (placed c.args.tokens.now) (source_of c.in-Ok.source) c.in-Ok.ensures

pub returns-in-Err-At-clause-refused : goal.returns-in-Err-At-clause-refused
returns-in-Err-At-clause-refused c = fault_on 64 c.args.tokens.now c.in-Err-At.left c.args.end c.line_at.result (read_fault 64 (placed c.args.tokens.now) c.in-Err-At.left (stops_at c.in-Err-At.field-0 c.in-Err-At.left _ c.in-Err-At.field-0-is c.in-Err-At.ensures)) (sym c.line_at.ensures)
