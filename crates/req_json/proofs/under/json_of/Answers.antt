use Rattle.std.proofs.Common.{rules}
use Rattle.req_json.proofs.Utf8.{json_found, json_none}
use Rattle.req_json.proofs.under.json_of.Goals as goal

pub returns-in-Ok : goal.returns-in-Ok
returns-in-Ok c = json_found _ _ c.in-Ok.ensures.ok.0 c.in-Ok.ensures.ok.1

pub returns-else-is_memory : goal.returns-else-is_memory
returns-else-is_memory c = json_none c.args.text.now (λ utf8. c.in-Err.ensures.err (search rules) utf8)
