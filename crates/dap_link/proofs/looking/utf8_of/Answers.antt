use Rattle.std.proofs.Common.{◌∙◌}
use Rattle.dap_link.proofs.Utf8.{kept_utf8, not_utf8}
use Rattle.dap_link.proofs.looking.utf8_of.Goals as goal

pub returns-in_ok-from_str-in-Ok : goal.returns-in_ok-from_str-in-Ok
returns-in_ok-from_str-in-Ok c =
    kept_utf8 c.args.bytes.now c.new.result c.in-Ok.ensures.cases.1 (c.new.ensures ∙ c.in_ok-from_str-in-Ok.ensures.ok ∙ c.in-Ok.ensures.cases.0)

pub returns-in-Err : goal.returns-in-Err
returns-in-Err c = not_utf8 c.args.bytes.now c.in-Err.ensures.cases.0
