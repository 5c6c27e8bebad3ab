use Rattle.std.proofs.Common.{sym, ◌∙◌}
use Rattle.gen_token.proofs.ReadName.{name_from_test, test_from_name}
use Rattle.gen_token.proofs.name.is_name.Goals as goal

pub returns-clause-name : goal.returns-clause-name
returns-clause-name c =
    ((λ h. name_from_test c.args.bytes.now (sym c.is_free.ensures ∙ h)), (λ h. c.is_free.ensures ∙ test_from_name c.args.bytes.now h))
