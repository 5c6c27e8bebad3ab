use Rattle.std.proofs.Common.{◌∙◌}
use Rattle.dap_link.specs.State.{alone}
use Rattle.dap_link.proofs.Requests.{asked_alone, none_heard}
use Rattle.dap_link.proofs.asking.ask.Goals as goal

pub returns-clause-told : goal.returns-clause-told
returns-clause-told g c = λ read reader.
    asked_alone read _ (alone c.args.session.now) _ _ _ (c.in_ok-listeners.ensures ∙ none_heard _ _ c.new.ensures.items) (c.in_ok-reply.ensures.answer read reader)
