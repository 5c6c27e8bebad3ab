use Rattle.std.proofs.Common.{◌∙◌, ap}
use Rattle.dap_link.specs.Conversation.{unheard}
use Rattle.dap_link.specs.State.{alone, world_in}
use Rattle.dap_link.proofs.Requests.{lines_alone, none_heard, ran_alone}
use Rattle.dap_link.proofs.asking.settle.Goals as goal

pub returns-clause-after : goal.returns-clause-after
returns-clause-after g c =
    ap (λ ran. unheard ran.after)
    (ran_alone _ (alone c.args.session.now) _ _ (c.in_ok-listeners.ensures ∙ none_heard _ _ c.new.ensures.items) c.settle.ensures.ran)

pub returns-clause-lines : goal.returns-clause-lines
returns-clause-lines g c =
    lines_alone (world_in c.args.session.now) _ _ _
    (ran_alone _ (alone c.args.session.now) _ _ (c.in_ok-listeners.ensures ∙ none_heard _ _ c.new.ensures.items) c.settle.ensures.ran)
