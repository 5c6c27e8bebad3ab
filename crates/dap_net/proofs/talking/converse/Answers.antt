use Rattle.std.proofs.Common.{◌∙◌, ap, map}
use Rattle.std.specs.Prelude.{string_bytes}
use Rattle.dap_link.specs.Conversation.{last_part}
use Rattle.dap_link.specs.State.{world_in}
use Rattle.dap_link.specs.Conversing.{conversation_of}
use Rattle.dap_run.proofs.Writing.{broken_first}
use Rattle.show_net.specs.Over.{world_over}
use Rattle.dap_net.specs.Conversations.{opened}
use Rattle.dap_net.proofs.Running.{talks_so}
use Rattle.dap_net.proofs.talking.converse.Goals as goal

pub returns-in-Ok-clause-text : goal.returns-in-Ok-clause-text
returns-in-Ok-clause-text g c = λ over shows run runs read reader.
    talks_so c.talk.result read (world_over over run) (world_in c.in-Ok.adapter.session) (map last_part (map (λ name. string_bytes name) c.args.names.items)) c.in-Ok.adapter.names opened (conversation_of c.in-Ok.adapter)
    (g.I.Source.left c.args.input.now) (g.I.Source.left c.talk.new.input) (g.S.Sink.taken c.args.out.now) (g.S.Sink.taken c.talk.new.out)
    (c.in-Ok.ensures.world over shows run runs) (c.in-Ok.ensures.names ∙ ap (λ l. map last_part (map (λ name. string_bytes name) l)) c.deref.ensures.value) c.in-Ok.ensures.opened (c.talk.ensures.text read reader)

pub returns-clause-text : goal.returns-clause-text
returns-clause-text g c = λ over shows run runs read reader.
    broken_first read (world_over over run) (map last_part (map (λ name. string_bytes name) c.args.names.items)) opened (g.I.Source.left c.args.input.now) (g.S.Sink.taken c.args.out.now)
