use Rattle.std.proofs.Common.{ap, ◌∙◌}
use Rattle.symtab.specs.Shape.{paths_of}
use Rattle.dbg_core.specs.World.{world_of}
use Rattle.dap_link.specs.State.{alone}
use Rattle.dap_link.specs.Reactions.{led_of}
use Rattle.dap_link.proofs.Told.{frame_told}
use Rattle.dap_link.proofs.looking.stack.Goals as goal

pub returns-clause-led : goal.returns-clause-led
returns-clause-led g c = λ read reader.
    ap (led_of (alone c.is_thread.new.session)) c.quiet.ensures
    ∙ frame_told _ _ _ _ _ _ _ _ _ _ _ _ (λ i. world_of (c.ask.ensures.table i) (c.ask.ensures.samples i))
    (λ i. paths_of ((c.table.ensures ∙ c.is_thread.ensures.table ∙ c.ask.ensures.table) i).instances)
    (c.in_ok-body.ensures.told read reader) c.is_thread.ensures.state c.in_ok-is.ensures.is c.place_told.ensures c.in_ok-told.ensures
