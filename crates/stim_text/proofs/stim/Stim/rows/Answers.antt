use Rattle.std.proofs.Common.{length, ap, sym, ◌∙◌}
use Rattle.stim_text.specs.Stimulus.{Stimulus}
use Rattle.stim_text.proofs.RowLists.{length-rows_in}
use Rattle.stim_text.proofs.stim.Stim.rows.Goals as goal

pub returns-clause-rows : goal.returns-clause-rows
returns-clause-rows c =
    sym (length-rows_in (length c.self.inside.ports.inputs) c.self.inside.count c.self.inside.values.items) ∙ ap (λ (s : Stimulus). length s.rows) c.self.view_is
