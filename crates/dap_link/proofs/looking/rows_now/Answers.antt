use Rattle.std.proofs.Common.{[], map, ◌∙◌}
use Rattle.symtab.specs.Shape.{paths_of}
use Rattle.dap_link.specs.Conversation.{thread_row}
use Rattle.dap_link.proofs.looking.rows_now.Goals as goal

pub returns-in_err-threads-clause-state : goal.returns-in_err-threads-clause-state
returns-in_err-threads-clause-state g c = c.threads.ensures.state []

pub returns-in_err-rows-clause-state : goal.returns-in_err-rows-clause-state
returns-in_err-rows-clause-state g c = c.threads.ensures.state []

pub returns-clause-state : goal.returns-clause-state
returns-clause-state g c = c.threads.ensures.state []

pub returns-clause-rows : goal.returns-clause-rows
returns-clause-rows g c =
    c.in_ok-rows.ensures
    ∙ (λ i. map (thread_row (paths_of ((c.table.ensures ∙ c.threads.ensures.table) i).instances)) ((c.deref.ensures.value ∙ c.in_ok-threads.ensures.threads) i))
