use Rattle.std.proofs.Common.{Some, ap, ◌∙◌}
use Rattle.sim_core.specs.State.{Simulated, one_more}
use Rattle.sim_hist.proofs.Running.{picked_widths, row_picked}
use Rattle.sim_hist.proofs.settle.settle_row.Goals as goal

pub settle-requires : goal.settle-requires
settle-requires c =
    picked_widths c.args.simulator.now.net c.args.stim.now c.args.t c.row.result.now c.pick.new.inputs c.args.columns.now c.requires.picked c.row.ensures.row c.row.ensures.widths c.pick.ensures

pub returns : goal.returns
returns c =
    let m : Simulated = c.args.simulator.now in
    c.settle.ensures
    ∙ ap (λ inputs. record { net = m.net; registers = m.registers; settled = Some inputs; settles = one_more m.settles })
    (c.pick.ensures ∙ row_picked m.net c.args.stim.now c.args.t c.row.result.now c.args.columns.now c.requires.picked c.row.ensures.row c.row.ensures.widths)
