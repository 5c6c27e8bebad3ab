use Rattle.std.proofs.Common.{◌++◌}
use Rattle.names.specs.Maps.{value_of}
use Rattle.place_core.specs.Assigned.{names_at}
use Rattle.row_net.specs.Told.{names_by, row_of_slot}
use Rattle.row_net.proofs.Growing.{row_put}
use Rattle.row_net.proofs.replay.put_row.Goals as goal

pub returns-clause-put : goal.returns-clause-put
returns-clause-put c =
    row_put c.args.builder.now c.row_of.new.builder (value_of c.args.places.now) c.args.nodes.now c.args.block.now.terms c.args.memo.now c.args.instance (names_at c.args.signals.now ++ names_at c.args.lets.now)
    (row_of_slot c.args.block.now.terms c.args.slot c.args.enable (names_by c.args.block.now.terms (value_of c.args.held.now))) c.in_ok-row.row c.args.rows.now.items c.push.new.self.items
    c.requires.fits c.in_ok-row.ensures.grown c.in_ok-row.ensures.has c.in_ok-push.ensures.items
