use Rattle.std.proofs.Common.{[], arith}
use Rattle.design_core.specs.DesignView.{design_of}
use Rattle.design_exec.specs.Processes.{processes_of}
use Rattle.place_core.specs.Numbering.{numbers_of}
use Rattle.dep_order.proofs.Layers.{all_both}
use Rattle.dep_order.proofs.driven.wire.Goals as goal

pub returns-clause-layers : goal.returns-clause-layers
returns-clause-layers c =
    all_both c.args.graph.now c.drive_links.new.graph c.drive_processes.new.graph (numbers_of c.args.maps.now) (omega (arith, c.drive_links.ensures.count)) c.in_ok-drive_links.ensures.layers c.in_ok-drive_processes.ensures.layers

pub returns-clause-drives : goal.returns-clause-drives
returns-clause-drives c signals low are w =
    c.in_ok-drive_processes.ensures.drives signals (processes_of (design_of c.args.design.now)).links [] (omega (arith, low, c.drive_links.ensures.count)) are
    (c.in_ok-drive_links.ensures.drives signals [] are w)
