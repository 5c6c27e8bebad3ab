use Rattle.design_core.specs.DesignView.{design_of}
use Rattle.place_core.specs.Numbering.{numbers_of}
use Rattle.ssa_core.proofs.Driving.{all_driven}
use Rattle.ssa_core.proofs.drive.put_all.Goals as goal

pub returns : goal.returns
returns c =
    all_driven (design_of c.args.design.now) c.args.links.now c.args.keys.now (numbers_of c.args.maps.now) c.args.list.now c.put_links.new.list c.put_processes.new.list c.requires.none
    c.in_ok-put_links.ensures.grows c.in_ok-put_links.ensures.driven c.in_ok-put_processes.ensures.grows c.in_ok-put_processes.ensures.driven
