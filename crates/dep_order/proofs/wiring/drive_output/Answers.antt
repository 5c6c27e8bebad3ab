use Rattle.std.proofs.Common.{[], ◌∷◌, ◌∙◌, sym}
use Rattle.names.specs.Maps.{value_of}
use Rattle.dep_order.proofs.Outputs.{none_listed, output_drives, output_passed, some_listed}
use Rattle.dep_order.proofs.Layers.{layered_set}
use Rattle.dep_order.proofs.wiring.drive_output.Goals as goal

pub returns-in_default-clause-drives : goal.returns-in_default-clause-drives
returns-in_default-clause-drives c =
    output_passed c.args.graph.now c.args.driven.now (value_of c.args.child.now) (value_of c.args.parent.now) c.args.name.now c.args.output.now (sym c.get.ensures ∙ c.in_default.is)

pub returns-in_ok-drive-in-Some-get-clause-drives : goal.returns-in_ok-drive-in-Some-get-clause-drives
returns-in_ok-drive-in-Some-get-clause-drives c =
    output_drives c.args.graph.now c.drive.new.graph c.args.driven.now c.drive.new.driven (value_of c.args.child.now) (value_of c.args.parent.now) c.args.name.now c.args.output.now c.in-Some.vertex (c.in-Some-get.source ∷ [])
    (sym c.get.ensures ∙ c.in-Some.is) (some_listed (value_of c.args.child.now c.args.output.now) c.in-Some-get.source (sym c.get-2.ensures ∙ c.in-Some-get.is)) c.in_ok-drive-in-Some-get.ensures.drives

pub returns-in_ok-drive-in-None-clause-drives : goal.returns-in_ok-drive-in-None-clause-drives
returns-in_ok-drive-in-None-clause-drives c =
    output_drives c.args.graph.now c.drive-in-None.new.graph c.args.driven.now c.drive-in-None.new.driven (value_of c.args.child.now) (value_of c.args.parent.now) c.args.name.now c.args.output.now c.in-Some.vertex []
    (sym c.get.ensures ∙ c.in-Some.is) (none_listed (value_of c.args.child.now c.args.output.now) (sym c.get-2.ensures ∙ c.in-None.is)) c.in_ok-drive-in-None.ensures.drives

pub returns-in_ok-drive-in-Some-get-clause-layers : goal.returns-in_ok-drive-in-Some-get-clause-layers
returns-in_ok-drive-in-Some-get-clause-layers c = layered_set c.args.graph.now c.drive.new.graph (value_of c.args.parent.now) c.args.name.now c.in-Some.vertex (sym c.get.ensures ∙ c.in-Some.is) c.in_ok-drive-in-Some-get.ensures.others

pub returns-in_ok-drive-in-None-clause-layers : goal.returns-in_ok-drive-in-None-clause-layers
returns-in_ok-drive-in-None-clause-layers c = layered_set c.args.graph.now c.drive-in-None.new.graph (value_of c.args.parent.now) c.args.name.now c.in-Some.vertex (sym c.get.ensures ∙ c.in-Some.is) c.in_ok-drive-in-None.ensures.others
