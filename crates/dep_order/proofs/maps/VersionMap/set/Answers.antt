use Rattle.std.proofs.Common.{ap, ◌∙◌}
use Rattle.names.specs.Maps.{value_of, put_value}
use Rattle.dep_order.proofs.Flattened.{version_put}
use Rattle.dep_order.proofs.maps.VersionMap.set.Goals as goal

pub returns : goal.returns
returns c =
    version_put c.args.self.now c.put.new.self c.args.name.now c.args.version
    (c.in_ok-put.ensures.ok ∙ ap (λ entries. put_value c.args.name.now c.args.version (value_of entries)) c.self.view_is)
