use Rattle.std.proofs.Common.{ap, ◌∙◌, map}
use Rattle.design_core.specs.View.{child_of}
use Rattle.names.specs.Known.{either}
use Rattle.check_core.specs.Names.{child_named}
use Rattle.check_names.proofs.scope.children_of.Goals as goal

pub returns : goal.returns
returns c = c.in_ok-put_children.ensures ∙ ap (λ known. either known (child_named (map child_of c.args.children.now))) c.new-names.ensures.known
