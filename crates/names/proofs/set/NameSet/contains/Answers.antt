use Rattle.std.proofs.Common.{sym, ◌∙◌, bytes_eq}
use Rattle.names.proofs.Sets.{list_any-map}
use Rattle.names.proofs.set.NameSet.contains.Goals as goal

pub returns : goal.returns
returns c = rw (← c.self.view_is) (c.contains.ensures ∙ sym (list_any-map (bytes_eq c.args.name.now) (λ name. name.items) c.self.inside.names.keys))
