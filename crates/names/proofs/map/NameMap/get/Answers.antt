use Rattle.std.proofs.Common.{◌∙◌}
use Rattle.names.proofs.Entries.{value_found}
use Rattle.names.proofs.map.NameMap.get.Goals as goal

pub returns : goal.returns
returns g c = rw (← c.self.view_is) (c.copied.ensures ∙ c.get.ensures.value ∙ value_found (λ k. k.items) c.args.name.now c.self.inside.values.entries)
