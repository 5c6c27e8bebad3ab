use Rattle.std.proofs.Common.{◌∙◌}
use Rattle.names.proofs.Entries.{value_found}
use Rattle.check_paths.proofs.frame.Frame.set_at.Goals as goal

pub returns : goal.returns
returns c = rw (← c.self.view_is) (c.copied.ensures ∙ c.get.ensures.value ∙ value_found (λ k. k.items) c.args.name.now c.self.inside.sets.entries)
