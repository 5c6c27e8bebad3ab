use Rattle.std.proofs.Common.{◌∙◌}
use Rattle.gen_scope.proofs.Names.{find_looks}
use Rattle.gen_scope.proofs.params.Params.number_of.Goals as goal

pub returns : goal.returns
returns c = rw (← c.self.view_is) (c.copied.ensures ∙ c.get.ensures.value ∙ find_looks c.args.name.now c.self.inside.numbers.entries)
