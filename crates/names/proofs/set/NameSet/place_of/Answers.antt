use Rattle.std.proofs.Common.{sym, ◌∙◌, bytes_eq}
use Rattle.names.proofs.Sets.{position-map}
use Rattle.names.proofs.Positions.{text_at, text_there}
use Rattle.names.proofs.set.NameSet.place_of.Goals as goal

pub returns-clause-place : goal.returns-clause-place
returns-clause-place c = rw (← c.self.view_is) (c.get_index_of.ensures.index ∙ sym (position-map (bytes_eq c.args.name.now) (λ name. name.items) c.self.inside.names.keys))

pub returns-clause-named : goal.returns-clause-named
returns-clause-named c = text_at c.args.name.now c.args.self.now c.get_index_of.result (returns-clause-place c)

pub returns-clause-there : goal.returns-clause-there
returns-clause-there c = text_there c.args.name.now c.args.self.now c.get_index_of.result (returns-clause-place c)
