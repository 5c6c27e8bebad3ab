use Rattle.std.proofs.Common.{◌∙◌, ap, map}
use Rattle.names.proofs.Sets.{map_take, map_drop}
use Rattle.names.proofs.set.NameSet.split_off.Goals as goal

pub returns-clause-kept : goal.returns-clause-kept
returns-clause-kept c = rw (← c.self.view_is) (ap (λ l. map (λ name. name.items) l) c.in_ok-split_off.ensures.kept ∙ map_take (λ name. name.items) c.args.at c.self.inside.names.keys)

pub returns-clause-tail : goal.returns-clause-tail
returns-clause-tail c = rw (← c.self.view_is) (ap (λ l. map (λ name. name.items) l) c.in_ok-split_off.ensures.tail ∙ map_drop (λ name. name.items) c.args.at c.self.inside.names.keys)
