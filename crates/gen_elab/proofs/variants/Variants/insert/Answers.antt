use Rattle.std.proofs.Common.{◌∙◌}
use Rattle.gen_elab.proofs.KeyLemmas.{found_as, put_last}
use Rattle.gen_elab.proofs.variants.Variants.insert.Goals as goal

pub returns-clause-at : goal.returns-clause-at
returns-clause-at c =
    rw (← c.self.view_is) (c.in_ok-at.ensures.index
    ∙ found_as c.args.place c.in_ok-copied.field-0.items c.args.params.now c.self.inside.keys.keys c.in_ok-copied.ensures)

pub returns-clause-grown : goal.returns-clause-grown
returns-clause-grown c =
    rw (← c.self.view_is) (put_last c.args.place c.in_ok-copied.field-0 c.args.params.now c.self.inside.keys.keys c.insert_full.new.self.keys c.in_ok-at.at c.in_ok-copied.ensures c.in_ok-at.ensures.index c.in_ok-at.ensures.keys)
