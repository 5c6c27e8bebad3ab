use Rattle.std.proofs.Common.{ap₂, ◌∙◌, unwrap_or}
use Rattle.gen_elab.proofs.KeyLemmas.{found_as, looked_up, keys_eq}
use Rattle.gen_elab.proofs.variants.Variants.place_of.Goals as goal

pub returns : goal.returns
returns c =
    let keys = c.self.inside.keys.keys in
    let copy = c.in_ok-copied.field-0.items in
    rw (← c.self.view_is) (c.unwrap_or.ensures
    ∙ ap₂ unwrap_or c.get_index_of.ensures.index c.len.ensures.len
    ∙ looked_up (keys_eq c.args.place copy) keys
    ∙ found_as c.args.place copy c.args.params.now keys c.in_ok-copied.ensures)
