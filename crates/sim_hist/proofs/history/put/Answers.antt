use Rattle.std.proofs.Common.{◌≡◌, List, map, set, ap, ◌∙◌, Vec, Global}
use Rattle.std.proofs.lemmas.List.{map-set}
use Rattle.bv_core.specs.Value.{Bits}
use Rattle.sim_hist.proofs.history.put.Goals as goal

pub returns : goal.returns
returns c =
    map-set (λ (row : Vec Bits Global). row.items) c.args.rows.now c.args.place c.copy_from_slice.new.self
    ∙ ap (set (map (λ (row : Vec Bits Global). row.items) c.args.rows.now) c.args.place) c.copy_from_slice.ensures.items
