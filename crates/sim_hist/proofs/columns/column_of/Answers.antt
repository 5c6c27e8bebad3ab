use Rattle.std.proofs.Common.{ap, sym, subst, List, ℕ}
use Rattle.std.specs.Prelude.{IsTrue}
use Rattle.std.specs.List.{list_any}
use Rattle.tree_core.specs.Tree.{Input}
use Rattle.tree_core.specs.Fold.{same_origin}
use Rattle.net_core.specs.Nodes.{shape_of}
use Rattle.sim_hist.specs.Run.{port_origins}
use Rattle.sim_hist.proofs.columns.column_of.Goals as goal

pub place_of-requires : goal.place_of-requires
place_of-requires c =
    subst (λ (name : List ℕ). IsTrue (list_any (λ o. same_origin o (Input name c.in-Input.width)) (port_origins c.args.ports.now))) (sym c.bytes.ensures)
    (c.requires c.in-Input.name c.in-Input.width (ap shape_of c.in-Input.is))
