-- Signals that are outputs of children.
use Rattle.std.proofs.Common.{◌≡◌, ℕ, Bool, List, [], ◌∷◌, Option, Some, None, refl, sym, subst, ap, ◌∙◌}
use Rattle.tree_core.specs.Tree.{Leaf}
use Rattle.exec_core.specs.Block.{Name}
use Rattle.exec_core.specs.Design.{place}
use Rattle.graph_order.specs.Graphs.{Graph}
use Rattle.dep_order.specs.Standing.{StandFor, listed}
use Rattle.place_core.specs.Numbering.{Numbers}
use Rattle.dep_order.specs.Wiring.{driver_in, is_met, Drives, DrivesOutput}
use Rattle.dep_order.proofs.Versions.{listed_stands}
use Rattle.dep_order.proofs.Wires.{moved_stands, wired_as, pick_other, not_same}
use Rattle.dep_order.proofs.Names.{link_is_met}

pub output_drives : (g h : Graph) (driven marked : List Bool) (of_child of_parent : Numbers) (x q : Name) (n : ℕ) (edges : List ℕ) → of_parent x ≡ Some n → edges ≡ listed (of_child q) → Drives g driven h marked n edges →
    DrivesOutput g driven h marked of_child of_parent x q
output_drives g h driven marked of_child of_parent x q n edges is reads d signals number i j links are of of' w p m e =
    let stands : StandFor signals g of_child edges (Leaf q) =
    subst (λ (vs : List ℕ). StandFor signals g of_child vs (Leaf q)) (sym reads)
    (listed_stands signals g of_child q (of_child q) refl (λ y k f. are.below (place j y) k (of' y ∙ f))) in
    let both = link_is_met links (place i x) (Leaf (place j q)) p in
    wired_as signals number h marked _ _ _ _ m (sym both.1) (sym both.0)
    (d signals number (is_met links []) (driver_in links []) (place i x) (Some (Leaf (place j q))) are (of x ∙ is)
    (moved_stands signals g number j edges (Leaf q) (subst (λ (f : Numbers). StandFor signals g f edges (Leaf q)) (λ k y. sym (of' y) k) stands)) w p m e)

pub output_passed : (g : Graph) (driven : List Bool) (of_child of_parent : Numbers) (x q : Name) → of_parent x ≡ None → DrivesOutput g driven g driven of_child of_parent x q
output_passed g driven of_child of_parent x q is signals number i j links are of of' w p n e =
    let apart : p ≡ place i x → ⊥ = (λ k. none_some n (sym (of x ∙ is) ∙ ap number (sym k) ∙ e)) in
    let picks = pick_other (place i x) p (Some (Leaf (place j q))) (is_met links []) (driver_in links []) (not_same (place i x) p apart) in
    let both = link_is_met links (place i x) (Leaf (place j q)) p in
    wired_as signals number g driven _ _ _ _ n (picks.0 ∙ sym both.1) (picks.1 ∙ sym both.0) (w p n e)
  where
    none_some : (n : ℕ) → None ≡ Some n → ⊥
    none_some n k = cc

pub some_listed : (o : Option ℕ) (v : ℕ) → o ≡ Some v → v ∷ [] ≡ listed o
some_listed o v e = sym (ap listed e)

pub none_listed : (o : Option ℕ) → o ≡ None → [] ≡ listed o
none_listed o e = sym (ap listed e)
