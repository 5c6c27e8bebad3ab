-- The test of equal nodes.
use Rattle.std.proofs.Common.{◌≡◌, true, true≢false, ◌&&◌, ◌==◌, Decides, refl, sym, ap, ap₂, ◌∙◌, subst, eqb-true, eq-eqb}
use Rattle.std.specs.Prelude.{bytes_eq}
use Rattle.std.proofs.lemmas.Slice.Eq.{bytes_eq-Decides}
use Rattle.tree_core.specs.Fold.{same_op1, same_op2, same_bits}
use Rattle.tree_core.proofs.Same.{both_true, and_true, same_op1-sound, same_op2-sound, same_bits-sound, same_op1-refl, same_op2-refl, same_bits-refl}
use Rattle.std.specs.Cmp.{IsEquivalence, IsPartialEquivalence, decided, on_equiv, partial_equiv_from_equiv}
use Rattle.net_core.specs.declared.node.Node.{Node}
use Rattle.net_core.specs.declared.entry.Entry.{Entry}
use Rattle.net_core.specs.Nodes.{Shape, Fixed, TopInput, Register, OfOne, OfTwo, OfMux, shape_of, same_shape}
use Rattle.net_core.specs.Hashed.{fed_shape}

same_shape-sound : (s t : Shape) → same_shape s t ≡ true → s ≡ t
same_shape-sound (Fixed a) (Fixed b) e = ap Fixed (same_bits-sound a b e)
same_shape-sound (TopInput n v) (TopInput m w) e =
    let q = both_true (bytes_eq n m) (v == w) e in ap₂ TopInput ((bytes_eq-Decides n m).0 q.0) (eqb-true _ _ q.1)
same_shape-sound (Register i n s) (Register j m t) e =
    let q = both_true (bytes_eq i j) (bytes_eq n m && same_bits s t) e in
    let r = both_true (bytes_eq n m) (same_bits s t) q.1 in
    ap (λ k. Register k n s) ((bytes_eq-Decides i j).0 q.0)
    ∙ ap₂ (Register j) ((bytes_eq-Decides n m).0 r.0) (same_bits-sound s t r.1)
same_shape-sound (OfOne o a) (OfOne p b) e =
    let q = both_true (same_op1 o p) (a == b) e in ap₂ OfOne (same_op1-sound o p q.0) (eqb-true _ _ q.1)
same_shape-sound (OfTwo o a b) (OfTwo p c d) e =
    let q = both_true (same_op2 o p) (a == c && b == d) e in
    let r = both_true (a == c) (b == d) q.1 in
    ap (λ x. OfTwo x a b) (same_op2-sound o p q.0) ∙ ap₂ (OfTwo p) (eqb-true _ _ r.0) (eqb-true _ _ r.1)
same_shape-sound (OfMux a b c) (OfMux d f g) e =
    let q = both_true (a == d) (b == f && c == g) e in
    let r = both_true (b == f) (c == g) q.1 in
    ap (λ x. OfMux x b c) (eqb-true _ _ q.0) ∙ ap₂ (OfMux d) (eqb-true _ _ r.0) (eqb-true _ _ r.1)
same_shape-sound _ _ e = absurd (true≢false (sym e))

same_shape-refl : (s : Shape) → same_shape s s ≡ true
same_shape-refl (Fixed a) = same_bits-refl a
same_shape-refl (TopInput n v) = and_true (bytes_eq n n) (v == v) ((bytes_eq-Decides n n).1 refl) (eq-eqb v v refl)
same_shape-refl (Register i n s) =
    and_true (bytes_eq i i) (bytes_eq n n && same_bits s s) ((bytes_eq-Decides i i).1 refl)
    (and_true (bytes_eq n n) (same_bits s s) ((bytes_eq-Decides n n).1 refl) (same_bits-refl s))
same_shape-refl (OfOne o a) = and_true (same_op1 o o) (a == a) (same_op1-refl o) (eq-eqb a a refl)
same_shape-refl (OfTwo o a b) =
    and_true (same_op2 o o) (a == a && b == b) (same_op2-refl o) (and_true (a == a) (b == b) (eq-eqb a a refl) (eq-eqb b b refl))
same_shape-refl (OfMux a b c) =
    and_true (a == a) (b == b && c == c) (eq-eqb a a refl) (and_true (b == b) (c == c) (eq-eqb b b refl) (eq-eqb c c refl))

-- it tells exactly whether they are
pub same_shape-Decides : (s t : Shape) → Decides (same_shape s t) (s ≡ t)
same_shape-Decides s t = (same_shape-sound s t, λ e. subst (λ u. same_shape s u ≡ true) e (same_shape-refl s))

-- nodes that are the same as contracts see them are equal, and are fed alike
pub nodes_equiv : IsEquivalence (λ (a b : Node). same_shape (shape_of a) (shape_of b))
nodes_equiv = on_equiv shape_of (decided same_shape same_shape-Decides)

pub nodes_per : IsPartialEquivalence (λ (a b : Node). same_shape (shape_of a) (shape_of b))
nodes_per = partial_equiv_from_equiv nodes_equiv

pub nodes_fed : (a b : Node) → same_shape (shape_of a) (shape_of b) ≡ true → fed_shape (shape_of a) ≡ fed_shape (shape_of b)
nodes_fed a b e = ap fed_shape ((same_shape-Decides (shape_of a) (shape_of b)).0 e)

pub entries_equiv : IsEquivalence (λ (a b : Entry). same_shape (shape_of a.node) (shape_of b.node))
entries_equiv = on_equiv (λ (e : Entry). shape_of e.node) (decided same_shape same_shape-Decides)

pub entries_per : IsPartialEquivalence (λ (a b : Entry). same_shape (shape_of a.node) (shape_of b.node))
entries_per = partial_equiv_from_equiv entries_equiv

pub entries_fed : (a b : Entry) → same_shape (shape_of a.node) (shape_of b.node) ≡ true → fed_shape (shape_of a.node) ≡ fed_shape (shape_of b.node)
entries_fed a b e = nodes_fed a.node b.node e
