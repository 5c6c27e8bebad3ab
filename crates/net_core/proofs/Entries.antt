-- The entries of a builder.
use Rattle.std.proofs.Common.{◌≡◌, ℕ, zero, suc, ◌<◌, ◌≤◌, ⊎_elim, Bool, true, false, ◌||◌, List, [], ◌∷◌, ◌++◌, length, slice_get, Some, if◌then◌else◌, refl, sym, ap, ◌∙◌, subst, arith}
use Rattle.std.specs.List.{list_any}
use Rattle.std.proofs.lemmas.List.{map_push, length-map}
use Rattle.std.proofs.lemmas.Bool.{cases_lt}
use Rattle.std.specs.Prelude.{slice_index_or}
use Rattle.tree_core.specs.Tree as tree
use Rattle.tree_core.specs.Width.{tree_width}
use Rattle.tree_core.specs.Fold.{constant}
use Rattle.indexmap.specs.IndexSet.{insert_key}
use Rattle.net_core.specs.declared.entry.Entry.{Entry}
use Rattle.net_core.specs.Nodes.{Shape, Fixed, TopInput, Register, OfOne, OfTwo, OfMux, shape_of, same_shape, node_tree, trees_of, tree_of, width_at}
use Rattle.net_core.specs.Builder.{AreEntries, shapes_of, constant_shape}
use Rattle.net_core.specs.Same.{same_shape-Decides}
use Rattle.net_core.proofs.TreeLists.{at_front, at_last, trees_push, trees_length, tree_is}
use Rattle.net_core.proofs.Sharing.{with_shape, Fits, Placed, placed, got}

-- whether two entries have one node
abbrev pub same_entry : Entry → Entry → Bool
same_entry a b = same_shape (shape_of a.node) (shape_of b.node)

-- no entries
pub no_entries : (es : List Entry) → length es ≡ 0 → AreEntries es
no_entries [] h = record {
  shared = record {
    numbered = record { below = λ j l. absurd (omega arith) };
    trees = record {
      whole = λ i l. absurd (omega (arith, trees_length []));
      folded_already = λ i l. absurd (omega (arith, trees_length []));
      one_id = record { one = λ i j l m e. absurd (omega (arith, trees_length [])) };
    };
  };
  widths = λ j e l. cc;
}
no_entries (e ∷ es) h = absurd (omega arith)

-- what stands at a place
pub shape_got : (es : List Entry) (i : ℕ) (e : Entry) → slice_get es i ≡ Some e → slice_get (shapes_of es) i ≡ Some (shape_of e.node)
shape_got [] i e h = cc
shape_got (x ∷ es) zero e h = let p : x ≡ e = cc in ap (λ (y : Entry). Some (shape_of y.node)) p
shape_got (x ∷ es) (suc i) e h = shape_got es i e h

constant_tree : (ts : List tree.Whole) (s : Shape) → constant_shape s ≡ constant (node_tree ts s)
constant_tree ts (Fixed b) = refl
constant_tree ts (TopInput name width) = refl
constant_tree ts (Register instance name start) = refl
constant_tree ts (OfOne op a) = refl
constant_tree ts (OfTwo op a b) = refl
constant_tree ts (OfMux c a b) = refl

pub constant_is : (es : List Entry) (ns : List Shape) (i : ℕ) (e : Entry) → AreEntries es → shapes_of es ≡ ns → slice_get es i ≡ Some e → constant_shape (shape_of e.node) ≡ constant (tree_of ns i)
constant_is es ns i e g v h =
    let r = got (shapes_of es) i (shape_of e.node) (shape_got es i e h) in
    constant_tree (trees_of (shapes_of es)) (shape_of e.node)
    ∙ ap (λ s. constant (node_tree (trees_of (shapes_of es)) s)) (sym r.1)
    ∙ ap constant (sym (tree_is (shapes_of es) g.shared.numbered i r.0))
    ∙ ap (λ m. constant (tree_of m i)) v

-- ---- an entry that is put

any_shapes : (e : Entry) (es : List Entry) → list_any (same_entry e) es ≡ list_any (same_shape (shape_of e.node)) (shapes_of es)
any_shapes e [] = refl
any_shapes e (x ∷ es) = ap (λ b. same_entry e x || b) (any_shapes e es)

shapes_if : (b : Bool) (e : Entry) (es : List Entry) → shapes_of (if b then es else es ++ e ∷ []) ≡ (if b then shapes_of es else shapes_of es ++ shape_of e.node ∷ [])
shapes_if true e es = refl
shapes_if false e es = map_push (λ (x : Entry). shape_of x.node) es e

shapes_put : (e : Entry) (es : List Entry) → shapes_of (insert_key same_entry es e) ≡ with_shape (shapes_of es) (shape_of e.node)
shapes_put e es =
    shapes_if (list_any (same_entry e) es) e es
    ∙ ap (λ b. if b then shapes_of es else shapes_of es ++ shape_of e.node ∷ []) (any_shapes e es)

pub entry_placed : (es new : List Entry) (e k : Entry) (i : ℕ) → AreEntries es → Fits (shapes_of es) (shape_of e.node) → new ≡ insert_key same_entry es e → slice_get new i ≡ Some k → same_entry e k ≡ true → Placed (shapes_of es) (shapes_of new) i (node_tree (trees_of (shapes_of es)) (shape_of e.node))
entry_placed es new e k i g f n h s =
    placed (shapes_of es) (shapes_of new) (shape_of e.node) i g.shared f
    (ap shapes_of n ∙ shapes_put e es)
    (shape_got new i k h ∙ ap Some (sym ((same_shape-Decides (shape_of e.node) (shape_of k.node)).0 s)))

tree_more : (ns : List Shape) (s : Shape) (j : ℕ) → j < length ns → tree_of (ns ++ s ∷ []) j ≡ tree_of ns j
tree_more ns s j h =
    ap (λ ts. slice_index_or ts j (tree.Const (record { width = 1; value = 0 }))) (trees_push ns s)
    ∙ at_front (trees_of ns) (node_tree (trees_of ns) s ∷ []) j (omega (arith, trees_length ns))

tree_last : (ns : List Shape) (s : Shape) (j : ℕ) → j ≡ length ns → tree_of (ns ++ s ∷ []) j ≡ node_tree (trees_of ns) s
tree_last ns s j e =
    ap (tree_of (ns ++ s ∷ [])) (e ∙ sym (trees_length ns))
    ∙ ap (λ ts. slice_index_or ts (length (trees_of ns)) (tree.Const (record { width = 1; value = 0 }))) (trees_push ns s)
    ∙ at_last (trees_of ns) (node_tree (trees_of ns) s)

-- an element of a list with one more
got_front : (es : List Entry) (e x : Entry) (j : ℕ) → j < length es → slice_get (es ++ e ∷ []) j ≡ Some x → slice_get es j ≡ Some x
got_front [] e x j l h = absurd (omega arith)
got_front (y ∷ es) e x zero l h = h
got_front (y ∷ es) e x (suc j) l h = got_front es e x j (omega arith) h

got_last : (es : List Entry) (e x : Entry) (j : ℕ) → length es ≤ j → slice_get (es ++ e ∷ []) j ≡ Some x → (j ≡ length es) × (e ≡ x)
got_last [] e x zero l h = (refl, let p : e ≡ x = cc in p)
got_last [] e x (suc j) l h = cc
got_last (y ∷ es) e x zero l h = absurd (omega arith)
got_last (y ∷ es) e x (suc j) l h = let r = got_last es e x j (omega arith) h in (ap suc r.0, r.1)

Widths : List Entry → Type 0
Widths es = (j : ℕ) (x : Entry) → slice_get es j ≡ Some x → x.width ≡ width_at (shapes_of es) j

widths_push : (es : List Entry) (e : Entry) → Widths es → e.width ≡ tree_width (node_tree (trees_of (shapes_of es)) (shape_of e.node)) → Widths (es ++ e ∷ [])
unfolding Widths
widths_push es e g w j x h =
    let len : length (shapes_of es) ≡ length es = length-map es (λ (y : Entry). shape_of y.node) in
    let shapes : shapes_of (es ++ e ∷ []) ≡ shapes_of es ++ shape_of e.node ∷ [] = map_push (λ (y : Entry). shape_of y.node) es e in
    ⊎_elim
    (λ l.
    g j x (got_front es e x j l h)
    ∙ ap tree_width (sym (tree_more (shapes_of es) (shape_of e.node) j (omega arith)))
    ∙ ap (λ ns. width_at ns j) (sym shapes))
    (λ l.
    let r = got_last es e x j l h in
    let last : j ≡ length (shapes_of es) = r.0 ∙ sym len in
    ap (λ (y : Entry). y.width) (sym r.1)
    ∙ w
    ∙ ap tree_width (sym (tree_last (shapes_of es) (shape_of e.node) j last))
    ∙ ap (λ ns. width_at ns j) (sym shapes))
    (cases_lt j (length es))

widths_if : (b : Bool) (es : List Entry) (e : Entry) → Widths es → e.width ≡ tree_width (node_tree (trees_of (shapes_of es)) (shape_of e.node)) → Widths (if b then es else es ++ e ∷ [])
widths_if true es e g w = g
widths_if false es e g w = widths_push es e g w

-- the entries stay what a builder's are
pub entries_put : (es new : List Entry) (e k : Entry) (i : ℕ) → AreEntries es → Fits (shapes_of es) (shape_of e.node) → e.width ≡ tree_width (node_tree (trees_of (shapes_of es)) (shape_of e.node)) → new ≡ insert_key same_entry es e → slice_get new i ≡ Some k → same_entry e k ≡ true → AreEntries new
unfolding Widths
entries_put es new e k i g f w n h s = record {
  shared = (entry_placed es new e k i g f n h s).shared;
  widths = subst (λ v. (j : ℕ) (x : Entry) → slice_get v j ≡ Some x → x.width ≡ width_at (shapes_of v) j) (sym n) (widths_if (list_any (same_entry e) es) es e g.widths w);
}

-- what a builder is after an entry was put
pub record Put (ns : List Shape) (new : List Entry) (id : ℕ) (t : tree.Whole) : Type 0 where
  pub node : Placed ns (shapes_of new) id t
  pub entries : AreEntries new

pub put_entry : (es new : List Entry) (ns : List Shape) (e k : Entry) (i : ℕ) → AreEntries es → shapes_of es ≡ ns → Fits ns (shape_of e.node) → e.width ≡ tree_width (node_tree (trees_of ns) (shape_of e.node)) → new ≡ insert_key same_entry es e → slice_get new i ≡ Some k → same_entry e k ≡ true → Put ns new i (node_tree (trees_of ns) (shape_of e.node))
put_entry es new ns e k i g v f w n h s =
    subst (λ m. Fits m (shape_of e.node) → e.width ≡ tree_width (node_tree (trees_of m) (shape_of e.node)) → Put m new i (node_tree (trees_of m) (shape_of e.node))) v
    (λ f w. record { node = entry_placed es new e k i g f n h s; entries = entries_put es new e k i g f w n h s })
    f w

pub tree_got : (es : List Entry) (ns : List Shape) (i : ℕ) (e : Entry) → AreEntries es → shapes_of es ≡ ns → slice_get es i ≡ Some e → tree_of ns i ≡ node_tree (trees_of ns) (shape_of e.node)
tree_got es ns i e g v h =
    let r = got (shapes_of es) i (shape_of e.node) (shape_got es i e h) in
    subst (λ m. tree_of m i ≡ node_tree (trees_of m) (shape_of e.node)) v
    (tree_is (shapes_of es) g.shared.numbered i r.0 ∙ ap (node_tree (trees_of (shapes_of es))) r.1)
