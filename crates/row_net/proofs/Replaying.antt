-- The log of a block, effect by effect.
use Rattle.std.proofs.Common.{◌≡◌, ℕ, zero, suc, ◌+◌, ◌<◌, Bool, true, false, ◌||◌, bytes_eq, List, [], ◌∷◌, ◌++◌, length, map, take, drop, get_or, Option, Some, None, if◌then◌else◌, refl, sym, ap, ◌∙◌, subst, append_assoc}
use Rattle.std.specs.Borrow.{Bor}
use Rattle.std.proofs.lemmas.List.{drop_more}
use Rattle.std.proofs.lemmas.List.Folds.{list_any-append}
use Rattle.bv_core.specs.declared.reference.NodeId.{NodeId}
use Rattle.tree_core.specs.Tree.{Tree}
use Rattle.tree_core.specs.Tree as tree
use Rattle.exec_core.specs.Block.{Name, Body, own}
use Rattle.exec_core.specs.Exec.{Env}
use Rattle.exec_core.specs.Shown.{shown_start}
use Rattle.net_core.specs.Nodes.{Shape}
use Rattle.names.specs.Known.{has}
use Rattle.names.specs.Maps.{put_value}
use Rattle.check_exec.proofs.Facts.{eq_turned}
use Rattle.block_net.specs.declared.key.Key as code_key
use Rattle.block_net.specs.declared.key.Key.TheVariants as keys
use Rattle.block_net.specs.declared.effect.Effect.{Effect}
use Rattle.block_net.specs.declared.effect.Effect.TheVariants.{Set, Slot}
use Rattle.block_net.specs.declared.term.Term.{Term}
use Rattle.block_net.specs.declared.term.TermId.{TermId}
use Rattle.block_net.specs.Terms.{IsWithin, tree_for}
use Rattle.block_net.specs.Logs.{AreWithin, rows_of}
use Rattle.block_net.specs.Blocks.{BlockParts}
use Rattle.block_net.specs.Walks.{IsHeld, held}
use Rattle.place_core.specs.Assigned.{names_at}
use Rattle.term_net.specs.Leaves.{leaf_tree}
use Rattle.lower_core.specs.declared.row.FullRow.{FullRow}
use Rattle.row_net.specs.Told.{Names, NameRow, name_row, names_in, set_name, after_step, rows_of_step, name_rows, names_by, no_own, AreHeld, Replayed, RowsPut, log_rows}
use Rattle.row_net.proofs.Growing.{names_more}

-- ---- what names have

put_names : (terms : List Term) (ids new : Name → Option (Option TermId)) (x : Name) (id : Option TermId) → new ≡ put_value x id ids → names_by terms new ≡ set_name x (tree_for terms id) (names_by terms ids)
put_names terms ids new x id e = ap (names_by terms) e ∙ (λ i y. each y i)
  where
    by_test : (y : Name) (b : Bool) → held terms y (if b then Some id else ids y) ≡ (if b then tree_for terms id else held terms y (ids y))
    by_test y true = refl
    by_test y false = refl

    each : (y : Name) → names_by terms (put_value x id ids) y ≡ set_name x (tree_for terms id) (names_by terms ids) y
    each y = by_test y (bytes_eq y x) ∙ ap (λ b. if b then tree_for terms id else held terms y (ids y)) (eq_turned y x)

put_held : (terms : List Term) (ids new : Name → Option (Option TermId)) (x : Name) (id : Option TermId) → new ≡ put_value x id ids → IsWithin terms id → AreHeld terms ids → AreHeld terms new
put_held terms ids new x id e within h = subst (AreHeld terms) (sym e) (λ y. by_test y (bytes_eq y x))
  where
    by_test : (y : Name) (b : Bool) → IsHeld terms (if b then Some id else ids y)
    by_test y true = within
    by_test y false = h y

-- a key that is set
pub now_set : (terms : List Term) (ids new : Name → Option (Option TermId)) (key : code_key.Key) (x y : Name) (id : Option TermId) → key ≡ keys.Now x → y ≡ x → new ≡ put_value y id ids → names_by terms new ≡ after_step terms (Set key id) (names_by terms ids)
now_set terms ids new key x y id is same e =
    put_names terms ids new y id e ∙ ap (λ z. set_name z (tree_for terms id) (names_by terms ids)) same ∙ sym (ap (λ (k : code_key.Key). after_step terms (Set k id) (names_by terms ids)) is)

pub now_held : (terms : List Term) (ids new : Name → Option (Option TermId)) (y : Name) (id : Option TermId) → new ≡ put_value y id ids → IsWithin terms id → AreHeld terms ids → AreHeld terms new
now_held terms ids new y id e within h = put_held terms ids new y id e within h

-- ---- steps in order

pub next_step : (log : List Effect) (i : ℕ) (effect : Effect) → i < length log → effect ≡ get_or log i effect → drop i log ≡ effect ∷ drop (i + 1) log
next_step log i effect below at = drop_more log i effect below ∙ ap (λ s. s ∷ drop (i + 1) log) (sym at)

pub within_at : (terms : List Term) (log : List Effect) (i : ℕ) (effect : Effect) → i < length log → effect ≡ get_or log i effect → AreWithin terms log → AreWithin terms (effect ∷ [])
within_at terms log i effect below at h = first effect (subst (AreWithin terms) (next_step log i effect below at) (rest log i h))
  where
    within_tail : (s : Effect) (l : List Effect) → AreWithin terms (s ∷ l) → AreWithin terms l
    within_tail (Set key id) l g = g.1
    within_tail (Slot slot enable) l g = g.1

    rest : (l : List Effect) (k : ℕ) → AreWithin terms l → AreWithin terms (drop k l)
    rest [] k g = let e : drop k (let none : List Effect = [] in none) ≡ [] = none_left k in subst (AreWithin terms) (sym e) tt
      where
        none_left : (j : ℕ) → drop j (let none : List Effect = [] in none) ≡ []
        none_left zero = refl
        none_left (suc j) = refl
    rest (s ∷ l) zero g = g
    rest (s ∷ l) (suc k) g = rest l k (within_tail s l g)

    first : (s : Effect) → AreWithin terms (s ∷ drop (i + 1) log) → AreWithin terms (s ∷ [])
    first (Set key id) g = (g.0, tt)
    first (Slot slot enable) g = (g.0, tt)

-- the rows that are left
pub left_rows : (terms : List Term) (log : List Effect) (i : ℕ) (effect : Effect) (names : Names) → i < length log → effect ≡ get_or log i effect →
    name_rows terms (drop i log) names ≡ rows_of_step terms effect names ++ name_rows terms (drop (i + 1) log) (after_step terms effect names)
left_rows terms log i effect names below at = ap (λ l. name_rows terms l names) (next_step log i effect below at)

pub replay_step : (old new : List Shape) (places : Name → Option ℕ) (nodes : List (Option NodeId)) (i : ℕ) (names : List Name) (all left now later : List NameRow) (fulls after : List FullRow) → left ≡ now ++ later →
    Replayed old (leaf_tree old places nodes) i names all left fulls → RowsPut old new places nodes i names now fulls after → Replayed new (leaf_tree new places nodes) i names all later after
replay_step old new places nodes i names all left now later fulls after e r put = record {
  done = r.done ++ now;
  split = append_assoc r.done now later ∙ ap (λ l. r.done ++ l) (sym e) ∙ r.split;
  have = put r.done r.have;
}

-- ---- the names of the log's rows

pub same_rows : (terms : List Term) (log : List Effect) (trees : Env (Tree Name)) → name_rows terms log (names_in trees) ≡ map name_row (rows_of terms log trees)
same_rows terms [] trees = refl
same_rows terms (Set (keys.Now x) id ∷ log) trees = same_rows terms log _
same_rows terms (Set (keys.Next x) id ∷ log) trees = same_rows terms log _
same_rows terms (Slot slot enable ∷ log) trees = ap (λ l. name_row (record { slot = slot; enable = tree_for terms enable; before = trees }) ∷ l) (same_rows terms log trees)

starts_as : (terms : List Term) (body : Body) → names_by terms (no_own (own body)) ≡ names_in (shown_start body)
starts_as terms body = λ i x. by_test x (own body x) i
  where
    by_test : (x : Name) (b : Bool) → held terms x (if b then Some None else None) ≡ (if b then None else Some (tree.Leaf x))
    by_test x true = refl
    by_test x false = refl

pub no_own_held : (terms : List Term) (ids : Name → Option (Option TermId)) (f : Name → Bool) → ids ≡ no_own f → AreHeld terms ids
no_own_held terms ids f e = subst (AreHeld terms) (sym e) (λ x. by_test (f x))
  where
    by_test : (b : Bool) → IsHeld terms (if b then Some None else None)
    by_test true = tt
    by_test false = tt

-- the log tells the rows of the block
pub block_told : (parts : BlockParts) (body : Body) (ids : Name → Option (Option TermId)) → ids ≡ no_own (own body) → name_rows parts.terms parts.log (names_by parts.terms ids) ≡ map name_row (log_rows parts body)
block_told parts body ids e =
    ap (λ f. name_rows parts.terms parts.log (names_by parts.terms f)) e
    ∙ ap (name_rows parts.terms parts.log) (starts_as parts.terms body)
    ∙ same_rows parts.terms parts.log (shown_start body)

-- ---- own names

pub own_next : (names : List (Bor Name)) (i : ℕ) (y : Bor Name) (ids new : Name → Option (Option TermId)) → i < length names → y ≡ get_or names i y → ids ≡ no_own (has (names_at (take i names))) → new ≡ put_value y.now None ids →
    new ≡ no_own (has (names_at (take (i + 1) names)))
own_next names i y ids new below at e put = put ∙ ap (put_value y.now None) e ∙ (λ j x. each x j)
  where
    by_test : (a b : Bool) → (if a then Some None else (if b then Some None else None)) ≡ (if b || (a || false) then Some (let none : Option TermId = None in none) else None)
    by_test true true = refl
    by_test true false = refl
    by_test false true = refl
    by_test false false = refl

    each : (x : Name) → put_value y.now None (no_own (has (names_at (take i names)))) x ≡ no_own (has (names_at (take (i + 1) names))) x
    each x =
        by_test (bytes_eq x y.now) (has (names_at (take i names)) x)
        ∙ ap (λ b. if b then Some None else None) (sym (list_any-append (bytes_eq x) (names_at (take i names)) (y.now ∷ [])) ∙ ap (λ l. has l x) (sym (names_more names i y below at)))
