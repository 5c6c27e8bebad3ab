-- What stands for which tree.
use Rattle.std.proofs.Common.{◌≡◌, ℕ, ◌<◌, ◌≤◌, List, [], ◌∷◌, ◌++◌, inl, inr, Option, Some, None, length, refl, sym, subst, ap, ◌∙◌}
use Rattle.bv_core.specs.declared.operators.Op1.{Op1}
use Rattle.bv_core.specs.declared.operators.Op2.{Op2}
use Rattle.bv_core.specs.Value.{Bits}
use Rattle.tree_core.specs.Tree.{Tree, Const, Leaf, One, Two, Mux}
use Rattle.exec_core.specs.Block.{Name, Expr}
use Rattle.exec_core.specs.Leaves.{EachLeaf}
use Rattle.list_core.proofs.Options.{some_same}
use Rattle.exec_core.proofs.Wholes.{each_leaf}
use Rattle.graph_order.specs.Graphs.{Graph, edges_of, IsGraph}
use Rattle.list_core.proofs.Lists.{each_member, each_append}
use Rattle.dep_order.specs.Reaching.{Reaches, ReachedFrom, KeepsVersions}
use Rattle.list_core.specs.Lists.{EachOf}
use Rattle.dep_order.specs.Blocks.{AreSignals}
use Rattle.dep_order.specs.Standing.{StandFor, Stand, AreVertices, listed, read_by}
use Rattle.place_core.specs.Numbering.{Numbers}
use Rattle.dep_order.proofs.Walks.{itself, signal_alone, from_version, to_version, reaches_kept, reaches_back, from_left, from_right, from_cases}

-- ---- from leaves up

pub stand_signal : (signals : ℕ) (g : Graph) (number : Numbers) (x : Name) (n : ℕ) → number x ≡ Some n → n < signals → StandFor signals g number (n ∷ []) (Leaf x)
stand_signal signals g number x n e h = record {
  leaves = λ m k. let same : n ≡ m = some_same n m (sym e ∙ k) in
      subst (ReachedFrom signals g (n ∷ [])) same (record { start = n; one_of = inl refl; reaches = itself signals g n h });
  nothing_else = λ w r. elim r.one_of [
    | inl is ↦ e ∙ ap (λ (m : ℕ). Some m) (sym is ∙ signal_alone signals g r.start w (subst (λ (m : ℕ). m < signals) (sym is) h) r.reaches)
    | inr k ↦ absurd k
  ];
}

pub stand_unknown : (signals : ℕ) (g : Graph) (number : Numbers) (x : Name) → number x ≡ None → StandFor signals g number [] (Leaf x)
stand_unknown signals g number x e = record { leaves = λ m k. cc; nothing_else = λ w r. absurd r.one_of }

pub stand_const : (signals : ℕ) (g : Graph) (number : Numbers) (b : Bits) → StandFor signals g number [] (Const b)
stand_const signals g number b = record { leaves = tt; nothing_else = λ w r. r.one_of }

pub stand_one : (signals : ℕ) (g : Graph) (number : Numbers) (vs : List ℕ) (op : Op1) (t : Tree Name) → StandFor signals g number vs t → StandFor signals g number vs (One op t)
stand_one signals g number vs op t s = record { leaves = s.leaves; nothing_else = s.nothing_else }

-- more vertices reach more
more_left : (signals : ℕ) (g : Graph) (number : Numbers) (us vs : List ℕ) (t : Tree Name) → StandFor signals g number us t → EachLeaf (λ x. (n : ℕ) → number x ≡ Some n → ReachedFrom signals g (us ++ vs) n) t
more_left signals g number us vs t s = each_leaf (λ x f n e. from_left signals g us vs n (f n e)) t s.leaves

more_right : (signals : ℕ) (g : Graph) (number : Numbers) (us vs : List ℕ) (t : Tree Name) → StandFor signals g number vs t → EachLeaf (λ x. (n : ℕ) → number x ≡ Some n → ReachedFrom signals g (us ++ vs) n) t
more_right signals g number us vs t s = each_leaf (λ x f n e. from_right signals g us vs n (f n e)) t s.leaves

pub stand_two : (signals : ℕ) (g : Graph) (number : Numbers) (us vs : List ℕ) (op : Op2) (a b : Tree Name) → StandFor signals g number us a → StandFor signals g number vs b → StandFor signals g number (us ++ vs) (Two op a b)
stand_two signals g number us vs op a b s t = record {
  leaves = (more_left signals g number us vs a s, more_right signals g number us vs b t);
  nothing_else = λ w r. elim (from_cases signals g us vs w r) [ inl l ↦ inl (s.nothing_else w l) | inr l ↦ inr (t.nothing_else w l) ];
}

pub stand_mux : (signals : ℕ) (g : Graph) (number : Numbers) (us vs ws : List ℕ) (c a b : Tree Name) → StandFor signals g number us c → StandFor signals g number vs a → StandFor signals g number ws b →
    StandFor signals g number (us ++ (vs ++ ws)) (Mux c a b)
stand_mux signals g number us vs ws c a b r s t = record {
  leaves = (
    more_left signals g number us (vs ++ ws) c r,
    each_leaf (λ x f n e. from_right signals g us (vs ++ ws) n (f n e)) a (more_left signals g number vs ws a s),
    each_leaf (λ x f n e. from_right signals g us (vs ++ ws) n (f n e)) b (more_right signals g number vs ws b t),
  );
  nothing_else = λ w k. elim (from_cases signals g us (vs ++ ws) w k) [
    | inl l ↦ inl (r.nothing_else w l)
    | inr l ↦ elim (from_cases signals g vs ws w l) [ inl m ↦ inr (inl (s.nothing_else w m)) | inr m ↦ inr (inr (t.nothing_else w m)) ]
  ];
}

-- ---- what an expression reads

pub listed_stands : (signals : ℕ) (g : Graph) (number : Numbers) (x : Name) (o : Option ℕ) → number x ≡ o → AreSignals signals number → StandFor signals g number (listed o) (Leaf x)
listed_stands signals g number x None e all = stand_unknown signals g number x e
listed_stands signals g number x (Some n) e all = stand_signal signals g number x n e (all x n e)

-- it stands for it
pub reads_stand : (signals : ℕ) (g : Graph) (number : Numbers) (e : Expr) → AreSignals signals number → StandFor signals g number (read_by e number) e
reads_stand signals g number (Const bits) all = stand_const signals g number bits
reads_stand signals g number (Leaf x) all = listed_stands signals g number x (number x) refl all
reads_stand signals g number (One op a) all = stand_one signals g number (read_by a number) op a (reads_stand signals g number a all)
reads_stand signals g number (Two op a b) all = stand_two signals g number (read_by a number) (read_by b number) op a b (reads_stand signals g number a all) (reads_stand signals g number b all)
reads_stand signals g number (Mux c a b) all =
    stand_mux signals g number (read_by c number) (read_by a number) (read_by b number) c a b (reads_stand signals g number c all) (reads_stand signals g number a all) (reads_stand signals g number b all)

-- ---- more graph

pub stand_kept : (signals : ℕ) (g h : Graph) (number : Numbers) (o : Option (List ℕ)) (t : Option (Tree Name)) → IsGraph g → KeepsVersions signals g h → AreVertices (length g) o →
    Stand signals g number o t → Stand signals h number o t
stand_kept signals g h number None None is k w s = tt
stand_kept signals g h number None (Some t) is k w s = s
stand_kept signals g h number (Some vs) None is k w s = s
stand_kept signals g h number (Some vs) (Some t) is k w s = record {
  leaves = each_leaf (λ x f n e. let r = f n e in record { start = r.start; one_of = r.one_of; reaches = reaches_kept signals g h r.start n k r.reaches }) t s.leaves;
  nothing_else = λ n r. s.nothing_else n (record { start = r.start; one_of = r.one_of; reaches = reaches_back signals g h r.start n is k (each_member (λ v. v < length g) vs w r.start r.one_of) r.reaches });
}

-- a version of what a list reads, in place of the list
abbrev pub one_version : ℕ → Option (List ℕ) → Option (List ℕ)
one_version v None = None
one_version v (Some vs) = Some (v ∷ [])

pub version_stands : (signals : ℕ) (h : Graph) (number : Numbers) (v : ℕ) (o : Option (List ℕ)) (t : Option (Tree Name)) → signals ≤ v →
    ((vs : List ℕ) → o ≡ Some vs → edges_of h v ≡ vs) → Stand signals h number o t → Stand signals h number (one_version v o) t
version_stands signals h number v None None high next s = tt
version_stands signals h number v None (Some t) high next s = s
version_stands signals h number v (Some vs) None high next s = s
version_stands signals h number v (Some vs) (Some t) high next s =
    let is : edges_of h v ≡ vs = next vs refl in
    record {
      leaves = each_leaf (λ x f n e. record { start = v; one_of = inl refl; reaches = to_version signals h v n high (subst (λ (us : List ℕ). ReachedFrom signals h us n) (sym is) (f n e)) }) t s.leaves;
      nothing_else = λ n r. elim r.one_of [
        | inl same ↦ s.nothing_else n (subst (λ (us : List ℕ). ReachedFrom signals h us n) is (from_version signals h v n high (subst (λ (u : ℕ). Reaches signals h u n) same r.reaches)))
        | inr k ↦ absurd k
      ];
    }

-- ---- vertices

pub listed_vertices : (n : ℕ) (number : Numbers) (x : Name) (o : Option ℕ) → number x ≡ o → AreSignals n number → EachOf (λ v. v < n) (listed o)
listed_vertices n number x None e all = tt
listed_vertices n number x (Some v) e all = (all x v e, tt)

pub reads_vertices : (n : ℕ) (number : Numbers) (e : Expr) → AreSignals n number → EachOf (λ v. v < n) (read_by e number)
reads_vertices n number (Const bits) all = tt
reads_vertices n number (Leaf x) all = listed_vertices n number x (number x) refl all
reads_vertices n number (One op a) all = reads_vertices n number a all
reads_vertices n number (Two op a b) all = each_append (λ v. v < n) (read_by a number) (read_by b number) (reads_vertices n number a all) (reads_vertices n number b all)
reads_vertices n number (Mux c a b) all =
    each_append (λ v. v < n) (read_by c number) (read_by a number ++ read_by b number) (reads_vertices n number c all)
    (each_append (λ v. v < n) (read_by a number) (read_by b number) (reads_vertices n number a all) (reads_vertices n number b all))
