-- The terms of a block as vertices, one after another, and what its names end with.
use Rattle.std.proofs.Common.{◌≡◌, ℕ, zero, suc, ◌+◌, ◌<◌, ◌≤◌, Bool, true, false, true≢false, ◌||◌, bytes_eq, if◌then◌else◌, List, [], ◌∷◌, ◌++◌, take, Option, Some, None, option_map, length, get_or, refl, sym, subst, ap, ◌∙◌, inl, inr, arith, length-append}
use Rattle.std.proofs.lemmas.Bool.{cases_Bool, cases_eq, cases_lt}
use Rattle.std.proofs.lemmas.List.{get_or_append_left, get_or_push}
use Rattle.std.proofs.lemmas.Slice.Eq.{bytes_eq-Decides}
use Rattle.tree_core.specs.Tree.{Tree, Leaf}
use Rattle.exec_core.specs.Block.{Name}
use Rattle.list_core.specs.Lists.{EachOf}
use Rattle.graph_order.specs.Graphs.{Graph, edges_of, IsGraph}
use Rattle.names.specs.Known.{Known, has}
use Rattle.names.specs.Maps.{value_of}
use Rattle.place_core.specs.Numbering.{Numbers}
use Rattle.place_core.proofs.Targets.{has_push}
use Rattle.block_net.specs.declared.term.Term.{Term}
use Rattle.block_net.specs.declared.term.Term.TheVariants as terms
use Rattle.block_net.specs.declared.term.TermId.{TermId}
use Rattle.block_net.specs.Blocks.{BlockParts}
use Rattle.block_net.specs.Terms.{AreNumbered, IsWithin, OperandsBelow, term_tree, tree_at, trees_of}
use Rattle.block_net.specs.Walks.{held}
use Rattle.block_net.proofs.TermLists.{read_below, read_tree}
use Rattle.dep_order.specs.Standing.{Stand, StandFor, AreVertices, listed}
use Rattle.dep_order.specs.Blocks.{AreFollowed, AreSignals, EndIs, EndsStand, Grown, IsVersion, Versions, end_of, put_version, single, term_reads, version_of, vertex_at}
use Rattle.dep_order.proofs.Versions.{listed_stands, listed_vertices, stand_const, stand_kept, stand_mux, stand_one, stand_two, version_stands}
use Rattle.dep_order.proofs.Growing.{grown_keeps, grown_push, vertices_more}

-- ---- one vertex more

-- a version stays what it is
pub version_kept : (base : ℕ) (g h : Graph) (number : Numbers) (v : ℕ) (t : Tree Name) → IsGraph g → Grown g h → IsVersion base g number v t → IsVersion base h number v t
version_kept base g h number v t is grown s = record {
  high = s.high;
  within = omega (arith, s.within, grown.longer);
  stands = λ signals low all. stand_kept signals g h number (Some (v ∷ [])) (Some t) is (grown_keeps signals g h grown) (s.within, tt) (s.stands signals low all);
}

-- a vertex that reads what stands for a tree stands for it
pub made_version : (base : ℕ) (g h : Graph) (number : Numbers) (v : ℕ) (vs : List ℕ) (t : Tree Name) → base ≤ length g → v ≡ length g → h ≡ g ++ vs ∷ []
    → ((signals : ℕ) → signals ≤ base → AreSignals signals number → StandFor signals h number vs t) → IsVersion base h number v t
made_version base g h number v vs t low at is stands = record {
  high = omega (arith, low, at);
  within = omega (arith, at, ap length is, length-append g (vs ∷ []));
  stands = λ signals lower all.
      version_stands signals h number v (Some vs) (Some t) (omega (arith, lower, low, at)) (λ us e. ap (λ (k : Graph). edges_of k v) is ∙ get_or_push g vs [] v (sym at) ∙ same vs us e) (stands signals lower all);
}
  where
    same : (us ws : List ℕ) → Some us ≡ Some ws → us ≡ ws
    same us ws e = cc

-- ---- terms

-- what a term reads are vertices of the graph
pub reads_within : (base : ℕ) (g : Graph) (number : Numbers) (ns : List Term) (k : ℕ) (vs : List ℕ) (n : Term) → AreSignals (length g) number → AreFollowed base g number ns k vs → OperandsBelow k n → EachOf (λ w. w < length g) (term_reads number vs n)
reads_within base g number ns k vs (terms.Leaf x) all f below = listed_vertices (length g) number x (number x) refl all
reads_within base g number ns k vs (terms.Value w v) all f below = tt
reads_within base g number ns k vs (terms.Unary op a) all f below = ((f a.0 below).within, tt)
reads_within base g number ns k vs (terms.Binary op a b) all f below = ((f a.0 below.0).within, ((f b.0 below.1).within, tt))
reads_within base g number ns k vs (terms.Mux c a b) all f below = ((f c.0 below.0).within, ((f a.0 below.1).within, ((f b.0 below.2).within, tt)))
reads_within base g number ns k vs (terms.Zext a w) all f below = ((f a.0 below).within, tt)
reads_within base g number ns k vs (terms.Slice a h l) all f below = ((f a.0 below).within, tt)

-- they stand for its tree
reads_stand : (base : ℕ) (g : Graph) (number : Numbers) (ns : List Term) (k : ℕ) (vs : List ℕ) (n : Term) → AreFollowed base g number ns k vs → OperandsBelow k n
    → (signals : ℕ) → signals ≤ base → AreSignals signals number → StandFor signals g number (term_reads number vs n) (term_tree (trees_of ns) n)
reads_stand base g number ns k vs (terms.Leaf x) f below signals low all = listed_stands signals g number x (number x) refl all
reads_stand base g number ns k vs (terms.Value w v) f below signals low all = stand_const signals g number _
reads_stand base g number ns k vs (terms.Unary op a) f below signals low all = stand_one signals g number (vertex_at vs a ∷ []) _ (tree_at (trees_of ns) a.0) ((f a.0 below).stands signals low all)
reads_stand base g number ns k vs (terms.Binary op a b) f below signals low all =
    stand_two signals g number (vertex_at vs a ∷ []) (vertex_at vs b ∷ []) _ (tree_at (trees_of ns) a.0) (tree_at (trees_of ns) b.0) ((f a.0 below.0).stands signals low all) ((f b.0 below.1).stands signals low all)
reads_stand base g number ns k vs (terms.Mux c a b) f below signals low all =
    stand_mux signals g number (vertex_at vs c ∷ []) (vertex_at vs a ∷ []) (vertex_at vs b ∷ []) (tree_at (trees_of ns) c.0) (tree_at (trees_of ns) a.0) (tree_at (trees_of ns) b.0)
    ((f c.0 below.0).stands signals low all) ((f a.0 below.1).stands signals low all) ((f b.0 below.2).stands signals low all)
reads_stand base g number ns k vs (terms.Zext a w) f below signals low all = stand_one signals g number (vertex_at vs a ∷ []) _ (tree_at (trees_of ns) a.0) ((f a.0 below).stands signals low all)
reads_stand base g number ns k vs (terms.Slice a h l) f below signals low all = stand_one signals g number (vertex_at vs a ∷ []) _ (tree_at (trees_of ns) a.0) ((f a.0 below).stands signals low all)

-- the vertices so far, and that of one term more
pub record Way (begun g : Graph) (number : Numbers) (ns : List Term) (k : ℕ) (vs : List ℕ) : Type 0 where
  pub grown : Grown begun g
  pub graph : IsGraph g
  pub count : length vs ≡ k
  pub followed : AreFollowed (length begun) g number ns k vs

pub signals_more : (n m : ℕ) (number : Numbers) → n ≤ m → AreSignals n number → AreSignals m number
signals_more n m number h all x k e = omega (arith, h, all x k e)

pub way_next : (begun g h : Graph) (number : Numbers) (ns : List Term) (k : ℕ) (vs after read : List ℕ) (v : ℕ) (n : Term) → AreSignals (length begun) number → AreNumbered ns → k < length ns → n ≡ get_or ns k n
    → OperandsBelow k n → read ≡ term_reads number vs n → v ≡ length g → h ≡ g ++ read ∷ [] → IsGraph h → Grown g h → Grown begun h → after ≡ vs ++ v ∷ [] → Way begun g number ns k vs → Way begun h number ns (k + 1) after
way_next begun g h number ns k vs after read v n all numbered inside at below is high more graph step grown longer w = record {
  grown = grown;
  graph = graph;
  count = ap length longer ∙ length-append vs (v ∷ []) ∙ ap (λ m. m + 1) w.count;
  followed = λ i low. elim (cases_lt i k) [
    | inl before ↦ subst (λ u. IsVersion (length begun) h number u (tree_at (trees_of ns) i)) (sym (at_left i before)) (version_kept (length begun) g h number _ _ w.graph step (w.followed i before))
    | inr past ↦ let here : i ≡ k = omega (arith, low, past) in
        subst (λ u. IsVersion (length begun) h number u (tree_at (trees_of ns) i)) (sym (ap (λ j. get_or after j 0) here ∙ at_last))
        (subst (λ t. IsVersion (length begun) h number v t) (sym (ap (tree_at (trees_of ns)) here ∙ read_tree ns ns k n refl numbered inside at))
        (made_version (length begun) g h number v read (term_tree (trees_of ns) n) w.grown.longer high more
        (λ signals lower sig. subst (λ us. StandFor signals h number us (term_tree (trees_of ns) n)) (sym is)
        (reads_stand (length begun) h number ns k vs n (λ j b. version_kept (length begun) g h number _ _ w.graph step (w.followed j b)) below signals lower sig))))
  ];
}
  where
    at_left : (i : ℕ) → i < k → get_or after i 0 ≡ get_or vs i 0
    at_left i b = ap (λ l. get_or l i 0) longer ∙ get_or_append_left vs (v ∷ []) 0 i (omega (arith, b, w.count))

    at_last : get_or after k 0 ≡ v
    at_last = ap (λ l. get_or l k 0) longer ∙ get_or_push vs v 0 k w.count

-- vertices of the graph are what the next term reads, and so the graph grows by it
pub term_within : (begun g : Graph) (number : Numbers) (ns : List Term) (k : ℕ) (vs seen read given : List ℕ) (n : Term) → AreSignals (length begun) number → AreNumbered ns → k < length ns → n ≡ get_or ns k n → Way begun g number ns k vs
    → seen ≡ vs → read ≡ term_reads number seen n → given ≡ read → EachOf (λ w. w < length g) given
term_within begun g number ns k vs seen read given n all numbered inside at w same is passed =
    subst (EachOf (λ w. w < length g)) (sym (passed ∙ is ∙ ap (λ us. term_reads number us n) same))
    (reads_within (length begun) g number ns k vs n (signals_more (length begun) (length g) number w.grown.longer all) w.followed (read_below ns ns k n refl numbered inside at))

-- ---- what names end with

pub end_kept : (base : ℕ) (g h : Graph) (number : Numbers) (version : Option ℕ) (tree : Option (Tree Name)) → IsGraph g → Grown g h → EndIs base g number version tree → EndIs base h number version tree
end_kept base g h number version tree is grown e = record {
  vertices = vertices_more (length g) (length h) (option_map single version) grown.longer e.vertices;
  stand = λ signals low all. stand_kept signals g h number (option_map single version) tree is (grown_keeps signals g h grown) e.vertices (e.stand signals low all);
}

-- of a term, of none, and of a name that was not set
pub end_some : (base : ℕ) (g : Graph) (number : Numbers) (parts : BlockParts) (vs : List ℕ) (x : Name) (id : TermId) (v : ℕ) → Some (Some id) ≡ value_of parts.names x → id.0 < length parts.terms → v ≡ vertex_at vs id
    → AreFollowed base g number parts.terms (length parts.terms) vs → EndIs base g number (Some v) (end_of parts x)
end_some base g number parts vs x id v is below at f =
    let s = f id.0 below in
    subst (λ o. EndIs base g number (Some v) (held parts.terms x o)) is
    (subst (λ u. EndIs base g number (Some u) (Some (tree_at (trees_of parts.terms) id.0))) (sym at) (record { vertices = (s.within, tt); stand = s.stands }))

pub end_none : (base : ℕ) (g : Graph) (number : Numbers) (parts : BlockParts) (x : Name) → Some None ≡ value_of parts.names x → EndIs base g number None (end_of parts x)
end_none base g number parts x is = subst (λ o. EndIs base g number None (held parts.terms x o)) is (record { vertices = tt; stand = λ signals low all. tt })

pub end_own : (base : ℕ) (g h : Graph) (number : Numbers) (parts : BlockParts) (x : Name) (v : ℕ) → None ≡ value_of parts.names x → base ≤ length g → IsVersion (length g) h number v (Leaf x) → EndIs base h number (Some v) (end_of parts x)
end_own base g h number parts x v is low s =
    subst (λ o. EndIs base h number (Some v) (held parts.terms x o)) is (record { vertices = (s.within, tt); stand = λ signals lower all. s.stands signals (omega (arith, lower, low)) all })

-- one name more
pub ends_push : (base : ℕ) (g h : Graph) (number : Numbers) (parts : BlockParts) (names : List Name) (name : Name) (now after : Versions) (version : Option ℕ) → IsGraph g → Grown g h → EndIs base h number version (end_of parts name)
    → after ≡ put_version name version now → EndsStand base g number (has names) parts now → EndsStand base h number (has (names ++ name ∷ [])) parts after
ends_push base g h number parts names name now after version is grown end put so x known =
    elim (cases_Bool (bytes_eq x name)) [
      | inl same ↦
          subst (λ o. EndIs base h number o (end_of parts x)) (sym (ap (λ (f : Versions). f x) put ∙ ap (λ b. if b then version else now x) same))
          (subst (λ y. EndIs base h number version (end_of parts y)) (sym ((bytes_eq-Decides x name).0 same)) end)
      | inr other ↦
          subst (λ o. EndIs base h number o (end_of parts x)) (sym (ap (λ (f : Versions). f x) put ∙ ap (λ b. if b then version else now x) other))
          (end_kept base g h number (now x) (end_of parts x) is grown (so x (before other)))
    ]
  where
    turned : (b : Bool) → bytes_eq name x ≡ b → bytes_eq x name ≡ false → b ≡ false
    turned true e off = absurd (true≢false (sym ((bytes_eq-Decides x name).1 (sym ((bytes_eq-Decides name x).0 e))) ∙ off))
    turned false e off = refl

    only : (a b : Bool) → (a || b) ≡ true → b ≡ false → a ≡ true
    only true b e f = refl
    only false b e f = absurd (true≢false (sym e ∙ f))

    before : bytes_eq x name ≡ false → has names x ≡ true
    before off = only (has names x) (bytes_eq name x) (sym (has_push names name x) ∙ known) (turned (bytes_eq name x) refl off)

pub no_ends : (base : ℕ) (g : Graph) (number : Numbers) (parts : BlockParts) (versions : Versions) → EndsStand base g number (has []) parts versions
no_ends base g number parts versions x known = absurd (true≢false (sym known))
