-- Walks through statements, one after another, and through branches.
use Rattle.std.proofs.Common.{◌≡◌, ℕ, ◌+◌, ◌<◌, ◌≤◌, Bool, true, false, true≢false, ◌||◌, List, [], ◌∷◌, ◌++◌, length, drop, get_or, Option, Some, None, Vec, Global, if◌then◌else◌, append_assoc, append-nil, refl, sym, ap, ◌∙◌, subst}
use Rattle.bv_core.specs.declared.operators.Op1.TheVariants as op1
use Rattle.bv_core.specs.declared.operators.Op2.TheVariants as op2
use Rattle.tree_core.specs.Tree as tree
use Rattle.tree_core.specs.Tree.{Tree}
use Rattle.exec_core.specs.Block as blocks
use Rattle.exec_core.specs.Block.{Name, Key, Assign, If, Body, Done, Then, assigns, body_assigns, key_name, same_key}
use Rattle.exec_core.specs.Exec.{State, on_one, on_two, shown, write, written}
use Rattle.exec_core.specs.Trees.{Row, tree_in, then_enable, else_enable, merged, rows, body_rows, spliced, trees_after, body_trees_after}
use Rattle.design_core.specs.declared.statement.Stmt as code_stmt
use Rattle.block_net.specs.declared.bindings.Binding.{Binding}
use Rattle.block_net.specs.declared.key.Key as code_key
use Rattle.block_net.specs.declared.term.Term.{Term}
use Rattle.block_net.specs.declared.term.TermId.{TermId}
use Rattle.block_net.specs.declared.walk.Walk.{Walk}
use Rattle.block_net.specs.Terms.{IsWithin, Extends, Stands, tree_for}
use Rattle.block_net.specs.Source.{stmt_in, body_in, else_in}
use Rattle.block_net.specs.Walks.{Bind, Chooses, Cover, Fits, Grown, Joins, SetsAll, Shows, Through, ThroughStmt, Visits, Walked, among, choice, chosen, either, keys_of, overlay, state_of, env_of}
use Rattle.block_net.specs.Ways.{ThroughBoth, both_after, both_rows}
use Rattle.block_net.proofs.TermLists.{tree_more, extends_twice}
use Rattle.block_net.proofs.WalkSteps.{grown_walked, grown_none, walked_as, walked_shows, walked_twice}
use Rattle.block_net.proofs.BindSteps.{bind_more}
use Rattle.block_net.proofs.BodySteps.{body_split, body_end}

pub or_parts : (a b : Bool) → (a || b) ≡ false → (a ≡ false) × (b ≡ false)
or_parts false b e = (refl, e)
or_parts true b e = absurd (true≢false e)

-- keys of both branches cover the first
pub covered : (keys seen : List code_key.Key) (a b : Body) → seen ≡ keys → among keys ≡ either (body_assigns a) (body_assigns b) → Cover seen a
covered keys seen a b same is y off = (or_parts (body_assigns a y) (body_assigns b y) (sym (ap (λ (f : Key → Bool). f y) is) ∙ ap (λ k. among k y) (sym same) ∙ off)).0

-- ---- the enables of branches

pub both_of : (old mid : List Term) (enable test : Option TermId) → Extends old mid → IsWithin old enable → IsWithin old test → then_enable (tree_for mid enable) (tree_for mid test) ≡ then_enable (tree_for old enable) (tree_for old test)
both_of old mid enable test e w v = λ j. then_enable (tree_more old mid enable e w j) (tree_more old mid test e v j)

not_of : (enable test : Option (Tree Name)) → on_two (tree.Two op2.And) enable (on_one (tree.One op1.Not) test) ≡ else_enable enable test
not_of None None = refl
not_of None (Some c) = refl
not_of (Some e) None = refl
not_of (Some e) (Some c) = refl

pub opposite_enable : (old mid : Walk) (enable test opposite : Option TermId) → Grown old mid → IsWithin old.terms enable → Stands mid.terms opposite (on_one (tree.One op1.Not) (tree_for old.terms test))
    → on_two (tree.Two op2.And) (tree_for mid.terms enable) (tree_for mid.terms opposite) ≡ else_enable (tree_for old.terms enable) (tree_for old.terms test)
opposite_enable old mid enable test opposite g w s =
    (λ j. on_two (tree.Two op2.And) (tree_more old.terms mid.terms enable g.terms w j) (s.is j)) ∙ not_of (tree_for old.terms enable) (tree_for old.terms test)

-- ---- what is not assigned

module _ (width : Name → ℕ) where
  mutual
    untouched_by : (s : blocks.Stmt) (trees : State (Tree Name)) (y : Key) → assigns s y ≡ false → trees_after width s trees y ≡ trees y
    untouched_by (Assign slot key part value) trees y e = ap (λ b. if b then written spliced (width (key_name y)) part (tree_in value (shown width trees)) (trees y) else trees y) e
    untouched_by (If slot test a b) trees y e = ap (λ (c : Bool). merged c (tree_in test (shown width trees)) (body_trees_after width a trees y) (body_trees_after width b trees y) (trees y)) e

    pub untouched : (b : Body) (trees : State (Tree Name)) (y : Key) → body_assigns b y ≡ false → body_trees_after width b trees y ≡ trees y
    untouched Done trees y e = refl
    untouched (Then s rest) trees y e = let parts = or_parts (assigns s y) (body_assigns rest y) e in untouched rest (trees_after width s trees) y parts.1 ∙ untouched_by s trees y parts.0

  -- ---- one statement after another

  pub record PartWay (enable : Option (Tree Name)) (all left : Body) (init now : Walk) : Type 0 where
    pub so_far : List Row
    pub walked : Walked width init now so_far (state_of now)
    pub ends : body_trees_after width left (state_of now) ≡ body_trees_after width all (state_of init)
    pub told : so_far ++ body_rows width left enable (state_of now) ≡ body_rows width all enable (state_of init)

  pub part_start : (enable : Option (Tree Name)) (all : Body) (init : Walk) → Shows width init → Fits init → PartWay enable all all init init
  part_start enable all init shows f = record { so_far = []; walked = grown_walked width init init shows (grown_none init f); ends = refl; told = refl }

  pub part_next : (enable : Option (Tree Name)) (id : Option TermId) (clocked : Bool) (all : Body) (stmts : List code_stmt.Stmt) (i : ℕ) (s : code_stmt.Stmt) (init now new : Walk) → i < length stmts → s ≡ get_or stmts i s
      → tree_for now.terms id ≡ enable → ThroughStmt width (tree_for now.terms id) (stmt_in clocked s) now new → PartWay enable all (body_in clocked (drop i stmts)) init now → PartWay enable all (body_in clocked (drop (i + 1) stmts)) init new
  part_next enable id clocked all stmts i s init now new inside at same w p =
      let split = body_split clocked stmts i s inside at in
      let t = stmt_in clocked s in
      let rest = body_in clocked (drop (i + 1) stmts) in
      record {
        so_far = p.so_far ++ rows width t enable (state_of now);
        walked = walked_as width init new _ _ _ _ (ap (λ e. p.so_far ++ rows width t e (state_of now)) same) (sym w.state) (walked_twice width init now new _ _ _ _ p.walked w);
        ends = ap (body_trees_after width rest) w.state ∙ ap (λ b. body_trees_after width b (state_of now)) (sym split) ∙ p.ends;
        told = append_assoc p.so_far (rows width t enable (state_of now)) (body_rows width rest enable (state_of new))
            ∙ ap (λ trees. p.so_far ++ (rows width t enable (state_of now) ++ body_rows width rest enable trees)) w.state
            ∙ ap (λ b. p.so_far ++ body_rows width b enable (state_of now)) (sym split) ∙ p.told;
      }

  pub part_end : (enable : Option (Tree Name)) (clocked : Bool) (stmts : List code_stmt.Stmt) (i : ℕ) (init now : Walk) → length stmts ≤ i → PartWay enable (body_in clocked stmts) (body_in clocked (drop i stmts)) init now
      → Through width enable (body_in clocked stmts) init now
  part_end enable clocked stmts i init now past p =
      let end = body_end clocked stmts i past in
      walked_as width init now _ _ _ _
      (sym (append-nil p.so_far) ∙ ap (λ b. p.so_far ++ body_rows width b enable (state_of now)) (sym end) ∙ p.told)
      (ap (λ b. body_trees_after width b (state_of now)) (sym end) ∙ p.ends) p.walked

  -- ---- what a statement comes to after its slot and its expression

  -- the walk that has come to a slot, and to a term of the expression, goes on
  pub record Comes (old mid : Walk) (slot : ℕ) (enable : Option (Tree Name)) (id : Option TermId) (e : blocks.Expr) : Type 0 where
    pub walked : Walked width old mid (record { slot = slot; enable = enable; before = shown width (state_of old) } ∷ []) (state_of old)
    pub stands : Stands mid.terms id (tree_in e (shown width (state_of old)))

  pub comes : (old seen mid : Walk) (slot : ℕ) (enable id : Option TermId) (e : blocks.Expr) → Shows width old → Visits slot enable old seen → Grown seen mid → Stands mid.terms id (tree_in e (env_of seen))
      → Comes old mid slot (tree_for old.terms enable) id e
  comes old seen mid slot enable id e shows v g s =
      let w = v width shows in
      record {
        walked = walked_as width old mid _ _ _ _ refl w.state (walked_twice width old seen mid _ _ _ _ w (grown_walked width seen mid (walked_shows width old seen _ _ w) g));
        stands = record { within = s.within; is = s.is ∙ ap (tree_in e) w.env };
      }

  -- an assignment
  pub through_assign : (old mid new : Walk) (enable : Option (Tree Name)) (slot : ℕ) (id : Option TermId) (key k : Key) (part : Option blocks.Part) (e : blocks.Expr) (s : blocks.Stmt) → s ≡ Assign slot k part e → key ≡ k
      → Comes old mid slot enable id e → Walked width mid new [] (write spliced width key part (tree_for mid.terms id) (state_of mid)) → ThroughStmt width enable s old new
  through_assign old mid new enable slot id key k part e s is same c w =
      walked_as width old new _ _ _ _ (ap (λ t. rows width t enable (state_of old)) (sym is))
      ((λ j. write spliced width (same j) part (c.stands.is j) (c.walked.state j)) ∙ ap (λ t. trees_after width t (state_of old)) (sym is))
      (walked_twice width old mid new _ _ _ _ c.walked w)

  -- an `if`
  pub through_if : (old mid new : Walk) (enable : Option (Tree Name)) (within id : Option TermId) (slot : ℕ) (c : blocks.Expr) (a b : Body) (s : blocks.Stmt) → s ≡ If (Some slot) c a b → tree_for mid.terms within ≡ enable → Comes old mid slot enable id c
      → ThroughBoth width (tree_for mid.terms within) (tree_for mid.terms id) a b mid new → ThroughStmt width enable s old new
  through_if old mid new enable within id slot c a b s is same at w =
      walked_as width old new _ _ _ _
      ((λ j. record { slot = slot; enable = enable; before = shown width (state_of old) } ∷ both_rows width (at.stands.is j) a b (same j) (at.walked.state j)) ∙ ap (λ t. rows width t enable (state_of old)) (sym is))
      ((λ j. both_after width (at.stands.is j) a b (at.walked.state j)) ∙ ap (λ t. trees_after width t (state_of old)) (sym is))
      (walked_twice width old mid new _ _ _ _ at.walked w)

  pub through_none : (old : Walk) (enable : Option (Tree Name)) → Shows width old → Fits old → Through width enable Done old old
  through_none old enable shows f = grown_walked width old old shows (grown_none old f)

  pub through_under : (old mid new : Walk) (id : Option TermId) (enable : Option (Tree Name)) (b : Body) → Shows width old → Grown old mid → Stands mid.terms id enable → Through width (tree_for mid.terms id) b mid new → Through width enable b old new
  through_under old mid new id enable b shows g s w =
      walked_as width old new _ _ _ _ (λ j. body_rows width b (s.is j) (g.state j)) (ap (body_trees_after width b) g.state) (walked_twice width old mid new _ _ _ _ (grown_walked width old mid shows g) w)

  pub through_as : (enable other : Option (Tree Name)) (b : Body) (old new : Walk) → enable ≡ other → Through width enable b old new → Through width other b old new
  through_as enable other b old new e w = subst (λ f. Through width f b old new) e w

  pub through_some : (enable : Option (Tree Name)) (clocked : Bool) (rest : Option (Vec code_stmt.Stmt Global)) (v : Vec code_stmt.Stmt Global) (items : List code_stmt.Stmt) (old new : Walk) → rest ≡ Some v → items ≡ v.items
      → Through width enable (body_in clocked items) old new → Through width enable (else_in clocked rest) old new
  through_some enable clocked rest v items old new is same w =
      subst (λ (r : Option (Vec code_stmt.Stmt Global)). Through width enable (else_in clocked r) old new) (sym is) (subst (λ l. Through width enable (body_in clocked l) old new) same w)

  pub through_no_else : (enable : Option (Tree Name)) (clocked : Bool) (rest : Option (Vec code_stmt.Stmt Global)) (old : Walk) → rest ≡ None → Shows width old → Fits old → Through width enable (else_in clocked rest) old old
  through_no_else enable clocked rest old is shows f = subst (λ (r : Option (Vec code_stmt.Stmt Global)). Through width enable (else_in clocked r) old old) (sym is) (through_none old enable shows f)

  -- ---- back to where a branch began

  restored : (keys : Key → Bool) (b : Body) (trees : State (Tree Name)) → ((y : Key) → keys y ≡ false → body_assigns b y ≡ false) → overlay keys trees (body_trees_after width b trees) ≡ trees
  restored keys b trees cover = λ j y. at y (keys y) refl j
    where
      at : (y : Key) (k : Bool) → keys y ≡ k → (if k then trees y else body_trees_after width b trees y) ≡ trees y
      at y true e = refl
      at y false e = untouched b trees y (cover y e)

  pub first_walked : (a picked walked again new : Walk) (keys : List code_key.Key) (before : List Binding) (enable : Option (Tree Name)) (b : Body) → Shows width a → Grown a picked → Through width enable b picked walked → Grown walked again
      → Cover keys b → among (keys_of before) ≡ among keys → Bind picked.terms (state_of a) before → SetsAll width before again new → Walked width a new (body_rows width b enable (state_of a)) (state_of a)
  first_walked a picked walked again new keys before enable b shows g w h cover same bound set =
      let more = extends_twice picked.terms walked.terms again.terms w.terms h.terms in
      let last = set (state_of a) (bind_more picked.terms again.terms (state_of a) before more bound) in
      let after : state_of again ≡ body_trees_after width b (state_of a) = h.state ∙ w.state ∙ ap (body_trees_after width b) g.state in
      walked_as width a new _ _ _ _
      (append-nil _ ∙ ap (body_rows width b enable) g.state)
      (ap (λ (trees : State (Tree Name)). overlay (among (keys_of before)) (state_of a) trees) after
      ∙ ap (λ (k : Key → Bool). overlay k (state_of a) (body_trees_after width b (state_of a))) same
      ∙ restored (among keys) b (state_of a) cover)
      (walked_twice width a picked new _ _ _ _ (grown_walked width a picked shows g)
      (walked_twice width picked walked new _ _ _ _ w (walked_twice width walked again new _ _ _ _ (grown_walked width walked again (walked_shows width picked walked _ _ w) h) last)))

  pub first_bind : (a picked walked again new : Walk) (bs : List Binding) (enable : Option (Tree Name)) (b : Body) → Grown a picked → Through width enable b picked walked → Grown walked again → Extends again.terms new.terms
      → Bind again.terms (state_of walked) bs → Bind new.terms (body_trees_after width b (state_of a)) bs
  first_bind a picked walked again new bs enable b g w h e bound =
      subst (λ trees. Bind new.terms trees bs) (w.state ∙ ap (body_trees_after width b) g.state) (bind_more again.terms new.terms (state_of walked) bs e bound)

  -- ---- both branches

  pub second_walked : (a walked grown new : Walk) (firsts chosen_ones : List Binding) (test : Option TermId) (enable : Option (Tree Name)) (b : Body) → IsWithin a.terms test → Through width enable b a walked → Grown walked grown
      → among (keys_of chosen_ones) ≡ among (keys_of firsts) → Chooses test firsts chosen_ones walked grown → SetsAll width chosen_ones grown new → Joins width enable (tree_for a.terms test) b firsts a new
  second_walked a walked grown new firsts chosen_ones test enable b inside w g same choose set trees bound =
      let chosen_trees = chosen (tree_for walked.terms test) trees (state_of walked) in
      let last = set chosen_trees (choose trees (bind_more a.terms walked.terms trees firsts w.terms bound)) in
      walked_as width a new _ _ _ _ (append-nil _)
      ((λ j. overlay (same j) (chosen (tree_more a.terms walked.terms test w.terms inside j) trees (w.state j)) ((g.state ∙ w.state) j)))
      (walked_twice width a walked new _ _ _ _ w (walked_twice width walked grown new _ _ _ _ (grown_walked width walked grown (walked_shows width a walked _ _ w) g) last))

  pub joined : (keys : Key → Bool) (test : Option (Tree Name)) (a : Body) (rest : Key → Bool) (after : State (Tree Name)) (trees : State (Tree Name)) → keys ≡ either (body_assigns a) rest → ((y : Key) → rest y ≡ false → after y ≡ trees y)
      → overlay keys (chosen test (body_trees_after width a trees) after) after
      ≡ (λ y. merged (body_assigns a y || rest y) test (body_trees_after width a trees y) (after y) (trees y))
  joined keys test a rest after trees same still =
      ap (λ (k : Key → Bool). overlay k (chosen test (body_trees_after width a trees) after) after) same
      ∙ (λ j y. at y (body_assigns a y || rest y) refl j)
    where
      at : (y : Key) (k : Bool) → (body_assigns a y || rest y) ≡ k
          → (if k then choice test (body_trees_after width a trees y) (after y) else after y)
          ≡ merged k test (body_trees_after width a trees y) (after y) (trees y)
      at y true e = refl
      at y false e = still y (or_parts (body_assigns a y) (rest y) e).1

  pub through_both : (old first new : Walk) (keys : Key → Bool) (firsts : List Binding) (enable test : Option TermId) (a b : Body) → IsWithin old.terms enable → IsWithin old.terms test
      → keys ≡ either (body_assigns a) (body_assigns b)
      → Walked width old first (body_rows width a (then_enable (tree_for old.terms enable) (tree_for old.terms test)) (state_of old)) (state_of old)
      → among (keys_of firsts) ≡ keys → Bind first.terms (body_trees_after width a (state_of old)) firsts
      → Joins width (else_enable (tree_for first.terms enable) (tree_for first.terms test)) (tree_for first.terms test) b firsts first new
      → ThroughBoth width (tree_for old.terms enable) (tree_for old.terms test) a b old new
  through_both old first new keys firsts enable test a b inside within both w same bound join =
      let tested : tree_for first.terms test ≡ tree_for old.terms test = tree_more old.terms first.terms test w.terms within in
      let enabled : tree_for first.terms enable ≡ tree_for old.terms enable = tree_more old.terms first.terms enable w.terms inside in
      walked_as width old new _ _ _ _
      (λ j. body_rows width a (then_enable (tree_for old.terms enable) (tree_for old.terms test)) (state_of old) ++ body_rows width b (else_enable (enabled j) (tested j)) (w.state j))
      ((λ j. overlay (same j) (chosen (tested j) (body_trees_after width a (state_of old)) (body_trees_after width b (w.state j))) (body_trees_after width b (w.state j)))
      ∙ joined keys (tree_for old.terms test) a (body_assigns b) (body_trees_after width b (state_of old)) (state_of old) both (untouched b (state_of old)))
      (walked_twice width old first new _ _ _ _ w (join (body_trees_after width a (state_of old)) bound))
