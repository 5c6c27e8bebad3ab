-- A block whose assignments are all whole runs on its shown trees alone.
use Rattle.std.proofs.Common.{◌≡◌, ℕ, ◌≤◌, Bool, true, false, ◌||◌, ◌&&◌, ◌++◌, Option, Some, None, if◌then◌else◌, is_some, refl, sym, ap, ap₂, ◌∙◌}
use Rattle.bv_core.specs.Operators.{flag_of}
use Rattle.tree_core.specs.Tree.{Tree, Const, Leaf, Mux}
use Rattle.exec_core.specs.Block.{Name, Expr, Key, Now, Next, same_key, key_name, Part, Stmt, Assign, If, Body, Done, Then, body_assigns, own}
use Rattle.exec_core.specs.Exec.{Env, Held, State, shown_at, shown, written, on_three, zero_of, whole_held}
use Rattle.exec_core.specs.Trees.{tree_in, spliced, merged, trees_after, body_trees_after, row_of, then_enable, else_enable, rows, body_rows, tree_start}
use Rattle.exec_core.specs.WholeNames.{assigns_part, body_assigns_part}
use Rattle.exec_core.specs.Shown.{shown_merged, shown_after, body_shown_after, shown_rows, body_shown_rows, shown_start, IsWhole, IsShown, WholeBlocksAreShown}
use Rattle.exec_core.proofs.WholeNaming.{all_true, all_false}

neither : (a b : Bool) → (a || b) ≡ false → (a ≡ false) × (b ≡ false)
neither true b h = let c : true ≡ false = h in cc
neither false b h = (refl, h)

no_choice_first : (c b : Option (Tree Name)) → on_three Mux c None b ≡ None
no_choice_first None b = refl
no_choice_first (Some c) b = refl

no_choice_second : (c a : Option (Tree Name)) → on_three Mux c a None ≡ None
no_choice_second None a = refl
no_choice_second (Some c) None = refl
no_choice_second (Some c) (Some a) = refl

module _ (w : Name → ℕ) where
  -- all bits are assigned, and what is pending is shown; or none of some, and nothing is
  record Even (y : Key) (s : Held (Tree Name)) (o : Option (Tree Name)) : Type 0 where
    full : Bool
    bits : (i : ℕ) → s.bits i ≡ full
    pending : full ≡ true → s.pending ≡ o
    none : full ≡ false → (o ≡ None) × (1 ≤ w (key_name y))

  even_shown : (y : Key) (s : Held (Tree Name)) (o : Option (Tree Name)) (b : Bool) → ((i : ℕ) → s.bits i ≡ b) → (b ≡ true → s.pending ≡ o) → (b ≡ false → (o ≡ None) × (1 ≤ w (key_name y))) → shown_at (w (key_name y)) s ≡ o
  even_shown y s o true f g h = ap (λ b. if b then s.pending else None) (all_true (w (key_name y)) s.bits f) ∙ g refl
  even_shown y s o false f g h = ap (λ b. if b then s.pending else None) (all_false (w (key_name y)) s.bits (h refl).1 f) ∙ sym (h refl).0

  put_even : (b : Bool) (y : Key) (part : Option Part) (p q : Option (Tree Name)) (s : Held (Tree Name)) (o : Option (Tree Name)) → p ≡ q → (b && is_some part) ≡ false → Even y s o → Even y (if b then written spliced (w (key_name y)) part p s else s) (if b then q else o)
  put_even false y part p q s o e f h = h
  put_even true y None p q s o e f h = record { full = true; bits = λ i. refl; pending = λ g. e; none = λ g. let c : true ≡ false = g in cc }
  put_even true y (Some part) p q s o e f h = let c : true ≡ false = f in cc

  both_even : (y : Key) (c d : Option (Tree Name)) (fa fb : Bool) (a b r : Held (Tree Name)) (p q u : Option (Tree Name)) → c ≡ d
      → ((i : ℕ) → a.bits i ≡ fa) → (fa ≡ true → a.pending ≡ p) → (fa ≡ false → (p ≡ None) × (1 ≤ w (key_name y)))
      → ((i : ℕ) → b.bits i ≡ fb) → (fb ≡ true → b.pending ≡ q) → (fb ≡ false → (q ≡ None) × (1 ≤ w (key_name y)))
      → Even y (merged true c a b r) (shown_merged true d p q u)
  both_even y c d true true a b r p q u e f g h f' g' h' = record {
    full = true;
    bits = λ i. ap₂ (λ x z. x && z) (f i) (f' i);
    pending = λ n. ap₂ (λ x z. on_three Mux x z b.pending) e (g refl) ∙ ap (λ z. on_three Mux d p z) (g' refl);
    none = λ n. let c : true ≡ false = n in cc;
  }
  both_even y c d true false a b r p q u e f g h f' g' h' = record {
    full = false;
    bits = λ i. ap₂ (λ x z. x && z) (f i) (f' i);
    pending = λ n. let c : false ≡ true = n in cc;
    none = λ n. (ap (λ z. on_three Mux d p z) (h' refl).0 ∙ no_choice_second d p, (h' refl).1);
  }
  both_even y c d false fb a b r p q u e f g h f' g' h' = record {
    full = false;
    bits = λ i. ap (λ x. x && b.bits i) (f i);
    pending = λ n. let c : false ≡ true = n in cc;
    none = λ n. (ap (λ z. on_three Mux d z q) (h refl).0 ∙ no_choice_first d q, (h refl).1);
  }

  merged_even : (m : Bool) (y : Key) (c d : Option (Tree Name)) (a b r : Held (Tree Name)) (p q u : Option (Tree Name)) → c ≡ d → Even y a p → Even y b q → Even y r u → Even y (merged m c a b r) (shown_merged m d p q u)
  merged_even false y c d a b r p q u e f g h = h
  merged_even true y c d a b r p q u e f g h = both_even y c d f.full g.full a b r p q u e f.bits f.pending f.none g.bits g.pending g.none

  abbrev Alike : State (Tree Name) → Env (Tree Name) → Type 0
  Alike σ T = (y : Key) → Even y (σ y) (T y)

  same_shown : (σ : State (Tree Name)) (T : Env (Tree Name)) → Alike σ T → shown w σ ≡ T
  same_shown σ T h = λ i y. even_shown y (σ y) (T y) (h y).full (h y).bits (h y).pending (h y).none i

  same_tree : (e : Expr) (σ : State (Tree Name)) (T : Env (Tree Name)) → Alike σ T → tree_in e (shown w σ) ≡ tree_in e T
  same_tree e σ T h = ap (tree_in e) (same_shown σ T h)

  abbrev NoPart : (Key → Bool) → Type 0
  NoPart f = (y : Key) → f y ≡ false

  mutual
    alike_after : (s : Stmt) (σ : State (Tree Name)) (T : Env (Tree Name)) → NoPart (assigns_part s) → Alike σ T → Alike (trees_after w s σ) (shown_after s T)
    alike_after (Assign slot k part e) σ T f h = λ y. put_even (same_key k y) y part (tree_in e (shown w σ)) (tree_in e T) (σ y) (T y) (same_tree e σ T h) (f y) (h y)
    alike_after (If slot c ys ns) σ T f h = λ y.
        let both = λ (z : Key). neither (body_assigns_part ys z) (body_assigns_part ns z) (f z) in
        merged_even (body_assigns ys y || body_assigns ns y) y (tree_in c (shown w σ)) (tree_in c T) (body_trees_after w ys σ y) (body_trees_after w ns σ y) (σ y) (body_shown_after ys T y) (body_shown_after ns T y) (T y)
        (same_tree c σ T h) (alike_after_all ys σ T (λ z. (both z).0) h y) (alike_after_all ns σ T (λ z. (both z).1) h y) (h y)

    alike_after_all : (body : Body) (σ : State (Tree Name)) (T : Env (Tree Name)) → NoPart (body_assigns_part body) → Alike σ T → Alike (body_trees_after w body σ) (body_shown_after body T)
    alike_after_all Done σ T f h = h
    alike_after_all (Then s rest) σ T f h =
        let both = λ (z : Key). neither (assigns_part s z) (body_assigns_part rest z) (f z) in
        alike_after_all rest (trees_after w s σ) (shown_after s T) (λ z. (both z).1) (alike_after s σ T (λ z. (both z).0) h)

  mutual
    same_rows : (s : Stmt) (o : Option (Tree Name)) (σ : State (Tree Name)) (T : Env (Tree Name)) → NoPart (assigns_part s) → Alike σ T → rows w s o σ ≡ shown_rows s o T
    same_rows (Assign slot k part e) o σ T f h = ap (row_of (Some slot) o) (same_shown σ T h)
    same_rows (If slot c ys ns) o σ T f h =
        let both = λ (z : Key). neither (body_assigns_part ys z) (body_assigns_part ns z) (f z) in
        let test = same_tree c σ T h in
        ap₂ (λ rs qs. rs ++ qs) (ap (row_of slot o) (same_shown σ T h))
        (ap₂ (λ rs qs. rs ++ qs) (ap (λ t. body_rows w ys (then_enable o t) σ) test ∙ same_body_rows ys (then_enable o (tree_in c T)) σ T (λ z. (both z).0) h)
        (ap (λ t. body_rows w ns (else_enable o t) σ) test ∙ same_body_rows ns (else_enable o (tree_in c T)) σ T (λ z. (both z).1) h))

    same_body_rows : (body : Body) (o : Option (Tree Name)) (σ : State (Tree Name)) (T : Env (Tree Name)) → NoPart (body_assigns_part body) → Alike σ T → body_rows w body o σ ≡ body_shown_rows body o T
    same_body_rows Done o σ T f h = refl
    same_body_rows (Then s rest) o σ T f h =
        let both = λ (z : Key). neither (assigns_part s z) (body_assigns_part rest z) (f z) in
        ap₂ (λ rs qs. rs ++ qs) (same_rows s o σ T (λ z. (both z).0) h) (same_body_rows rest o (trees_after w s σ) (shown_after s T) (λ z. (both z).1) (alike_after s σ T (λ z. (both z).0) h))

-- at the start
module _ (w : Name → ℕ) (body : Body) (ok : IsWhole w body) where
  start_even : (b : Bool) (x : Name) → (b ≡ true → 1 ≤ w x) → Even w (Now x) (if b then record { pending = Some (Const (zero_of (w x))); bits = λ i. false } else whole_held (Leaf x)) (if b then None else Some (Leaf x))
  start_even false x g = record { full = true; bits = λ i. refl; pending = λ n. refl; none = λ n. let c : true ≡ false = n in cc }
  start_even true x g = record { full = false; bits = λ i. refl; pending = λ n. let c : false ≡ true = n in cc; none = λ n. (refl, g refl) }

  starts_alike : Alike w (tree_start w body) (shown_start body)
  starts_alike (Now x) = start_even (own body x) x (ok.some_bit x)
  starts_alike (Next x) = record { full = true; bits = λ i. refl; pending = λ n. refl; none = λ n. let c : true ≡ false = n in cc }

  is_shown : IsShown w body
  is_shown = record {
    rows = same_body_rows w body (Some (Const (flag_of true))) (tree_start w body) (shown_start body) ok.no_part starts_alike;
    ends = same_shown w (body_trees_after w body (tree_start w body)) (body_shown_after body (shown_start body)) (alike_after_all w body (tree_start w body) (shown_start body) ok.no_part starts_alike);
  }

pub whole_blocks_are_shown : WholeBlocksAreShown
whole_blocks_are_shown w body ok = is_shown w body ok
