-- The width of a name that is assigned as a whole alone does not matter.
use Rattle.std.proofs.Common.{◌≡◌, ℕ, zero, suc, ◌≤◌, Bool, true, false, ◌||◌, ◌&&◌, ◌++◌, Option, Some, None, if◌then◌else◌, is_some, refl, sym, ap, ap₂, ◌∙◌, arith}
use Rattle.bv_core.specs.Operators.{flag_of}
use Rattle.tree_core.specs.Tree.{Tree, Const, Leaf, Mux}
use Rattle.exec_core.specs.Block.{Name, Expr, Key, Now, Next, same_key, key_name, Part, Stmt, Assign, If, Body, Done, Then, body_assigns, own}
use Rattle.exec_core.specs.Exec.{Held, State, all_below, shown_at, shown, written, on_three, zero_of, whole_held}
use Rattle.exec_core.specs.Trees.{tree_in, spliced, merged, trees_after, body_trees_after, row_of, then_enable, else_enable, rows, body_rows, tree_start}
use Rattle.exec_core.specs.WholeNames.{assigns_part, body_assigns_part, SamePartWidths, SameShown, WholeNamesAreFree}

split_or : (a b c : Bool) → ((a || b) ≡ true → c ≡ true) → (a ≡ true → c ≡ true) × (b ≡ true → c ≡ true)
split_or true b c h = (λ e. h refl, λ e. h refl)
split_or false b c h = ((λ e. cc), h)

pub all_true : (n : ℕ) (f : ℕ → Bool) → ((i : ℕ) → f i ≡ true) → all_below n f ≡ true
all_true zero f h = refl
all_true (suc n) f h = ap₂ (λ a b. a && b) (h n) (all_true n f h)

pub all_false : (n : ℕ) (f : ℕ → Bool) → 1 ≤ n → ((i : ℕ) → f i ≡ false) → all_below n f ≡ false
all_false zero f h g = absurd (omega arith)
all_false (suc n) f h g = ap (λ b. b && all_below n f) (g n)

module _ (v w : Name → ℕ) where
  -- all bits are assigned or none, alike in both, and the trees of a full set are the same
  record Even (y : Key) (s t : Held (Tree Name)) : Type 0 where
    full : Bool
    first : (i : ℕ) → s.bits i ≡ full
    second : (i : ℕ) → t.bits i ≡ full
    same : full ≡ true → s.pending ≡ t.pending
    some : full ≡ false → (1 ≤ v (key_name y)) × (1 ≤ w (key_name y))

  record Equal (y : Key) (s t : Held (Tree Name)) : Type 0 where
    held : s ≡ t
    width : v (key_name y) ≡ w (key_name y)

  -- a key that is assigned in part is the same in both
  abbrev Like : Bool → Key → Held (Tree Name) → Held (Tree Name) → Type 0
  Like true y s t = Equal y s t
  Like false y s t = Even y s t

  even_shown : (y : Key) (s t : Held (Tree Name)) (b : Bool) → ((i : ℕ) → s.bits i ≡ b) → ((i : ℕ) → t.bits i ≡ b) → (b ≡ true → s.pending ≡ t.pending) → (b ≡ false → (1 ≤ v (key_name y)) × (1 ≤ w (key_name y))) → shown_at (v (key_name y)) s ≡ shown_at (w (key_name y)) t
  even_shown y s t true f g h k =
      ap (λ b. if b then s.pending else None) (all_true (v (key_name y)) s.bits f) ∙ h refl ∙ sym (ap (λ b. if b then t.pending else None) (all_true (w (key_name y)) t.bits g))
  even_shown y s t false f g h k =
      ap (λ b. if b then s.pending else None) (all_false (v (key_name y)) s.bits (k refl).0 f) ∙ sym (ap (λ b. if b then t.pending else None) (all_false (w (key_name y)) t.bits (k refl).1 g))

  like_shown : (p : Bool) (y : Key) (s t : Held (Tree Name)) → Like p y s t → shown_at (v (key_name y)) s ≡ shown_at (w (key_name y)) t
  like_shown true y s t h = ap₂ shown_at h.width h.held
  like_shown false y s t h = even_shown y s t h.full h.first h.second h.same h.some

  true_or : (b : Bool) → (true || b) ≡ true
  true_or b = refl

  put_like : (p b : Bool) (y : Key) (part : Option Part) (o q : Option (Tree Name)) (s t : Held (Tree Name)) → o ≡ q → ((b && is_some part) ≡ true → p ≡ true) → Like p y s t → Like p y (if b then written spliced (v (key_name y)) part o s else s) (if b then written spliced (w (key_name y)) part q t else t)
  put_like p false y part o q s t e f h = h
  put_like true true y part o q s t e f h = record {
    held = ap₂ (λ k r. written spliced k part r s) h.width e ∙ ap (written spliced (w (key_name y)) part q) h.held;
    width = h.width;
  }
  put_like false true y None o q s t e f h = record { full = true; first = λ i. refl; second = λ i. refl; same = λ g. e; some = λ g. let c : true ≡ false = g in cc }
  put_like false true y (Some part) o q s t e f h = let c = f refl in cc

  merged_even : (y : Key) (c d : Option (Tree Name)) (fa fb : Bool) (a b s t : Held (Tree Name)) → c ≡ d → ((i : ℕ) → a.bits i ≡ fa) → ((i : ℕ) → b.bits i ≡ fa) → (fa ≡ true → a.pending ≡ b.pending) → (fa ≡ false → (1 ≤ v (key_name y)) × (1 ≤ w (key_name y))) → ((i : ℕ) → s.bits i ≡ fb) → ((i : ℕ) → t.bits i ≡ fb) → (fb ≡ true → s.pending ≡ t.pending) → (fb ≡ false → (1 ≤ v (key_name y)) × (1 ≤ w (key_name y))) → (r u : Held (Tree Name)) → Even y (merged true c a s r) (merged true d b t u)
  merged_even y c d true fb a b s t e f g h k f' g' h' k' r u = record {
    full = fb;
    first = λ i. ap₂ (λ x z. x && z) (f i) (f' i);
    second = λ i. ap₂ (λ x z. x && z) (g i) (g' i);
    same = λ n. ap₂ (λ x z. on_three Mux x z s.pending) e (h refl) ∙ ap (λ z. on_three Mux d b.pending z) (h' n);
    some = k';
  }
  merged_even y c d false fb a b s t e f g h k f' g' h' k' r u = record {
    full = false;
    first = λ i. ap (λ x. x && s.bits i) (f i);
    second = λ i. ap (λ x. x && t.bits i) (g i);
    same = λ n. let c : false ≡ true = n in cc;
    some = k;
  }

  merged_like : (p m : Bool) (y : Key) (c d : Option (Tree Name)) (a b s t r u : Held (Tree Name)) → c ≡ d → Like p y a b → Like p y s t → Like p y r u → Like p y (merged m c a s r) (merged m d b t u)
  merged_like p false y c d a b s t r u e f g h = h
  merged_like true true y c d a b s t r u e f g h = record {
    held = ap₂ (λ x z. merged true x z s r) e f.held ∙ ap₂ (λ z q. merged true d b z q) g.held h.held;
    width = h.width;
  }
  merged_like false true y c d a b s t r u e f g h = merged_even y c d f.full g.full a b s t e f.first f.second f.same f.some g.first g.second g.same g.some r u

  module _ (parts : Key → Bool) where
    abbrev Alike : State (Tree Name) → State (Tree Name) → Type 0
    Alike σ τ = (y : Key) → Like (parts y) y (σ y) (τ y)

    same_shown : (σ τ : State (Tree Name)) → Alike σ τ → shown v σ ≡ shown w τ
    same_shown σ τ h = λ i y. like_shown (parts y) y (σ y) (τ y) (h y) i

    same_tree : (e : Expr) (σ τ : State (Tree Name)) → Alike σ τ → tree_in e (shown v σ) ≡ tree_in e (shown w τ)
    same_tree e σ τ h = ap (tree_in e) (same_shown σ τ h)

    abbrev Within : (Key → Bool) → Type 0
    Within f = (y : Key) → f y ≡ true → parts y ≡ true

    mutual
      alike_after : (s : Stmt) (σ τ : State (Tree Name)) → Within (assigns_part s) → Alike σ τ → Alike (trees_after v s σ) (trees_after w s τ)
      alike_after (Assign slot k part e) σ τ f h = λ y. put_like (parts y) (same_key k y) y part (tree_in e (shown v σ)) (tree_in e (shown w τ)) (σ y) (τ y) (same_tree e σ τ h) (f y) (h y)
      alike_after (If slot c ys ns) σ τ f h = λ y.
          let both = λ (z : Key). split_or (body_assigns_part ys z) (body_assigns_part ns z) (parts z) (f z) in
          merged_like (parts y) (body_assigns ys y || body_assigns ns y) y (tree_in c (shown v σ)) (tree_in c (shown w τ)) (body_trees_after v ys σ y) (body_trees_after w ys τ y) (body_trees_after v ns σ y) (body_trees_after w ns τ y) (σ y) (τ y) (same_tree c σ τ h)
          (alike_after_all ys σ τ (λ z. (both z).0) h y) (alike_after_all ns σ τ (λ z. (both z).1) h y) (h y)

      alike_after_all : (body : Body) (σ τ : State (Tree Name)) → Within (body_assigns_part body) → Alike σ τ → Alike (body_trees_after v body σ) (body_trees_after w body τ)
      alike_after_all Done σ τ f h = h
      alike_after_all (Then s rest) σ τ f h =
          let both = λ (z : Key). split_or (assigns_part s z) (body_assigns_part rest z) (parts z) (f z) in
          alike_after_all rest (trees_after v s σ) (trees_after w s τ) (λ z. (both z).1) (alike_after s σ τ (λ z. (both z).0) h)

    mutual
      same_rows : (s : Stmt) (o : Option (Tree Name)) (σ τ : State (Tree Name)) → Within (assigns_part s) → Alike σ τ → rows v s o σ ≡ rows w s o τ
      same_rows (Assign slot k part e) o σ τ f h = ap (row_of (Some slot) o) (same_shown σ τ h)
      same_rows (If slot c ys ns) o σ τ f h =
          let both = λ (z : Key). split_or (body_assigns_part ys z) (body_assigns_part ns z) (parts z) (f z) in
          let test = same_tree c σ τ h in
          ap₂ (λ rs qs. rs ++ qs) (ap (row_of slot o) (same_shown σ τ h))
          (ap₂ (λ rs qs. rs ++ qs) (ap (λ t. body_rows v ys (then_enable o t) σ) test ∙ same_body_rows ys (then_enable o (tree_in c (shown w τ))) σ τ (λ z. (both z).0) h)
          (ap (λ t. body_rows v ns (else_enable o t) σ) test ∙ same_body_rows ns (else_enable o (tree_in c (shown w τ))) σ τ (λ z. (both z).1) h))

      same_body_rows : (body : Body) (o : Option (Tree Name)) (σ τ : State (Tree Name)) → Within (body_assigns_part body) → Alike σ τ → body_rows v body o σ ≡ body_rows w body o τ
      same_body_rows Done o σ τ f h = refl
      same_body_rows (Then s rest) o σ τ f h =
          let both = λ (z : Key). split_or (assigns_part s z) (body_assigns_part rest z) (parts z) (f z) in
          ap₂ (λ rs qs. rs ++ qs) (same_rows s o σ τ (λ z. (both z).0) h) (same_body_rows rest o (trees_after v s σ) (trees_after w s τ) (λ z. (both z).1) (alike_after s σ τ (λ z. (both z).0) h))

-- at the start
module _ (v w : Name → ℕ) (body : Body) (ok : SamePartWidths v w body) where
  whole_like : (p : Bool) (y : Key) (x : Name) → (p ≡ true → v (key_name y) ≡ w (key_name y)) → Like v w p y (whole_held (Leaf x)) (whole_held (Leaf x))
  whole_like true y x h = record { held = refl; width = h refl }
  whole_like false y x h = record { full = true; first = λ i. refl; second = λ i. refl; same = λ g. refl; some = λ g. let c : true ≡ false = g in cc }

  start_like : (p b : Bool) (x : Name) → (p ≡ true → v x ≡ w x) → (b ≡ true → (1 ≤ v x) × (1 ≤ w x)) →
      Like v w p (Now x) (if b then record { pending = Some (Const (zero_of (v x))); bits = λ i. false } else whole_held (Leaf x)) (if b then record { pending = Some (Const (zero_of (w x))); bits = λ i. false } else whole_held (Leaf x))
  start_like p false x h g = whole_like p (Now x) x h
  start_like true true x h g = record { held = ap (λ n. record { pending = Some (Const (zero_of n)); bits = λ i. false }) (h refl); width = h refl }
  start_like false true x h g = record { full = false; first = λ i. refl; second = λ i. refl; same = λ n. let c : false ≡ true = n in cc; some = λ n. g refl }

  starts_alike : Alike v w (body_assigns_part body) (tree_start v body) (tree_start w body)
  starts_alike (Now x) = start_like (body_assigns_part body (Now x)) (own body x) x (ok.parts (Now x)) (λ e. (ok.own_first x e, ok.own_second x e))
  starts_alike (Next x) = whole_like (body_assigns_part body (Next x)) (Next x) x (ok.parts (Next x))

  same_all : SameShown v w body
  same_all = record {
    rows = same_body_rows v w (body_assigns_part body) body (Some (Const (flag_of true))) (tree_start v body) (tree_start w body) (λ y e. e) starts_alike;
    ends = same_shown v w (body_assigns_part body) (body_trees_after v body (tree_start v body)) (body_trees_after w body (tree_start w body))
        (alike_after_all v w (body_assigns_part body) body (tree_start v body) (tree_start w body) (λ y e. e) starts_alike);
  }

pub whole_names_are_free : WholeNamesAreFree
whole_names_are_free v w body ok = same_all v w body ok
