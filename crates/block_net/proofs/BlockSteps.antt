-- The beginning and the end of a walk through a block.
use Rattle.std.proofs.Common.{◌≡◌, ℕ, ◌+◌, ◌<◌, ℤ, Bool, true, false, ◌||◌, bytes_eq, List, [], ◌∷◌, ◌++◌, length, take, get_or, Option, Some, None, option_map, if◌then◌else◌, refl, sym, ap, ◌∙◌, subst}
use Rattle.std.proofs.lemmas.List.{take_more}
use Rattle.tree_core.specs.Tree as tree
use Rattle.tree_core.specs.Tree.{Tree}
use Rattle.bv_core.specs.Operators.{flag_of}
use Rattle.exec_core.specs.Block.{Name, Key, Now, Next, same_key, key_name, Body, body_assigns}
use Rattle.exec_core.specs.Exec.{Held, State, put, shown, whole_held, zero_of}
use Rattle.exec_core.specs.Trees.{body_rows, body_trees_after, tree_start}
use Rattle.design_core.specs.Widths.{bits}
use Rattle.names.specs.Maps.{value_of}
use Rattle.bit_sets.specs.declared.bit_set.BitSet.{BitSet}
use Rattle.bit_sets.specs.BitSets.{no_bits, set_of}
use Rattle.block_net.specs.declared.held.Held as code_held
use Rattle.block_net.specs.declared.key.Key as code_key
use Rattle.block_net.specs.declared.key.Key.TheVariants as keys
use Rattle.block_net.specs.declared.term.Term.{Term}
use Rattle.block_net.specs.declared.term.TermId.{TermId}
use Rattle.block_net.specs.declared.walk.Walk.{Walk}
use Rattle.block_net.specs.Terms.{Stands, tree_for}
use Rattle.block_net.specs.Logs.{key_of, rows_of, ends_of, AreWithin}
use Rattle.block_net.specs.Walks.{AllPut, FitBy, Fits, Grown, IsHeld, IsPut, Shows, Through, all_themselves, among, env_by, env_of, ids_of, pending_in, state_of}
use Rattle.block_net.specs.Blocks.{AreLinked, Tells, begun, hide, shown_ids}
use Rattle.block_net.proofs.WalkSteps.{same_key-sound}
use Rattle.block_net.proofs.BindSteps.{among_append}

-- ---- what is shown of a map

value_shown : (names : List (Name × code_held.Held)) (x : Name) → value_of (shown_ids names) x ≡ ids_of (value_of names) x
value_shown [] x = refl
value_shown (e ∷ names) x = at (value_shown names x) (bytes_eq x e.0)
  where
    at : value_of (shown_ids names) x ≡ ids_of (value_of names) x → (b : Bool) → (if b then Some e.1.shown else value_of (shown_ids names) x) ≡ option_map (λ (h : code_held.Held). h.shown) (if b then Some e.1 else value_of names x)
    at rest true = refl
    at rest false = rest

pub value_some : (names : List (Name × code_held.Held)) (x : Name) (h : code_held.Held) → value_of names x ≡ Some h → Some h.shown ≡ value_of (shown_ids names) x
value_some names x h is = sym (value_shown names x ∙ ap (option_map (λ (h : code_held.Held). h.shown)) is)

pub value_none : (names : List (Name × code_held.Held)) (x : Name) → value_of names x ≡ None → None ≡ value_of (shown_ids names) x
value_none names x is = sym (value_shown names x ∙ ap (option_map (λ (h : code_held.Held). h.shown)) is)

pub ruleset shown_value = (value_some, value_none)

shown_fits : (ns : List Term) (now next : List (Name × code_held.Held)) → AllPut ns (value_of now) (value_of next) → FitBy ns (value_of (shown_ids now)) (value_of (shown_ids next))
shown_fits ns now next f = record {
  now_held = λ x. subst (IsHeld ns) (sym (value_shown now x)) (at (value_of now x) (f.now_put x));
  next_held = λ x. subst (IsHeld ns) (sym (value_shown next x)) (at (value_of next x) (f.next_put x));
}
  where
    at : (o : Option code_held.Held) → IsPut ns o → IsHeld ns (option_map (λ (h : code_held.Held). h.shown) o)
    at None h = tt
    at (Some p) h = h.1

-- ---- own names

hide_one : (width : Name → ℕ) (keys : Key → Bool) (k : Key) → hide width k (begun width keys) ≡ begun width (λ y. keys y || (same_key k y || false))
hide_one width keys (Next x) = λ j y. at y j
  where
    with_none : (z : Name) (b : Bool) → (if b then record { pending = Some (tree.Const (zero_of (width z))); bits = λ i. false } else whole_held (tree.Leaf z))
        ≡ (if (b || false) then record { pending = Some (tree.Const (zero_of (width z))); bits = λ i. false } else whole_held (tree.Leaf z))
    with_none z true = refl
    with_none z false = refl

    at : (y : Key) → begun width keys y ≡ begun width (λ y. keys y || (same_key (Next x) y || false)) y
    at (Now z) = with_none z (keys (Now z))
    at (Next z) = refl
hide_one width keys (Now x) = λ j y. at y j
  where
    mine : Name → Held (Tree Name)
    mine z = record { pending = Some (tree.Const (zero_of (width z))); bits = λ i. false }

    same : (z : Name) (b k : Bool) → bytes_eq x z ≡ b → (if b then mine x else (if k then mine z else whole_held (tree.Leaf z))) ≡ (if (k || (b || false)) then mine z else whole_held (tree.Leaf z))
    same z true true e = ap mine (ap key_name (same_key-sound (Now x) (Now z) e))
    same z true false e = ap mine (ap key_name (same_key-sound (Now x) (Now z) e))
    same z false true e = refl
    same z false false e = refl

    at : (y : Key) → hide width (Now x) (begun width keys) y ≡ begun width (λ y. keys y || (same_key (Now x) y || false)) y
    at (Now z) = same z (bytes_eq x z) (keys (Now z)) refl
    at (Next z) = refl

pub hide_next : (width : Name → ℕ) (old new : State (Tree Name)) (keys : List code_key.Key) (i : ℕ) (key : code_key.Key) → i < length keys → key ≡ get_or keys i key → new ≡ hide width (key_of key) old → old ≡ begun width (among (take i keys))
    → new ≡ begun width (among (take (i + 1) keys))
hide_next width old new keys i key below at is so =
    is ∙ ap (hide width (key_of key)) so ∙ hide_one width (among (take i keys)) (key_of key)
    ∙ ap (begun width) (λ j y. sym (among_append (take i keys) (key ∷ []) y) j)
    ∙ ap (λ l. begun width (among l)) (ap (λ k. take i keys ++ k ∷ []) at ∙ sym (take_more keys i key below))

pub hide_start : (width : Name → ℕ) (state : State (Tree Name)) → state ≡ all_themselves → state ≡ begun width (λ y. false)
hide_start width state is = is ∙ (λ j y. at y j)
  where
    at : (y : Key) → all_themselves y ≡ begun width (λ y. false) y
    at (Now x) = refl
    at (Next x) = refl

pub begun_starts : (width : Name → ℕ) (state : State (Tree Name)) (keys : Key → Bool) (body : Body) → keys ≡ body_assigns body → state ≡ begun width keys → state ≡ tree_start width body
begun_starts width state keys body same so = so ∙ ap (begun width) same ∙ (λ j y. at y j)
  where
    at : (y : Key) → begun width (body_assigns body) y ≡ tree_start width body y
    at (Now x) = refl
    at (Next x) = refl

-- a key that is hidden
pub hide_now : (width : Name → ℕ) (old mid new : Walk) (key : code_key.Key) (x y : Name) (w : ℤ) (n : ℕ) (id : Option TermId) (set : BitSet) → key ≡ keys.Now x → y ≡ x → bits w ≡ width y → set_of set ≡ no_bits → Grown old mid → n ≡ bits w
    → Stands mid.terms id (Some (tree.Const (record { width = n; value = 0 }))) → state_of new ≡ put (key_of key) (pending_in mid.terms (record { id = id; bits = set })) (state_of mid)
    → state_of new ≡ hide width (key_of key) (state_of old)
hide_now width old mid new key x y w n id set is same wide none g written s put_it =
    put_it
    ∙ (λ j. put (key_of (is j)) (record { pending = (s.is ∙ ap (λ m. Some (tree.Const (record { width = m; value = 0 }))) (written ∙ wide ∙ ap width same)) j; bits = none j }) (g.state j))
    ∙ ap (λ k. hide width (key_of k) (state_of old)) (sym is)

pub hide_other : (width : Name → ℕ) (key : code_key.Key) (x : Name) (state : State (Tree Name)) → key ≡ keys.Next x → state ≡ hide width (key_of key) state
hide_other width key x state is = ap (λ k. hide width (key_of k) state) (sym is)

-- ---- the end

pub linked : (width : Name → ℕ) (walk new : Walk) (enable : Option (Tree Name)) (body : Body) → walk.log.items ≡ [] → Through width enable body walk new
    → AreLinked (record { terms = new.terms; log = new.log.items; names = shown_ids new.now; registers = shown_ids new.next })
linked width walk new enable body none w = record {
  log = subst (AreWithin new.terms) (sym (w.log ∙ ap (λ l. l ++ w.more) none)) w.within;
  ends = shown_fits new.terms new.now new.next w.fits;
}

pub linked_blank : (walk : Walk) → Fits walk → walk.log.items ≡ [] → AreLinked (record { terms = walk.terms; log = walk.log.items; names = shown_ids walk.now; registers = shown_ids walk.next })
linked_blank walk f none = record { log = subst (AreWithin walk.terms) (sym none) tt; ends = shown_fits walk.terms walk.now walk.next f }

pub told : (width : Name → ℕ) (walk grown new : Walk) (enable : Option TermId) (body : Body) → state_of walk ≡ tree_start width body → Shows width walk → walk.log.items ≡ [] → Grown walk grown → Stands grown.terms enable (Some (tree.Const (flag_of true)))
    → Through width (tree_for grown.terms enable) body grown new → Tells (record { terms = new.terms; log = new.log.items; names = shown_ids new.now; registers = shown_ids new.next }) width body
told width walk grown new enable body starts shows none g s w =
    let all = w.log ∙ ap (λ l. l ++ w.more) (g.log ∙ none) in
    let from = g.state ∙ starts in
    let seen : env_of grown ≡ shown width (tree_start width body) = g.env ∙ shows ∙ ap (shown width) starts in
    record {
      rows = ap (λ log. rows_of new.terms log (shown width (tree_start width body))) all ∙ ap (rows_of new.terms w.more) (sym seen) ∙ w.told ∙ (λ j. body_rows width body (s.is j) (from j));
      ends = (λ j. env_by new.terms (λ x. value_shown new.now x j) (λ x. value_shown new.next x j)) ∙ w.env ∙ ap (λ t. shown width (body_trees_after width body t)) from;
      log_ends = ap (λ log. ends_of new.terms log (shown width (tree_start width body))) all ∙ ap (ends_of new.terms w.more) (sym seen) ∙ w.ends ∙ ap (λ t. shown width (body_trees_after width body t)) from;
    }
