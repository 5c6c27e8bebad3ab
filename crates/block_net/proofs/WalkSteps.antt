-- One step of a walk.
use Rattle.std.proofs.Common.{◌≡◌, ℕ, Bool, true, false, true≢false, bytes_eq, List, [], ◌∷◌, ◌++◌, Option, Some, None, if◌then◌else◌, refl, sym, ap, ap₂, ◌∙◌, subst, append_assoc, append-nil}
use Rattle.std.proofs.lemmas.Slice.Eq.{bytes_eq-Decides}
use Rattle.tree_core.specs.Tree as tree
use Rattle.tree_core.specs.Tree.{Tree}
use Rattle.exec_core.specs.Block.{Name, Key, Now, Next, same_key, key_name}
use Rattle.exec_core.specs.Exec.{Env, Held, State, all_below, put, shown, shown_at, whole_held}
use Rattle.exec_core.specs.Trees.{Row}
use Rattle.names.specs.Maps.{value_of, put_value}
use Rattle.bit_sets.specs.BitSets.{set_of}
use Rattle.bit_sets.specs.declared.bit_set.BitSet.TheVariants.{All}
use Rattle.block_net.specs.declared.held.Held as code_held
use Rattle.block_net.specs.declared.held.Pending.{Pending}
use Rattle.block_net.specs.declared.key.Key as code_key
use Rattle.block_net.specs.declared.key.Key.TheVariants as keys
use Rattle.block_net.specs.declared.effect.Effect.{Effect}
use Rattle.block_net.specs.declared.effect.Effect.TheVariants as effects
use Rattle.block_net.specs.declared.term.Term.{Term}
use Rattle.block_net.specs.declared.term.TermId.{TermId}
use Rattle.block_net.specs.declared.walk.Walk.{Walk}
use Rattle.block_net.specs.Terms.{IsWithin, Extends, Stands, tree_for}
use Rattle.block_net.specs.Logs.{key_of, rows_of, ends_of, AreWithin}
use Rattle.block_net.specs.Walks.{AllPut, Fits, Grown, IsPut, Puts, Shows, StandsHeld, Visits, Walked, env_by, env_of, held, holds, ids_of, pending_in, shown_id, state_by, state_of}
use Rattle.block_net.proofs.TermLists.{tree_more, within_more, extends_none, extends_twice}

-- ---- keys

pub same_key-sound : (k y : Key) → same_key k y ≡ true → k ≡ y
same_key-sound (Now x) (Now y) e = ap Now ((bytes_eq-Decides x y).0 e)
same_key-sound (Next x) (Next y) e = ap Next ((bytes_eq-Decides x y).0 e)
same_key-sound (Now x) (Next y) e = absurd (true≢false (sym e))
same_key-sound (Next x) (Now y) e = absurd (true≢false (sym e))

pub bytes_eq_flip : (x y : Name) (b : Bool) → bytes_eq y x ≡ b → bytes_eq x y ≡ b
bytes_eq_flip x y true e = (bytes_eq-Decides x y).1 (sym ((bytes_eq-Decides y x).0 e))
bytes_eq_flip x y false e = off (bytes_eq x y) refl
  where
    off : (c : Bool) → bytes_eq x y ≡ c → bytes_eq x y ≡ false
    off false f = f
    off true f = absurd (true≢false (sym ((bytes_eq-Decides y x).1 (sym ((bytes_eq-Decides x y).0 f))) ∙ e))

-- what a name has, by what was put
abbrev has : List Term → Name → Option code_held.Held → Option (Tree Name)
has ns x None = Some (tree.Leaf x)
has ns x (Some h) = tree_for ns h.shown

abbrev has_by : List Term → Puts → Puts → Env (Tree Name)
has_by ns now next = env_by ns (ids_of now) (ids_of next)

has_is : (ns : List Term) (x : Name) (puts : Puts) → held ns x (ids_of puts x) ≡ has ns x (puts x)
has_is ns x puts = at (puts x)
  where
    at : (o : Option code_held.Held) → held ns x (ids_of (λ y. o) x) ≡ has ns x o
    at None = refl
    at (Some h) = refl

-- ---- more terms

is_put_more : (old new : List Term) (o : Option code_held.Held) → Extends old new → IsPut old o → IsPut new o
is_put_more old new None e h = tt
is_put_more old new (Some p) e h = (within_more old new p.pending.id e h.0, within_more old new p.shown e h.1)

has_more : (old new : List Term) (x : Name) (o : Option code_held.Held) → Extends old new → IsPut old o → has new x o ≡ has old x o
has_more old new x None e h = refl
has_more old new x (Some p) e h = tree_more old new p.shown e h.1

holds_more : (old new : List Term) (x : Name) (o : Option code_held.Held) → Extends old new → IsPut old o → holds new x o ≡ holds old x o
holds_more old new x None e h = refl
holds_more old new x (Some p) e h = λ j. record { pending = tree_more old new p.pending.id e h.0 j; bits = set_of p.pending.bits }

pub env_more : (old new : List Term) (now next : Puts) → Extends old new → AllPut old now next → has_by new now next ≡ has_by old now next
env_more old new now next e f = λ j y. at y j
  where
    at : (y : Key) → has_by new now next y ≡ has_by old now next y
    at (Now x) = has_is new x now ∙ has_more old new x (now x) e (f.now_put x) ∙ sym (has_is old x now)
    at (Next x) = has_is new x next ∙ has_more old new x (next x) e (f.next_put x) ∙ sym (has_is old x next)

pub state_more : (old new : List Term) (now next : Puts) → Extends old new → AllPut old now next → state_by new now next ≡ state_by old now next
state_more old new now next e f = λ j y. at y j
  where
    at : (y : Key) → state_by new now next y ≡ state_by old now next y
    at (Now x) = holds_more old new x (now x) e (f.now_put x)
    at (Next x) = holds_more old new x (next x) e (f.next_put x)

pub fit_more : (old new : List Term) (now next : Puts) → Extends old new → AllPut old now next → AllPut new now next
fit_more old new now next e f = record { now_put = λ x. is_put_more old new (now x) e (f.now_put x); next_put = λ x. is_put_more old new (next x) e (f.next_put x) }

pub grown_none : (w : Walk) → Fits w → Grown w w
grown_none w f = record { fits = f; terms = extends_none w.terms; state = refl; env = refl; log = refl }

pub grown_terms : (old new : Walk) → Fits old → Extends old.terms new.terms → new.now ≡ old.now → new.next ≡ old.next → new.log ≡ old.log → Grown old new
grown_terms old new f e now next log = record {
  fits = subst (λ m. AllPut new.terms (value_of m) (value_of new.next)) (sym now) (subst (λ m. AllPut new.terms (value_of old.now) (value_of m)) (sym next) (fit_more old.terms new.terms (value_of old.now) (value_of old.next) e f));
  terms = e;
  state = (λ i. state_by new.terms (value_of (now i)) (value_of (next i))) ∙ state_more old.terms new.terms (value_of old.now) (value_of old.next) e f;
  env = (λ i. has_by new.terms (value_of (now i)) (value_of (next i))) ∙ env_more old.terms new.terms (value_of old.now) (value_of old.next) e f;
  log = ap (λ l. l.items) log;
}

pub grown_twice : (a b c : Walk) → Grown a b → Grown b c → Grown a c
grown_twice a b c x y = record { fits = y.fits; terms = extends_twice a.terms b.terms c.terms x.terms y.terms; state = y.state ∙ x.state; env = y.env ∙ x.env; log = y.log ∙ x.log }

pub grown_shows : (width : Name → ℕ) (old new : Walk) → Grown old new → Shows width old → Shows width new
grown_shows width old new g s = g.env ∙ s ∙ ap (shown width) (sym g.state)

-- ---- a name that is put

seen_put : {A : Type 0} (f : Option code_held.Held → A) (x y : Name) (h : code_held.Held) (puts : Puts) → f (put_value x h puts y) ≡ (if bytes_eq x y then f (Some h) else f (puts y))
seen_put {A} f x y h puts = at (bytes_eq y x) refl
  where
    at : (b : Bool) → bytes_eq y x ≡ b → f (if b then Some h else puts y) ≡ (if bytes_eq x y then f (Some h) else f (puts y))
    at true e = ap (λ c. if c then f (Some h) else f (puts y)) (sym (bytes_eq_flip x y true e))
    at false e = ap (λ c. if c then f (Some h) else f (puts y)) (sym (bytes_eq_flip x y false e))

has_put : (ns : List Term) (x y : Name) (h : code_held.Held) (puts : Puts) → held ns y (ids_of (put_value x h puts) y) ≡ (if bytes_eq x y then tree_for ns h.shown else held ns y (ids_of puts y))
has_put ns x y h puts = has_is ns y (put_value x h puts) ∙ seen_put (has ns y) x y h puts ∙ ap (λ t. if bytes_eq x y then tree_for ns h.shown else t) (sym (has_is ns y puts))

state_now : (ns : List Term) (x : Name) (h : code_held.Held) (now new next : Puts) → new ≡ put_value x h now → state_by ns new next ≡ put (Now x) (pending_in ns h.pending) (state_by ns now next)
state_now ns x h now new next is = ap (λ f. state_by ns f next) is ∙ (λ j y. at y j)
  where
    at : (y : Key) → state_by ns (put_value x h now) next y ≡ put (Now x) (pending_in ns h.pending) (state_by ns now next) y
    at (Now y) = seen_put (holds ns y) x y h now
    at (Next y) = refl

state_next : (ns : List Term) (x : Name) (h : code_held.Held) (now next new : Puts) → new ≡ put_value x h next → state_by ns now new ≡ put (Next x) (pending_in ns h.pending) (state_by ns now next)
state_next ns x h now next new is = ap (λ f. state_by ns now f) is ∙ (λ j y. at y j)
  where
    at : (y : Key) → state_by ns now (put_value x h next) y ≡ put (Next x) (pending_in ns h.pending) (state_by ns now next) y
    at (Now y) = refl
    at (Next y) = seen_put (holds ns y) x y h next

env_now : (ns : List Term) (x : Name) (h : code_held.Held) (now new next : Puts) → new ≡ put_value x h now → has_by ns new next ≡ put (Now x) (tree_for ns h.shown) (has_by ns now next)
env_now ns x h now new next is = ap (λ f. has_by ns f next) is ∙ (λ j y. at y j)
  where
    at : (y : Key) → has_by ns (put_value x h now) next y ≡ put (Now x) (tree_for ns h.shown) (has_by ns now next) y
    at (Now y) = has_put ns x y h now
    at (Next y) = refl

env_next : (ns : List Term) (x : Name) (h : code_held.Held) (now next new : Puts) → new ≡ put_value x h next → has_by ns now new ≡ put (Next x) (tree_for ns h.shown) (has_by ns now next)
env_next ns x h now next new is = ap (λ f. has_by ns now f) is ∙ (λ j y. at y j)
  where
    at : (y : Key) → has_by ns now (put_value x h next) y ≡ put (Next x) (tree_for ns h.shown) (has_by ns now next) y
    at (Now y) = refl
    at (Next y) = has_put ns x y h next

is_put : (ns : List Term) (x y : Name) (h : code_held.Held) (puts : Puts) → IsWithin ns h.pending.id → IsWithin ns h.shown → IsPut ns (puts y) → IsPut ns (put_value x h puts y)
is_put ns x y h puts v w was = at (bytes_eq y x)
  where
    at : (b : Bool) → IsPut ns (if b then Some h else puts y)
    at true = (v, w)
    at false = was

pub fit_now : (ns : List Term) (x : Name) (h : code_held.Held) (now new next : Puts) → new ≡ put_value x h now → IsWithin ns h.pending.id → IsWithin ns h.shown → AllPut ns now next → AllPut ns new next
fit_now ns x h now new next is v w f = subst (λ m. AllPut ns m next) (sym is) (record { now_put = λ y. is_put ns x y h now v w (f.now_put y); next_put = f.next_put })

pub fit_next : (ns : List Term) (x : Name) (h : code_held.Held) (now next new : Puts) → new ≡ put_value x h next → IsWithin ns h.pending.id → IsWithin ns h.shown → AllPut ns now next → AllPut ns now new
fit_next ns x h now next new is v w f = subst (λ m. AllPut ns now m) (sym is) (record { now_put = f.now_put; next_put = λ y. is_put ns x y h next v w (f.next_put y) })

pub put_at_now : (ns : List Term) (key : code_key.Key) (x y : Name) (h : code_held.Held) (now new next : Puts) → key ≡ keys.Now x → y ≡ x → new ≡ put_value y h now
    → state_by ns new next ≡ put (key_of key) (pending_in ns h.pending) (state_by ns now next)
put_at_now ns key x y h now new next is same grown =
    state_now ns y h now new next grown ∙ ap (λ z. put (Now z) (pending_in ns h.pending) (state_by ns now next)) same
    ∙ ap (λ k. put (key_of k) (pending_in ns h.pending) (state_by ns now next)) (sym is)

pub put_at_next : (ns : List Term) (key : code_key.Key) (x y : Name) (h : code_held.Held) (now next new : Puts) → key ≡ keys.Next x → y ≡ x → new ≡ put_value y h next
    → state_by ns now new ≡ put (key_of key) (pending_in ns h.pending) (state_by ns now next)
put_at_next ns key x y h now next new is same grown =
    state_next ns y h now next new grown ∙ ap (λ z. put (Next z) (pending_in ns h.pending) (state_by ns now next)) same
    ∙ ap (λ k. put (key_of k) (pending_in ns h.pending) (state_by ns now next)) (sym is)

pub has_at_now : (ns : List Term) (key : code_key.Key) (x y : Name) (h : code_held.Held) (now new next : Puts) → key ≡ keys.Now x → y ≡ x → new ≡ put_value y h now
    → has_by ns new next ≡ put (key_of key) (tree_for ns h.shown) (has_by ns now next)
has_at_now ns key x y h now new next is same grown =
    env_now ns y h now new next grown ∙ ap (λ z. put (Now z) (tree_for ns h.shown) (has_by ns now next)) same
    ∙ ap (λ k. put (key_of k) (tree_for ns h.shown) (has_by ns now next)) (sym is)

pub has_at_next : (ns : List Term) (key : code_key.Key) (x y : Name) (h : code_held.Held) (now next new : Puts) → key ≡ keys.Next x → y ≡ x → new ≡ put_value y h next
    → has_by ns now new ≡ put (key_of key) (tree_for ns h.shown) (has_by ns now next)
has_at_next ns key x y h now next new is same grown =
    env_next ns y h now next new grown ∙ ap (λ z. put (Next z) (tree_for ns h.shown) (has_by ns now next)) same
    ∙ ap (λ k. put (key_of k) (tree_for ns h.shown) (has_by ns now next)) (sym is)

-- ---- a leaf

-- a leaf that is put where nothing was changes nothing
leaf_put : {A : Type 0} (f : Name → Option code_held.Held → A) (x y : Name) (h : code_held.Held) (puts : Puts) → puts x ≡ None → f x (Some h) ≡ f x None → f y (put_value x h puts y) ≡ f y (puts y)
leaf_put {A} f x y h puts none is = at (bytes_eq y x) refl
  where
    at : (b : Bool) → bytes_eq y x ≡ b → f y (if b then Some h else puts y) ≡ f y (puts y)
    at false e = refl
    at true e = let same : y ≡ x = (bytes_eq-Decides y x).0 e in ap (λ z. f z (Some h)) same ∙ is ∙ ap (λ z. f z None) (sym same) ∙ ap (f y) (sym (ap puts same ∙ none))

abbrev IsLeaf : List Term → code_held.Held → Name → Type 0
IsLeaf ns h x = StandsHeld ns h (whole_held (tree.Leaf x)) (Some (tree.Leaf x))

pub leaf_now : (old new : Walk) (x : Name) (h : code_held.Held) → value_of old.now x ≡ None → value_of new.now ≡ put_value x h (value_of old.now) → new.next ≡ old.next → Extends old.terms new.terms → IsLeaf new.terms h x → Fits old → new.log ≡ old.log
    → Grown old new
leaf_now old new x h none is next e s f log = record {
  fits = fit_now new.terms x h now (value_of new.now) (value_of new.next) is s.pending.within s.shown.within (subst (λ m. AllPut new.terms now (value_of m)) (sym next) more);
  terms = e;
  state = ap₂ (λ p q. state_by new.terms p (value_of q)) is next ∙ (λ j y. holds_at y j) ∙ state_more old.terms new.terms now (value_of old.next) e f;
  env = ap₂ (λ p q. has_by new.terms p (value_of q)) is next ∙ (λ j y. has_at y j) ∙ env_more old.terms new.terms now (value_of old.next) e f;
  log = ap (λ l. l.items) log;
}
  where
    now : Puts
    now = value_of old.now

    more : AllPut new.terms now (value_of old.next)
    more = fit_more old.terms new.terms now (value_of old.next) e f

    holds_at : (y : Key) → state_by new.terms (put_value x h now) (value_of old.next) y ≡ state_by new.terms now (value_of old.next) y
    holds_at (Now y) = leaf_put (holds new.terms) x y h now none s.pending.is
    holds_at (Next y) = refl

    has_at : (y : Key) → has_by new.terms (put_value x h now) (value_of old.next) y ≡ has_by new.terms now (value_of old.next) y
    has_at (Now y) = has_is new.terms y (put_value x h now) ∙ leaf_put (has new.terms) x y h now none s.shown.is ∙ sym (has_is new.terms y now)
    has_at (Next y) = refl

pub leaf_next : (old new : Walk) (x : Name) (h : code_held.Held) → value_of old.next x ≡ None → value_of new.next ≡ put_value x h (value_of old.next) → new.now ≡ old.now → Extends old.terms new.terms → IsLeaf new.terms h x → Fits old → new.log ≡ old.log
    → Grown old new
leaf_next old new x h none is now e s f log = record {
  fits = fit_next new.terms x h (value_of new.now) next (value_of new.next) is s.pending.within s.shown.within (subst (λ m. AllPut new.terms (value_of m) next) (sym now) more);
  terms = e;
  state = ap₂ (λ p q. state_by new.terms (value_of q) p) is now ∙ (λ j y. holds_at y j) ∙ state_more old.terms new.terms (value_of old.now) next e f;
  env = ap₂ (λ p q. has_by new.terms (value_of q) p) is now ∙ (λ j y. has_at y j) ∙ env_more old.terms new.terms (value_of old.now) next e f;
  log = ap (λ l. l.items) log;
}
  where
    next : Puts
    next = value_of old.next

    more : AllPut new.terms (value_of old.now) next
    more = fit_more old.terms new.terms (value_of old.now) next e f

    holds_at : (y : Key) → state_by new.terms (value_of old.now) (put_value x h next) y ≡ state_by new.terms (value_of old.now) next y
    holds_at (Now y) = refl
    holds_at (Next y) = leaf_put (holds new.terms) x y h next none s.pending.is

    has_at : (y : Key) → has_by new.terms (value_of old.now) (put_value x h next) y ≡ has_by new.terms (value_of old.now) next y
    has_at (Now y) = refl
    has_at (Next y) = has_is new.terms y (put_value x h next) ∙ leaf_put (has new.terms) x y h next none s.shown.is ∙ sym (has_is new.terms y next)

-- what a leaf is
pub is_leaf : (ns : List Term) (id : Option TermId) (x : Name) → Stands ns id (Some (tree.Leaf x)) → IsLeaf ns (record { pending = record { id = id; bits = All }; shown = id }) x
is_leaf ns id x s = record { pending = record { within = s.within; is = λ j. record { pending = s.is j; bits = λ i. true } }; shown = s }

-- what was put stands for what a name holds
pub found_now : (w : Walk) (x : Name) (h : code_held.Held) → Some h ≡ value_of w.now x → Fits w → StandsHeld w.terms h (state_of w (Now x)) (env_of w (Now x))
found_now w x h is f = record {
  pending = record { within = put.0; is = ap (holds w.terms x) is };
  shown = record { within = put.1; is = ap (has w.terms x) is ∙ sym (has_is w.terms x (value_of w.now)) };
}
  where
    put : IsPut w.terms (Some h)
    put = subst (IsPut w.terms) (sym is) (f.now_put x)

pub found_next : (w : Walk) (x : Name) (h : code_held.Held) → Some h ≡ value_of w.next x → Fits w → StandsHeld w.terms h (state_of w (Next x)) (env_of w (Next x))
found_next w x h is f = record {
  pending = record { within = put.0; is = ap (holds w.terms x) is };
  shown = record { within = put.1; is = ap (has w.terms x) is ∙ sym (has_is w.terms x (value_of w.next)) };
}
  where
    put : IsPut w.terms (Some h)
    put = subst (IsPut w.terms) (sym is) (f.next_put x)

-- a name without one is itself
pub new_now : (ns : List Term) (w : Walk) (x : Name) (h : code_held.Held) → None ≡ value_of w.now x → IsLeaf ns h x → StandsHeld ns h (state_of w (Now x)) (env_of w (Now x))
new_now ns w x h is s = record {
  pending = record { within = s.pending.within; is = s.pending.is ∙ ap (holds w.terms x) is };
  shown = record { within = s.shown.within; is = s.shown.is ∙ ap (has w.terms x) is ∙ sym (has_is w.terms x (value_of w.now)) };
}

pub new_next : (ns : List Term) (w : Walk) (x : Name) (h : code_held.Held) → None ≡ value_of w.next x → IsLeaf ns h x → StandsHeld ns h (state_of w (Next x)) (env_of w (Next x))
new_next ns w x h is s = record {
  pending = record { within = s.pending.within; is = s.pending.is ∙ ap (holds w.terms x) is };
  shown = record { within = s.shown.within; is = s.shown.is ∙ ap (has w.terms x) is ∙ sym (has_is w.terms x (value_of w.next)) };
}

-- ---- what is shown

pub shown_put : (width : Name → ℕ) (key : Key) (h : Held (Tree Name)) (trees : State (Tree Name)) → shown width (put key h trees) ≡ put key (shown_at (width (key_name key)) h) (shown width trees)
shown_put width key h trees = λ j y. at y (same_key key y) refl j
  where
    at : (y : Key) (b : Bool) → same_key key y ≡ b → shown_at (width (key_name y)) (if b then h else trees y) ≡ (if b then shown_at (width (key_name key)) h else shown width trees y)
    at y true e = ap (λ k. shown_at (width (key_name k)) h) (sym (same_key-sound key y e))
    at y false e = refl

-- what is shown of what is pending
pub shown_is : (ns : List Term) (w : ℕ) (p : Pending) → tree_for ns (shown_id w p) ≡ shown_at w (pending_in ns p)
shown_is ns w p = at (all_below w (set_of p.bits))
  where
    at : (b : Bool) → tree_for ns (if b then p.id else None) ≡ (if b then tree_for ns p.id else None)
    at true = refl
    at false = refl

pub shown_within : (ns : List Term) (w : ℕ) (p : Pending) → IsWithin ns p.id → IsWithin ns (shown_id w p)
shown_within ns w p h = at (all_below w (set_of p.bits))
  where
    at : (b : Bool) → IsWithin ns (if b then p.id else None)
    at true = h
    at false = tt

pub shown_within_as : (ns : List Term) (w : ℕ) (p : Pending) (id : Option TermId) → id ≡ shown_id w p → IsWithin ns p.id → IsWithin ns id
shown_within_as ns w p id is h = subst (IsWithin ns) (sym is) (shown_within ns w p h)

-- ---- what is written down

-- a slot
pub visited : (old new : Walk) (slot : ℕ) (enable : Option TermId) → Fits old → IsWithin old.terms enable → new.terms ≡ old.terms → state_of new ≡ state_of old → env_of new ≡ env_of old → Fits new
    → new.log.items ≡ old.log.items ++ effects.Slot slot enable ∷ []
    → Visits slot enable old new
visited old new slot enable f w terms state env fits log width shows = record {
  fits = fits;
  terms = record { more = []; is = terms ∙ sym (append-nil old.terms) };
  state = state;
  env = env ∙ shows;
  more = effects.Slot slot enable ∷ [];
  log = log;
  within = (subst (λ ns. IsWithin ns enable) (sym terms) w, tt);
  told = (λ j. record { slot = slot; enable = tree_for (terms j) enable; before = shows j } ∷ []);
  ends = shows;
}

-- what is shown after a key was put
pub put_shows : (width : Name → ℕ) (old new : Walk) (key : code_key.Key) (p : Pending) (id : Option TermId) → Shows width old → id ≡ shown_id (width (key_name (key_of key))) p
    → env_of new ≡ put (key_of key) (tree_for old.terms id) (env_of old) → env_of new ≡ shown width (put (key_of key) (pending_in old.terms p) (state_of old))
put_shows width old new key p id shows is env =
    env ∙ (λ j. put (key_of key) ((ap (tree_for old.terms) is ∙ shown_is old.terms (width (key_name (key_of key))) p) j) (shows j)) ∙ sym (shown_put width (key_of key) (pending_in old.terms p) (state_of old))

-- a key that is set
pub set_key : (width : Name → ℕ) (old new : Walk) (key : code_key.Key) (p : Pending) (id : Option TermId) → Shows width old → id ≡ shown_id (width (key_name (key_of key))) p → IsWithin old.terms id → new.terms ≡ old.terms
    → state_of new ≡ put (key_of key) (pending_in old.terms p) (state_of old) → env_of new ≡ put (key_of key) (tree_for old.terms id) (env_of old) → Fits new
    → new.log.items ≡ old.log.items ++ effects.Set key id ∷ []
    → Walked width old new [] (put (key_of key) (pending_in old.terms p) (state_of old))
set_key width old new key p id shows is w terms state env fits log =
    let seen = put_shows width old new key p id shows is env in
    record {
      fits = fits;
      terms = record { more = []; is = terms ∙ sym (append-nil old.terms) };
      state = state;
      env = seen;
      more = effects.Set key id ∷ [];
      log = log;
      within = (subst (λ ns. IsWithin ns id) (sym terms) w, tt);
      told = refl;
      ends = ap (λ ns. put (key_of key) (tree_for ns id) (env_of old)) terms ∙ sym env ∙ seen;
    }

pub grown_walked : (width : Name → ℕ) (old new : Walk) → Shows width old → Grown old new → Walked width old new [] (state_of old)
grown_walked width old new shows g = record {
  fits = g.fits;
  terms = g.terms;
  state = g.state;
  env = g.env ∙ shows;
  more = [];
  log = g.log ∙ sym (append-nil old.log.items);
  within = tt;
  told = refl;
  ends = shows;
}

pub walked_shows : (width : Name → ℕ) (old new : Walk) (told : List Row) (trees : State (Tree Name)) → Walked width old new told trees → Shows width new
walked_shows width old new told trees w = w.env ∙ ap (shown width) (sym w.state)

-- ---- one walk after another

rows_more : (old new : List Term) (log : List Effect) (trees : Env (Tree Name)) → Extends old new → AreWithin old log → rows_of new log trees ≡ rows_of old log trees
rows_more old new [] trees e w = refl
rows_more old new (effects.Set key id ∷ log) trees e w =
    ap (λ t. rows_of new log (put (key_of key) t trees)) (tree_more old new id e w.0) ∙ rows_more old new log (put (key_of key) (tree_for old id) trees) e w.1
rows_more old new (effects.Slot slot enable ∷ log) trees e w =
    ap₂ (λ (t : Option (Tree Name)) (rows : List Row). record { slot = slot; enable = t; before = trees } ∷ rows) (tree_more old new enable e w.0) (rows_more old new log trees e w.1)

ends_more : (old new : List Term) (log : List Effect) (trees : Env (Tree Name)) → Extends old new → AreWithin old log → ends_of new log trees ≡ ends_of old log trees
ends_more old new [] trees e w = refl
ends_more old new (effects.Set key id ∷ log) trees e w =
    ap (λ t. ends_of new log (put (key_of key) t trees)) (tree_more old new id e w.0) ∙ ends_more old new log (put (key_of key) (tree_for old id) trees) e w.1
ends_more old new (effects.Slot slot enable ∷ log) trees e w = ends_more old new log trees e w.1

are_within_more : (old new : List Term) (log : List Effect) → Extends old new → AreWithin old log → AreWithin new log
are_within_more old new [] e w = tt
are_within_more old new (effects.Set key id ∷ log) e w = (within_more old new id e w.0, are_within_more old new log e w.1)
are_within_more old new (effects.Slot slot enable ∷ log) e w = (within_more old new enable e w.0, are_within_more old new log e w.1)

rows_append : (ns : List Term) (a b : List Effect) (trees : Env (Tree Name)) → rows_of ns (a ++ b) trees ≡ rows_of ns a trees ++ rows_of ns b (ends_of ns a trees)
rows_append ns [] b trees = refl
rows_append ns (effects.Set key id ∷ a) b trees = rows_append ns a b (put (key_of key) (tree_for ns id) trees)
rows_append ns (effects.Slot slot enable ∷ a) b trees = ap (λ (rows : List Row). record { slot = slot; enable = tree_for ns enable; before = trees } ∷ rows) (rows_append ns a b trees)

ends_append : (ns : List Term) (a b : List Effect) (trees : Env (Tree Name)) → ends_of ns (a ++ b) trees ≡ ends_of ns b (ends_of ns a trees)
ends_append ns [] b trees = refl
ends_append ns (effects.Set key id ∷ a) b trees = ends_append ns a b (put (key_of key) (tree_for ns id) trees)
ends_append ns (effects.Slot slot enable ∷ a) b trees = ends_append ns a b trees

within_append : (ns : List Term) (a b : List Effect) → AreWithin ns a → AreWithin ns b → AreWithin ns (a ++ b)
within_append ns [] b v w = w
within_append ns (effects.Set key id ∷ a) b v w = (v.0, within_append ns a b v.1 w)
within_append ns (effects.Slot slot enable ∷ a) b v w = (v.0, within_append ns a b v.1 w)

pub walked_twice : (width : Name → ℕ) (a b c : Walk) (first second : List Row) (mid last : State (Tree Name)) → Walked width a b first mid → Walked width b c second last → Walked width a c (first ++ second) last
walked_twice width a b c first second mid last x y =
    let seen : ends_of c.terms x.more (env_of a) ≡ env_of b = ends_more b.terms c.terms x.more (env_of a) y.terms x.within ∙ x.ends ∙ sym x.env in
    record {
      fits = y.fits;
      terms = extends_twice a.terms b.terms c.terms x.terms y.terms;
      state = y.state;
      env = y.env;
      more = x.more ++ y.more;
      log = y.log ∙ ap (λ l. l ++ y.more) x.log ∙ append_assoc a.log.items x.more y.more;
      within = within_append c.terms x.more y.more (are_within_more b.terms c.terms x.more y.terms x.within) y.within;
      told = rows_append c.terms x.more y.more (env_of a)
          ∙ ap₂ (λ (l r : List Row). l ++ r) (rows_more b.terms c.terms x.more (env_of a) y.terms x.within ∙ x.told) (ap (rows_of c.terms y.more) seen ∙ y.told);
      ends = ends_append c.terms x.more y.more (env_of a) ∙ ap (ends_of c.terms y.more) seen ∙ y.ends;
    }

pub walked_as : (width : Name → ℕ) (a b : Walk) (rows others : List Row) (trees state : State (Tree Name)) → rows ≡ others → trees ≡ state → Walked width a b rows trees → Walked width a b others state
walked_as width a b rows others trees state e f x = subst (λ r. Walked width a b r state) e (subst (λ t. Walked width a b rows t) f x)
