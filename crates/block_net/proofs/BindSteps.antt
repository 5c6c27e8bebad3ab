-- Bindings: keys with what they have.
use Rattle.std.proofs.Common.{◌≡◌, ℕ, zero, suc, ◌+◌, ◌<◌, ◌≤◌, Bool, true, false, ◌||◌, List, [], ◌∷◌, ◌++◌, length, take, get_or, Option, if◌then◌else◌, refl, sym, ap, ◌∙◌, subst, arith}
use Rattle.std.proofs.lemmas.List.{take_more, take_all}
use Rattle.tree_core.specs.Tree as tree
use Rattle.tree_core.specs.Tree.{Tree}
use Rattle.exec_core.specs.Block.{Name, Key, same_key}
use Rattle.exec_core.specs.Exec.{Held, State, put, on_three}
use Rattle.bit_sets.specs.BitSets.{common, set_of}
use Rattle.bit_sets.specs.declared.bit_set.BitSet.{BitSet}
use Rattle.block_net.specs.declared.held.Pending.{Pending}
use Rattle.block_net.specs.declared.key.Key as code_key
use Rattle.block_net.specs.declared.bindings.Binding.{Binding}
use Rattle.block_net.specs.declared.term.Term.{Term}
use Rattle.block_net.specs.declared.term.TermId.{TermId}
use Rattle.block_net.specs.declared.walk.Walk.{Walk}
use Rattle.block_net.specs.Terms.{IsWithin, Extends, Stands, tree_for}
use Rattle.block_net.specs.Logs.{key_of}
use Rattle.block_net.specs.Walks.{Bind, Chooses, Fits, Grown, HaveTerms, SetsAll, Shows, StandsFor, Walked, among, choice, chosen, keys_of, overlay, pending_in, state_of}
use Rattle.block_net.proofs.TermLists.{tree_more, within_more, extends_twice}
use Rattle.block_net.proofs.WalkSteps.{same_key-sound, grown_walked, grown_none, walked_as, walked_twice}

-- ---- keys

or_apart : (a b c : Bool) → ((a || b) || c) ≡ (a || (b || c))
or_apart true b c = refl
or_apart false b c = refl

or_false : (a : Bool) → (a || false) ≡ a
or_false true = refl
or_false false = refl

pub among_append : (keys more : List code_key.Key) (y : Key) → among (keys ++ more) y ≡ (among keys y || among more y)
among_append [] more y = refl
among_append (k ∷ keys) more y = ap (λ b. same_key (key_of k) y || b) (among_append keys more y) ∙ sym (or_apart (same_key (key_of k) y) (among keys y) (among more y))

keys_append : (bs cs : List Binding) → keys_of (bs ++ cs) ≡ keys_of bs ++ keys_of cs
keys_append [] cs = refl
keys_append (b ∷ bs) cs = ap (λ l. b.key ∷ l) (keys_append bs cs)

-- ---- what is pending

pub stands_more : (old new : List Term) (p : Pending) (h : Held (Tree Name)) → Extends old new → StandsFor old p h → StandsFor new p h
stands_more old new p h e s = record { within = within_more old new p.id e s.within; is = (λ j. record { pending = tree_more old new p.id e s.within j; bits = set_of p.bits }) ∙ s.is }

pub stands_as : (ns : List Term) (p : Pending) (h k : Held (Tree Name)) → h ≡ k → StandsFor ns p h → StandsFor ns p k
stands_as ns p h k e s = record { within = s.within; is = s.is ∙ e }

-- ---- lists of bindings

pub have_at : (ns : List Term) (bs : List Binding) (i : ℕ) (b : Binding) → HaveTerms ns bs → i < length bs → b ≡ get_or bs i b → IsWithin ns b.pending.id
have_at ns [] i b h below at = absurd (omega (arith, below))
have_at ns (c ∷ bs) zero b h below at = subst (λ (d : Binding). IsWithin ns d.pending.id) (sym at) h.0
have_at ns (c ∷ bs) (suc i) b h below at = have_at ns bs i b h.1 (omega (arith, below)) at

pub bind_append : (ns : List Term) (trees : State (Tree Name)) (bs cs : List Binding) → Bind ns trees bs → Bind ns trees cs → Bind ns trees (bs ++ cs)
bind_append ns trees [] cs h g = g
bind_append ns trees (b ∷ bs) cs h g = (h.0, bind_append ns trees bs cs h.1 g)

bind_front : (ns : List Term) (trees : State (Tree Name)) (bs cs : List Binding) → Bind ns trees (bs ++ cs) → Bind ns trees bs
bind_front ns trees [] cs h = tt
bind_front ns trees (b ∷ bs) cs h = (h.0, bind_front ns trees bs cs h.1)

bind_back : (ns : List Term) (trees : State (Tree Name)) (bs cs : List Binding) → Bind ns trees (bs ++ cs) → Bind ns trees cs
bind_back ns trees [] cs h = h
bind_back ns trees (b ∷ bs) cs h = bind_back ns trees bs cs h.1

pub bind_more : (old new : List Term) (trees : State (Tree Name)) (bs : List Binding) → Extends old new → Bind old trees bs → Bind new trees bs
bind_more old new trees [] e h = tt
bind_more old new trees (b ∷ bs) e h = (stands_more old new b.pending (trees (key_of b.key)) e h.0, bind_more old new trees bs e h.1)

pub bind_have : (ns : List Term) (trees : State (Tree Name)) (bs : List Binding) → Bind ns trees bs → HaveTerms ns bs
bind_have ns trees [] h = tt
bind_have ns trees (b ∷ bs) h = (h.0.within, bind_have ns trees bs h.1)

pub have_more : (old new : List Term) (bs : List Binding) → Extends old new → HaveTerms old bs → HaveTerms new bs
have_more old new [] e h = tt
have_more old new (b ∷ bs) e h = (within_more old new b.pending.id e h.0, have_more old new bs e h.1)

have_append : (ns : List Term) (bs cs : List Binding) → HaveTerms ns bs → HaveTerms ns cs → HaveTerms ns (bs ++ cs)
have_append ns [] cs h g = g
have_append ns (b ∷ bs) cs h g = (h.0, have_append ns bs cs h.1 g)

pub have_push : (old new : List Term) (bs more : List Binding) (key : code_key.Key) (p : Pending) → Extends old new → more ≡ bs ++ record { key = key; pending = p } ∷ [] → IsWithin new p.id → HaveTerms old bs → HaveTerms new more
have_push old new bs more key p e is w h = subst (HaveTerms new) (sym is) (have_append new bs (record { key = key; pending = p } ∷ []) (have_more old new bs e h) (w, tt))

take_one : {X : Type 0} (xs : List X) (i : ℕ) (x : X) → i < length xs → x ≡ get_or xs i x → take (i + 1) xs ≡ take i xs ++ x ∷ []
take_one xs i x below at = take_more xs i x below ∙ ap (λ y. take i xs ++ y ∷ []) (sym at)

-- ---- keys that are picked

pub picked_keys : (bs new : List Binding) (keys : List code_key.Key) (i : ℕ) (key copy : code_key.Key) (p : Pending) → i < length keys → key ≡ get_or keys i key → copy ≡ key
    → new ≡ bs ++ record { key = copy; pending = p } ∷ [] → among (keys_of bs) ≡ among (take i keys) → among (keys_of new) ≡ among (take (i + 1) keys)
picked_keys bs new keys i key copy p below at same is so =
    ap (λ (l : List Binding). among (keys_of l)) is ∙ ap among (keys_append bs (record { key = copy; pending = p } ∷ []))
    ∙ ap (λ k. among (keys_of bs ++ k ∷ [])) same
    ∙ (λ j y. among_append (keys_of bs) (key ∷ []) y j)
    ∙ (λ j y. so j y || among (key ∷ []) y)
    ∙ sym (λ j y. among_append (take i keys) (key ∷ []) y j)
    ∙ ap among (sym (take_one keys i key below at))

pub picked_bind : (init old : Walk) (terms : List Term) (bs more : List Binding) (key copy : code_key.Key) (p : Pending) → Grown init old → Extends old.terms terms → copy ≡ key
    → more ≡ bs ++ record { key = copy; pending = p } ∷ [] → StandsFor terms p (state_of old (key_of key)) → Bind old.terms (state_of init) bs → Bind terms (state_of init) more
picked_bind init old terms bs more key copy p g e same is s h =
    subst (Bind terms (state_of init)) (sym is)
    (bind_append terms (state_of init) bs (record { key = copy; pending = p } ∷ []) (bind_more old.terms terms (state_of init) bs e h)
    (stands_as terms p _ _ (ap (λ (f : State (Tree Name)). f (key_of key)) g.state ∙ ap (λ k. state_of init (key_of k)) (sym same)) s, tt))

-- ---- keys that are set

pub set_nothing : (width : Name → ℕ) (init : Walk) (bs : List Binding) → Shows width init → Fits init → SetsAll width (take 0 bs) init init
set_nothing width init bs shows f trees h = grown_walked width init init shows (grown_none init f)

overlay_more : (keys : List code_key.Key) (key : code_key.Key) (trees old : State (Tree Name)) → put (key_of key) (trees (key_of key)) (overlay (among keys) trees old) ≡ overlay (among (keys ++ key ∷ [])) trees old
overlay_more keys key trees old = λ j y. at y (same_key (key_of key) y) refl j
  where
    pick_or : (a b : Bool) (t u : Held (Tree Name)) → (if b then t else (if a then t else u)) ≡ (if (a || (b || false)) then t else u)
    pick_or true true t u = refl
    pick_or true false t u = refl
    pick_or false true t u = refl
    pick_or false false t u = refl

    at : (y : Key) (b : Bool) → same_key (key_of key) y ≡ b
        → (if same_key (key_of key) y then trees (key_of key) else (if among keys y then trees y else old y)) ≡ (if among (keys ++ key ∷ []) y then trees y else old y)
    at y b e =
        ap (λ c. if c then trees (key_of key) else (if among keys y then trees y else old y)) e
        ∙ same b e
        ∙ pick_or (among keys y) b (trees y) (old y)
        ∙ ap (λ c. if (among keys y || (c || false)) then trees y else old y) (sym e)
        ∙ ap (λ c. if c then trees y else old y) (sym (among_append keys (key ∷ []) y))
      where
        same : (c : Bool) → same_key (key_of key) y ≡ c → (if c then trees (key_of key) else (if among keys y then trees y else old y)) ≡ (if c then trees y else (if among keys y then trees y else old y))
        same true f = ap trees (same_key-sound (key_of key) y f)
        same false f = refl

pub set_one : (width : Name → ℕ) (init old new : Walk) (bs : List Binding) (i : ℕ) (b : Binding) (key : code_key.Key) → i < length bs → b ≡ get_or bs i b → key ≡ b.key → Extends init.terms old.terms
    → Walked width old new [] (put (key_of key) (pending_in old.terms b.pending) (state_of old)) → SetsAll width (take i bs) init old → SetsAll width (take (i + 1) bs) init new
set_one width init old new bs i b key below at same e w so trees h =
    let split : Bind init.terms trees (take i bs ++ b ∷ []) = subst (Bind init.terms trees) (take_one bs i b below at) h in
    let before = so trees (bind_front init.terms trees (take i bs) (b ∷ []) split) in
    let here : StandsFor init.terms b.pending (trees (key_of b.key)) = (bind_back init.terms trees (take i bs) (b ∷ []) split).0 in
    walked_as width init new ([] ++ []) [] _ _ refl
    ((λ j. put (key_of (same j)) ((stands_more init.terms old.terms b.pending (trees (key_of b.key)) e here).is j) (before.state j))
    ∙ overlay_more (keys_of (take i bs)) b.key trees (state_of init)
    ∙ ap (λ keys. overlay (among keys) trees (state_of init)) (sym (keys_append (take i bs) (b ∷ [])))
    ∙ ap (λ (l : List Binding). overlay (among (keys_of l)) trees (state_of init)) (sym (take_one bs i b below at)))
    (walked_twice width init old new [] [] _ _ before w)

pub set_all_of : (width : Name → ℕ) (init new : Walk) (bs : List Binding) (i : ℕ) → length bs ≤ i → SetsAll width (take i bs) init new → SetsAll width bs init new
set_all_of width init new bs i past so = subst (λ l. SetsAll width l init new) (take_all i bs past) so

-- ---- choices

-- one choice
pub choice_stands : (old new : List Term) (test : Option TermId) (first second : Pending) (id : Option TermId) (bits : BitSet) → Stands new id (on_three tree.Mux (tree_for old test) (tree_for old first.id) (tree_for old second.id))
    → set_of bits ≡ common (set_of first.bits) (set_of second.bits) → StandsFor new (record { id = id; bits = bits }) (choice (tree_for old test) (pending_in old first) (pending_in old second))
choice_stands old new test first second id bits s b = record { within = s.within; is = λ j. record { pending = s.is j; bits = b j } }

pub choose_one : (init old mid new : Walk) (test : Option TermId) (firsts bs more : List Binding) (i : ℕ) (b : Binding) (second p : Pending) (copy : code_key.Key)
    → i < length firsts → b ≡ get_or firsts i b → IsWithin init.terms test → Grown init old → Grown old mid → Grown mid new → copy ≡ b.key → more ≡ bs ++ record { key = copy; pending = p } ∷ []
    → StandsFor mid.terms second (state_of old (key_of b.key)) → StandsFor new.terms p (choice (tree_for mid.terms test) (pending_in mid.terms b.pending) (pending_in mid.terms second))
    → Chooses test (take i firsts) bs init old → Chooses test (take (i + 1) firsts) more init new
choose_one init old mid new test firsts bs more i b second p copy below at w g h k same is s made so trees all =
    let split : Bind init.terms trees (take i firsts ++ b ∷ []) = subst (Bind init.terms trees) (take_one firsts i b below at) all in
    let here : StandsFor init.terms b.pending (trees (key_of b.key)) = (bind_back init.terms trees (take i firsts) (b ∷ []) split).0 in
    let env = chosen (tree_for init.terms test) trees (state_of init) in
    let to_mid : Extends init.terms mid.terms = extends_twice init.terms old.terms mid.terms g.terms h.terms in
    let is_it : choice (tree_for mid.terms test) (pending_in mid.terms b.pending) (pending_in mid.terms second) ≡ env (key_of b.key) =
    (λ j. choice (tree_more init.terms mid.terms test to_mid w j) ((stands_more init.terms mid.terms b.pending (trees (key_of b.key)) to_mid here).is j) ((s.is ∙ ap (λ (f : State (Tree Name)). f (key_of b.key)) g.state) j)) in
    subst (Bind new.terms env) (sym is)
    (bind_append new.terms env bs (record { key = copy; pending = p } ∷ [])
    (bind_more old.terms new.terms env bs (extends_twice old.terms mid.terms new.terms h.terms k.terms) (so trees (bind_front init.terms trees (take i firsts) (b ∷ []) split)))
    (stands_as new.terms p _ _ (is_it ∙ ap (λ c. env (key_of c)) (sym same)) made, tt))

pub chosen_keys : (firsts bs new : List Binding) (i : ℕ) (b : Binding) (copy : code_key.Key) (p : Pending) → i < length firsts → b ≡ get_or firsts i b → copy ≡ b.key
    → new ≡ bs ++ record { key = copy; pending = p } ∷ [] → among (keys_of bs) ≡ among (keys_of (take i firsts)) → among (keys_of new) ≡ among (keys_of (take (i + 1) firsts))
chosen_keys firsts bs new i b copy p below at same is so =
    ap (λ (l : List Binding). among (keys_of l)) is ∙ ap among (keys_append bs (record { key = copy; pending = p } ∷ []))
    ∙ ap (λ k. among (keys_of bs ++ k ∷ [])) same
    ∙ (λ j y. among_append (keys_of bs) (b.key ∷ []) y j)
    ∙ (λ j y. so j y || among (b.key ∷ []) y)
    ∙ sym (λ j y. among_append (keys_of (take i firsts)) (b.key ∷ []) y j)
    ∙ ap among (sym (keys_append (take i firsts) (b ∷ [])))
    ∙ ap (λ (l : List Binding). among (keys_of l)) (sym (take_one firsts i b below at))

pub chooses_of : (init new : Walk) (test : Option TermId) (firsts bs : List Binding) (i : ℕ) → length firsts ≤ i → Chooses test (take i firsts) bs init new → Chooses test firsts bs init new
chooses_of init new test firsts bs i past so = subst (λ l. Chooses test l bs init new) (take_all i firsts past) so

pub chosen_within : (init old : List Term) (firsts : List Binding) (i : ℕ) (b : Binding) → Extends init old → HaveTerms init firsts → i < length firsts → b ≡ get_or firsts i b → IsWithin old b.pending.id
chosen_within init old firsts i b e h below at = have_at old firsts i b (have_more init old firsts e h) below at
