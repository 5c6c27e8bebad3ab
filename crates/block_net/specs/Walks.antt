-- A walk through a block: its terms, what each key holds, what is shown of it, and the walk's log.
use Rattle.std.specs.Prelude.{◌≡◌, ℕ, List, [], ◌∷◌, ◌++◌, map, Option, Some, None, option_map, Bool, false, ◌||◌, ◌&&◌, if◌then◌else◌}
use Rattle.tree_core.specs.Tree as tree
use Rattle.tree_core.specs.Tree.{Tree}
use Rattle.exec_core.specs.Block.{Name, Key, Now, Next, same_key, key_name, Stmt, Body, body_assigns}
use Rattle.exec_core.specs.Exec.{Env, Held, State, all_below, on_three, shown, whole_held}
use Rattle.exec_core.specs.Trees.{Row, rows, body_rows, trees_after, body_trees_after}
use Rattle.names.specs.Maps.{value_of}
use Rattle.bit_sets.specs.BitSets.{set_of}
use Rattle.block_net.specs.declared.key.Key as code_key
use Rattle.block_net.specs.declared.bindings.Binding.{Binding}
use Rattle.block_net.specs.declared.effect.Effect.{Effect}
use Rattle.block_net.specs.declared.held.Held as code_held
use Rattle.block_net.specs.declared.held.Pending.{Pending}
use Rattle.block_net.specs.declared.term.Term.{Term}
use Rattle.block_net.specs.declared.term.TermId.{TermId}
use Rattle.block_net.specs.declared.walk.Walk.{Walk}
use Rattle.block_net.specs.Terms.{IsWithin, Extends, Stands, tree_for}
use Rattle.block_net.specs.Logs.{key_of, rows_of, ends_of, AreWithin}

-- ---- what is shown

-- what a name has: what was put, or itself where nothing was
abbrev pub held : List Term → Name → Option (Option TermId) → Option (Tree Name)
held ns x None = Some (tree.Leaf x)
held ns x (Some id) = tree_for ns id

-- what each key has, by the names of two maps
abbrev pub env_by : List Term → (Name → Option (Option TermId)) → (Name → Option (Option TermId)) → Env (Tree Name)
env_by ns now next (Now x) = held ns x (now x)
env_by ns now next (Next x) = held ns x (next x)

-- each name is itself, and so is what each register holds next
abbrev pub themselves : Env (Tree Name)
themselves y = Some (tree.Leaf (key_name y))

-- what was put is a term's id, or none
abbrev pub IsHeld : List Term → Option (Option TermId) → Type 0
IsHeld ns None = Unit {0}
IsHeld ns (Some id) = IsWithin ns id

pub record FitBy (ns : List Term) (now next : Name → Option (Option TermId)) : Type 0 where
  pub now_held : (x : Name) → IsHeld ns (now x)
  pub next_held : (x : Name) → IsHeld ns (next x)

-- ---- what is held

-- what a map has of names
abbrev pub Puts : Type 0
Puts = Name → Option code_held.Held

-- the ids that are shown
abbrev pub ids_of : Puts → Name → Option (Option TermId)
ids_of puts x = option_map (λ (h : code_held.Held). h.shown) (puts x)

-- what is pending, with its bits
abbrev pub pending_in : List Term → Pending → Held (Tree Name)
pending_in ns p = record { pending = tree_for ns p.id; bits = set_of p.bits }

-- what a name holds: what was put, or itself with all bits where nothing was
abbrev pub holds : List Term → Name → Option code_held.Held → Held (Tree Name)
holds ns x None = whole_held (tree.Leaf x)
holds ns x (Some h) = pending_in ns h.pending

abbrev pub state_by : List Term → Puts → Puts → State (Tree Name)
state_by ns now next (Now x) = holds ns x (now x)
state_by ns now next (Next x) = holds ns x (next x)

abbrev pub all_themselves : State (Tree Name)
all_themselves y = whole_held (tree.Leaf (key_name y))

-- what each key of a walk holds, and what it has
abbrev pub state_of : Walk → State (Tree Name)
state_of w = state_by w.terms (value_of w.now) (value_of w.next)

abbrev pub env_of : Walk → Env (Tree Name)
env_of w = env_by w.terms (ids_of (value_of w.now)) (ids_of (value_of w.next))

-- a key has what is pending where all of its bits are assigned
abbrev pub Shows : (Name → ℕ) → Walk → Type 0
Shows width w = env_of w ≡ shown width (state_of w)

abbrev pub shown_id : ℕ → Pending → Option TermId
shown_id w p = if all_below w (set_of p.bits) then p.id else None

-- what was put are ids of terms, or none
abbrev pub IsPut : List Term → Option code_held.Held → Type 0
IsPut ns None = Unit {0}
IsPut ns (Some h) = IsWithin ns h.pending.id × IsWithin ns h.shown

pub record AllPut (ns : List Term) (now next : Puts) : Type 0 where
  pub now_put : (x : Name) → IsPut ns (now x)
  pub next_put : (x : Name) → IsPut ns (next x)

abbrev pub Fits : Walk → Type 0
Fits w = AllPut w.terms (value_of w.now) (value_of w.next)

-- what is pending stands for this
pub record StandsFor (ns : List Term) (p : Pending) (h : Held (Tree Name)) : Type 0 where
  pub within : IsWithin ns p.id
  pub is : pending_in ns p ≡ h

-- what is put stands for what a key holds and has
pub record StandsHeld (ns : List Term) (p : code_held.Held) (h : Held (Tree Name)) (t : Option (Tree Name)) : Type 0 where
  pub pending : StandsFor ns p.pending h
  pub shown : Stands ns p.shown t

-- ---- steps

-- more terms, and nothing else that contracts see
pub record Grown (old new : Walk) : Type 0 where
  pub fits : Fits new
  pub terms : Extends old.terms new.terms
  pub state : state_of new ≡ state_of old
  pub env : env_of new ≡ env_of old
  pub log : new.log.items ≡ old.log.items

-- the log tells these rows more, and each key holds this after them
pub record Walked (width : Name → ℕ) (old new : Walk) (told_rows : List Row) (trees : State (Tree Name)) : Type 0 where
  pub fits : Fits new
  pub terms : Extends old.terms new.terms
  pub state : state_of new ≡ trees
  pub env : env_of new ≡ shown width trees
  pub more : List Effect
  pub log : new.log.items ≡ old.log.items ++ more
  pub within : AreWithin new.terms more
  pub told : rows_of new.terms more (env_of old) ≡ told_rows
  pub ends : ends_of new.terms more (env_of old) ≡ shown width trees

-- a slot was come to
abbrev pub Visits : ℕ → Option TermId → Walk → Walk → Type 0
Visits slot enable old new =
    (width : Name → ℕ) → Shows width old
    → Walked width old new (record { slot = slot; enable = tree_for old.terms enable; before = shown width (state_of old) } ∷ []) (state_of old)

-- ---- keys with ids

-- whether a key is among these
abbrev pub among : List code_key.Key → Key → Bool
among [] y = false
among (k ∷ keys) y = same_key (key_of k) y || among keys y

abbrev pub keys_of : List Binding → List code_key.Key
keys_of bindings = map (λ (b : Binding). b.key) bindings

-- each id is that of a term, or none
abbrev pub HaveTerms : List Term → List Binding → Type 0
HaveTerms ns [] = Unit {0}
HaveTerms ns (b ∷ bindings) = IsWithin ns b.pending.id × HaveTerms ns bindings

-- each stands for what its key holds there
abbrev pub Bind : List Term → State (Tree Name) → List Binding → Type 0
Bind ns trees [] = Unit {0}
Bind ns trees (b ∷ bindings) = StandsFor ns b.pending (trees (key_of b.key)) × Bind ns trees bindings

-- these keys from one, all others from another
abbrev pub overlay : (Key → Bool) → State (Tree Name) → State (Tree Name) → State (Tree Name)
overlay keys new old = λ y. if keys y then new y else old y

-- bindings of some trees, set
abbrev pub SetsAll : (Name → ℕ) → List Binding → Walk → Walk → Type 0
SetsAll width bindings old new =
    (trees : State (Tree Name)) → Bind old.terms trees bindings → Walked width old new [] (overlay (among (keys_of bindings)) trees (state_of old))

-- a choice for each key between what it holds in two places, with the bits that are assigned in both
abbrev pub choice : Option (Tree Name) → Held (Tree Name) → Held (Tree Name) → Held (Tree Name)
choice test first second = record { pending = on_three tree.Mux test first.pending second.pending; bits = λ i. first.bits i && second.bits i }

abbrev pub chosen : Option (Tree Name) → State (Tree Name) → State (Tree Name) → State (Tree Name)
chosen test first second = λ y. choice test (first y) (second y)

-- bindings of some trees, each with a choice between it and what its key holds
abbrev pub Chooses : Option TermId → List Binding → List Binding → Walk → Walk → Type 0
Chooses test firsts bindings old new =
    (trees : State (Tree Name)) → Bind old.terms trees firsts → Bind new.terms (chosen (tree_for old.terms test) trees (state_of old)) bindings

-- ---- statements

-- keys of either
abbrev pub either : (Key → Bool) → (Key → Bool) → Key → Bool
either first second = λ y. first y || second y

-- each key that is assigned is among these
abbrev pub Cover : List code_key.Key → Body → Type 0
Cover keys body = (y : Key) → among keys y ≡ false → body_assigns body y ≡ false

-- a statement with this enable was walked through; statements were
abbrev pub ThroughStmt : (Name → ℕ) → Option (Tree Name) → Stmt → Walk → Walk → Type 0
ThroughStmt width enable s old new = Walked width old new (rows width s enable (state_of old)) (trees_after width s (state_of old))

abbrev pub Through : (Name → ℕ) → Option (Tree Name) → Body → Walk → Walk → Type 0
Through width enable body old new = Walked width old new (body_rows width body enable (state_of old)) (body_trees_after width body (state_of old))

-- what an else-branch leaves, with a choice for each of these keys between what it held somewhere and what it holds
abbrev pub Joins : (Name → ℕ) → Option (Tree Name) → Option (Tree Name) → Body → List Binding → Walk → Walk → Type 0
Joins width enable test body firsts old new =
    (trees : State (Tree Name)) → Bind old.terms trees firsts
    → Walked width old new (body_rows width body enable (state_of old))
    (overlay (among (keys_of firsts)) (chosen test trees (body_trees_after width body (state_of old))) (body_trees_after width body (state_of old)))
