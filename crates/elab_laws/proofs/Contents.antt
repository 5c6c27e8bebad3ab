-- What a body gives turns on its module and parameters alone, where it is given at all.
use Rattle.std.proofs.Common.{◌≡◌, ℕ, zero, suc, ◌+◌, ◌≤◌, Bool, true, false, ℤ, pos, ◌+ℤ◌, List, [], ◌∷◌, ◌++◌, length, Option, Some, None, if◌then◌else◌, codes, refl, ap, ap₂, subst, arith}
use Rattle.gen_tree.specs.Tree as tree
use Rattle.gen_tree.specs.Tree.{wire, reg, inst, comb, ff, repeat_items, given_items, Items, no_item, item, ElseItems, no_else_items, otherwise_items, Module}
use Rattle.elab_core.specs.Walk.{Walk, Gives, Faulty, Counted, and_then}
use Rattle.elab_core.specs.Numbers.{bound, two_numbers, turn_count, holds}
use Rattle.design_core.specs.Design.{Gens, Done}
use Rattle.design_core.specs.declared.Signal.{Signal}
use Rattle.elab_core.specs.Elaborated.{Content, Instance}
use Rattle.elab_core.specs.Elab.{turns, statements, Asked, asked, Made, nothing, with_child, first_signals, child_of, child_outputs, Here, Enter, count_outputs, register, wire_signal, item_walk, items_walk, else_walk, ports, module_walk, instance}

-- what comes out of a walk, if something does
unfoldable pub out : {A : Type 0} → Walk A → Option A
out (Gives a) = Some a
out (Faulty fault) = None
out (Counted what line w) = out w

abbrev pub chained : {A B : Type 0} → (A → Option B) → Option A → Option B
chained f None = None
chained f (Some a) = f a

pub out_then : {A B : Type 0} (w : Walk A) (f : A → Walk B) → out (and_then w f) ≡ chained (λ a. out (f a)) (out w)
unfolding out and_then
out_then (Gives a) f = refl
out_then (Faulty fault) f = refl
out_then (Counted what line w) f = out_then w f

-- ---- two walks of which the second gives something that goes with what the first gives, where that gives something

abbrev pub OnSome : {A : Type 0} → (A → Type 0) → Option A → Type 0
OnSome P None = Unit {0}
OnSome P (Some a) = P a

abbrev pub HasSome : {A : Type 0} → (A → Type 0) → Option A → Type 0
HasSome P None = ⊥
HasSome P (Some a) = P a

abbrev pub Follows : {A B : Type 0} → (A → B → Type 0) → Option A → Option B → Type 0
Follows R o p = OnSome (λ a. HasSome (R a) p) o

abbrev pub Sim : {A B : Type 0} → (A → B → Type 0) → Walk A → Walk B → Type 0
Sim R v w = Follows R (out v) (out w)

chain_follows : {A B C D : Type 0} (R : A → B → Type 0) (Q : C → D → Type 0) (o : Option A) (p : Option B) (f : A → Option C) (g : B → Option D)
    → Follows R o p → ((a : A) (b : B) → R a b → Follows Q (f a) (g b)) → Follows Q (chained f o) (chained g p)
chain_follows R Q None p f g h k = tt
chain_follows R Q (Some a) None f g h k = absurd h
chain_follows R Q (Some a) (Some b) f g h k = k a b h

pub sim_then : {A B C D : Type 0} (R : A → B → Type 0) (Q : C → D → Type 0) (v : Walk A) (w : Walk B) (f : A → Walk C) (g : B → Walk D)
    → Sim R v w → ((a : A) (b : B) → R a b → Sim Q (f a) (g b)) → Sim Q (and_then v f) (and_then w g)
sim_then R Q v w f g h k =
    let step = chain_follows R Q (out v) (out w) (λ a. out (f a)) (λ b. out (g b)) h k in
    rw (out_then v f, out_then w g) step

follows_itself : {A : Type 0} (o : Option A) → Follows (λ a b. a ≡ b) o o
follows_itself None = tt
follows_itself (Some a) = refl

-- the same walk first
pub sim_same : {A C D : Type 0} (Q : C → D → Type 0) (v : Walk A) (f : A → Walk C) (g : A → Walk D) → ((a : A) → Sim Q (f a) (g a)) → Sim Q (and_then v f) (and_then v g)
sim_same Q v f g k = sim_then (λ a b. a ≡ b) Q v v f g (follows_itself (out v)) (λ a b e. let P : _ → Type 0 = λ c. Sim Q (f a) (g c) in subst P e (k a))

-- ---- items

abbrev pub SameContent : Made → Made → Type 0
SameContent a b = a.content ≡ b.content

-- the first of two lists of instances have the same signals
abbrev pub SameSignals : List Instance → List Instance → Type 0
SameSignals l m = first_signals l ≡ first_signals m

abbrev pub EnterSim : Enter → Enter → Type 0
EnterSim e f = (want : Asked) (here there : Here) (at to : ℕ) → Sim SameSignals (e want here at) (f want there to)

turns_sim : (line : ℕ) (f g : ℤ → Made → Walk Made) (k : ℤ) (count : ℕ) (a b : Made) → SameContent a b → ((k : ℤ) (c d : Made) → SameContent c d → Sim SameContent (f k c) (g k d)) → Sim SameContent (turns line f k count a) (turns line g k count b)
unfolding turns out and_then
turns_sim line f g k zero a b h each = h
turns_sim line f g k (suc count) a b h each =
    sim_then SameContent SameContent (f k a) (g k b) (λ more. turns line f (k +ℤ pos 1) count more) (λ more. turns line g (k +ℤ pos 1) count more) (each k a b h)
    (λ c d e. turns_sim line f g (k +ℤ pos 1) count c d e each)

either_sim : {C D : Type 0} (Q : C → D → Type 0) (b : Bool) (v w : Walk C) (x y : Walk D) → Sim Q v x → Sim Q w y → Sim Q (if b then v else w) (if b then x else y)
either_sim Q true v w x y h k = h
either_sim Q false v w x y h k = k

child_content : (want : Asked) (a b : Made) (l m : List Instance) → SameContent a b → SameSignals l m → SameContent (with_child a want l) (with_child b want m)
child_content want a b l m e s = ap₂ (λ (c : Content) (signals : List Signal). record {
  signals = c.signals ++ child_outputs want.line (length c.children) want.name signals;
  children = c.children ++ child_of want ∷ [];
  blocks = c.blocks;
}) e s

module _ (modules : List Module) (e f : Enter) (enters : EnterSim e f) (here there : Here) where
  mutual
    unfolding item_walk out and_then

    item_sim : (i : tree.Item) (gens : Gens) (a b : Made) → SameContent a b → Sim SameContent (item_walk modules e here i gens a) (item_walk modules f there i gens b)
    item_sim (wire line x w) gens a b h = sim_same SameContent (wire_signal line gens x w) _ _ (λ s. ap (λ (c : Content). record c { signals = c.signals ++ s ∷ [] }) h)
    item_sim (reg line x w l) gens a b h = sim_same SameContent (register line gens x w l) _ _ (λ s. ap (λ (c : Content). record c { signals = c.signals ++ s ∷ [] }) h)
    item_sim (inst line x y args cs) gens a b h =
        sim_same SameContent (asked modules line gens x y args cs) _ _ (λ want.
        sim_then SameSignals SameContent (e want here (here.number + 1 + length a.below)) (f want there (there.number + 1 + length b.below)) _ _
        (enters want here there (here.number + 1 + length a.below) (there.number + 1 + length b.below)) (λ l m s. child_content want a b l m h s))
    item_sim (comb line body) gens a b h = sim_same SameContent (statements body gens Done) _ _ (λ made. ap (λ (c : Content). record c { blocks = c.blocks ++ record { line = line; clocked = false; body = made } ∷ [] }) h)
    item_sim (ff line body) gens a b h = sim_same SameContent (statements body gens Done) _ _ (λ made. ap (λ (c : Content). record c { blocks = c.blocks ++ record { line = line; clocked = true; body = made } ∷ [] }) h)
    item_sim (repeat_items line x from to body) gens a b h =
        sim_same SameContent (two_numbers line gens from to) _ _ (λ range. sim_same SameContent (turn_count line range.0 range.1) _ _ (λ count.
        turns_sim line (λ k more. items_walk modules e here body (bound x k gens) more) (λ k more. items_walk modules f there body (bound x k gens) more) range.0 count a b h
        (λ k c d g. items_sim body (bound x k gens) c d g)))
    item_sim (given_items line left cmp right first second) gens a b h =
        sim_same SameContent (two_numbers line gens left right) _ _ (λ pair.
        either_sim SameContent (holds cmp pair.0 pair.1) (items_walk modules e here first gens a) (else_walk modules e here second gens a) (items_walk modules f there first gens b) (else_walk modules f there second gens b)
        (items_sim first gens a b h) (else_sim second gens a b h))

    items_sim : (body : Items) (gens : Gens) (a b : Made) → SameContent a b → Sim SameContent (items_walk modules e here body gens a) (items_walk modules f there body gens b)
    items_sim no_item gens a b h = h
    items_sim (item i rest) gens a b h =
        sim_then SameContent SameContent (item_walk modules e here i gens a) (item_walk modules f there i gens b) (λ more. items_walk modules e here rest gens more) (λ more. items_walk modules f there rest gens more)
        (item_sim i gens a b h) (λ c d g. items_sim rest gens c d g)

    else_sim : (y : ElseItems) (gens : Gens) (a b : Made) → SameContent a b → Sim SameContent (else_walk modules e here y gens a) (else_walk modules f there y gens b)
    else_sim no_else_items gens a b h = h
    else_sim (otherwise_items body) gens a b h = items_sim body gens a b h

  pub module_sim : (m : Module) (params : Gens) → Sim SameContent (module_walk modules e here m params) (module_walk modules f there m params)
  unfolding module_walk
  module_sim m params = sim_same SameContent (ports m.ports params []) _ _ (λ signals.
      items_sim m.items params (record nothing { content = record (nothing.content) { signals = signals } }) (record nothing { content = record (nothing.content) { signals = signals } }) refl)

-- where there is more room, the same comes out
pub more_room : (modules : List Module) (room more : ℕ) → room ≤ more → EnterSim (instance modules room) (instance modules more)
unfolding instance out and_then
more_room modules zero more h want here there at to = tt
more_room modules (suc room) zero h want here there at to = absurd (omega (arith, h))
more_room modules (suc room) (suc more) h want here there at to =
    sim_same SameSignals (count_outputs want.line want.found.1.ports) _ _ (λ u.
    sim_then SameContent SameSignals
    (module_walk modules (instance modules room) (record { path = here.path ++ (codes "." ++ want.name); number = at }) want.found.1 want.params)
    (module_walk modules (instance modules more) (record { path = there.path ++ (codes "." ++ want.name); number = to }) want.found.1 want.params) _ _
    (module_sim modules (instance modules room) (instance modules more) (more_room modules room more (omega (arith, h)))
    (record { path = here.path ++ (codes "." ++ want.name); number = at }) (record { path = there.path ++ (codes "." ++ want.name); number = to }) want.found.1 want.params)
    (λ a b e. ap (λ (c : Content). c.signals) e))
