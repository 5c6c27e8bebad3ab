-- The instances of a walk are a tree in preorder, and each has what its module gives with its parameters.
use Rattle.std.proofs.Common.{◌≡◌, ℕ, zero, suc, ◌+◌, ◌≤◌, Bool, true, false, ℤ, pos, ◌+ℤ◌, List, [], ◌∷◌, ◌++◌, length, length-append, append_assoc, Option, Some, None, if◌then◌else◌, bytes_eq, codes, refl, sym, ◌∙◌, subst, arith}
use Rattle.std.specs.List.{slice_get}
use Rattle.std.proofs.lemmas.Slice.Eq.{bytes_eq-Decides}
use Rattle.gen_tree.specs.Tree as tree
use Rattle.gen_tree.specs.Tree.{Fam, Param, wire, reg, inst, comb, ff, repeat_items, given_items, Items, no_item, item, ElseItems, no_else_items, otherwise_items, Module}
use Rattle.elab_core.specs.Walk.{Walk, Gives, Faulty, Counted, and_then}
use Rattle.elab_core.specs.Numbers.{bound, fam_name, two_numbers, turn_count, holds}
use Rattle.exec_core.specs.Block.{Name}
use Rattle.design_core.specs.Design.{Gens, AreInRange, Done}
use Rattle.elab_core.specs.Elaborated.{Child, Content, Instance}
use Rattle.elab_core.specs.Elab.{turns, statements, places, only, module_named, values, conns, Asked, asked, Made, nothing, with_child, child_of, Here, Enter, count_outputs, register, wire_signal, item_walk, items_walk, else_walk, ports, module_walk, instances_of, instance, top_values, top_walk}
use Rattle.elab_core.proofs.Replacing as elab_yields
use Rattle.elab_core.proofs.ReplacingItems.{top_values_yield}
use Rattle.elab_laws.proofs.Params.{AtMost, top_values_few}
use Rattle.elab_laws.proofs.Contents.{out, chained, out_then, OnSome, HasSome, SameContent, module_sim, more_room}

-- ---- what comes out of a walk, with the equation that it does

abbrev pub Yields : {A : Type 0} → (A → Type 0) → Walk A → Type 0
Yields {A = A} P w = (a : A) → out w ≡ Some a → P a

none_some : {A : Type 0} (a : A) → None ≡ Some a → ⊥
none_some {A = A} a e = let P : Option A → Type 0 = λ o. elim o [ None ↦ Unit {0} | Some x ↦ ⊥ ] in subst P e tt

chain_yields : {A B : Type 0} (P : B → Type 0) (o : Option A) (f : A → Option B) (b : B) → chained f o ≡ Some b → ((a : A) → o ≡ Some a → (b : B) → f a ≡ Some b → P b) → P b
chain_yields P None f b e h = absurd (none_some b e)
chain_yields P (Some a) f b e h = h a refl b e

pub yields_then : {A B : Type 0} (P : B → Type 0) (w : Walk A) (f : A → Walk B) → ((a : A) → out w ≡ Some a → Yields P (f a)) → Yields P (and_then w f)
yields_then P w f h b e = chain_yields P (out w) (λ a. out (f a)) b (sym (out_then w f) ∙ e) h

same_some : {A : Type 0} (P : A → Type 0) (a b : A) → Some a ≡ Some b → P a → P b
same_some {A = A} P a b e h = let Q : Option A → Type 0 = OnSome P in subst Q e h

-- what is given is so
pub yields_it : {A : Type 0} (P : A → Type 0) (a : A) → P a → Yields P (Gives a)
unfolding out
yields_it P a h b e = same_some P a b e h

-- what each turn keeps, all turns keep
pub turns_yield : {A : Type 0} (P : A → Type 0) (line : ℕ) (f : ℤ → A → Walk A) (k : ℤ) (count : ℕ) (made : A) → P made → ((k : ℤ) (a : A) → P a → Yields P (f k a)) → Yields P (turns line f k count made)
unfolding turns out and_then
turns_yield P line f k zero made h each = yields_it P made h
turns_yield P line f k (suc count) made h each =
    yields_then P (f k made) (λ more. turns line f (k +ℤ pos 1) count more) (λ a e. turns_yield P line f (k +ℤ pos 1) count a (each k made h a e) each)

pub either_yields : {A : Type 0} (P : A → Type 0) (b : Bool) (v w : Walk A) → Yields P v → Yields P w → Yields P (if b then v else w)
either_yields P true v w h g = h
either_yields P false v w h g = g

-- ---- a tree of instances in preorder

mutual
  -- an instance at a number, with those below it, which are so many levels at most with it
  pub data IsTree : ℕ → Name → Option ℕ → ℕ → Gens → ℕ → List Instance → Type 0 where
    a_tree : (room : ℕ) (path : Name) (parent : Option ℕ) (place : ℕ) (params : Gens) (at : ℕ) (content : Content) (below : List Instance)
        → AreTrees room path at content.children below → IsTree (suc room) path parent place params at (record { path = path; parent = parent; place = place; params = params; content = content } ∷ below)

  -- those below an instance at a number: a tree for each child
  pub data AreTrees : ℕ → Name → ℕ → List Child → List Instance → Type 0 where
    no_trees : (room : ℕ) (path : Name) (at : ℕ) → AreTrees room path at [] []
    one_behind : (room : ℕ) (path : Name) (at : ℕ) (children : List Child) (below : List Instance) (c : Child) (list : List Instance)
        → AreTrees room path at children below → IsTree room (path ++ (codes "." ++ c.name)) (Some at) c.place c.params (at + 1 + length below) list → AreTrees room path at (children ++ c ∷ []) (below ++ list)

-- ---- each instance has what its module gives with its parameters

abbrev pub blank : Here
blank = record { path = []; number = 0 }

-- the module's body, with all the room that there is
abbrev pub module_out : List Module → Module → Gens → Option Made
module_out modules m params = out (module_walk modules (instance modules 32) blank m params)

pub record IsGiven (modules : List Module) (i : Instance) : Type 0 where
  pub «module» : Module
  pub stands : slice_get modules i.place ≡ Some «module»
  pub gives : HasSome (λ made. made.content ≡ i.content) (module_out modules «module» i.params)

abbrev pub EachGiven : List Module → List Instance → Type 0
EachGiven modules [] = Unit {0}
EachGiven modules (i ∷ list) = IsGiven modules i × EachGiven modules list

given_both : (modules : List Module) (first second : List Instance) → EachGiven modules first → EachGiven modules second → EachGiven modules (first ++ second)
given_both modules [] second h g = g
given_both modules (i ∷ first) second h g = (h.0, given_both modules first second h.1 g)

-- ---- modules by their places

abbrev EachStands : List Module → List (ℕ × Module) → Type 0
EachStands modules [] = Unit {0}
EachStands modules (m ∷ found) = (slice_get modules m.0 ≡ Some m.1) × EachStands modules found

stands_behind : (before : List Module) (m : Module) (rest : List Module) → slice_get (before ++ m ∷ rest) (length before) ≡ Some m
stands_behind [] m rest = refl
stands_behind (b ∷ before) m rest = stands_behind before m rest

places_stand : (x : Name) (before modules : List Module) → EachStands (before ++ modules) (places x (length before) modules)
places_stand x before [] = tt
places_stand x before (m ∷ modules) =
    let longer : length (before ++ m ∷ []) ≡ length before + 1 = length-append before (m ∷ []) ∙ omega arith in
    let rest : EachStands (before ++ m ∷ modules) (places x (length before + 1) modules) =
    subst (λ n. EachStands (before ++ m ∷ modules) (places x n modules)) longer (subst (λ (l : List Module). EachStands l (places x (length (before ++ m ∷ [])) modules)) (append_assoc before (m ∷ []) modules) (places_stand x (before ++ m ∷ []) modules)) in
    elim (bytes_eq m.name x) as (λ b. EachStands (before ++ m ∷ modules) (if b then (length before, m) ∷ places x (length before + 1) modules else places x (length before + 1) modules)) [
      | true ↦ (stands_behind before m modules, rest)
      | false ↦ rest
    ]

abbrev pub Stands : List Module → ℕ × Module → Type 0
Stands modules found = slice_get modules found.0 ≡ Some found.1

only_stands : (modules : List Module) (line : ℕ) (x : Name) (found : List (ℕ × Module)) → EachStands modules found → Yields (Stands modules) (only line x found)
unfolding out
only_stands modules line x [] h a e = absurd (none_some a e)
only_stands modules line x (m ∷ []) h a e = same_some (Stands modules) m a e h.0
only_stands modules line x (m ∷ (again ∷ more)) h a e = absurd (none_some a e)

named_stands : (modules : List Module) (line : ℕ) (x : Name) → Yields (Stands modules) (module_named modules line x)
named_stands modules line x = only_stands modules line x (places x 0 modules) (places_stand x [] modules)

-- and has the name
abbrev EachNamed : Name → List (ℕ × Module) → Type 0
EachNamed x [] = Unit {0}
EachNamed x (m ∷ found) = (m.1.name ≡ x) × EachNamed x found

places_named : (x : Name) (at : ℕ) (modules : List Module) → EachNamed x (places x at modules)
places_named x at [] = tt
places_named x at (m ∷ modules) = by_test (bytes_eq m.name x) refl (places_named x (at + 1) modules)
  where
    by_test : (b : Bool) → bytes_eq m.name x ≡ b → EachNamed x (places x (at + 1) modules) → EachNamed x (if b then (at, m) ∷ places x (at + 1) modules else places x (at + 1) modules)
    by_test true e h = ((bytes_eq-Decides m.name x).0 e, h)
    by_test false e h = h

only_named : (line : ℕ) (x : Name) (found : List (ℕ × Module)) → EachNamed x found → Yields (λ m. m.1.name ≡ x) (only line x found)
unfolding out
only_named line x [] h a e = absurd (none_some a e)
only_named line x (m ∷ []) h a e = same_some (λ (n : ℕ × Module). n.1.name ≡ x) m a e h.0
only_named line x (m ∷ (again ∷ more)) h a e = absurd (none_some a e)

has_its_name : (modules : List Module) (line : ℕ) (x : Name) → Yields (λ m. m.1.name ≡ x) (module_named modules line x)
has_its_name modules line x = only_named line x (places x 0 modules) (places_named x 0 modules)

pub asked_stands : (modules : List Module) (line : ℕ) (gens : Gens) (f : Fam) (x : Name) (args : List Param) (cs : List tree.Conn) → Yields (λ want. Stands modules want.found) (asked modules line gens f x args cs)
unfolding asked
asked_stands modules line gens f x args cs =
    yields_then _ (fam_name line gens f) _ (λ name e. yields_then _ (module_named modules line x) _ (λ found g. yields_then _ (values line gens found.1 args) _ (λ params r. yields_then _ (conns cs gens []) _ (λ made t.
    yields_it (λ (want : Asked). Stands modules want.found) _ (named_stands modules line x found g)))))

-- ---- the walk

pub record MadeOk (modules : List Module) (room : ℕ) (here : Here) (made : Made) : Type 0 where
  pub trees : AreTrees room here.path here.number made.content.children made.below
  pub given : EachGiven modules made.below

abbrev pub ListOk : List Module → ℕ → Name → Option ℕ → ℕ → Gens → ℕ → List Instance → Type 0
ListOk modules room path parent place params at list = IsTree room path parent place params at list × EachGiven modules list

abbrev pub EnterOk : List Module → ℕ → Enter → Type 0
EnterOk modules room enter = (want : Asked) (here : Here) (at : ℕ) → Stands modules want.found → Yields (ListOk modules room (here.path ++ (codes "." ++ want.name)) (Some here.number) want.found.0 want.params at) (enter want here at)

module _ (modules : List Module) (room : ℕ) (enter : Enter) (enters : EnterOk modules room enter) (here : Here) where
  mutual
    unfolding item_walk out and_then

    item_ok : (i : tree.Item) (gens : Gens) (made : Made) → MadeOk modules room here made → Yields (MadeOk modules room here) (item_walk modules enter here i gens made)
    item_ok (wire line x w) gens made h = yields_then _ (wire_signal line gens x w) _ (λ s e. yields_it (MadeOk modules room here) _ (record { trees = h.trees; given = h.given }))
    item_ok (reg line x w l) gens made h = yields_then _ (register line gens x w l) _ (λ s e. yields_it (MadeOk modules room here) _ (record { trees = h.trees; given = h.given }))
    item_ok (inst line x y args cs) gens made h =
        yields_then _ (asked modules line gens x y args cs) _ (λ want e.
        yields_then _ (enter want here (here.number + 1 + length made.below)) _ (λ list g.
        let ok = enters want here (here.number + 1 + length made.below) (asked_stands modules line gens x y args cs want e) list g in
        yields_it (MadeOk modules room here) (with_child made want list) (record {
          trees = one_behind room here.path here.number made.content.children made.below (child_of want) list h.trees ok.0;
          given = given_both modules made.below list h.given ok.1;
        })))
    item_ok (comb line body) gens made h = yields_then _ (statements body gens Done) _ (λ b e. yields_it (MadeOk modules room here) _ (record { trees = h.trees; given = h.given }))
    item_ok (ff line body) gens made h = yields_then _ (statements body gens Done) _ (λ b e. yields_it (MadeOk modules room here) _ (record { trees = h.trees; given = h.given }))
    item_ok (repeat_items line x from to body) gens made h =
        yields_then _ (two_numbers line gens from to) _ (λ range e. yields_then _ (turn_count line range.0 range.1) _ (λ count g.
        turns_yield (MadeOk modules room here) line (λ k more. items_walk modules enter here body (bound x k gens) more) range.0 count made h (λ k more p. items_ok body (bound x k gens) more p)))
    item_ok (given_items line left cmp right first second) gens made h =
        yields_then _ (two_numbers line gens left right) _ (λ pair e.
        either_yields (MadeOk modules room here) (holds cmp pair.0 pair.1) (items_walk modules enter here first gens made) (else_walk modules enter here second gens made) (items_ok first gens made h) (else_ok second gens made h))

    items_ok : (body : Items) (gens : Gens) (made : Made) → MadeOk modules room here made → Yields (MadeOk modules room here) (items_walk modules enter here body gens made)
    items_ok no_item gens made h = yields_it (MadeOk modules room here) made h
    items_ok (item i rest) gens made h = yields_then _ (item_walk modules enter here i gens made) (λ more. items_walk modules enter here rest gens more) (λ more e. items_ok rest gens more (item_ok i gens made h more e))

    else_ok : (y : ElseItems) (gens : Gens) (made : Made) → MadeOk modules room here made → Yields (MadeOk modules room here) (else_walk modules enter here y gens made)
    else_ok no_else_items gens made h = yields_it (MadeOk modules room here) made h
    else_ok (otherwise_items body) gens made h = items_ok body gens made h

  module_ok : (m : Module) (params : Gens) → Yields (MadeOk modules room here) (module_walk modules enter here m params)
  unfolding module_walk
  module_ok m params = yields_then _ (ports m.ports params []) _ (λ signals e.
      items_ok m.items params (record nothing { content = record (nothing.content) { signals = signals } }) (record { trees = no_trees room here.path here.number; given = tt }))

has_other : {A : Type 0} (P Q : A → Type 0) (o : Option A) → HasSome P o → ((a : A) → P a → Q a) → HasSome Q o
has_other P Q None h g = h
has_other P Q (Some a) h g = g a h

followed : {A B : Type 0} (R : A → B → Type 0) (o : Option A) (p : Option B) (a : A) → o ≡ Some a → OnSome (λ c. HasSome (R c) p) o → HasSome (R a) p
followed {A = A} R o p a e h = let Q : Option A → Type 0 = OnSome (λ c. HasSome (R c) p) in subst Q e h

-- an instance with those below it
whole_ok : (modules : List Module) (room : ℕ) (path : Name) (parent : Option ℕ) (found : ℕ × Module) (params : Gens) (at : ℕ) (made : Made) → room ≤ 32 → Stands modules found
    → MadeOk modules room (record { path = path; number = at }) made → out (module_walk modules (instance modules room) (record { path = path; number = at }) found.1 params) ≡ Some made
    → ListOk modules (suc room) path parent found.0 params at (instances_of path parent found.0 params made)
whole_ok modules room path parent found params at made small stands ok e =
    let same = followed SameContent _ (module_out modules found.1 params) made e
    (module_sim modules (instance modules room) (instance modules 32) (more_room modules room 32 small) (record { path = path; number = at }) blank found.1 params) in (
      a_tree room path parent found.0 params at made.content made.below ok.trees,
      (record { «module» = found.1; stands = stands; gives = has_other (SameContent made) (λ b. b.content ≡ made.content) (module_out modules found.1 params) same (λ b p. sym p) }, ok.given),
    )

pub instance_ok : (modules : List Module) (room : ℕ) → room ≤ 32 → EnterOk modules room (instance modules room)
unfolding instance out and_then
instance_ok modules zero small want here at stands = λ a e. absurd (none_some a e)
instance_ok modules (suc room) small want here at stands =
    yields_then _ (count_outputs want.line want.found.1.ports) _ (λ u r.
    yields_then _ (module_walk modules (instance modules room) (record { path = here.path ++ (codes "." ++ want.name); number = at }) want.found.1 want.params) _ (λ made e.
    yields_it (ListOk modules (suc room) (here.path ++ (codes "." ++ want.name)) (Some here.number) want.found.0 want.params at) _
    (whole_ok modules room (here.path ++ (codes "." ++ want.name)) (Some here.number) want.found want.params at made (omega (arith, small)) stands
    (module_ok modules room (instance modules room) (instance_ok modules room (omega (arith, small))) (record { path = here.path ++ (codes "." ++ want.name); number = at }) want.found.1 want.params made e) e)))

pub record TopOk (modules : List Module) (top : Name) (list : List Instance) : Type 0 where
  pub place : ℕ
  pub params : Gens
  pub tree : IsTree 33 top None place params 0 list
  pub given : EachGiven modules list
  pub fine : AreInRange params
  pub «module» : Module
  pub stands : slice_get modules place ≡ Some «module»
  pub named : «module».name ≡ top
  pub few : length params ≤ length «module».params

-- what comes out is so
pub came_out : {A : Type 0} (Q : A → Type 0) (w : Walk A) → elab_yields.Yields Q w → Yields Q w
unfolding elab_yields.Yields out
came_out Q (Gives a) h b e = same_some Q a b e h
came_out Q (Faulty fault) h b e = absurd (none_some b e)
came_out Q (Counted what line w) h b e = came_out Q w h b e

pub top_ok : (modules : List Module) (top : Name) (given_so : Gens) → AreInRange given_so → Yields (TopOk modules top) (top_walk modules top given_so)
unfolding top_walk out and_then
top_ok modules top given_so fine =
    yields_then _ (module_named modules 0 top) _ (λ found g. yields_then _ (top_values found.1 given_so) _ (λ params r.
    yields_then _ (module_walk modules (instance modules 32) (record { path = top; number = 0 }) found.1 params) _ (λ made e.
    let ok = whole_ok modules 32 top None found params 0 made (omega arith) (named_stands modules 0 top found g)
    (module_ok modules 32 (instance modules 32) (instance_ok modules 32 (omega arith)) (record { path = top; number = 0 }) found.1 params made e) e in
    yields_it (TopOk modules top) _ (record { place = found.0; params = params; tree = ok.0; given = ok.1; «module» = found.1; stands = named_stands modules 0 top found g; named = has_its_name modules 0 top found g; fine = came_out AreInRange (top_values found.1 given_so) (top_values_yield found.1 given_so fine) params r; few = came_out (AtMost (length found.1.params)) (top_values found.1 given_so) (top_values_few found.1 given_so) params r }))))
