-- The names that elaboration gives to instances, with all that stands in them, are texts.
use Rattle.std.proofs.Common.{◌≡◌, ℕ, zero, suc, ◌+◌, Bool, true, false, ◌∷◌, [], ◌++◌, List, length, Result, Ok, Err, IsUtf8, if◌then◌else◌, bytes_eq, codes, nat_le, refl, subst}
use Rattle.std.specs.Prelude.{ℤ}
use Rattle.std.proofs.lemmas.Slice.Eq.{bytes_eq-Decides}
use Rattle.std.proofs.lemmas.Str.{IsUtf8-append}
use Rattle.json.proofs.Printed.Utf8.{IsUtf8-are_ascii}
use Rattle.gen_tree.specs.Tree as tree
use Rattle.gen_tree.specs.Tree.{Fam, Int, Lit, Param, wire, reg, inst, comb, ff, repeat_items, given_items, Items, no_item, item, ElseItems, no_else_items, otherwise_items, Port, Module}
use Rattle.exec_core.specs.Block.{Name}
use Rattle.list_core.specs.Lists.{EachOf}
use Rattle.design_core.specs.declared.Signal.{Signal}
use Rattle.design_core.specs.declared.Kind.{Kind}
use Rattle.design_core.specs.declared.Kind.TheVariants.{Input, Output, Wire, Reg, ChildOut}
use Rattle.design_core.specs.Design.{Gens, AreInRange, Done, Block}
use Rattle.elab_core.specs.Walk.{Walk, Gives, Faulty, Counted, Fault, Seen, judge, limit, seen_of, too_large, one_more, and_then}
use Rattle.elab_core.specs.Numbers.{bound, number, find, fam_name, two_numbers, holds}
use Rattle.elab_core.specs.Elaborated.{Content, Instance}
use Rattle.elab_core.specs.Elab.{literal, statements, places, only, module_named, distinct, arguments, given_or, parameters, values, conns, Asked, asked, Made, nothing, with_signal, with_block, with_child, first_signals, output_as, child_outputs, port_kind, Here, Enter, count_outputs, register, wire_signal, item_walk, items_walk, else_walk, ports, module_walk, instance, top_arguments, top_values, top_walk}
use Rattle.elab_core.proofs.Replacing.{Yields, yields_then, two_yields, Both}
use Rattle.elab_core.proofs.ReplacingItems.{Anything, any_yields, values_yield, top_values_yield}
use Rattle.elab_laws.proofs.Fine.{both_each}
use Rattle.elab_laws.proofs.Params.{yields_both}
use Rattle.name_laws.specs.Texts.{GensAreTexts}
use Rattle.name_laws.proofs.Source.{ItemNamed, ItemsNamed, ElseItemsNamed, ParamNamed, PortNamed, ModuleNamed}
use Rattle.name_laws.proofs.Bodies.{GensNamed, bound_named, fam_text, yields_loop, yields_either, BodyNamed, stmts_named}

-- ---- modules, by their names

abbrev Found : Name → ℕ × Module → Type 0
Found x found = ModuleNamed found.1 × (found.1.name ≡ x)

places_named : (x : Name) (at : ℕ) (modules : List Module) → EachOf ModuleNamed modules → EachOf (Found x) (places x at modules)
places_named x at [] h = tt
places_named x at (m ∷ modules) h = by_test (bytes_eq m.name x) refl (places_named x (at + 1) modules h.1)
  where
    by_test : (b : Bool) → bytes_eq m.name x ≡ b → EachOf (Found x) (places x (at + 1) modules) → EachOf (Found x) (if b then (at, m) ∷ places x (at + 1) modules else places x (at + 1) modules)
    by_test true e rest = ((h.0, (bytes_eq-Decides m.name x).0 e), rest)
    by_test false e rest = rest

only_named : (line : ℕ) (x : Name) (found : List (ℕ × Module)) → EachOf (Found x) found → Yields (Found x) (only line x found)
unfolding Yields
only_named line x [] h = tt
only_named line x (m ∷ []) h = h.0
only_named line x (m ∷ (again ∷ more)) h = tt

found_named : (modules : List Module) (line : ℕ) (x : Name) → EachOf ModuleNamed modules → Yields (Found x) (module_named modules line x)
found_named modules line x h = only_named line x (places x 0 modules) (places_named x 0 modules h)

-- ---- parameters

abbrev gen_text : Name × ℤ → Type 0
gen_text g = IsUtf8 g.0

parameters_named : (line : ℕ) (ps : List Param) (given_so done : Gens) → EachOf ParamNamed ps → GensAreTexts done → Yields GensAreTexts (parameters line ps given_so done)
unfolding parameters Yields
parameters_named line [] given_so done h g = g
parameters_named line (p ∷ ps) given_so done h g =
    yields_then Anything GensAreTexts (given_or (find given_so p.name) (number line done p.value)) (λ n. parameters line ps given_so (done ++ (p.name, n) ∷ []))
    (any_yields (given_or (find given_so p.name) (number line done p.value)))
    (λ n t. parameters_named line ps given_so (done ++ (p.name, n) ∷ []) h.1 (both_each gen_text done ((p.name, n) ∷ []) g (h.0, tt)))

values_texts : (line : ℕ) (gens : Gens) (found : Module) (args : List Param) → ModuleNamed found → Yields GensAreTexts (values line gens found args)
unfolding values
values_texts line gens found args h =
    yields_then Anything GensAreTexts (distinct found.line [] found.params) _ (any_yields (distinct found.line [] found.params)) (λ u t.
    yields_then Anything GensAreTexts (arguments line gens found.params args []) _ (any_yields (arguments line gens found.params args [])) (λ given_so r.
    parameters_named found.line found.params given_so [] h.params tt))

values_named : (line : ℕ) (gens : Gens) (found : Module) (args : List Param) → ModuleNamed found → AreInRange gens → Yields GensNamed (values line gens found args)
values_named line gens found args h r = yields_both AreInRange GensAreTexts (values line gens found args) (values_yield line gens found args r) (values_texts line gens found args h)

top_values_texts : (found : Module) (rest : Gens) → ModuleNamed found → Yields GensAreTexts (top_values found rest)
unfolding top_values
top_values_texts found rest h =
    yields_then Anything GensAreTexts (distinct found.line [] found.params) _ (any_yields (distinct found.line [] found.params)) (λ u t.
    yields_then Anything GensAreTexts (top_arguments found.params rest []) _ (any_yields (top_arguments found.params rest [])) (λ given_so r.
    parameters_named found.line found.params given_so [] h.params tt))

top_values_named : (found : Module) (rest : Gens) → ModuleNamed found → AreInRange rest → Yields GensNamed (top_values found rest)
top_values_named found rest h r = yields_both AreInRange GensAreTexts (top_values found rest) (top_values_yield found rest r) (top_values_texts found rest h)

-- ---- a child as it is asked for

pub record AskedNamed (want : Asked) : Type 0 where
  pub name : IsUtf8 want.name
  pub found : ModuleNamed want.found.1
  pub params : GensNamed want.params

asked_named : (modules : List Module) (line : ℕ) (gens : Gens) (f : Fam) (x : Name) (args : List Param) (cs : List tree.Conn) → EachOf ModuleNamed modules → IsUtf8 f.name → GensNamed gens → Yields AskedNamed (asked modules line gens f x args cs)
unfolding asked Yields
asked_named modules line gens f x args cs all p h =
    yields_then IsUtf8 AskedNamed (fam_name line gens f) _ (fam_text line gens f p h.0) (λ name q.
    yields_then (Found x) AskedNamed (module_named modules line x) _ (found_named modules line x all) (λ found m.
    yields_then GensNamed AskedNamed (values line gens found.1 args) _ (values_named line gens found.1 args m.0 h.0) (λ params r.
    yields_then Anything AskedNamed (conns cs gens []) _ (any_yields (conns cs gens [])) (λ made u.
    record { name = q; found = m.0; params = r }))))

-- ---- signals

abbrev pub SignalNamed : Signal → Type 0
SignalNamed s = IsUtf8 s.name

wire_named : (line : ℕ) (gens : Gens) (x : Fam) (w : Int) → IsUtf8 x.name → AreInRange gens → Yields SignalNamed (wire_signal line gens x w)
unfolding wire_signal Yields
wire_named line gens x w p r =
    yields_then IsUtf8 SignalNamed (fam_name line gens x) _ (fam_text line gens x p r) (λ n t. yields_then Anything SignalNamed (number line gens w) _ (any_yields (number line gens w)) (λ k u. t))

reg_named : (line : ℕ) (gens : Gens) (x : Fam) (w : Int) (l : Lit) → IsUtf8 x.name → AreInRange gens → Yields SignalNamed (register line gens x w l)
unfolding register Yields
reg_named line gens x w l p r =
    yields_then IsUtf8 SignalNamed (fam_name line gens x) _ (fam_text line gens x p r) (λ n t. yields_then Anything SignalNamed (number line gens w) _ (any_yields (number line gens w)) (λ k u.
    yields_then Anything SignalNamed (literal line gens l) _ (any_yields (literal line gens l)) (λ v s. t)))

ports_named : (ps : List Port) (gens : Gens) (made : List Signal) → EachOf PortNamed ps → EachOf SignalNamed made → Yields (EachOf SignalNamed) (ports ps gens made)
unfolding ports Yields and_then
ports_named [] gens made h g = g
ports_named (p ∷ ps) gens made h g =
    yields_then Anything (EachOf SignalNamed) (number p.line gens p.width) _ (any_yields (number p.line gens p.width)) (λ w t.
    let s : Signal = record { line = p.line; name = p.name; kind = port_kind p.output; width = w } in
    ports_named ps gens (made ++ s ∷ []) h.1 (both_each SignalNamed made (s ∷ []) g (h.0, tt)))

-- a name behind another and a dot
dotted : (x y : Name) → IsUtf8 x → IsUtf8 y → IsUtf8 (x ++ (codes "." ++ y))
dotted x y p q = IsUtf8-append x (codes "." ++ y) p (IsUtf8-append (codes ".") y (IsUtf8-are_ascii (codes ".") refl) q)

as_named : (line at : ℕ) (child : Name) (s : Signal) (k : Kind) → IsUtf8 child → SignalNamed s → EachOf SignalNamed (output_as line at child s k)
as_named line at child s Input p q = tt
as_named line at child s Output p q = (dotted child s.name p q, tt)
as_named line at child s Wire p q = tt
as_named line at child s (Reg start) p q = tt
as_named line at child s (ChildOut k port) p q = tt

outputs_named : (line at : ℕ) (child : Name) (signals : List Signal) → IsUtf8 child → EachOf SignalNamed signals → EachOf SignalNamed (child_outputs line at child signals)
outputs_named line at child [] p h = tt
outputs_named line at child (s ∷ signals) p h =
    both_each SignalNamed (output_as line at child s s.kind) (child_outputs line at child signals) (as_named line at child s s.kind p h.0) (outputs_named line at child signals p h.1)

-- ---- instances

abbrev pub BlockNamed : Block → Type 0
BlockNamed b = BodyNamed b.body

pub record ContentNamed (content : Content) : Type 0 where
  pub signals : EachOf SignalNamed content.signals
  pub blocks : EachOf BlockNamed content.blocks

pub record InstanceNamed (i : Instance) : Type 0 where
  pub path : IsUtf8 i.path
  pub params : GensAreTexts i.params
  pub content : ContentNamed i.content

record MadeNamed (made : Made) : Type 0 where
  content : ContentNamed made.content
  below : EachOf InstanceNamed made.below

signal_put : (made : Made) (s : Signal) → MadeNamed made → SignalNamed s → MadeNamed (with_signal made s)
signal_put made s h p = record { content = record { signals = both_each SignalNamed made.content.signals (s ∷ []) h.content.signals (p, tt); blocks = h.content.blocks }; below = h.below }

block_put : (made : Made) (b : Block) → MadeNamed made → BlockNamed b → MadeNamed (with_block made b)
block_put made b h p = record { content = record { signals = h.content.signals; blocks = both_each BlockNamed made.content.blocks (b ∷ []) h.content.blocks (p, tt) }; below = h.below }

first_named : (list : List Instance) → EachOf InstanceNamed list → EachOf SignalNamed (first_signals list)
first_named [] h = tt
first_named (i ∷ list) h = h.0.content.signals

child_put : (made : Made) (want : Asked) (list : List Instance) → MadeNamed made → AskedNamed want → EachOf InstanceNamed list → MadeNamed (with_child made want list)
child_put made want list h p q = record {
  content = record {
    signals =
        both_each SignalNamed made.content.signals (child_outputs want.line (length made.content.children) want.name (first_signals list)) h.content.signals
        (outputs_named want.line (length made.content.children) want.name (first_signals list) p.name (first_named list q));
    blocks = h.content.blocks;
  };
  below = both_each InstanceNamed made.below list h.below q;
}

abbrev EnterNamed : Enter → Type 0
EnterNamed enter = (want : Asked) (here : Here) (at : ℕ) → AskedNamed want → IsUtf8 here.path → Yields (EachOf InstanceNamed) (enter want here at)

module _ (modules : List Module) (all : EachOf ModuleNamed modules) (enter : Enter) (entered : EnterNamed enter) (here : Here) (path : IsUtf8 here.path) where
  mutual
    unfolding item_walk Yields and_then

    item_named : (i : tree.Item) (gens : Gens) (made : Made) → ItemNamed i → GensNamed gens → MadeNamed made → Yields MadeNamed (item_walk modules enter here i gens made)
    item_named (wire line x w) gens made p h g = yields_then SignalNamed MadeNamed (wire_signal line gens x w) _ (wire_named line gens x w p h.0) (λ s q. signal_put made s g q)
    item_named (reg line x w l) gens made p h g = yields_then SignalNamed MadeNamed (register line gens x w l) _ (reg_named line gens x w l p h.0) (λ s q. signal_put made s g q)
    item_named (inst line x y args cs) gens made p h g =
        yields_then AskedNamed MadeNamed (asked modules line gens x y args cs) _ (asked_named modules line gens x y args cs all p h) (λ want q.
        yields_then (EachOf InstanceNamed) MadeNamed (enter want here (here.number + 1 + length made.below)) _ (entered want here (here.number + 1 + length made.below) q path) (λ list r. child_put made want list g q r))
    item_named (comb line body) gens made p h g =
        yields_then BodyNamed MadeNamed (statements body gens Done) _ (stmts_named body gens Done p h (record { gens = tt; lets = tt })) (λ b q. block_put made (record { line = line; clocked = false; body = b }) g q)
    item_named (ff line body) gens made p h g =
        yields_then BodyNamed MadeNamed (statements body gens Done) _ (stmts_named body gens Done p h (record { gens = tt; lets = tt })) (λ b q. block_put made (record { line = line; clocked = true; body = b }) g q)
    item_named (repeat_items line x from to body) gens made p h g =
        yields_then Both MadeNamed (two_numbers line gens from to) _ (two_yields line gens from to h.0) (λ range r.
        yields_loop MadeNamed line (λ k more. items_walk modules enter here body (bound x k gens) more) range made r g (λ k u more q. items_named body (bound x k gens) more p.1 (bound_named x k gens p.0 h u) q))
    item_named (given_items line left cmp right first second) gens made p h g =
        yields_then Anything MadeNamed (two_numbers line gens left right) _ (any_yields (two_numbers line gens left right)) (λ pair t.
        yields_either MadeNamed (holds cmp pair.0 pair.1) (items_walk modules enter here first gens made) (else_walk modules enter here second gens made) (items_named first gens made p.0 h g) (else_items_named second gens made p.1 h g))

    items_named : (body : Items) (gens : Gens) (made : Made) → ItemsNamed body → GensNamed gens → MadeNamed made → Yields MadeNamed (items_walk modules enter here body gens made)
    items_named no_item gens made p h g = g
    items_named (item i rest) gens made p h g =
        yields_then MadeNamed MadeNamed (item_walk modules enter here i gens made) (λ more. items_walk modules enter here rest gens more) (item_named i gens made p.0 h g) (λ more q. items_named rest gens more p.1 h q)

    else_items_named : (y : ElseItems) (gens : Gens) (made : Made) → ElseItemsNamed y → GensNamed gens → MadeNamed made → Yields MadeNamed (else_walk modules enter here y gens made)
    else_items_named no_else_items gens made p h g = g
    else_items_named (otherwise_items body) gens made p h g = items_named body gens made p h g

  module_is_named : (m : Module) (params : Gens) → ModuleNamed m → GensNamed params → Yields MadeNamed (module_walk modules enter here m params)
  unfolding module_walk
  module_is_named m params p h =
      yields_then (EachOf SignalNamed) MadeNamed (ports m.ports params []) _ (ports_named m.ports params [] p.ports tt) (λ signals q.
      items_named m.items params (record nothing { content = record (nothing.content) { signals = signals } }) p.items h (record { content = record { signals = q; blocks = tt }; below = tt }))

instance_named : (modules : List Module) → EachOf ModuleNamed modules → (room : ℕ) → EnterNamed (instance modules room)
unfolding instance and_then Yields
instance_named modules all zero want here at p q = tt
instance_named modules all (suc room) want here at p q =
    let path = dotted here.path want.name q p.name in
    yields_then Anything (EachOf InstanceNamed) (count_outputs want.line want.found.1.ports) _ (any_yields (count_outputs want.line want.found.1.ports)) (λ u t.
    yields_then MadeNamed (EachOf InstanceNamed) (module_walk modules (instance modules room) (record { path = here.path ++ (codes "." ++ want.name); number = at }) want.found.1 want.params) _
    (module_is_named modules all (instance modules room) (instance_named modules all room) (record { path = here.path ++ (codes "." ++ want.name); number = at }) path want.found.1 want.params p.found p.params)
    (λ made r. (record { path = path; params = p.params.1; content = r.content }, r.below)))

-- all instances, from the top
pub top_named : (modules : List Module) (top : Name) (rest : Gens) → EachOf ModuleNamed modules → AreInRange rest → Yields (EachOf InstanceNamed) (top_walk modules top rest)
unfolding top_walk and_then Yields
top_named modules top rest all fine =
    yields_then (Found top) (EachOf InstanceNamed) (module_named modules 0 top) _ (found_named modules 0 top all) (λ found m.
    yields_then GensNamed (EachOf InstanceNamed) (top_values found.1 rest) _ (top_values_named found.1 rest m.0 fine) (λ params r.
    let path : IsUtf8 top = subst IsUtf8 m.1 m.0.name in
    yields_then MadeNamed (EachOf InstanceNamed) (module_walk modules (instance modules 32) (record { path = top; number = 0 }) found.1 params) _
    (module_is_named modules all (instance modules 32) (instance_named modules all 32) (record { path = top; number = 0 }) path found.1 params m.0 r)
    (λ made q. (record { path = path; params = r.1; content = q.content }, q.below))))

-- ---- what is judged well

abbrev pub OnResult : {A : Type 0} → (A → Type 0) → Result (A × Seen) Fault → Type 0
OnResult P (Ok p) = P p.0
OnResult P (Err fault) = Unit {0}

pub judged : {A : Type 0} (Q : A → Type 0) (seen : Seen) (w : Walk A) → Yields Q w → OnResult Q (judge seen w)
unfolding judge Yields
judged Q seen (Gives a) h = h
judged Q seen (Faulty fault) h = tt
judged Q seen (Counted what line w) h =
    elim (nat_le (limit what) (seen_of what seen)) as (λ b. OnResult Q (if b then Err (too_large line what) else judge (one_more what seen) w)) [ true ↦ tt | false ↦ judged Q (one_more what seen) w h ]
