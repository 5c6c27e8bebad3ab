-- The outputs of children are signals of what a body gives, child by child.
use Rattle.std.proofs.Common.{◌≡◌, ℕ, suc, ◌+◌, Bool, true, false, List, [], ◌∷◌, ◌++◌, length, append_assoc, append-nil, add-zero, Option, Some, None, refl, sym, ap, ap₂, ◌∙◌, subst, arith}
use Rattle.std.specs.List.{slice_get, enumerate_from, flat_map}
use Rattle.gen_tree.specs.Tree as tree
use Rattle.gen_tree.specs.Tree.{Fam, Int, Lit, wire, reg, inst, comb, ff, repeat_items, given_items, Items, no_item, item, ElseItems, no_else_items, otherwise_items, Port, Module}
use Rattle.exec_core.specs.Block.{Name}
use Rattle.design_core.specs.declared.Signal.{Signal}
use Rattle.design_core.specs.declared.Kind.{Kind}
use Rattle.design_core.specs.declared.Kind.TheVariants.{Input, Output, Wire, Reg, ChildOut}
use Rattle.design_core.specs.Design.{Gens, Done}
use Rattle.design_core.specs.WellFormed.{if_child_out, child_outs}
use Rattle.elab_core.specs.Walk.{and_then}
use Rattle.elab_core.specs.Numbers.{bound, number, fam_name, two_numbers, turn_count, holds}
use Rattle.elab_core.specs.Elaborated.{Child, Content, Instance}
use Rattle.elab_core.specs.Elab.{literal, statements, Asked, asked, Made, nothing, with_signal, with_child, first_signals, child_of, output_as, child_outputs, port_kind, Here, Enter, register, wire_signal, item_walk, items_walk, else_walk, ports, module_walk, instance}
use Rattle.elab_laws.proofs.Contents.{out, HasSome}
use Rattle.elab_laws.proofs.Shapes.{Yields, yields_then, yields_it, turns_yield, either_yields, IsTree, a_tree, EachGiven, IsGiven, module_out, blank, asked_stands, EnterOk, instance_ok}

-- ---- lists

pub flat_append : {A B : Type 0} (f : A → List B) (xs ys : List A) → flat_map f (xs ++ ys) ≡ flat_map f xs ++ flat_map f ys
flat_append f [] ys = refl
flat_append f (x ∷ xs) ys = ap (λ l. f x ++ l) (flat_append f xs ys) ∙ sym (append_assoc (f x) (flat_map f xs) (flat_map f ys))

pub enumerate_append : {A : Type 0} (n : ℕ) (xs ys : List A) → enumerate_from n (xs ++ ys) ≡ enumerate_from n xs ++ enumerate_from (n + length xs) ys
enumerate_append n [] ys = ap (λ m. enumerate_from m ys) (sym (add-zero n))
enumerate_append n (x ∷ xs) ys = ap (λ l. (n, x) ∷ l) (enumerate_append (n + 1) xs ys ∙ ap (λ m. enumerate_from (n + 1) xs ++ enumerate_from m ys) (further n (length xs)))
  where
    further : (n k : ℕ) → n + 1 + k ≡ n + suc k
    further n k = omega arith

-- ---- what a child is given

abbrev or_none : {A B : Type 0} → (A → List B) → Option A → List B
or_none f None = []
or_none f (Some a) = f a

-- the signals of a module at a place, with these parameters
abbrev pub signals_by : List Module → ℕ → Gens → List Signal
signals_by modules place params = or_none (λ m. or_none (λ made. made.content.signals) (module_out modules m params)) (slice_get modules place)

abbrev pub met_outputs : List Module → ℕ × Child → List Signal
met_outputs modules c = child_outputs c.1.line c.0 c.1.name (signals_by modules c.1.place c.1.params)

abbrev pub OutsOk : List Module → Content → Type 0
OutsOk modules content = child_outs content.signals ≡ flat_map (met_outputs modules) (enumerate_from 0 content.children)

has_signals : (o : Option Made) (content : Content) → HasSome (λ made. made.content ≡ content) o → or_none (λ (made : Made). made.content.signals) o ≡ content.signals
has_signals None content h = absurd h
has_signals (Some made) content h = ap (λ (c : Content). c.signals) h

pub given_signals : (modules : List Module) (i : Instance) → IsGiven modules i → signals_by modules i.place i.params ≡ i.content.signals
given_signals modules i h =
    ap (or_none (λ m. or_none (λ (made : Made). made.content.signals) (module_out modules m i.params))) h.stands ∙ has_signals (module_out modules h.«module» i.params) i.content h.gives

first_given : (modules : List Module) {room : ℕ} {path : Name} {parent : Option ℕ} {place : ℕ} {params : Gens} {at : ℕ} {list : List Instance} → IsTree room path parent place params at list → EachGiven modules list
    → first_signals list ≡ signals_by modules place params
first_given modules (a_tree room path parent place params at content below under) h =
    sym (given_signals modules (record { path = path; parent = parent; place = place; params = params; content = content }) h.0)

-- ---- outputs of children among signals

as_outs : (line at : ℕ) (child : Name) (s : Signal) (k : Kind) → child_outs (output_as line at child s k) ≡ output_as line at child s k
as_outs line at child s Input = refl
as_outs line at child s Output = refl
as_outs line at child s Wire = refl
as_outs line at child s (Reg start) = refl
as_outs line at child s (ChildOut k port) = refl

all_outs : (line at : ℕ) (child : Name) (signals : List Signal) → child_outs (child_outputs line at child signals) ≡ child_outputs line at child signals
all_outs line at child [] = refl
all_outs line at child (s ∷ signals) =
    flat_append (λ (t : Signal). if_child_out t t.kind) (output_as line at child s s.kind) (child_outputs line at child signals)
    ∙ ap₂ (λ (l m : List Signal). l ++ m) (as_outs line at child s s.kind) (all_outs line at child signals)

-- a signal that is none
abbrev NoOut : Signal → Type 0
NoOut s = if_child_out s s.kind ≡ []

abbrev NoOuts : List Signal → Type 0
NoOuts signals = child_outs signals ≡ []

no_out_behind : (signals : List Signal) (s : Signal) → NoOut s → child_outs (signals ++ s ∷ []) ≡ child_outs signals
no_out_behind signals s e =
    flat_append (λ (t : Signal). if_child_out t t.kind) signals (s ∷ []) ∙ ap (λ (l : List Signal). child_outs signals ++ (l ++ [])) e ∙ append-nil (child_outs signals)

wire_no_out : (line : ℕ) (gens : Gens) (x : Fam) (w : Int) → Yields NoOut (wire_signal line gens x w)
unfolding wire_signal
wire_no_out line gens x w = yields_then _ (fam_name line gens x) _ (λ n e. yields_then _ (number line gens w) _ (λ k g. yields_it NoOut _ refl))

reg_no_out : (line : ℕ) (gens : Gens) (x : Fam) (w : Int) (l : Lit) → Yields NoOut (register line gens x w l)
unfolding register
reg_no_out line gens x w l = yields_then _ (fam_name line gens x) _ (λ n e. yields_then _ (number line gens w) _ (λ k g. yields_then _ (literal line gens l) _ (λ v r. yields_it NoOut _ refl)))

port_no_out : (s : Signal) (output : Bool) → s.kind ≡ port_kind output → NoOut s
port_no_out s true e = ap (if_child_out s) e
port_no_out s false e = ap (if_child_out s) e

ports_no_out : (ps : List Port) (gens : Gens) (made : List Signal) → NoOuts made → Yields NoOuts (ports ps gens made)
unfolding ports out and_then
ports_no_out [] gens made h = yields_it NoOuts made h
ports_no_out (p ∷ ps) gens made h =
    yields_then _ (number p.line gens p.width) _ (λ w e.
    let s : Signal = record { line = p.line; name = p.name; kind = port_kind p.output; width = w } in
    ports_no_out ps gens (made ++ s ∷ []) (no_out_behind made s (port_no_out s p.output refl) ∙ h))

-- ---- the walk

abbrev MadeOuts : List Module → Made → Type 0
MadeOuts modules made = OutsOk modules made.content

with_signal_outs : (modules : List Module) (made : Made) (s : Signal) → NoOut s → MadeOuts modules made → MadeOuts modules (with_signal made s)
with_signal_outs modules made s e h = no_out_behind made.content.signals s e ∙ h

with_child_outs : (modules : List Module) (made : Made) (want : Asked) (list : List Instance) → first_signals list ≡ signals_by modules want.found.0 want.params → MadeOuts modules made → MadeOuts modules (with_child made want list)
with_child_outs modules made want list e h =
    let k = length made.content.children in
    let new = child_outputs want.line k want.name (signals_by modules want.found.0 want.params) in
    ap (λ (l : List Signal). child_outs (made.content.signals ++ child_outputs want.line k want.name l)) e
    ∙ flat_append (λ (t : Signal). if_child_out t t.kind) made.content.signals new
    ∙ ap₂ (λ (l m : List Signal). l ++ m) h (all_outs want.line k want.name (signals_by modules want.found.0 want.params) ∙ sym (append-nil new))
    ∙ sym (flat_append (met_outputs modules) (enumerate_from 0 made.content.children) ((k, child_of want) ∷ []))
    ∙ ap (flat_map (met_outputs modules)) (ap (λ n. enumerate_from 0 made.content.children ++ (n, child_of want) ∷ []) (sym (none k)) ∙ sym (enumerate_append 0 made.content.children (child_of want ∷ [])))
  where
    none : (n : ℕ) → 0 + n ≡ n
    none n = omega arith

module _ (modules : List Module) (room : ℕ) (enter : Enter) (enters : EnterOk modules room enter) (here : Here) where
  mutual
    unfolding item_walk out and_then

    item_outs : (i : tree.Item) (gens : Gens) (made : Made) → MadeOuts modules made → Yields (MadeOuts modules) (item_walk modules enter here i gens made)
    item_outs (wire line x w) gens made h = yields_then _ (wire_signal line gens x w) _ (λ s e. yields_it (MadeOuts modules) _ (with_signal_outs modules made s (wire_no_out line gens x w s e) h))
    item_outs (reg line x w l) gens made h = yields_then _ (register line gens x w l) _ (λ s e. yields_it (MadeOuts modules) _ (with_signal_outs modules made s (reg_no_out line gens x w l s e) h))
    item_outs (inst line x y args cs) gens made h =
        yields_then _ (asked modules line gens x y args cs) _ (λ want e.
        yields_then _ (enter want here (here.number + 1 + length made.below)) _ (λ list g.
        let ok = enters want here (here.number + 1 + length made.below) (asked_stands modules line gens x y args cs want e) list g in
        yields_it (MadeOuts modules) (with_child made want list) (with_child_outs modules made want list (first_given modules ok.0 ok.1) h)))
    item_outs (comb line body) gens made h = yields_then _ (statements body gens Done) _ (λ b e. yields_it (MadeOuts modules) _ h)
    item_outs (ff line body) gens made h = yields_then _ (statements body gens Done) _ (λ b e. yields_it (MadeOuts modules) _ h)
    item_outs (repeat_items line x from to body) gens made h =
        yields_then _ (two_numbers line gens from to) _ (λ range e. yields_then _ (turn_count line range.0 range.1) _ (λ count g.
        turns_yield (MadeOuts modules) line (λ k more. items_walk modules enter here body (bound x k gens) more) range.0 count made h (λ k more p. items_outs body (bound x k gens) more p)))
    item_outs (given_items line left cmp right first second) gens made h =
        yields_then _ (two_numbers line gens left right) _ (λ pair e.
        either_yields (MadeOuts modules) (holds cmp pair.0 pair.1) (items_walk modules enter here first gens made) (else_walk modules enter here second gens made) (items_outs first gens made h) (else_outs second gens made h))

    items_outs : (body : Items) (gens : Gens) (made : Made) → MadeOuts modules made → Yields (MadeOuts modules) (items_walk modules enter here body gens made)
    items_outs no_item gens made h = yields_it (MadeOuts modules) made h
    items_outs (item i rest) gens made h = yields_then _ (item_walk modules enter here i gens made) (λ more. items_walk modules enter here rest gens more) (λ more e. items_outs rest gens more (item_outs i gens made h more e))

    else_outs : (y : ElseItems) (gens : Gens) (made : Made) → MadeOuts modules made → Yields (MadeOuts modules) (else_walk modules enter here y gens made)
    else_outs no_else_items gens made h = yields_it (MadeOuts modules) made h
    else_outs (otherwise_items body) gens made h = items_outs body gens made h

  module_outs : (m : Module) (params : Gens) → Yields (MadeOuts modules) (module_walk modules enter here m params)
  unfolding module_walk
  module_outs m params = yields_then _ (ports m.ports params []) _ (λ signals e.
      items_outs m.items params (record nothing { content = record (nothing.content) { signals = signals } }) (ports_no_out m.ports params [] refl signals e))

some_outs : (modules : List Module) (content : Content) (o : Option Made) → ((made : Made) → o ≡ Some made → MadeOuts modules made) → HasSome (λ made. made.content ≡ content) o → OutsOk modules content
some_outs modules content None f h = absurd h
some_outs modules content (Some made) f h = subst (OutsOk modules) h (f made refl)

-- so it is in each instance
pub given_outs : (modules : List Module) (i : Instance) → IsGiven modules i → OutsOk modules i.content
given_outs modules i h =
    some_outs modules i.content (module_out modules h.«module» i.params)
    (module_outs modules 32 (instance modules 32) (instance_ok modules 32 (omega arith)) blank h.«module» i.params) h.gives
