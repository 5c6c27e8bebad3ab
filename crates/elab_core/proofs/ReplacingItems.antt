-- Elaboration with a list of names and numbers is elaboration by substitution: items, modules, instances and the top.
use Rattle.std.proofs.Common.{◌≡◌, ℕ, zero, suc, ◌+◌, ◌<◌, ◌≤◌, Bool, true, false, ℤ, pos, ◌+ℤ◌, ◌-ℤ◌, List, [], ◌∷◌, ◌++◌, length, Option, Some, None, if◌then◌else◌, bytes_eq, nat_le, refl, sym, ap, ap₂, ◌∙◌, arith, codes}
use Rattle.gen_tree.specs.Tree as tree
use Rattle.gen_tree.specs.Tree.{Int, Fam, Lit, Stmts, Param, wire, reg, inst, comb, ff, repeat_items, given_items, Items, no_item, item, ElseItems, no_else_items, otherwise_items, Port, Module}
use Rattle.elab_core.specs.declared.fault.Count.TheVariants.{Signals, Instances}
use Rattle.elab_core.specs.Walk.{Walk, Gives, Faulty, Counted, ElabRange, UnknownParameter, and_then, counts}
use Rattle.exec_core.specs.Block.{Name}
use Rattle.elab_core.specs.Numbers.{IsInRange, AreInRange, find, bound, number, fam_name, two_numbers, turn_count, turns_of, holds}
use Rattle.design_core.specs.declared.Kind.TheVariants.{Reg, Wire}
use Rattle.design_core.specs.declared.Signal.{Signal}
use Rattle.design_core.specs.Design.{Gens, Conn, Done}
use Rattle.elab_core.specs.Elab.{turns, statements, places, only, module_named, is_free, distinct, arguments, given_or, parameters, values, port_kind, ports, conns, Asked, asked, count_outputs, Made, nothing, with_signal, with_block, with_child, Here, Enter, register, wire_signal, item_walk, items_walk, else_walk, module_walk, instances_of, instance, top_arguments, top_values, top_walk}
use Rattle.elab_core.specs.Replace.{Numbers, put, put_fam, put_lit, but, put_stmts, put_params, put_conns, put_item, put_items, put_else_items, put_ports, only_this, closed_body, closed_stmts, loops_stmts}
use Rattle.elab_core.specs.Closed.{closed_item, closed_items, closed_else_items, closed_all, loops_item, loops_items, loops_else_items, closed_module, closed_instance, closed_top, NestBelow}
use Rattle.elab_core.proofs.Replacing.{Yields, same_then, IsFine, fine_find, fine_bound, fine_behind, number_put, fam_put, two_put, lit_put, expr_put, both, put_twice, fam_twice, lit_twice, expr_twice, stmts_twice, but_both, bound_find, yields_then, number_yields, Both, two_yields, turn_fine, same_turns, stmts_level, body_put}

-- ---- what stands in an item, with its names replaced

arguments_put : (line : ℕ) (gens : Gens) (params args : List Param) (given_so : Gens) → AreInRange gens → arguments line gens params args given_so ≡ arguments line [] params (put_params (find gens) args) given_so
unfolding arguments
arguments_put line gens params [] given_so h = refl
arguments_put line gens params (a ∷ args) given_so h =
    ap₂ (λ v (f : ℤ → Walk Gens). if is_free params given_so a.name then and_then v f else Faulty (UnknownParameter line a.name)) (number_put line gens a.value h) (λ i n. arguments_put line gens params args (given_so ++ (a.name, n) ∷ []) h i)

values_put : (line : ℕ) (gens : Gens) (found : Module) (args : List Param) → AreInRange gens → values line gens found args ≡ values line [] found (put_params (find gens) args)
unfolding values
values_put line gens found args h = ap (λ w. and_then (distinct found.line [] found.params) (λ one_each. and_then w (λ given_so. parameters found.line found.params given_so []))) (arguments_put line gens found.params args [] h)

conns_put : (cs : List tree.Conn) (gens : Gens) (made : List Conn) → AreInRange gens → conns cs gens made ≡ conns (put_conns (find gens) cs) [] made
unfolding conns
conns_put [] gens made h = refl
conns_put (c ∷ cs) gens made h = λ i. and_then (expr_put c.line gens c.value h i) (λ v. conns_put cs gens (made ++ record { line = c.line; port = c.port; value = v } ∷ []) h i)

asked_put : (ms : List Module) (line : ℕ) (gens : Gens) (f : Fam) (child : Name) (args : List Param) (cs : List tree.Conn) → AreInRange gens → asked ms line gens f child args cs ≡ asked ms line [] (put_fam (find gens) f) child (put_params (find gens) args) (put_conns (find gens) cs)
unfolding asked
asked_put ms line gens f child args cs h = λ i. and_then (fam_put line gens f h i) (λ name. and_then (module_named ms line child) (λ found. and_then (values_put line gens found.1 args h i) (λ params. and_then (conns_put cs gens [] h i) (λ made. Gives (record { line = line; name = name; found = found; params = params; conns = made })))))

wire_put : (line : ℕ) (gens : Gens) (f : Fam) (w : Int) → AreInRange gens → wire_signal line gens f w ≡ wire_signal line [] (put_fam (find gens) f) (put (find gens) w)
unfolding wire_signal
wire_put line gens f w h = ap₂ (λ v u. and_then v (λ x. and_then u (λ n. Gives (record { line = line; name = x; kind = Wire; width = n })))) (fam_put line gens f h) (number_put line gens w h)

register_put : (line : ℕ) (gens : Gens) (f : Fam) (w : Int) (l : Lit) → AreInRange gens → register line gens f w l ≡ register line [] (put_fam (find gens) f) (put (find gens) w) (put_lit (find gens) l)
unfolding register
register_put line gens f w l h = λ i. and_then (fam_put line gens f h i) (λ x. and_then (number_put line gens w h i) (λ n. and_then (lit_put line gens l h i) (λ start. Gives (record { line = line; name = x; kind = Reg start; width = n }))))

ports_put : (ps : List Port) (gens : Gens) (made : List Signal) → AreInRange gens → ports ps gens made ≡ ports (put_ports (find gens) ps) [] made
unfolding ports
ports_put [] gens made h = refl
ports_put (p ∷ ps) gens made h = λ i. and_then (number_put p.line gens p.width h i) (λ w. and_then (counts Signals p.line) (λ counted. ports_put ps gens (made ++ record { line = p.line; name = p.name; kind = port_kind p.output; width = w } ∷ []) h i))

-- ---- two replacements in items

params_twice : (σ τ : Numbers) (ps : List Param) → put_params τ (put_params σ ps) ≡ put_params (both σ τ) ps
params_twice σ τ [] = refl
params_twice σ τ (p ∷ ps) = λ i. record { name = p.name; value = put_twice σ τ p.value i } ∷ params_twice σ τ ps i

conns_twice : (σ τ : Numbers) (cs : List tree.Conn) → put_conns τ (put_conns σ cs) ≡ put_conns (both σ τ) cs
conns_twice σ τ [] = refl
conns_twice σ τ (c ∷ cs) = λ i. record { line = c.line; port = c.port; value = expr_twice σ τ c.value i } ∷ conns_twice σ τ cs i

mutual
  unfolding put_item

  item_twice : (σ τ : Numbers) (i : tree.Item) → put_item τ (put_item σ i) ≡ put_item (both σ τ) i
  item_twice σ τ (wire line f w) = λ i. wire line (fam_twice σ τ f i) (put_twice σ τ w i)
  item_twice σ τ (reg line f w l) = λ i. reg line (fam_twice σ τ f i) (put_twice σ τ w i) (lit_twice σ τ l i)
  item_twice σ τ (inst line f x args cs) = λ i. inst line (fam_twice σ τ f i) x (params_twice σ τ args i) (conns_twice σ τ cs i)
  item_twice σ τ (comb line body) = λ i. comb line (stmts_twice σ τ body i)
  item_twice σ τ (ff line body) = λ i. ff line (stmts_twice σ τ body i)
  item_twice σ τ (repeat_items line x from to body) = λ i. repeat_items line x (put_twice σ τ from i) (put_twice σ τ to i) ((items_twice (but x σ) (but x τ) body ∙ ap (λ ρ. put_items ρ body) (but_both x σ τ)) i)
  item_twice σ τ (given_items line left c right first second) = λ i. given_items line (put_twice σ τ left i) c (put_twice σ τ right i) (items_twice σ τ first i) (else_items_twice σ τ second i)

  items_twice : (σ τ : Numbers) (body : Items) → put_items τ (put_items σ body) ≡ put_items (both σ τ) body
  items_twice σ τ no_item = refl
  items_twice σ τ (item i rest) = λ j. item (item_twice σ τ i j) (items_twice σ τ rest j)

  else_items_twice : (σ τ : Numbers) (e : ElseItems) → put_else_items τ (put_else_items σ e) ≡ put_else_items (both σ τ) e
  else_items_twice σ τ no_else_items = refl
  else_items_twice σ τ (otherwise_items body) = λ j. otherwise_items (items_twice σ τ body j)

items_turn_twice : (x : Name) (k : ℤ) (gens : Gens) (body : Items) → put_items (only_this x k) (put_items (but x (find gens)) body) ≡ put_items (find (bound x k gens)) body
items_turn_twice x k gens body = items_twice (but x (find gens)) (only_this x k) body ∙ ap (λ σ. put_items σ body) (bound_find x k gens)

-- ---- what is asked for is in range, and its module is one of the source

pub free_yields : (b : Bool) (line : ℕ) (x : Name) (w : Walk Gens) → Yields AreInRange w → Yields AreInRange (if b then w else Faulty (UnknownParameter line x))
unfolding Yields
free_yields true line x w h = h
free_yields false line x w h = tt

arguments_yield : (line : ℕ) (gens : Gens) (params args : List Param) (given_so : Gens) → AreInRange gens → AreInRange given_so → Yields AreInRange (arguments line gens params args given_so)
unfolding arguments Yields
arguments_yield line gens params [] given_so h g = g
arguments_yield line gens params (a ∷ args) given_so h g =
    free_yields (is_free params given_so a.name) line a.name _
    (yields_then IsInRange AreInRange (number line gens a.value) (λ n. arguments line gens params args (given_so ++ (a.name, n) ∷ [])) (number_yields line gens a.value h)
    (λ n p. arguments_yield line gens params args (given_so ++ (a.name, n) ∷ []) h (fine_behind given_so a.name n g p)))

given_yields : (o : Option ℤ) (w : Walk ℤ) → IsFine o → Yields IsInRange w → Yields IsInRange (given_or o w)
unfolding Yields
given_yields None w f h = h
given_yields (Some n) w f h = f

pub parameters_yield : (line : ℕ) (ps : List Param) (given_so done : Gens) → AreInRange given_so → AreInRange done → Yields AreInRange (parameters line ps given_so done)
unfolding parameters Yields
parameters_yield line [] given_so done g h = h
parameters_yield line (p ∷ ps) given_so done g h =
    yields_then IsInRange AreInRange (given_or (find given_so p.name) (number line done p.value)) (λ n. parameters line ps given_so (done ++ (p.name, n) ∷ []))
    (given_yields (find given_so p.name) (number line done p.value) (fine_find given_so p.name g) (number_yields line done p.value h))
    (λ n q. parameters_yield line ps given_so (done ++ (p.name, n) ∷ []) g (fine_behind done p.name n h q))

abbrev pub Anything : {A : Type 0} → A → Type 0
Anything a = Unit {0}

pub any_yields : {A : Type 0} (w : Walk A) → Yields Anything w
unfolding Yields
any_yields (Gives a) = tt
any_yields (Faulty fault) = tt
any_yields (Counted what line w) = any_yields w

pub values_yield : (line : ℕ) (gens : Gens) (found : Module) (args : List Param) → AreInRange gens → Yields AreInRange (values line gens found args)
unfolding values
values_yield line gens found args h =
    yields_then Anything AreInRange (distinct found.line [] found.params) _ (any_yields (distinct found.line [] found.params))
    (λ u t. yields_then AreInRange AreInRange (arguments line gens found.params args []) _ (arguments_yield line gens found.params args [] h tt)
    (λ given_so g. parameters_yield found.line found.params given_so [] g tt))

abbrev Nests : ℕ → ℕ × Module → Type 0
Nests depth found = loops_items found.1.items < depth

abbrev AllNest : ℕ → List (ℕ × Module) → Type 0
AllNest depth [] = Unit {0}
AllNest depth (found ∷ more) = Nests depth found × AllNest depth more

places_nest : (depth : ℕ) (x : Name) (at : ℕ) (modules : List Module) → NestBelow depth modules → AllNest depth (places x at modules)
places_nest depth x at [] h = tt
places_nest depth x at (m ∷ modules) h = elim (bytes_eq m.name x) as (λ b. AllNest depth (if b then (at, m) ∷ places x (at + 1) modules else places x (at + 1) modules)) [ true ↦ (h.0, places_nest depth x (at + 1) modules h.1) | false ↦ places_nest depth x (at + 1) modules h.1 ]

only_nests : (depth line : ℕ) (x : Name) (found : List (ℕ × Module)) → AllNest depth found → Yields (Nests depth) (only line x found)
unfolding Yields
only_nests depth line x [] h = tt
only_nests depth line x (found ∷ []) h = h.0
only_nests depth line x (found ∷ (again ∷ more)) h = tt

named_nests : (depth : ℕ) (modules : List Module) (line : ℕ) (x : Name) → NestBelow depth modules → Yields (Nests depth) (module_named modules line x)
named_nests depth modules line x h = only_nests depth line x (places x 0 modules) (places_nest depth x 0 modules h)

abbrev Good : ℕ → Asked → Type 0
Good depth want = Nests depth want.found × AreInRange want.params

asked_yields : (depth : ℕ) (ms : List Module) (line : ℕ) (gens : Gens) (f : Fam) (child : Name) (args : List Param) (cs : List tree.Conn) → NestBelow depth ms → AreInRange gens → Yields (Good depth) (asked ms line gens f child args cs)
unfolding asked Yields
asked_yields depth ms line gens f child args cs n h =
    yields_then Anything (Good depth) (fam_name line gens f) _ (any_yields (fam_name line gens f))
    (λ name u. yields_then (Nests depth) (Good depth) (module_named ms line child) _ (named_nests depth ms line child n)
    (λ found p. yields_then AreInRange (Good depth) (values line gens found.1 args) _ (values_yield line gens found.1 args h)
    (λ params q. yields_then Anything (Good depth) (conns cs gens []) _ (any_yields (conns cs gens []))
    (λ made v. (p, q)))))

-- ---- items, where the turns of their loops, and what instances give, are known to agree

module _ (total : ℕ) (ms : List Module) (nest : NestBelow total ms) (enter closed_enter : Enter) (same : (want : Asked) (here : Here) (at : ℕ) → Good total want → enter want here at ≡ closed_enter want here at) (here : Here) where
  abbrev ItemsBelow : ℕ → Type 0
  ItemsBelow d = (body : Items) (gens : Gens) (made : Made) → AreInRange gens → loops_items body < d → items_walk ms enter here body gens made ≡ closed_all d ms closed_enter here gens (put_items (find gens) body) made

  module _ (d : ℕ) (inner : ItemsBelow d) where
    one_items_turn : (x : Name) (k : ℤ) (body : Items) (gens : Gens) (made : Made) → AreInRange gens → IsInRange k → loops_items body < d → items_walk ms enter here body (bound x k gens) made ≡ closed_all d ms closed_enter here (bound x k gens) (put_items (only_this x k) (put_items (but x (find gens)) body)) made
    one_items_turn x k body gens made h p l = inner body (bound x k gens) made (fine_bound x k gens h p) l ∙ ap (λ b. closed_all d ms closed_enter here (bound x k gens) b made) (sym (items_turn_twice x k gens body))

    abbrev open_items_turn : Name → Items → Gens → ℤ → Made → Walk Made
    open_items_turn x body gens k more = items_walk ms enter here body (bound x k gens) more

    abbrev closed_items_turn : Name → Items → Gens → ℤ → Made → Walk Made
    closed_items_turn x body gens k more = closed_all d ms closed_enter here (bound x k gens) (put_items (only_this x k) (put_items (but x (find gens)) body)) more

    all_items_turns : (line : ℕ) (x : Name) (body : Items) (gens : Gens) (made : Made) (range : ℤ × ℤ) → AreInRange gens → loops_items body < d → Both range →
        and_then (turn_count line range.0 range.1) (λ count. turns line (open_items_turn x body gens) range.0 count made) ≡ and_then (turn_count line range.0 range.1) (λ count. turns line (closed_items_turn x body gens) range.0 count made)
    unfolding and_then
    all_items_turns line x body gens made range h l p = in_case (nat_le (turns_of (range.1 -ℤ range.0)) 4096)
      where
        in_case : (b : Bool) → and_then (if b then Gives (turns_of (range.1 -ℤ range.0)) else Faulty (ElabRange line)) (λ count. turns line (open_items_turn x body gens) range.0 count made) ≡ and_then (if b then Gives (turns_of (range.1 -ℤ range.0)) else Faulty (ElabRange line)) (λ count. turns line (closed_items_turn x body gens) range.0 count made)
        in_case true = same_turns line (open_items_turn x body gens) (closed_items_turn x body gens) range.0 (turns_of (range.1 -ℤ range.0)) made (λ i k m. one_items_turn x (range.0 +ℤ pos i) body gens m h (turn_fine range.0 range.1 i p.0 p.1 k) l)
        in_case false = refl

    block_level : (line : ℕ) (clocked : Bool) (body : Stmts) (gens : Gens) (made : Made) → AreInRange gens → loops_stmts body ≤ d →
        and_then (statements body gens Done) (λ b. Gives (with_block made (record { line = line; clocked = clocked; body = b }))) ≡ and_then (closed_stmts (closed_body d) gens (put_stmts (find gens) body) Done) (λ b. Gives (with_block made (record { line = line; clocked = clocked; body = b })))
    block_level line clocked body gens made h l = ap (λ w. and_then w (λ b. Gives (with_block made (record { line = line; clocked = clocked; body = b })))) (stmts_level d (body_put d) body gens Done h l)

    mutual
      unfolding item_walk closed_item put_item loops_item

      item_level : (i : tree.Item) (gens : Gens) (made : Made) → AreInRange gens → loops_item i ≤ d → item_walk ms enter here i gens made ≡ closed_item (closed_body d) (closed_all d ms closed_enter here) ms closed_enter here gens (put_item (find gens) i) made
      item_level (wire line f w) gens made h l = ap (λ w. and_then w (λ s. and_then (counts Signals line) (λ u. Gives (with_signal made s)))) (wire_put line gens f w h)
      item_level (reg line f w v) gens made h l = ap (λ w. and_then w (λ s. and_then (counts Signals line) (λ u. Gives (with_signal made s)))) (register_put line gens f w v h)
      item_level (inst line f x args cs) gens made h l =
          same_then (Good total) (asked ms line gens f x args cs) _ _ (asked_yields total ms line gens f x args cs nest h) (λ want good. ap (λ w. and_then w (λ instances. Gives (with_child made want instances))) (same want here (here.number + 1 + length made.below) good))
          ∙ ap (λ w. and_then w (λ want. and_then (closed_enter want here (here.number + 1 + length made.below)) (λ instances. Gives (with_child made want instances)))) (asked_put ms line gens f x args cs h)
      item_level (comb line body) gens made h l = block_level line false body gens made h l
      item_level (ff line body) gens made h l = block_level line true body gens made h l
      item_level (repeat_items line x from to body) gens made h l =
          let m : loops_items body < d = omega arith in
          same_then Both (two_numbers line gens from to) _ _ (two_yields line gens from to h) (λ range p. all_items_turns line x body gens made range h m p)
          ∙ ap (λ w. and_then w (λ range. and_then (turn_count line range.0 range.1) (λ count. turns line (closed_items_turn x body gens) range.0 count made))) (two_put line gens from to h)
      item_level (given_items line left c right first second) gens made h l =
          let m : loops_items first ≤ d = omega arith in
          let n : loops_else_items second ≤ d = omega arith in
          λ j. and_then (two_put line gens left right h j) (λ pair. if holds c pair.0 pair.1 then items_level first gens made h m j else else_items_level second gens made h n j)

      items_level : (body : Items) (gens : Gens) (made : Made) → AreInRange gens → loops_items body ≤ d → items_walk ms enter here body gens made ≡ closed_items (closed_body d) (closed_all d ms closed_enter here) ms closed_enter here gens (put_items (find gens) body) made
      items_level no_item gens made h l = refl
      items_level (item i rest) gens made h l =
          let m : loops_item i ≤ d = omega arith in
          let n : loops_items rest ≤ d = omega arith in
          λ j. and_then (item_level i gens made h m j) (λ more. items_level rest gens more h n j)

      else_items_level : (e : ElseItems) (gens : Gens) (made : Made) → AreInRange gens → loops_else_items e ≤ d → else_walk ms enter here e gens made ≡ closed_else_items (closed_body d) (closed_all d ms closed_enter here) ms closed_enter here gens (put_else_items (find gens) e) made
      else_items_level no_else_items gens made h l = refl
      else_items_level (otherwise_items body) gens made h l = items_level body gens made h l

  items_put : (d : ℕ) (body : Items) (gens : Gens) (made : Made) → AreInRange gens → loops_items body < d → items_walk ms enter here body gens made ≡ closed_all d ms closed_enter here gens (put_items (find gens) body) made
  unfolding closed_all
  items_put zero body gens made h l = absurd (omega arith)
  items_put (suc d) body gens made h l = items_level d (items_put d) body gens made h (omega arith)

  module_put : (m : Module) (params : Gens) → AreInRange params → loops_items m.items < total → module_walk ms enter here m params ≡ closed_module total ms closed_enter here m params
  unfolding module_walk closed_module
  module_put m params h l = λ i. and_then (ports_put m.ports params [] h i) (λ signals. items_put total m.items params (record nothing { content = record (nothing.content) { signals = signals } }) h l i)

-- ---- instances and the top

instance_put : (total : ℕ) (ms : List Module) → NestBelow total ms → (room : ℕ) (want : Asked) (here : Here) (at : ℕ) → Good total want → instance ms room want here at ≡ closed_instance total ms room want here at
unfolding instance closed_instance
instance_put total ms nest zero want here at good = refl
instance_put total ms nest (suc room) want here at good = λ i.
    and_then (counts Instances want.line) (λ counted. and_then (count_outputs want.line want.found.1.ports) (λ outputs.
    and_then (module_put total ms nest (instance ms room) (closed_instance total ms room) (instance_put total ms nest room) (record { path = here.path ++ (codes "." ++ want.name); number = at }) want.found.1 want.params good.1 good.0 i)
    (λ made. Gives (instances_of (here.path ++ (codes "." ++ want.name)) (Some here.number) want.found.0 want.params made))))

top_free : (b : Bool) (x : Name) (w : Walk Gens) → Yields AreInRange w → Yields AreInRange (if b then w else Faulty (UnknownParameter 0 x))
top_free b x w h = free_yields b 0 x w h

top_arguments_yield : (params : List Param) (rest given_so : Gens) → AreInRange rest → AreInRange given_so → Yields AreInRange (top_arguments params rest given_so)
unfolding top_arguments Yields
top_arguments_yield params [] given_so h g = g
top_arguments_yield params (a ∷ rest) given_so h g = top_free (is_free params given_so a.0) a.0 _ (top_arguments_yield params rest (given_so ++ a ∷ []) h.1 (fine_behind given_so a.0 a.1 g h.0))

pub top_values_yield : (found : Module) (rest : Gens) → AreInRange rest → Yields AreInRange (top_values found rest)
unfolding top_values
top_values_yield found rest h =
    yields_then Anything AreInRange (distinct found.line [] found.params) _ (any_yields (distinct found.line [] found.params))
    (λ u t. yields_then AreInRange AreInRange (top_arguments found.params rest []) _ (top_arguments_yield found.params rest [] h tt)
    (λ given_so g. parameters_yield found.line found.params given_so [] g tt))

-- elaboration with lists of names and numbers is elaboration by substitution
pub top_put : (total : ℕ) (ms : List Module) (top : Name) (rest : Gens) → NestBelow total ms → AreInRange rest → top_walk ms top rest ≡ closed_top total ms top rest
unfolding top_walk closed_top
top_put total ms top rest nest h =
    same_then (Nests total) (module_named ms 0 top) _ _ (named_nests total ms 0 top nest)
    (λ found n. same_then AreInRange (top_values found.1 rest) _ _ (top_values_yield found.1 rest h)
    (λ params p. λ i. and_then (counts Instances 0) (λ counted.
    and_then (module_put total ms nest (instance ms 32) (closed_instance total ms 32) (instance_put total ms nest 32) (record { path = top; number = 0 }) found.1 params p n i)
    (λ made. Gives (instances_of top None found.0 params made)))))
