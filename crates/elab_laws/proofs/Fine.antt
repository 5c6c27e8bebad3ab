-- The numbers that elaboration gives are in range, its lists are few, its lines are lines, and its names come from names of the source.
use Rattle.std.proofs.Common.{◌≡◌, ℕ, zero, suc, ◌+◌, ◌<◌, ◌≤◌, Bool, true, false, ℤ, pos, negsuc, ◌+ℤ◌, ◌-ℤ◌, List, [], ◌∷◌, ◌++◌, length, length-append, ◌^◌, bytes_eq, Option, Some, None, if◌then◌else◌, nat_le, codes, decimal, ◌⊎◌, inl, inr, refl, sym, ap, subst, arith}
use Rattle.std.proofs.lemmas.Int.{ints}
use Rattle.std.specs.List.{slice_get, flat_map}
use Rattle.gen_tree.specs.Tree as tree
use Rattle.gen_tree.specs.Tree.{Fam, Int, Lit, Param, assign, bind, choose, select, repeat, given, Stmts, no_stmt, stmt, no_else, otherwise, no_arm, arm, wire, reg, inst, comb, ff, repeat_items, given_items, Items, no_item, item, ElseItems, no_else_items, otherwise_items, Port, Module}
use Rattle.exec_core.specs.Block.{Name}
use Rattle.list_core.specs.Lists.{EachOf}
use Rattle.design_core.specs.declared.Signal.{Signal}
use Rattle.design_core.specs.declared.Kind.{Kind}
use Rattle.design_core.specs.declared.Kind.TheVariants.{Input, Output, Wire, Reg, ChildOut}
use Rattle.design_core.specs.Design.{Gens, IsInRange, AreInRange, Stmt, Assign, Let, If, Case, Body, Done, Then, Else, NoElse, Otherwise, Arms, NoArms, ThenArm, arms_from, Conn, Block}
use Rattle.design_core.specs.declared.Literal.{Literal}
use Rattle.design_core.specs.Slots.{Head, heads, stmt_heads, else_heads, arms_heads, arms_size}
use Rattle.design_core.specs.WellFormed.{IfPort, IsLine, AreFew}
use Rattle.elab_core.specs.Walk.{Walk, Gives, Faulty, Counted, and_then, ElabRange}
use Rattle.elab_core.specs.Numbers.{bound, without, number, family, index_name, fam_name, two_numbers, turn_count, turns_of, holds}
use Rattle.elab_core.specs.Elaborated.{added, Child, Content, Instance}
use Rattle.elab_core.specs.Elab.{literal, literals, part_bounds, expr, turns, statement, statements, arm_bodies, else_body, else_statements, places, only, module_named, values, conns, Asked, asked, Made, nothing, with_signal, with_block, with_child, first_signals, child_of, output_as, child_outputs, port_kind, Here, Enter, register, wire_signal, item_walk, items_walk, else_walk, ports, module_walk, instance}
use Rattle.elab_core.specs.Design.{size, stmt_size, numbered, numbered_stmt, numbered_else, numbered_arms, numbered_blocks}
use Rattle.elab_core.proofs.Replacing.{Yields, yields_then, number_yields, two_yields, Both, turn_fine, fine_bound}
use Rattle.elab_core.proofs.ReplacingItems.{Anything, any_yields, values_yield}
use Rattle.elab_laws.proofs.Contents.{out, HasSome}
use Rattle.elab_laws.proofs.Params.{AtMost, yields_both, values_few}
use Rattle.elab_laws.proofs.Shapes.{IsTree, a_tree, AreTrees, no_trees, one_behind, IsGiven, EachGiven, blank}

-- ---- lists

pub both_each : {A : Type 0} (P : A → Type 0) (xs ys : List A) → EachOf P xs → EachOf P ys → EachOf P (xs ++ ys)
both_each P [] ys h g = g
both_each P (x ∷ xs) ys h g = (h.0, both_each P xs ys h.1 g)

pub each_parts : {A : Type 0} (P : A → Type 0) (xs ys : List A) → EachOf P (xs ++ ys) → EachOf P xs × EachOf P ys
each_parts P [] ys h = (tt, h)
each_parts P (x ∷ xs) ys h = let rest = each_parts P xs ys h.1 in ((h.0, rest.0), rest.1)

-- ---- loops

yields_turns : {A : Type 0} (Q : A → Type 0) (line : ℕ) (f : ℤ → A → Walk A) (k : ℤ) (count : ℕ) (made : A) → Q made → ((i : ℕ) → i < count → (a : A) → Q a → Yields Q (f (k +ℤ pos i) a)) → Yields Q (turns line f k count made)
unfolding turns Yields and_then
yields_turns Q line f k zero made h each = h
yields_turns Q line f k (suc count) made h each =
    yields_then Q Q (f k made) (λ more. turns line f (k +ℤ pos 1) count more) (subst (λ z. Yields Q (f z made)) (stays k) (each 0 (omega arith) made h))
    (λ more p. yields_turns Q line f (k +ℤ pos 1) count more p (λ i l a q. subst (λ z. Yields Q (f z a)) (later k i) (each (suc i) (omega (arith, l)) a q)))
  where
    stays : (k : ℤ) → k +ℤ pos 0 ≡ k
    stays k = grind (arith, ints)

    later : (k : ℤ) (i : ℕ) → k +ℤ pos (suc i) ≡ (k +ℤ pos 1) +ℤ pos i
    later k i = grind (arith, ints)

-- each turn's number is in range
yields_loop : {A : Type 0} (Q : A → Type 0) (line : ℕ) (f : ℤ → A → Walk A) (range : ℤ × ℤ) (made : A) → Both range → Q made → ((k : ℤ) → IsInRange k → (a : A) → Q a → Yields Q (f k a))
    → Yields Q (and_then (turn_count line range.0 range.1) (λ count. turns line f range.0 count made))
unfolding and_then Yields
yields_loop Q line f range made p h each = in_case (nat_le (turns_of (range.1 -ℤ range.0)) 4096)
  where
    in_case : (b : Bool) → Yields Q (and_then (if b then Gives (turns_of (range.1 -ℤ range.0)) else Faulty (ElabRange line)) (λ count. turns line f range.0 count made))
    in_case true = yields_turns Q line f range.0 (turns_of (range.1 -ℤ range.0)) made h (λ i l a q. each (range.0 +ℤ pos i) (turn_fine range.0 range.1 i p.0 p.1 l) a q)
    in_case false = tt

yields_either : {A : Type 0} (Q : A → Type 0) (b : Bool) (v w : Walk A) → Yields Q v → Yields Q w → Yields Q (if b then v else w)
yields_either Q true v w h g = h
yields_either Q false v w h g = g

-- ---- generator variables

-- numbers in range, at most so many
abbrev pub GensFine : ℕ → Gens → Type 0
GensFine n gens = AreInRange gens × AtMost n gens

without_few : (x : Name) (gens : Gens) → length (without x gens) ≤ length gens
without_few x [] = omega arith
without_few x (g ∷ gens) = elim (bytes_eq g.0 x) as (λ b. length (if b then without x gens else g ∷ without x gens) ≤ length (g ∷ gens)) [
  | true ↦ omega (arith, without_few x gens)
  | false ↦ omega (arith, without_few x gens)
]

-- one more in a loop
bound_gens : (n : ℕ) (x : Name) (k : ℤ) (gens : Gens) → GensFine n gens → IsInRange k → GensFine (n + 1) (bound x k gens)
bound_gens n x k gens h r = (fine_bound x k gens h.0 r, omega (arith, h.1, without_few x gens, length-append (without x gens) ((x, k) ∷ [])))

-- ---- statements

abbrev pub HeadFine : Head → Type 0
HeadFine h = AreInRange h.gens × AreFew h.gens × IsLine h.line

-- a place on a line, with so many generator variables at most
abbrev pub Stands : ℕ → ℕ → Type 0
Stands n line = IsLine line × (n < 2 ^ 32)

-- statements on lines, with so many generator variables at most at each, and one more in each loop
abbrev mutual
  pub StmtOf : ℕ → tree.Stmt → Type 0
  StmtOf n (assign line f p e) = Stands n line
  StmtOf n (bind line f e) = Stands n line
  StmtOf n (choose line c first second) = Stands n line × StmtsOf n first × ElseOf n second
  StmtOf n (select line v all other) = Stands n line × ArmsOf n all × ElseOf n other
  StmtOf n (repeat line x from to body) = StmtsOf (n + 1) body
  StmtOf n (given line left c right first second) = StmtsOf n first × ElseOf n second

  pub StmtsOf : ℕ → Stmts → Type 0
  StmtsOf n no_stmt = Unit {0}
  StmtsOf n (stmt s rest) = StmtOf n s × StmtsOf n rest

  pub ElseOf : ℕ → tree.Else → Type 0
  ElseOf n no_else = Unit {0}
  ElseOf n (otherwise body) = StmtsOf n body

  pub ArmsOf : ℕ → tree.Arms → Type 0
  ArmsOf n no_arm = Unit {0}
  ArmsOf n (arm tests body more) = StmtsOf n body × ArmsOf n more

head_fine : (n slot line : ℕ) (gens : Gens) → Stands n line → GensFine n gens → HeadFine (record { slot = slot; line = line; gens = gens })
head_fine n slot line gens p h = (h.0, omega (arith, h.1, p.1), p.0)

abbrev pub BodyFine : Body → Type 0
BodyFine b = EachOf HeadFine (heads b)

added_fine : (made : Body) (s : Stmt) → BodyFine made → EachOf HeadFine (stmt_heads s) → BodyFine (added made s)
added_fine Done s h g = both_each HeadFine (stmt_heads s) [] g tt
added_fine (Then first rest) s h g =
    let parts = each_parts HeadFine (stmt_heads first) (heads rest) h in
    both_each HeadFine (stmt_heads first) (heads (added rest s)) parts.0 (added_fine rest s parts.1 g)

abbrev ElseFine : Else → Type 0
ElseFine e = EachOf HeadFine (else_heads e)

abbrev ArmsFine : List (List Literal × Body) → Type 0
ArmsFine made = EachOf HeadFine (arms_heads (arms_from made))

arm_added : (made : List (List Literal × Body)) (ls : List Literal) (b : Body) → ArmsFine made → BodyFine b → ArmsFine (made ++ (ls, b) ∷ [])
arm_added [] ls b h g = both_each HeadFine (heads b) [] g tt
arm_added (first ∷ rest) ls b h g =
    let parts = each_parts HeadFine (heads first.1) (arms_heads (arms_from rest)) h in
    both_each HeadFine (heads first.1) (arms_heads (arms_from (rest ++ (ls, b) ∷ []))) parts.0 (arm_added rest ls b parts.1 g)

mutual
  unfolding statement Yields and_then

  stmt_fine : (n : ℕ) (s : tree.Stmt) (gens : Gens) (made : Body) → StmtOf n s → GensFine n gens → BodyFine made → Yields BodyFine (statement s gens made)
  stmt_fine n (assign line f p e) gens made q h g =
      yields_then Anything BodyFine (fam_name line gens f) _ (any_yields (fam_name line gens f)) (λ x t. yields_then Anything BodyFine (part_bounds line gens p) _ (any_yields (part_bounds line gens p)) (λ part w.
      yields_then Anything BodyFine (expr line gens e) _ (any_yields (expr line gens e)) (λ v u. added_fine made (Assign 0 line gens x part v) g (head_fine n 0 line gens q h, tt))))
  stmt_fine n (bind line f e) gens made p h g =
      yields_then Anything BodyFine (fam_name line gens f) _ (any_yields (fam_name line gens f)) (λ x t. yields_then Anything BodyFine (expr line gens e) _ (any_yields (expr line gens e)) (λ v u.
      added_fine made (Let 0 line gens x v) g (head_fine n 0 line gens p h, tt)))
  stmt_fine n (choose line c first second) gens made p h g =
      yields_then Anything BodyFine (expr line gens c) _ (any_yields (expr line gens c)) (λ test t.
      yields_then BodyFine BodyFine (statements first gens Done) _ (stmts_fine n first gens Done p.1 h tt) (λ yes_body q.
      yields_then ElseFine BodyFine (else_body second gens) _ (else_fine n second gens p.2 h) (λ no_body r.
      added_fine made (If 0 line gens test yes_body no_body) g (head_fine n 0 line gens p.0 h, both_each HeadFine (heads yes_body) (else_heads no_body) q r))))
  stmt_fine n (select line v all other) gens made p h g =
      yields_then Anything BodyFine (expr line gens v) _ (any_yields (expr line gens v)) (λ value t.
      yields_then ArmsFine BodyFine (arm_bodies line all gens []) _ (arms_fine n line all gens [] p.1 h tt) (λ cases q.
      yields_then ElseFine BodyFine (else_body other gens) _ (else_fine n other gens p.2 h) (λ last r.
      added_fine made (Case 0 line gens value (arms_from cases) last) g (head_fine n 0 line gens p.0 h, both_each HeadFine (arms_heads (arms_from cases)) (else_heads last) q r))))
  stmt_fine n (repeat line x from to body) gens made p h g =
      yields_then Both BodyFine (two_numbers line gens from to) _ (two_yields line gens from to h.0) (λ range q.
      yields_loop BodyFine line (λ k more. statements body (bound x k gens) more) range made q g (λ k r more u. stmts_fine (n + 1) body (bound x k gens) more p (bound_gens n x k gens h r) u))
  stmt_fine n (given line left cmp right first second) gens made p h g =
      yields_then Anything BodyFine (two_numbers line gens left right) _ (any_yields (two_numbers line gens left right)) (λ pair t.
      yields_either BodyFine (holds cmp pair.0 pair.1) (statements first gens made) (else_statements second gens made) (stmts_fine n first gens made p.0 h g) (else_stmts_fine n second gens made p.1 h g))

  stmts_fine : (n : ℕ) (body : Stmts) (gens : Gens) (made : Body) → StmtsOf n body → GensFine n gens → BodyFine made → Yields BodyFine (statements body gens made)
  stmts_fine n no_stmt gens made p h g = g
  stmts_fine n (stmt s rest) gens made p h g =
      yields_then BodyFine BodyFine (statement s gens made) (λ more. statements rest gens more) (stmt_fine n s gens made p.0 h g) (λ more q. stmts_fine n rest gens more p.1 h q)

  arms_fine : (n line : ℕ) (all : tree.Arms) (gens : Gens) (made : List (List Literal × Body)) → ArmsOf n all → GensFine n gens → ArmsFine made → Yields ArmsFine (arm_bodies line all gens made)
  arms_fine n line no_arm gens made p h g = g
  arms_fine n line (arm tests body more) gens made p h g =
      yields_then Anything ArmsFine (literals line gens tests []) _ (any_yields (literals line gens tests [])) (λ ls t. yields_then BodyFine ArmsFine (statements body gens Done) _ (stmts_fine n body gens Done p.0 h tt) (λ b q.
      arms_fine n line more gens (made ++ (ls, b) ∷ []) p.1 h (arm_added made ls b g q)))

  else_fine : (n : ℕ) (e : tree.Else) (gens : Gens) → ElseOf n e → GensFine n gens → Yields ElseFine (else_body e gens)
  else_fine n no_else gens p h = tt
  else_fine n (otherwise body) gens p h = yields_then BodyFine ElseFine (statements body gens Done) _ (stmts_fine n body gens Done p h tt) (λ made q. q)

  else_stmts_fine : (n : ℕ) (e : tree.Else) (gens : Gens) (made : Body) → ElseOf n e → GensFine n gens → BodyFine made → Yields BodyFine (else_statements e gens made)
  else_stmts_fine n no_else gens made p h g = g
  else_stmts_fine n (otherwise body) gens made p h g = stmts_fine n body gens made p h g

-- ---- names

-- a name, or a member of its family
abbrev pub Member : (Name → Type 0) → Name → Type 0
Member P x = (base : Name) × (P base × ((x ≡ base) ⊎ ((n : ℕ) × ((n ≤ 4611686018427387904) × (x ≡ base ++ (codes "#" ++ decimal n))))))

-- the most parameters
abbrev pub most_params : ℕ
most_params = 1048576

-- items on lines whose instances have such names, with so many generator variables at most at each, and one more in each loop
abbrev mutual
  pub ItemOf : (Name → Type 0) → ℕ → tree.Item → Type 0
  ItemOf P n (wire line f w) = IsLine line
  ItemOf P n (reg line f w l) = IsLine line
  ItemOf P n (inst line f x args cs) = P f.name × IsLine line × EachOf (λ (c : tree.Conn). IsLine c.line) cs
  ItemOf P n (comb line body) = IsLine line × StmtsOf n body
  ItemOf P n (ff line body) = IsLine line × StmtsOf n body
  ItemOf P n (repeat_items line x from to body) = ItemsOf P (n + 1) body
  ItemOf P n (given_items line left c right first second) = ItemsOf P n first × ElseItemsOf P n second

  pub ItemsOf : (Name → Type 0) → ℕ → Items → Type 0
  ItemsOf P n no_item = Unit {0}
  ItemsOf P n (item i rest) = ItemOf P n i × ItemsOf P n rest

  pub ElseItemsOf : (Name → Type 0) → ℕ → ElseItems → Type 0
  ElseItemsOf P n no_else_items = Unit {0}
  ElseItemsOf P n (otherwise_items body) = ItemsOf P n body

-- a port on a line that has such a name
abbrev pub PortOf : (Name → Type 0) → Port → Type 0
PortOf P p = P p.name × IsLine p.line

-- a module that has such a name, with its ports and instances, and not too many parameters
pub record ModuleOf (P : Name → Type 0) (m : Module) : Type 0 where
  pub name : P m.name
  pub few : length m.params ≤ most_params
  pub ports : EachOf (PortOf P) m.ports
  pub items : ItemsOf P most_params m.items

small_index : (n : ℕ) → IsInRange (pos n) → n ≤ 4611686018427387904
small_index n h = grind (arith, h)

fam_member : (P : Name → Type 0) (line : ℕ) (gens : Gens) (f : Fam) → P f.name → AreInRange gens → Yields (Member P) (fam_name line gens f)
unfolding index_name Yields
fam_member P line gens f p h = by_index f.index
  where
    member : (k : ℤ) → IsInRange k → Yields (Member P) (family line f.name k)
    member (pos n) r = (f.name, (p, inr (n, (small_index n r, refl))))
    member (negsuc n) r = tt

    by_index : (o : Option Int) → Yields (Member P) (index_name line gens f.name o)
    by_index None = (f.name, (p, inl refl))
    by_index (Some i) = yields_then IsInRange (Member P) (number line gens i) (family line f.name) (number_yields line gens i h) member

-- the module of a name is one of the modules
places_each : (Q : Module → Type 0) (x : Name) (at : ℕ) (modules : List Module) → EachOf Q modules → EachOf (λ (found : ℕ × Module). Q found.1) (places x at modules)
places_each Q x at [] h = tt
places_each Q x at (m ∷ modules) h = elim (bytes_eq m.name x) as (λ b. EachOf (λ (found : ℕ × Module). Q found.1) (if b then (at, m) ∷ places x (at + 1) modules else places x (at + 1) modules)) [
  | true ↦ (h.0, places_each Q x (at + 1) modules h.1)
  | false ↦ places_each Q x (at + 1) modules h.1
]

only_each : (Q : Module → Type 0) (line : ℕ) (x : Name) (found : List (ℕ × Module)) → EachOf (λ (m : ℕ × Module). Q m.1) found → Yields (λ m. Q m.1) (only line x found)
unfolding Yields
only_each Q line x [] h = tt
only_each Q line x (m ∷ []) h = h.0
only_each Q line x (m ∷ (again ∷ more)) h = tt

named_each : (Q : Module → Type 0) (modules : List Module) (line : ℕ) (x : Name) → EachOf Q modules → Yields (λ m. Q m.1) (module_named modules line x)
named_each Q modules line x h = only_each Q line x (places x 0 modules) (places_each Q x 0 modules h)

-- connections stand on the lines on which the source has them
conn_lines : (cs : List tree.Conn) (gens : Gens) (made : List Conn) → EachOf (λ (c : tree.Conn). IsLine c.line) cs → EachOf (λ (c : Conn). IsLine c.line) made → Yields (EachOf (λ (c : Conn). IsLine c.line)) (conns cs gens made)
unfolding conns Yields
conn_lines [] gens made h g = g
conn_lines (c ∷ cs) gens made h g =
    yields_then Anything (EachOf (λ (d : Conn). IsLine d.line)) (expr c.line gens c.value) _ (any_yields (expr c.line gens c.value)) (λ v t.
    let d : Conn = record { line = c.line; port = c.port; value = v } in
    conn_lines cs gens (made ++ d ∷ []) h.1 (both_each (λ (x : Conn). IsLine x.line) made (d ∷ []) g (h.0, tt)))

abbrev pub OnLines : ℕ → List Conn → Type 0
OnLines line cs = IsLine line × EachOf (λ (c : Conn). IsLine c.line) cs

abbrev pub AskedFine : (Name → Type 0) → Asked → Type 0
AskedFine P want = Member P want.name × GensFine most_params want.params × OnLines want.line want.conns

asked_fine : (P : Name → Type 0) (modules : List Module) (n line : ℕ) (gens : Gens) (f : Fam) (x : Name) (args : List Param) (cs : List tree.Conn) → EachOf (ModuleOf P) modules → ItemOf P n (inst line f x args cs) → GensFine n gens
    → Yields (AskedFine P) (asked modules line gens f x args cs)
unfolding asked Yields
asked_fine P modules n line gens f x args cs all p h =
    yields_then (Member P) (AskedFine P) (fam_name line gens f) _ (fam_member P line gens f p.0 h.0) (λ name q.
    yields_then (λ (m : ℕ × Module). ModuleOf P m.1) (AskedFine P) (module_named modules line x) _ (named_each (ModuleOf P) modules line x all) (λ found m.
    yields_then (λ params. AreInRange params × AtMost (length found.1.params) params) (AskedFine P) (values line gens found.1 args) _
    (yields_both AreInRange (AtMost (length found.1.params)) (values line gens found.1 args) (values_yield line gens found.1 args h.0) (values_few line gens found.1 args)) (λ params r.
    yields_then (EachOf (λ (c : Conn). IsLine c.line)) (AskedFine P) (conns cs gens []) _ (conn_lines cs gens [] p.2 tt) (λ made u.
    (q, (r.0, omega (arith, r.1, m.few)), (p.1, u))))))

-- ---- signals

abbrev pub SignalFine : (Name → Type 0) → Signal → Type 0
SignalFine P s = IfPort P s s.kind × IsLine s.line

wire_fine : (P : Name → Type 0) (line : ℕ) (gens : Gens) (x : Fam) (w : Int) → IsLine line → Yields (SignalFine P) (wire_signal line gens x w)
unfolding wire_signal Yields
wire_fine P line gens x w p =
    yields_then Anything (SignalFine P) (fam_name line gens x) _ (any_yields (fam_name line gens x)) (λ n t. yields_then Anything (SignalFine P) (number line gens w) _ (any_yields (number line gens w)) (λ k u. (tt, p)))

reg_fine : (P : Name → Type 0) (line : ℕ) (gens : Gens) (x : Fam) (w : Int) (l : Lit) → IsLine line → Yields (SignalFine P) (register line gens x w l)
unfolding register Yields
reg_fine P line gens x w l p =
    yields_then Anything (SignalFine P) (fam_name line gens x) _ (any_yields (fam_name line gens x)) (λ n t. yields_then Anything (SignalFine P) (number line gens w) _ (any_yields (number line gens w)) (λ k u.
    yields_then Anything (SignalFine P) (literal line gens l) _ (any_yields (literal line gens l)) (λ v r. (tt, p))))

port_fine : (P : Name → Type 0) (s : Signal) (output : Bool) → s.kind ≡ port_kind output → P s.name → IfPort P s s.kind
port_fine P s true e p = subst (IfPort P s) (sym e) p
port_fine P s false e p = subst (IfPort P s) (sym e) p

ports_fine : (P : Name → Type 0) (ps : List Port) (gens : Gens) (made : List Signal) → EachOf (PortOf P) ps → EachOf (SignalFine P) made → Yields (EachOf (SignalFine P)) (ports ps gens made)
unfolding ports Yields and_then
ports_fine P [] gens made h g = g
ports_fine P (p ∷ ps) gens made h g =
    yields_then Anything (EachOf (SignalFine P)) (number p.line gens p.width) _ (any_yields (number p.line gens p.width)) (λ w t.
    let s : Signal = record { line = p.line; name = p.name; kind = port_kind p.output; width = w } in
    ports_fine P ps gens (made ++ s ∷ []) h.1 (both_each (SignalFine P) made (s ∷ []) g ((port_fine P s p.output refl h.0.0, h.0.1), tt)))

as_fine : (P : Name → Type 0) (line at : ℕ) (child : Name) (s : Signal) (k : Kind) → IsLine line → EachOf (SignalFine P) (output_as line at child s k)
as_fine P line at child s Input p = tt
as_fine P line at child s Output p = ((tt, p), tt)
as_fine P line at child s Wire p = tt
as_fine P line at child s (Reg start) p = tt
as_fine P line at child s (ChildOut k port) p = tt

outputs_fine : (P : Name → Type 0) (line at : ℕ) (child : Name) (signals : List Signal) → IsLine line → EachOf (SignalFine P) (child_outputs line at child signals)
outputs_fine P line at child [] p = tt
outputs_fine P line at child (s ∷ signals) p = both_each (SignalFine P) (output_as line at child s s.kind) (child_outputs line at child signals) (as_fine P line at child s s.kind p) (outputs_fine P line at child signals p)

-- ---- what a body gives

abbrev pub ChildFine : (Name → Type 0) → Child → Type 0
ChildFine P c = Member P c.name × GensFine most_params c.params × OnLines c.line c.conns

abbrev pub BlockFine : Block → Type 0
BlockFine b = IsLine b.line × BodyFine b.body

pub record ContentFine (P : Name → Type 0) (content : Content) : Type 0 where
  pub signals : EachOf (SignalFine P) content.signals
  pub children : EachOf (ChildFine P) content.children
  pub blocks : EachOf BlockFine content.blocks

abbrev pub MadeFine : (Name → Type 0) → Made → Type 0
MadeFine P made = ContentFine P made.content

signal_put : (P : Name → Type 0) (made : Made) (s : Signal) → MadeFine P made → SignalFine P s → MadeFine P (with_signal made s)
signal_put P made s h p = record { signals = both_each (SignalFine P) made.content.signals (s ∷ []) h.signals (p, tt); children = h.children; blocks = h.blocks }

block_put : (P : Name → Type 0) (made : Made) (b : Block) → MadeFine P made → BlockFine b → MadeFine P (with_block made b)
block_put P made b h p = record { signals = h.signals; children = h.children; blocks = both_each BlockFine made.content.blocks (b ∷ []) h.blocks (p, tt) }

child_put : (P : Name → Type 0) (made : Made) (want : Asked) (list : List Instance) → MadeFine P made → AskedFine P want → MadeFine P (with_child made want list)
child_put P made want list h p = record {
  signals = both_each (SignalFine P) made.content.signals _ h.signals (outputs_fine P want.line (length made.content.children) want.name (first_signals list) p.2.0);
  children = both_each (ChildFine P) made.content.children (child_of want ∷ []) h.children (p, tt);
  blocks = h.blocks;
}

module _ (P : Name → Type 0) (modules : List Module) (all : EachOf (ModuleOf P) modules) (enter : Enter) (here : Here) where
  mutual
    unfolding item_walk Yields and_then

    item_fine : (n : ℕ) (i : tree.Item) (gens : Gens) (made : Made) → ItemOf P n i → GensFine n gens → MadeFine P made → Yields (MadeFine P) (item_walk modules enter here i gens made)
    item_fine n (wire line x w) gens made p h g = yields_then (SignalFine P) (MadeFine P) (wire_signal line gens x w) _ (wire_fine P line gens x w p) (λ s q. signal_put P made s g q)
    item_fine n (reg line x w l) gens made p h g = yields_then (SignalFine P) (MadeFine P) (register line gens x w l) _ (reg_fine P line gens x w l p) (λ s q. signal_put P made s g q)
    item_fine n (inst line x y args cs) gens made p h g =
        yields_then (AskedFine P) (MadeFine P) (asked modules line gens x y args cs) _ (asked_fine P modules n line gens x y args cs all p h) (λ want q.
        yields_then Anything (MadeFine P) (enter want here (here.number + 1 + length made.below)) _ (any_yields (enter want here (here.number + 1 + length made.below))) (λ list t. child_put P made want list g q))
    item_fine n (comb line body) gens made p h g =
        yields_then BodyFine (MadeFine P) (statements body gens Done) _ (stmts_fine n body gens Done p.1 h tt) (λ b q. block_put P made (record { line = line; clocked = false; body = b }) g (p.0, q))
    item_fine n (ff line body) gens made p h g =
        yields_then BodyFine (MadeFine P) (statements body gens Done) _ (stmts_fine n body gens Done p.1 h tt) (λ b q. block_put P made (record { line = line; clocked = true; body = b }) g (p.0, q))
    item_fine n (repeat_items line x from to body) gens made p h g =
        yields_then Both (MadeFine P) (two_numbers line gens from to) _ (two_yields line gens from to h.0) (λ range r.
        yields_loop (MadeFine P) line (λ k more. items_walk modules enter here body (bound x k gens) more) range made r g (λ k u more q. items_fine (n + 1) body (bound x k gens) more p (bound_gens n x k gens h u) q))
    item_fine n (given_items line left cmp right first second) gens made p h g =
        yields_then Anything (MadeFine P) (two_numbers line gens left right) _ (any_yields (two_numbers line gens left right)) (λ pair t.
        yields_either (MadeFine P) (holds cmp pair.0 pair.1) (items_walk modules enter here first gens made) (else_walk modules enter here second gens made) (items_fine n first gens made p.0 h g) (else_items_fine n second gens made p.1 h g))

    items_fine : (n : ℕ) (body : Items) (gens : Gens) (made : Made) → ItemsOf P n body → GensFine n gens → MadeFine P made → Yields (MadeFine P) (items_walk modules enter here body gens made)
    items_fine n no_item gens made p h g = g
    items_fine n (item i rest) gens made p h g =
        yields_then (MadeFine P) (MadeFine P) (item_walk modules enter here i gens made) (λ more. items_walk modules enter here rest gens more) (item_fine n i gens made p.0 h g) (λ more q. items_fine n rest gens more p.1 h q)

    else_items_fine : (n : ℕ) (y : ElseItems) (gens : Gens) (made : Made) → ElseItemsOf P n y → GensFine n gens → MadeFine P made → Yields (MadeFine P) (else_walk modules enter here y gens made)
    else_items_fine n no_else_items gens made p h g = g
    else_items_fine n (otherwise_items body) gens made p h g = items_fine n body gens made p h g

  module_fine : (m : Module) (params : Gens) → ModuleOf P m → GensFine most_params params → Yields (MadeFine P) (module_walk modules enter here m params)
  unfolding module_walk
  module_fine m params p h =
      yields_then (EachOf (SignalFine P)) (MadeFine P) (ports m.ports params []) _ (ports_fine P m.ports params [] p.ports tt) (λ signals q.
      items_fine most_params m.items params (record nothing { content = record (nothing.content) { signals = signals } }) p.items h (record { signals = q; children = tt; blocks = tt }))

-- ---- instances

-- what comes out is so
pub yields_out : {A : Type 0} (Q : A → Type 0) (R : A → Type 0) (w : Walk A) → Yields Q w → HasSome R (out w) → (a : A) × (Q a × R a)
unfolding Yields out
yields_out Q R (Gives a) h g = (a, (h, g))
yields_out Q R (Faulty fault) h g = absurd g
yields_out Q R (Counted what line w) h g = yields_out Q R w h g

pub of_place : (P : Module → Type 0) (modules : List Module) (k : ℕ) (m : Module) → EachOf P modules → slice_get modules k ≡ Some m → P m
of_place P [] k m h e = absurd (no_module e)
  where
    no_module : None ≡ Some m → ⊥
    no_module e = let Q : Option Module → Type 0 = λ o. elim o [ None ↦ Unit {0} | Some x ↦ ⊥ ] in subst Q e tt
of_place P (n ∷ modules) zero m h e = subst P (same n m e) h.0
  where
    same : (a b : Module) → Some a ≡ Some b → a ≡ b
    same a b e = ap (λ o. elim o [ None ↦ a | Some x ↦ x ]) e
of_place P (n ∷ modules) (suc k) m h e = of_place P modules k m h.1 e

pub given_fine : (P : Name → Type 0) (modules : List Module) (i : Instance) → EachOf (ModuleOf P) modules → IsGiven modules i → GensFine most_params i.params → ContentFine P i.content
given_fine P modules i p h r =
    let found = yields_out (MadeFine P) (λ made. made.content ≡ i.content) (module_walk modules (instance modules 32) blank h.«module» i.params)
    (module_fine P modules p (instance modules 32) blank h.«module» i.params (of_place (ModuleOf P) modules i.place h.«module» p h.stands) r) h.gives in
    subst (ContentFine P) found.1.1 found.1.0

abbrev pub InstanceFine : (Name → Type 0) → Instance → Type 0
InstanceFine P i = GensFine most_params i.params × ContentFine P i.content

given_parts : (modules : List Module) (xs ys : List Instance) → EachGiven modules (xs ++ ys) → EachGiven modules xs × EachGiven modules ys
given_parts modules [] ys h = (tt, h)
given_parts modules (x ∷ xs) ys h = let rest = given_parts modules xs ys h.1 in ((h.0, rest.0), rest.1)

module _ (P : Name → Type 0) (modules : List Module) (named : EachOf (ModuleOf P) modules) where
  mutual
    pub tree_fine : {room : ℕ} {path : Name} {parent : Option ℕ} {place : ℕ} {params : Gens} {at : ℕ} {list : List Instance} → IsTree room path parent place params at list → EachGiven modules list → GensFine most_params params → EachOf (InstanceFine P) list
    tree_fine (a_tree room path parent place params at content below under) h r =
        let fine = given_fine P modules (record { path = path; parent = parent; place = place; params = params; content = content }) named h.0 r in
        ((r, fine), trees_fine under h.1 fine.children)

    trees_fine : {room : ℕ} {path : Name} {at : ℕ} {children : List Child} {below : List Instance} → AreTrees room path at children below → EachGiven modules below → EachOf (ChildFine P) children → EachOf (InstanceFine P) below
    trees_fine (no_trees room path at) h r = tt
    trees_fine (one_behind room path at children below c list under tree) h r =
        let given = given_parts modules below list h in
        let fine = each_parts (ChildFine P) children (c ∷ []) r in
        both_each (InstanceFine P) below list (trees_fine under given.0 fine.0) (tree_fine tree given.1 fine.1.0.1)

-- ---- numbered statements have the same generator variables

mutual
  pub numbered_fine : (k : ℕ) (b : Body) → BodyFine b → BodyFine (numbered k b)
  numbered_fine k Done h = tt
  numbered_fine k (Then s rest) h =
      let parts = each_parts HeadFine (stmt_heads s) (heads rest) h in
      both_each HeadFine (stmt_heads (numbered_stmt k s)) (heads (numbered (k + stmt_size s) rest)) (numbered_stmt_fine k s parts.0) (numbered_fine (k + stmt_size s) rest parts.1)

  numbered_stmt_fine : (k : ℕ) (s : Stmt) → EachOf HeadFine (stmt_heads s) → EachOf HeadFine (stmt_heads (numbered_stmt k s))
  numbered_stmt_fine k (Assign slot line gens x part e) h = h
  numbered_stmt_fine k (Let slot line gens x e) h = h
  numbered_stmt_fine k (If slot line gens c first second) h =
      let parts = each_parts HeadFine (heads first) (else_heads second) h.1 in
      (h.0, both_each HeadFine (heads (numbered (k + 1) first)) (else_heads (numbered_else (k + 1 + size first) second)) (numbered_fine (k + 1) first parts.0) (numbered_else_fine (k + 1 + size first) second parts.1))
  numbered_stmt_fine k (Case slot line gens v arms other) h =
      let parts = each_parts HeadFine (arms_heads arms) (else_heads other) h.1 in
      (h.0, both_each HeadFine (arms_heads (numbered_arms (k + 1) arms)) (else_heads (numbered_else (k + 1 + arms_size arms) other)) (numbered_arms_fine (k + 1) arms parts.0) (numbered_else_fine (k + 1 + arms_size arms) other parts.1))

  numbered_arms_fine : (k : ℕ) (arms : Arms) → EachOf HeadFine (arms_heads arms) → EachOf HeadFine (arms_heads (numbered_arms k arms))
  numbered_arms_fine k NoArms h = tt
  numbered_arms_fine k (ThenArm tests body rest) h =
      let parts = each_parts HeadFine (heads body) (arms_heads rest) h in
      both_each HeadFine (heads (numbered k body)) (arms_heads (numbered_arms (k + size body) rest)) (numbered_fine k body parts.0) (numbered_arms_fine (k + size body) rest parts.1)

  numbered_else_fine : (k : ℕ) (e : Else) → EachOf HeadFine (else_heads e) → EachOf HeadFine (else_heads (numbered_else k e))
  numbered_else_fine k NoElse h = tt
  numbered_else_fine k (Otherwise body) h = numbered_fine k body h

pub blocks_fine : (k : ℕ) (bs : List Block) → EachOf BlockFine bs → EachOf HeadFine (flat_map (λ b. heads b.body) (numbered_blocks k bs))
blocks_fine k [] h = tt
blocks_fine k (b ∷ bs) h = both_each HeadFine (heads (numbered k b.body)) (flat_map (λ c. heads c.body) (numbered_blocks (k + size b.body) bs)) (numbered_fine k b.body h.0.1) (blocks_fine (k + size b.body) bs h.1)

-- blocks stand on the same lines
pub block_lines : (k : ℕ) (bs : List Block) → EachOf BlockFine bs → EachOf (λ b. IsLine b.line) (numbered_blocks k bs)
block_lines k [] h = tt
block_lines k (b ∷ bs) h = (h.0.0, block_lines (k + size b.body) bs h.1)
