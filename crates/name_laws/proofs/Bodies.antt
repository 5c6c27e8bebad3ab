-- The names that elaboration gives to statements are texts: those of `let`s, and of the generator variables at each.
use Rattle.std.proofs.Common.{◌≡◌, ℕ, zero, suc, ◌<◌, ◌≤◌, ◌^◌, Bool, true, false, ℤ, pos, negsuc, ◌+ℤ◌, ◌-ℤ◌, List, [], ◌∷◌, ◌++◌, bytes_eq, Option, Some, None, IsUtf8, if◌then◌else◌, nat_le, codes, decimal, refl, subst, arith}
use Rattle.std.proofs.lemmas.Int.{ints}
use Rattle.std.proofs.lemmas.Fmt.{IsAscii-decimal}
use Rattle.std.proofs.lemmas.Str.{IsUtf8-append, IsUtf8-from_ascii}
use Rattle.json.proofs.Printed.Utf8.{IsUtf8-are_ascii}
use Rattle.gen_tree.specs.Tree as tree
use Rattle.gen_tree.specs.Tree.{Int, Fam, assign, bind, choose, select, repeat, given, Stmts, no_stmt, stmt, no_else, otherwise, no_arm, arm}
use Rattle.exec_core.specs.Block.{Name}
use Rattle.list_core.specs.Lists.{EachOf}
use Rattle.design_core.specs.Design.{Gens, IsInRange, AreInRange, Stmt, Assign, Let, If, Case, Body, Done, Then, Else, arms_from}
use Rattle.design_core.specs.declared.Literal.{Literal}
use Rattle.design_core.specs.Slots.{Head, heads, stmt_heads, else_heads, arms_heads, let_of, lets_of, else_lets, arms_lets}
use Rattle.elab_core.specs.Walk.{Walk, Gives, Faulty, and_then, ElabRange}
use Rattle.elab_core.specs.Numbers.{bound, without, number, family, index_name, fam_name, two_numbers, turn_count, turns_of, holds}
use Rattle.elab_core.specs.Elaborated.{added}
use Rattle.elab_core.specs.Elab.{literals, part_bounds, expr, turns, statement, statements, arm_bodies, else_body, else_statements}
use Rattle.elab_core.proofs.Replacing.{Yields, yields_then, number_yields, two_yields, Both, turn_fine, fine_bound}
use Rattle.elab_core.proofs.ReplacingItems.{Anything, any_yields}
use Rattle.elab_laws.proofs.Fine.{both_each, each_parts}
use Rattle.name_laws.specs.Texts.{GensAreTexts}
use Rattle.name_laws.proofs.Source.{StmtNamed, StmtsNamed, ElseNamed, ArmsNamed}

-- ---- loops

yields_turns : {A : Type 0} (Q : A → Type 0) (line : ℕ) (f : ℤ → A → Walk A) (k : ℤ) (count : ℕ) (made : A) → Q made → ((i : ℕ) → i < count → (a : A) → Q a → Yields Q (f (k +ℤ pos i) a)) → Yields Q (turns line f k count made)
unfolding turns Yields and_then
yields_turns Q line f k zero made h each = h
yields_turns Q line f k (suc count) made h each =
    yields_then Q Q (f k made) (λ more. turns line f (k +ℤ pos 1) count more) (subst (λ z. Yields Q (f z made)) (stays k) (each 0 (omega arith) made h))
    (λ more p. yields_turns Q line f (k +ℤ pos 1) count more p (λ i l a q. subst (λ z. Yields Q (f z a)) (later k i) (each (suc i) (omega (arith, l)) a q)))
  where
    stays : (k : ℤ) → k +ℤ pos 0 ≡ k
    stays k = grind (arith, ints)

    later : (k : ℤ) (i : ℕ) → k +ℤ pos (suc i) ≡ (k +ℤ pos 1) +ℤ pos i
    later k i = grind (arith, ints)

-- each turn's number is in range
pub yields_loop : {A : Type 0} (Q : A → Type 0) (line : ℕ) (f : ℤ → A → Walk A) (range : ℤ × ℤ) (made : A) → Both range → Q made → ((k : ℤ) → IsInRange k → (a : A) → Q a → Yields Q (f k a))
    → Yields Q (and_then (turn_count line range.0 range.1) (λ count. turns line f range.0 count made))
unfolding and_then Yields
yields_loop Q line f range made p h each = in_case (nat_le (turns_of (range.1 -ℤ range.0)) 4096)
  where
    in_case : (b : Bool) → Yields Q (and_then (if b then Gives (turns_of (range.1 -ℤ range.0)) else Faulty (ElabRange line)) (λ count. turns line f range.0 count made))
    in_case true = yields_turns Q line f range.0 (turns_of (range.1 -ℤ range.0)) made h (λ i l a q. each (range.0 +ℤ pos i) (turn_fine range.0 range.1 i p.0 p.1 l) a q)
    in_case false = tt

pub yields_either : {A : Type 0} (Q : A → Type 0) (b : Bool) (v w : Walk A) → Yields Q v → Yields Q w → Yields Q (if b then v else w)
yields_either Q true v w h g = h
yields_either Q false v w h g = g

-- ---- names

small_index : (n : ℕ) → IsInRange (pos n) → n < 2 ^ 64
small_index n h = let l : n ≤ 4611686018427387904 = grind (arith, h) in omega (arith, l)

pub fam_text : (line : ℕ) (gens : Gens) (f : Fam) → IsUtf8 f.name → AreInRange gens → Yields IsUtf8 (fam_name line gens f)
unfolding index_name Yields
fam_text line gens f p h = by_index f.index
  where
    member : (k : ℤ) → IsInRange k → Yields IsUtf8 (family line f.name k)
    member (pos n) r = IsUtf8-append f.name (codes "#" ++ decimal n) p (IsUtf8-append (codes "#") (decimal n) (IsUtf8-are_ascii (codes "#") refl) (IsUtf8-from_ascii (decimal n) (IsAscii-decimal n (small_index n r))))
    member (negsuc n) r = tt

    by_index : (o : Option Int) → Yields IsUtf8 (index_name line gens f.name o)
    by_index None = p
    by_index (Some i) = yields_then IsInRange IsUtf8 (number line gens i) (family line f.name) (number_yields line gens i h) member

-- ---- generator variables

-- numbers in range, and names that are texts
abbrev pub GensNamed : Gens → Type 0
GensNamed gens = AreInRange gens × GensAreTexts gens

abbrev gen_text : Name × ℤ → Type 0
gen_text g = IsUtf8 g.0

without_texts : (x : Name) (gens : Gens) → GensAreTexts gens → GensAreTexts (without x gens)
without_texts x [] h = tt
without_texts x (g ∷ gens) h = elim (bytes_eq g.0 x) as (λ b. GensAreTexts (if b then without x gens else g ∷ without x gens)) [
  | true ↦ without_texts x gens h.1
  | false ↦ (h.0, without_texts x gens h.1)
]

-- one more in a loop
pub bound_named : (x : Name) (k : ℤ) (gens : Gens) → IsUtf8 x → GensNamed gens → IsInRange k → GensNamed (bound x k gens)
bound_named x k gens p h r = (fine_bound x k gens h.0 r, both_each gen_text (without x gens) ((x, k) ∷ []) (without_texts x gens h.1) (p, tt))

-- ---- statements

abbrev pub HeadNamed : Head → Type 0
HeadNamed h = GensAreTexts h.gens

-- the names of the generator variables at these statements, and of these `let`s, are texts
pub record AllNamed (at : List Head) (names : List Name) : Type 0 where
  pub gens : EachOf HeadNamed at
  pub lets : EachOf IsUtf8 names

abbrev pub BodyNamed : Body → Type 0
BodyNamed b = AllNamed (heads b) (lets_of b)

abbrev BranchNamed : Else → Type 0
BranchNamed e = AllNamed (else_heads e) (else_lets e)

both_named : (a b : List Head) (x y : List Name) → AllNamed a x → AllNamed b y → AllNamed (a ++ b) (x ++ y)
both_named a b x y h g = record { gens = both_each HeadNamed a b h.gens g.gens; lets = both_each IsUtf8 x y h.lets g.lets }

parts_named : (a b : List Head) (x y : List Name) → AllNamed (a ++ b) (x ++ y) → AllNamed a x × AllNamed b y
parts_named a b x y h =
    let gens = each_parts HeadNamed a b h.gens in
    let lets = each_parts IsUtf8 x y h.lets in
    (record { gens = gens.0; lets = lets.0 }, record { gens = gens.1; lets = lets.1 })

none_named : AllNamed [] []
none_named = record { gens = tt; lets = tt }

added_named : (made : Body) (s : Stmt) → BodyNamed made → AllNamed (stmt_heads s) (let_of s) → BodyNamed (added made s)
added_named Done s h g = both_named (stmt_heads s) [] (let_of s) [] g none_named
added_named (Then first rest) s h g =
    let parts = parts_named (stmt_heads first) (heads rest) (let_of first) (lets_of rest) h in
    both_named (stmt_heads first) (heads (added rest s)) (let_of first) (lets_of (added rest s)) parts.0 (added_named rest s parts.1 g)

abbrev CasesNamed : List (List Literal × Body) → Type 0
CasesNamed made = AllNamed (arms_heads (arms_from made)) (arms_lets (arms_from made))

case_added : (made : List (List Literal × Body)) (ls : List Literal) (b : Body) → CasesNamed made → BodyNamed b → CasesNamed (made ++ (ls, b) ∷ [])
case_added [] ls b h g = both_named (heads b) [] (lets_of b) [] g none_named
case_added (first ∷ rest) ls b h g =
    let parts = parts_named (heads first.1) (arms_heads (arms_from rest)) (lets_of first.1) (arms_lets (arms_from rest)) h in
    both_named (heads first.1) (arms_heads (arms_from (rest ++ (ls, b) ∷ []))) (lets_of first.1) (arms_lets (arms_from (rest ++ (ls, b) ∷ []))) parts.0 (case_added rest ls b parts.1 g)

mutual
  unfolding statement Yields and_then

  stmt_named : (s : tree.Stmt) (gens : Gens) (made : Body) → StmtNamed s → GensNamed gens → BodyNamed made → Yields BodyNamed (statement s gens made)
  stmt_named (assign line f p e) gens made q h g =
      yields_then Anything BodyNamed (fam_name line gens f) _ (any_yields (fam_name line gens f)) (λ x t. yields_then Anything BodyNamed (part_bounds line gens p) _ (any_yields (part_bounds line gens p)) (λ part w.
      yields_then Anything BodyNamed (expr line gens e) _ (any_yields (expr line gens e)) (λ v u. added_named made (Assign 0 line gens x part v) g (record { gens = (h.1, tt); lets = tt }))))
  stmt_named (bind line f e) gens made p h g =
      yields_then IsUtf8 BodyNamed (fam_name line gens f) _ (fam_text line gens f p h.0) (λ x t. yields_then Anything BodyNamed (expr line gens e) _ (any_yields (expr line gens e)) (λ v u.
      added_named made (Let 0 line gens x v) g (record { gens = (h.1, tt); lets = (t, tt) })))
  stmt_named (choose line c first second) gens made p h g =
      yields_then Anything BodyNamed (expr line gens c) _ (any_yields (expr line gens c)) (λ test t.
      yields_then BodyNamed BodyNamed (statements first gens Done) _ (stmts_named first gens Done p.0 h none_named) (λ yes_body q.
      yields_then BranchNamed BodyNamed (else_body second gens) _ (else_named second gens p.1 h) (λ no_body r.
      let inner = both_named (heads yes_body) (else_heads no_body) (lets_of yes_body) (else_lets no_body) q r in
      added_named made (If 0 line gens test yes_body no_body) g (record { gens = (h.1, inner.gens); lets = inner.lets }))))
  stmt_named (select line v all other) gens made p h g =
      yields_then Anything BodyNamed (expr line gens v) _ (any_yields (expr line gens v)) (λ value t.
      yields_then CasesNamed BodyNamed (arm_bodies line all gens []) _ (arms_named line all gens [] p.0 h none_named) (λ cases q.
      yields_then BranchNamed BodyNamed (else_body other gens) _ (else_named other gens p.1 h) (λ last r.
      let inner = both_named (arms_heads (arms_from cases)) (else_heads last) (arms_lets (arms_from cases)) (else_lets last) q r in
      added_named made (Case 0 line gens value (arms_from cases) last) g (record { gens = (h.1, inner.gens); lets = inner.lets }))))
  stmt_named (repeat line x from to body) gens made p h g =
      yields_then Both BodyNamed (two_numbers line gens from to) _ (two_yields line gens from to h.0) (λ range q.
      yields_loop BodyNamed line (λ k more. statements body (bound x k gens) more) range made q g (λ k r more u. stmts_named body (bound x k gens) more p.1 (bound_named x k gens p.0 h r) u))
  stmt_named (given line left cmp right first second) gens made p h g =
      yields_then Anything BodyNamed (two_numbers line gens left right) _ (any_yields (two_numbers line gens left right)) (λ pair t.
      yields_either BodyNamed (holds cmp pair.0 pair.1) (statements first gens made) (else_statements second gens made) (stmts_named first gens made p.0 h g) (else_stmts_named second gens made p.1 h g))

  pub stmts_named : (body : Stmts) (gens : Gens) (made : Body) → StmtsNamed body → GensNamed gens → BodyNamed made → Yields BodyNamed (statements body gens made)
  stmts_named no_stmt gens made p h g = g
  stmts_named (stmt s rest) gens made p h g =
      yields_then BodyNamed BodyNamed (statement s gens made) (λ more. statements rest gens more) (stmt_named s gens made p.0 h g) (λ more q. stmts_named rest gens more p.1 h q)

  arms_named : (line : ℕ) (all : tree.Arms) (gens : Gens) (made : List (List Literal × Body)) → ArmsNamed all → GensNamed gens → CasesNamed made → Yields CasesNamed (arm_bodies line all gens made)
  arms_named line no_arm gens made p h g = g
  arms_named line (arm tests body more) gens made p h g =
      yields_then Anything CasesNamed (literals line gens tests []) _ (any_yields (literals line gens tests [])) (λ ls t. yields_then BodyNamed CasesNamed (statements body gens Done) _ (stmts_named body gens Done p.0 h none_named) (λ b q.
      arms_named line more gens (made ++ (ls, b) ∷ []) p.1 h (case_added made ls b g q)))

  else_named : (e : tree.Else) (gens : Gens) → ElseNamed e → GensNamed gens → Yields BranchNamed (else_body e gens)
  else_named no_else gens p h = none_named
  else_named (otherwise body) gens p h = yields_then BodyNamed BranchNamed (statements body gens Done) _ (stmts_named body gens Done p h none_named) (λ made q. q)

  else_stmts_named : (e : tree.Else) (gens : Gens) (made : Body) → ElseNamed e → GensNamed gens → BodyNamed made → Yields BodyNamed (else_statements e gens made)
  else_stmts_named no_else gens made p h g = g
  else_stmts_named (otherwise body) gens made p h g = stmts_named body gens made p h g
