-- Walking statements: what is missing and what is assigned, one statement after another.
use Rattle.std.proofs.Common.{◌≡◌, ℕ, ◌+◌, ◌<◌, ◌≤◌, Bool, true, false, not, ◌||◌, ◌&&◌, bytes_eq, List, [], ◌∷◌, ◌++◌, arith, length, drop, get_or, Option, Some, None, if◌then◌else◌, Vec, Global, refl, sym, ap, ap₂, ◌∙◌}
use Rattle.std.proofs.lemmas.List.{drop_more}
use Rattle.std.proofs.Math.ListN.{drop_of_length-le}
use Rattle.exec_core.specs.Block.{covers}
use Rattle.bit_sets.specs.declared.bit_set.BitSet.{BitSet}
use Rattle.bit_sets.specs.declared.bit_set.BitSet.TheVariants.{All}
use Rattle.bit_sets.specs.BitSets.{set_of}
use Rattle.design_core.specs.declared.statement.Stmt as code_stmt
use Rattle.design_core.specs.declared.statement.Stmt.TheVariants as code_stmts
use Rattle.design_core.specs.declared.statement.Arm as code_arm
use Rattle.design_core.specs.declared.expr.Expr as code_expr
use Rattle.design_core.proofs.Views.{stmt_assign, stmt_let, stmt_if, stmt_case}
use Rattle.design_core.specs.Slots.{size, stmt_size, arms_size, else_size}
use Rattle.design_core.specs.Design.{Gens, Block, Expr, Read, Out, Value, Unary, Binary, Mux, Zext, Slice, Stmt, Assign, Let, If, Case, Body, Done, Then, Else, NoElse, Otherwise, Arms, NoArms, ThenArm}
use Rattle.design_core.specs.Heads.{head_of, stmt_value}
use Rattle.design_core.specs.View.{expr_of, stmt_of, body_of, arms_of, else_of}
use Rattle.check_core.specs.declared.fault.CheckFault.{CheckFault}
use Rattle.check_core.specs.declared.fault.CheckFault.TheVariants.{ReadBeforeWrite}
use Rattle.names.specs.Known.{Name, Known, none}
use Rattle.check_core.specs.Faults.{earlier, first_of, spot}
use Rattle.check_core.specs.Paths.{Bits, skips, body_skips, else_skips, arms_skip, no_arms, part_in, early, early_in, early_in_else, early_in_arms, early_read, early_in_block, own}
use Rattle.check_paths.proofs.Missing.{none_below}
use Rattle.std.specs.Prelude.{is_some}
use Rattle.check_paths.specs.Frames.{all_bits, bits_of, with_bits, with_rest, either, both, nothing, kept, seen}
use Rattle.check_paths.proofs.Framing.{ends_same, seen_opened}
use Rattle.check_paths.specs.Walked.{missing, after_stmt, after_body, after_both, after_case, assigned_in, else_assigned, arms_assigned}

abbrev pub Widths : Type 0
Widths = Name → ℕ

-- the bits of the branches around a branch, and its own
abbrev Frames : Type 0
Frames = List (List (Name × BitSet)) × List (Name × BitSet)

-- ---- tests

and_none : (a : Bool) → (a && true) ≡ a
and_none true = refl
and_none false = refl

or_none : (a : Bool) → (a || false) ≡ a
or_none true = refl
or_none false = refl

with_after : (a b : Bool) → (b || a) ≡ (a || not (not b))
with_after true true = refl
with_after true false = refl
with_after false true = refl
with_after false false = refl

step_missing : (w o a s : Bool) → ((w && not (o || a)) && s) ≡ (w && not (o || (a || not s)))
step_missing false o a s = refl
step_missing true true a s = refl
step_missing true false true s = refl
step_missing true false false true = refl
step_missing true false false false = refl

step_after : (a s b : Bool) → ((a || not s) || not b) ≡ (a || not (s && b))
step_after true s b = refl
step_after false true b = refl
step_after false false b = refl

morgan : (s t : Bool) → (not s && not t) ≡ not (s || t)
morgan true t = refl
morgan false t = refl

-- ---- one statement

after_part : (old new : Bits) (x : Name) (set : ℕ → Bool) (slot line : ℕ) (gens : Gens) (part : _) (e : Expr) → set ≡ covers (part_in part) → new ≡ with_bits x set old → new ≡ after_stmt old (Assign slot line gens x part e)
after_part old new x set slot line gens part e covered is = is ∙ ap (λ f. with_bits x f old) covered ∙ (λ j y i. with_after (old y i) (bytes_eq y x && covers (part_in part) i) j)

after_whole : (old new : Bits) (x : Name) (slot line : ℕ) (gens : Gens) (e : Expr) → new ≡ with_bits x (set_of All) old → new ≡ after_stmt old (Let slot line gens x e)
after_whole old new x slot line gens e is = is ∙ (λ j y i. (ap (λ b. b || old y i) (and_none (bytes_eq y x)) ∙ with_after (old y i) (bytes_eq y x)) j)

pub assigned_by_assign : (old new : Bits) (s : code_stmt.Stmt) (set : BitSet) (slot line : ℕ) (gens : Gens) (x y : Name) (part : _) (e : code_expr.Expr) → s ≡ code_stmts.Assign slot line gens x part e → y ≡ x
    → set_of set ≡ covers (part_in part) → new ≡ with_bits y (set_of set) old → new ≡ after_stmt old (stmt_of s)
assigned_by_assign old new s set slot line gens x y part e is same covered grown =
    after_part old new x (set_of set) slot line gens part (expr_of e) covered (grown ∙ ap (λ z. with_bits z (set_of set) old) same)
    ∙ ap (after_stmt old) (sym (stmt_assign slot line gens x part e)) ∙ ap (λ (t : code_stmt.Stmt). after_stmt old (stmt_of t)) (sym is)

pub assigned_by_let : (old new : Bits) (s : code_stmt.Stmt) (slot line : ℕ) (gens : Gens) (x y : Name) (e : code_expr.Expr) → s ≡ code_stmts.Let slot line gens x e → y ≡ x → new ≡ with_bits y (set_of All) old
    → new ≡ after_stmt old (stmt_of s)
assigned_by_let old new s slot line gens x y e is same grown =
    after_whole old new x slot line gens (expr_of e) (grown ∙ ap (λ z. with_bits z (set_of All) old) same)
    ∙ ap (after_stmt old) (sym (stmt_let slot line gens x e)) ∙ ap (λ (t : code_stmt.Stmt). after_stmt old (stmt_of t)) (sym is)

pub assigned_by_if : (old new : Bits) (s : code_stmt.Stmt) (slot line : ℕ) (gens : Gens) (c : code_expr.Expr) (a : Vec code_stmt.Stmt Global) (b : Option (Vec code_stmt.Stmt Global)) (items : List code_stmt.Stmt)
    → s ≡ code_stmts.If slot line gens c a b → items ≡ a.items → new ≡ after_both old (body_of items) (else_of b) → new ≡ after_stmt old (stmt_of s)
assigned_by_if old new s slot line gens c a b items is same both =
    both ∙ ap (λ (l : List code_stmt.Stmt). after_both old (body_of l) (else_of b)) same
    ∙ ap (after_stmt old) (sym (stmt_if slot line gens c a b)) ∙ ap (λ (t : code_stmt.Stmt). after_stmt old (stmt_of t)) (sym is)

pub assigned_by_case : (old new : Bits) (s : code_stmt.Stmt) (slot line : ℕ) (gens : Gens) (v : code_expr.Expr) (a : Vec code_arm.Arm Global) (b : Option (Vec code_stmt.Stmt Global)) (items : List code_arm.Arm)
    → s ≡ code_stmts.Case slot line gens v a b → items ≡ a.items → new ≡ after_case old (arms_of items) (else_of b) → new ≡ after_stmt old (stmt_of s)
assigned_by_case old new s slot line gens v a b items is same all =
    all ∙ ap (λ (l : List code_arm.Arm). after_case old (arms_of l) (else_of b)) same
    ∙ ap (after_stmt old) (sym (stmt_case slot line gens v a b)) ∙ ap (λ (t : code_stmt.Stmt). after_stmt old (stmt_of t)) (sym is)

-- ---- the expression of a statement, then what stands inside it

abbrev inside : Widths → Bits → Stmt → Option CheckFault
inside widths missed (Assign slot line gens x part e) = None
inside widths missed (Let slot line gens x e) = None
inside widths missed (If slot line gens c first second) = earlier (early_in widths missed first) (early_in_else widths missed second)
inside widths missed (Case slot line gens v arms other) = earlier (early_in_arms widths missed arms) (early_in_else widths missed other)

value_first : (widths : Widths) (missed : Bits) (s : Stmt) → early widths missed s ≡ earlier (early_read widths missed (head_of s).line (stmt_value s)) (inside widths missed s)
value_first widths missed (Assign slot line gens x part e) = last (early_read widths missed line e)
  where
    last : (o : Option CheckFault) → o ≡ earlier o None
    last None = refl
    last (Some fault) = refl
value_first widths missed (Let slot line gens x e) = last (early_read widths missed line e)
  where
    last : (o : Option CheckFault) → o ≡ earlier o None
    last None = refl
    last (Some fault) = refl
value_first widths missed (If slot line gens c first second) = refl
value_first widths missed (Case slot line gens v arms other) = refl

pub value_told : (widths : Widths) (missed : Bits) (s : Stmt) (line : ℕ) (e : Expr) (fault : CheckFault) → line ≡ (head_of s).line → e ≡ stmt_value s → early_read widths missed line e ≡ Some fault
    → early widths missed s ≡ Some fault
value_told widths missed s line e fault at is some =
    value_first widths missed s ∙ ap (λ o. earlier o (inside widths missed s)) (sym (ap₂ (early_read widths missed) at is) ∙ some)

behind_value : (widths : Widths) (missed : Bits) (s : Stmt) (line : ℕ) (e : Expr) → line ≡ (head_of s).line → e ≡ stmt_value s → early_read widths missed line e ≡ None → early widths missed s ≡ inside widths missed s
behind_value widths missed s line e at is none =
    value_first widths missed s ∙ ap (λ o. earlier o (inside widths missed s)) (sym (ap₂ (early_read widths missed) at is) ∙ none)

pub told_assign : (widths : Widths) (missed : Bits) (s : code_stmt.Stmt) (slot line : ℕ) (gens : Gens) (x : Name) (part : _) (e : code_expr.Expr) (at : ℕ) (value : Expr) → s ≡ code_stmts.Assign slot line gens x part e
    → at ≡ (head_of (stmt_of s)).line → value ≡ stmt_value (stmt_of s) → early_read widths missed at value ≡ None → early widths missed (stmt_of s) ≡ None
told_assign widths missed s slot line gens x part e at value is there same none =
    behind_value widths missed (stmt_of s) at value there same none
    ∙ ap (λ (t : code_stmt.Stmt). inside widths missed (stmt_of t)) is ∙ ap (inside widths missed) (stmt_assign slot line gens x part e)

pub told_let : (widths : Widths) (missed : Bits) (s : code_stmt.Stmt) (slot line : ℕ) (gens : Gens) (x : Name) (e : code_expr.Expr) (at : ℕ) (value : Expr) → s ≡ code_stmts.Let slot line gens x e
    → at ≡ (head_of (stmt_of s)).line → value ≡ stmt_value (stmt_of s) → early_read widths missed at value ≡ None → early widths missed (stmt_of s) ≡ None
told_let widths missed s slot line gens x e at value is there same none =
    behind_value widths missed (stmt_of s) at value there same none
    ∙ ap (λ (t : code_stmt.Stmt). inside widths missed (stmt_of t)) is ∙ ap (inside widths missed) (stmt_let slot line gens x e)

pub told_if : (widths : Widths) (missed : Bits) (s : code_stmt.Stmt) (slot line : ℕ) (gens : Gens) (c : code_expr.Expr) (a : Vec code_stmt.Stmt Global) (b : Option (Vec code_stmt.Stmt Global)) (items : List code_stmt.Stmt) (at : ℕ) (value : Expr)
    → s ≡ code_stmts.If slot line gens c a b → items ≡ a.items → at ≡ (head_of (stmt_of s)).line → value ≡ stmt_value (stmt_of s) → early_read widths missed at value ≡ None
    → early widths missed (stmt_of s) ≡ earlier (early_in widths missed (body_of items)) (early_in_else widths missed (else_of b))
told_if widths missed s slot line gens c a b items at value is items_are there same none =
    behind_value widths missed (stmt_of s) at value there same none
    ∙ ap (λ (t : code_stmt.Stmt). inside widths missed (stmt_of t)) is ∙ ap (inside widths missed) (stmt_if slot line gens c a b)
    ∙ ap (λ (l : List code_stmt.Stmt). earlier (early_in widths missed (body_of l)) (early_in_else widths missed (else_of b))) (sym items_are)

pub told_case : (widths : Widths) (missed : Bits) (s : code_stmt.Stmt) (slot line : ℕ) (gens : Gens) (v : code_expr.Expr) (a : Vec code_arm.Arm Global) (b : Option (Vec code_stmt.Stmt Global)) (items : List code_arm.Arm) (at : ℕ) (value : Expr)
    → s ≡ code_stmts.Case slot line gens v a b → items ≡ a.items → at ≡ (head_of (stmt_of s)).line → value ≡ stmt_value (stmt_of s) → early_read widths missed at value ≡ None
    → early widths missed (stmt_of s) ≡ earlier (early_in_arms widths missed (arms_of items)) (early_in_else widths missed (else_of b))
told_case widths missed s slot line gens v a b items at value is items_are there same none =
    behind_value widths missed (stmt_of s) at value there same none
    ∙ ap (λ (t : code_stmt.Stmt). inside widths missed (stmt_of t)) is ∙ ap (inside widths missed) (stmt_case slot line gens v a b)
    ∙ ap (λ (l : List code_arm.Arm). earlier (early_in_arms widths missed (arms_of l)) (early_in_else widths missed (else_of b))) (sym items_are)

-- ---- how many statements are left

pub if_size : (s : code_stmt.Stmt) (slot line : ℕ) (gens : Gens) (c : code_expr.Expr) (a : Vec code_stmt.Stmt Global) (b : Option (Vec code_stmt.Stmt Global)) (items : List code_stmt.Stmt)
    → s ≡ code_stmts.If slot line gens c a b → items ≡ a.items → stmt_size (stmt_of s) ≡ 1 + size (body_of items) + else_size (else_of b)
if_size s slot line gens c a b items is same =
    ap (λ (t : code_stmt.Stmt). stmt_size (stmt_of t)) is ∙ ap stmt_size (stmt_if slot line gens c a b) ∙ ap (λ (l : List code_stmt.Stmt). 1 + size (body_of l) + else_size (else_of b)) (sym same)

pub case_size : (s : code_stmt.Stmt) (slot line : ℕ) (gens : Gens) (v : code_expr.Expr) (a : Vec code_arm.Arm Global) (b : Option (Vec code_stmt.Stmt Global)) (items : List code_arm.Arm)
    → s ≡ code_stmts.Case slot line gens v a b → items ≡ a.items → stmt_size (stmt_of s) ≡ 1 + arms_size (arms_of items) + else_size (else_of b)
case_size s slot line gens v a b items is same =
    ap (λ (t : code_stmt.Stmt). stmt_size (stmt_of t)) is ∙ ap stmt_size (stmt_case slot line gens v a b) ∙ ap (λ (l : List code_arm.Arm). 1 + arms_size (arms_of l) + else_size (else_of b)) (sym same)

-- ---- statements, one after another

next_missing : (watched : Known) (outer assigned : Bits) (s : Stmt) → (λ y i. missing watched (either outer assigned) y i && skips s y i) ≡ missing watched (either outer (after_stmt assigned s))
next_missing watched outer assigned s = λ j y i. step_missing (watched y) (outer y i) (assigned y i) (skips s y i) j

next_after : (assigned : Bits) (s : Stmt) (rest : Body) → after_body (after_stmt assigned s) rest ≡ after_body assigned (Then s rest)
next_after assigned s rest = λ j y i. step_after (assigned y i) (skips s y i) (body_skips rest y i) j

body_split : (stmts : List code_stmt.Stmt) (i : ℕ) (s : code_stmt.Stmt) → i < length stmts → s ≡ get_or stmts i s → body_of (drop i stmts) ≡ Then (stmt_of s) (body_of (drop (i + 1) stmts))
body_split stmts i s inside at = ap body_of (drop_more stmts i s inside) ∙ ap (λ (t : code_stmt.Stmt). Then (stmt_of t) (body_of (drop (i + 1) stmts))) (sym at)

early_split : (widths : Widths) (watched : Known) (outer assigned : Bits) (stmts : List code_stmt.Stmt) (i : ℕ) (s : code_stmt.Stmt) → i < length stmts → s ≡ get_or stmts i s
    → early_in widths (missing watched (either outer assigned)) (body_of (drop i stmts))
    ≡ earlier (early widths (missing watched (either outer assigned)) (stmt_of s)) (early_in widths (missing watched (either outer (after_stmt assigned (stmt_of s)))) (body_of (drop (i + 1) stmts)))
early_split widths watched outer assigned stmts i s inside at =
    ap (early_in widths (missing watched (either outer assigned))) (body_split stmts i s inside at)
    ∙ ap (λ (k : Bits). earlier (early widths (missing watched (either outer assigned)) (stmt_of s)) (early_in widths k (body_of (drop (i + 1) stmts)))) (next_missing watched outer assigned (stmt_of s))

pub early_next : (widths : Widths) (watched : Known) (outer assigned now : Bits) (stmts : List code_stmt.Stmt) (i : ℕ) (s : code_stmt.Stmt) → i < length stmts → s ≡ get_or stmts i s
    → early widths (missing watched (either outer assigned)) (stmt_of s) ≡ None → now ≡ after_stmt assigned (stmt_of s)
    → early_in widths (missing watched (either outer now)) (body_of (drop (i + 1) stmts)) ≡ early_in widths (missing watched (either outer assigned)) (body_of (drop i stmts))
early_next widths watched outer assigned now stmts i s inside at none is =
    ap (λ (k : Bits). early_in widths (missing watched (either outer k)) (body_of (drop (i + 1) stmts))) is
    ∙ sym (early_split widths watched outer assigned stmts i s inside at
    ∙ ap (λ o. earlier o (early_in widths (missing watched (either outer (after_stmt assigned (stmt_of s)))) (body_of (drop (i + 1) stmts)))) none)

pub early_at : (widths : Widths) (watched : Known) (outer assigned : Bits) (stmts : List code_stmt.Stmt) (i : ℕ) (s : code_stmt.Stmt) (fault : CheckFault) → i < length stmts → s ≡ get_or stmts i s
    → early widths (missing watched (either outer assigned)) (stmt_of s) ≡ Some fault → early_in widths (missing watched (either outer assigned)) (body_of (drop i stmts)) ≡ Some fault
early_at widths watched outer assigned stmts i s fault inside at some =
    early_split widths watched outer assigned stmts i s inside at
    ∙ ap (λ o. earlier o (early_in widths (missing watched (either outer (after_stmt assigned (stmt_of s)))) (body_of (drop (i + 1) stmts)))) some

pub early_end : (widths : Widths) (missed : Bits) (stmts : List code_stmt.Stmt) (i : ℕ) → length stmts ≤ i → early_in widths missed (body_of (drop i stmts)) ≡ None
early_end widths missed stmts i past = ap (λ (l : List code_stmt.Stmt). early_in widths missed (body_of l)) (drop_of_length-le stmts past)

pub after_next : (assigned now : Bits) (stmts : List code_stmt.Stmt) (i : ℕ) (s : code_stmt.Stmt) → i < length stmts → s ≡ get_or stmts i s
    → now ≡ after_stmt assigned (stmt_of s) → after_body now (body_of (drop (i + 1) stmts)) ≡ after_body assigned (body_of (drop i stmts))
after_next assigned now stmts i s inside at is =
    ap (λ (k : Bits). after_body k (body_of (drop (i + 1) stmts))) is
    ∙ next_after assigned (stmt_of s) (body_of (drop (i + 1) stmts))
    ∙ ap (after_body assigned) (sym (body_split stmts i s inside at))

pub after_end : (assigned : Bits) (stmts : List code_stmt.Stmt) (i : ℕ) → length stmts ≤ i → after_body assigned (body_of (drop i stmts)) ≡ assigned
after_end assigned stmts i past = λ j y k. (ap (λ (l : List code_stmt.Stmt). after_body assigned (body_of l) y k) (drop_of_length-le stmts past) ∙ or_none (assigned y k)) j

pub size_next : (body : List code_stmt.Stmt) (i : ℕ) (s : code_stmt.Stmt) → i < length body → s ≡ get_or body i s → size (body_of (drop i body)) ≡ stmt_size (stmt_of s) + size (body_of (drop (i + 1) body))
size_next body i s below at = ap size (body_split body i s below at)

-- ---- a walk, where frames are told

pub walked_next : (widths : Widths) (watched : Known) (old new : Frames) (stmts : List code_stmt.Stmt) (i : ℕ) (s : code_stmt.Stmt) → i < length stmts → s ≡ get_or stmts i s
    → early widths (missing watched (all_bits old)) (stmt_of s) ≡ None → bits_of new.1 ≡ after_stmt (bits_of old.1) (stmt_of s) → new.0 ≡ old.0
    → early_in widths (missing watched (all_bits new)) (body_of (drop (i + 1) stmts)) ≡ early_in widths (missing watched (all_bits old)) (body_of (drop i stmts))
walked_next widths watched old new stmts i s inside at none is kept =
    ap (λ o. early_in widths (missing watched (either (seen o) (bits_of new.1))) (body_of (drop (i + 1) stmts))) kept
    ∙ early_next widths watched (seen old.0) (bits_of old.1) (bits_of new.1) stmts i s inside at none is

pub walked_at : (widths : Widths) (watched : Known) (old : Frames) (stmts : List code_stmt.Stmt) (i : ℕ) (s : code_stmt.Stmt) (fault : CheckFault) → i < length stmts → s ≡ get_or stmts i s
    → early widths (missing watched (all_bits old)) (stmt_of s) ≡ Some fault → early_in widths (missing watched (all_bits old)) (body_of (drop i stmts)) ≡ Some fault
walked_at widths watched old stmts i s fault inside at some = early_at widths watched (seen old.0) (bits_of old.1) stmts i s fault inside at some

-- a branch of a branch is told what its frames told
pub opened_early : (widths : Widths) (watched : Known) (old opened : Frames) (b : Body) → opened.0 ≡ old.0 ++ old.1 ∷ [] → bits_of opened.1 ≡ nothing
    → early_in widths (missing watched (all_bits opened)) b ≡ early_in widths (missing watched (all_bits old)) b
opened_early widths watched old opened b is none = ap (λ k. early_in widths (missing watched k) b) (seen_opened old.0 opened.0 old.1 opened.1 is none)

-- there are frames around a branch of a branch
pub some_around : (outer now opened : List (List (Name × BitSet))) (own : List (Name × BitSet)) → now ≡ opened → opened ≡ outer ++ own ∷ [] → now ≡ [] → ⊥
some_around outer now opened own is made none = longer outer own (sym none ∙ is ∙ made)
  where
    longer : (outer : List (List (Name × BitSet))) (own : List (Name × BitSet)) → [] ≡ outer ++ own ∷ [] → ⊥
    longer [] own e = cc
    longer (f ∷ outer) own e = cc

-- behind it they are as they were
pub closed_same : (old now closed opened : Frames) → now.0 ≡ opened.0 → opened.0 ≡ old.0 ++ old.1 ∷ [] → closed.0 ++ closed.1 ∷ [] ≡ now.0 → closed ≡ old
closed_same old now closed opened is made left =
    let same = ends_same closed.0 old.0 closed.1 old.1 (left ∙ is ∙ made) in
    ap₂ (λ a b. (a, b)) same.0 same.1

-- frames that are as they were tell the same
pub same_else : (widths : Widths) (watched : Known) (was now : Frames) (e : Else) → now ≡ was → early_in_else widths (missing watched (all_bits now)) e ≡ early_in_else widths (missing watched (all_bits was)) e
same_else widths watched was now e is = ap (λ (f : Frames). early_in_else widths (missing watched (all_bits f)) e) is

pub same_in : (widths : Widths) (watched : Known) (was now : Frames) (b : Body) → now ≡ was → early_in widths (missing watched (all_bits now)) b ≡ early_in widths (missing watched (all_bits was)) b
same_in widths watched was now b is = ap (λ (f : Frames). early_in widths (missing watched (all_bits f)) b) is

-- ---- both branches

pub both_assigned : (old first second new : Bits) (a : Body) (b : Else) → first ≡ assigned_in a → second ≡ else_assigned b → new ≡ either old (both first second) → new ≡ after_both old a b
both_assigned old first second new a b e f is =
    is ∙ ap₂ (λ g h. either old (both g h)) e f ∙ (λ j y i. ap (λ s. old y i || s) (morgan (body_skips a y i) (else_skips b y i)) j)

pub nothing_apart : (found : Bits) → found ≡ nothing → found ≡ else_assigned NoElse
nothing_apart found is = is

-- ---- arms, one after another

arms_split : (arms : List code_arm.Arm) (k : ℕ) (a : code_arm.Arm) → k < length arms → a ≡ get_or arms k a → arms_of (drop k arms) ≡ ThenArm a.tests.items (body_of a.body.items) (arms_of (drop (k + 1) arms))
arms_split arms k a inside at =
    ap arms_of (drop_more arms k a inside) ∙ ap (λ (x : code_arm.Arm). ThenArm x.tests.items (body_of x.body.items) (arms_of (drop (k + 1) arms))) (sym at)

pub arms_size_next : (arms : List code_arm.Arm) (k : ℕ) (a : code_arm.Arm) → k < length arms → a ≡ get_or arms k a → arms_size (arms_of (drop k arms)) ≡ size (body_of a.body.items) + arms_size (arms_of (drop (k + 1) arms))
arms_size_next arms k a inside at = ap arms_size (arms_split arms k a inside at)

arm_early_split : (widths : Widths) (missed : Bits) (arms : List code_arm.Arm) (k : ℕ) (a : code_arm.Arm) → k < length arms → a ≡ get_or arms k a
    → early_in_arms widths missed (arms_of (drop k arms)) ≡ earlier (early_in widths missed (body_of a.body.items)) (early_in_arms widths missed (arms_of (drop (k + 1) arms)))
arm_early_split widths missed arms k a inside at = ap (early_in_arms widths missed) (arms_split arms k a inside at)

pub arm_early_next : (widths : Widths) (missed : Bits) (arms : List code_arm.Arm) (k : ℕ) (a : code_arm.Arm) (items : List code_stmt.Stmt) → k < length arms → a ≡ get_or arms k a → items ≡ a.body.items
    → early_in widths missed (body_of items) ≡ None → early_in_arms widths missed (arms_of (drop (k + 1) arms)) ≡ early_in_arms widths missed (arms_of (drop k arms))
arm_early_next widths missed arms k a items inside at same none =
    sym (arm_early_split widths missed arms k a inside at
    ∙ ap (λ o. earlier o (early_in_arms widths missed (arms_of (drop (k + 1) arms)))) (ap (λ (l : List code_stmt.Stmt). early_in widths missed (body_of l)) (sym same) ∙ none))

pub arm_early_at : (widths : Widths) (missed : Bits) (arms : List code_arm.Arm) (k : ℕ) (a : code_arm.Arm) (items : List code_stmt.Stmt) (fault : CheckFault) → k < length arms → a ≡ get_or arms k a → items ≡ a.body.items
    → early_in widths missed (body_of items) ≡ Some fault → early_in_arms widths missed (arms_of (drop k arms)) ≡ Some fault
arm_early_at widths missed arms k a items fault inside at same some =
    arm_early_split widths missed arms k a inside at
    ∙ ap (λ o. earlier o (early_in_arms widths missed (arms_of (drop (k + 1) arms)))) (ap (λ (l : List code_stmt.Stmt). early_in widths missed (body_of l)) (sym same) ∙ some)

pub arm_early_end : (widths : Widths) (missed : Bits) (arms : List code_arm.Arm) (k : ℕ) → length arms ≤ k → early_in_arms widths missed (arms_of (drop k arms)) ≡ None
arm_early_end widths missed arms k past = ap (λ (l : List code_arm.Arm). early_in_arms widths missed (arms_of l)) (drop_of_length-le arms past)

and_and : (a b c : Bool) → ((a && b) && c) ≡ (a && (b && c))
and_and true b c = refl
and_and false b c = refl

pub arm_next : (found now next : Bits) (arms : List code_arm.Arm) (k : ℕ) (a : code_arm.Arm) (items : List code_stmt.Stmt) → k < length arms → a ≡ get_or arms k a → items ≡ a.body.items
    → next ≡ assigned_in (body_of items) → now ≡ both found next
    → both now (arms_assigned (arms_of (drop (k + 1) arms))) ≡ both found (arms_assigned (arms_of (drop k arms)))
arm_next found now next arms k a items inside at same is made =
    let rest = arms_of (drop (k + 1) arms) in
    let n : next ≡ assigned_in (body_of a.body.items) = is ∙ ap (λ (l : List code_stmt.Stmt). assigned_in (body_of l)) same in
    ap (λ f. both f (arms_assigned rest)) (made ∙ ap (both found) n)
    ∙ (λ j y i. (and_and (found y i) (not (body_skips (body_of a.body.items) y i)) (not (arms_skip rest y i))
    ∙ ap (λ b. found y i && b) (morgan (body_skips (body_of a.body.items) y i) (arms_skip rest y i))) j)
    ∙ ap (λ l. both found (arms_assigned l)) (sym (arms_split arms k a inside at))

pub arm_end : (found : Bits) (arms : List code_arm.Arm) (k : ℕ) → length arms ≤ k → both found (arms_assigned (arms_of (drop k arms))) ≡ found
arm_end found arms k past = ap (λ (l : List code_arm.Arm). both found (arms_assigned (arms_of l))) (drop_of_length-le arms past) ∙ (λ j y i. and_none (found y i) j)

-- there is an arm where something was found
pub some_of : (arms : List code_arm.Arm) (k : ℕ) (b : Bool) → (b ≡ false → k ≡ 0) → (b ≡ true → 0 < length arms) → length arms ≤ k → b ≡ not (no_arms (arms_of arms))
some_of [] k false e f past = refl
some_of [] k true e f past = absurd (let h = f refl in omega (arith, h))
some_of (a ∷ rest) k false e f past = absurd (let h = e refl in omega (arith, h, past))
some_of (a ∷ rest) k true e f past = refl

-- ---- a `case`

case_some : (a b x : Bool) → true ≡ not b → (a || not x) ≡ (a || not (b || x))
case_some a true x e = cc
case_some a false x e = refl

case_none : (a b x : Bool) → false ≡ not b → a ≡ (a || not (b || x))
case_none a true x e = sym (or_none a)
case_none a false x e = cc

pub some_case : (old found other new : Bits) (arms : Arms) (e : Else) → true ≡ not (no_arms arms) → found ≡ arms_assigned arms → other ≡ else_assigned e → new ≡ either old (both found other) → new ≡ after_case old arms e
some_case old found other new arms e some f g is =
    is ∙ ap₂ (λ a b. either old (both a b)) f g
    ∙ (λ j y i. (ap (λ s. old y i || s) (morgan (arms_skip arms y i) (else_skips e y i)) ∙ case_some (old y i) (no_arms arms) (arms_skip arms y i || else_skips e y i) some) j)

pub no_case : (old : Bits) (arms : Arms) (e : Else) → false ≡ not (no_arms arms) → old ≡ after_case old arms e
no_case old arms e none = λ j y i. case_none (old y i) (no_arms arms) (arms_skip arms y i || else_skips e y i) none j

-- ---- the same where frames are told

pub both_joined : (was now new : Frames) (first second : Bits) (a : Body) (b : Else) → now ≡ was → first ≡ assigned_in a → second ≡ else_assigned b → bits_of new.1 ≡ either (bits_of now.1) (both first second)
    → bits_of new.1 ≡ after_both (bits_of was.1) a b
both_joined was now new first second a b same e f is =
    both_assigned (bits_of was.1) first second (bits_of new.1) a b e f (is ∙ ap (λ (p : Frames). either (bits_of p.1) (both first second)) same)

pub case_joined : (was now new : Frames) (found : Option (List (Name × BitSet))) (other : Bits) (arms : Arms) (e : Else) → now ≡ was → is_some found ≡ not (no_arms arms) → kept found ≡ arms_assigned arms
    → other ≡ else_assigned e → bits_of new.1 ≡ either (bits_of now.1) (with_rest found other) → bits_of new.1 ≡ after_case (bits_of was.1) arms e
case_joined was now new None other arms e same some f g is =
    is ∙ (λ j y i. or_none (bits_of now.1 y i) j) ∙ ap (λ (p : Frames). bits_of p.1) same ∙ no_case (bits_of was.1) arms e some
case_joined was now new (Some frame) other arms e same some f g is =
    some_case (bits_of was.1) (bits_of frame) other (bits_of new.1) arms e some f g (is ∙ ap (λ (p : Frames). either (bits_of p.1) (both (bits_of frame) other)) same)

-- ---- the beginning of a walk

pub all_missing : (watched : Known) → missing watched (either nothing nothing) ≡ (λ y i. watched y)
all_missing watched = λ j y i. and_none (watched y) j

-- nothing that is not watched is refused

both_none : {A : Type 0} (a b : Option A) → a ≡ None → b ≡ None → earlier a b ≡ None
both_none a b e d = ap (λ o. earlier o b) e ∙ d

nothing_read : (widths : Widths) (line : ℕ) (e : Expr) → early_read widths nothing line e ≡ None
nothing_read widths line (Read x) = ap (λ b. if b then Some (ReadBeforeWrite (spot line x)) else None) (none_below (widths x))
nothing_read widths line (Out u q) = refl
nothing_read widths line (Value l) = refl
nothing_read widths line (Unary o e) = nothing_read widths line e
nothing_read widths line (Binary o a b) = both_none _ _ (nothing_read widths line a) (nothing_read widths line b)
nothing_read widths line (Mux c a b) = both_none _ _ (nothing_read widths line c) (both_none _ _ (nothing_read widths line a) (nothing_read widths line b))
nothing_read widths line (Zext e w) = nothing_read widths line e
nothing_read widths line (Slice e h l) = nothing_read widths line e

mutual
  nothing_early : (widths : Widths) (s : Stmt) → early widths nothing s ≡ None
  nothing_early widths (Assign slot line gens x part e) = nothing_read widths line e
  nothing_early widths (Let slot line gens x e) = nothing_read widths line e
  nothing_early widths (If slot line gens c first second) = both_none _ _ (nothing_read widths line c) (both_none _ _ (nothing_in widths first) (nothing_else widths second))
  nothing_early widths (Case slot line gens v arms other) = both_none _ _ (nothing_read widths line v) (both_none _ _ (nothing_arms widths arms) (nothing_else widths other))

  pub nothing_in : (widths : Widths) (b : Body) → early_in widths nothing b ≡ None
  nothing_in widths Done = refl
  nothing_in widths (Then s rest) = both_none _ _ (nothing_early widths s) (nothing_in widths rest)

  nothing_else : (widths : Widths) (e : Else) → early_in_else widths nothing e ≡ None
  nothing_else widths NoElse = refl
  nothing_else widths (Otherwise b) = nothing_in widths b

  nothing_arms : (widths : Widths) (arms : Arms) → early_in_arms widths nothing arms ≡ None
  nothing_arms widths NoArms = refl
  nothing_arms widths (ThenArm tests b rest) = both_none _ _ (nothing_in widths b) (nothing_arms widths rest)

pub nothing_told : (widths : Widths) (watched : Known) (assigned : Bits) (b : Body) → watched ≡ none → early_in widths (missing watched assigned) b ≡ None
nothing_told widths watched assigned b is = ap (λ k. early_in widths (missing k assigned) b) is ∙ nothing_in widths b

pub all_of_nothing : (assigned now : Bits) (b : Body) → assigned ≡ nothing → now ≡ after_body assigned b → now ≡ assigned_in b
all_of_nothing assigned now b is all = all ∙ ap (λ k. after_body k b) is

-- what every path assigns, outside of all branches
pub walk_assigned : (begun now : Frames) (b : Body) → begun.0 ≡ [] → bits_of begun.1 ≡ nothing → now.0 ≡ begun.0 → bits_of now.1 ≡ after_body (bits_of begun.1) b → all_bits now ≡ assigned_in b
walk_assigned begun now b outer own kept is = ap (λ o. either (seen o) (bits_of now.1)) (kept ∙ outer) ∙ all_of_nothing (bits_of begun.1) (bits_of now.1) b own is

pub walk_of : (widths : Widths) (watched : Known) (begun : Frames) (b : Block) (walked : Body) → watched ≡ own b → begun.0 ≡ [] → bits_of begun.1 ≡ nothing → walked ≡ b.body
    → early_in widths (missing watched (all_bits begun)) walked ≡ early_in_block widths b
walk_of widths watched begun b walked are outer begins same =
    (λ j. early_in widths (missing (are j) (either (seen (outer j)) (begins j))) (same j)) ∙ ap (λ k. early_in widths k b.body) (all_missing (own b))

pub early_as : (was now : Widths) (blocks all : List Block) → was ≡ now → blocks ≡ all → first_of (early_in_block was) blocks ≡ first_of (early_in_block now) all
early_as was now blocks all e f = λ i. first_of (early_in_block (e i)) (f i)
