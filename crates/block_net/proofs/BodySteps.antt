-- The statements of the code, and the keys that they assign.
use Rattle.std.proofs.Common.{◌≡◌, ℕ, suc, ◌+◌, ℤ, ◌<◌, ◌≤◌, Bool, true, false, ◌||◌, List, [], ◌∷◌, ◌++◌, length, drop, get_or, Option, Some, None, Vec, Global, refl, sym, ap, ◌∙◌, subst}
use Rattle.std.proofs.lemmas.List.{drop_more}
use Rattle.std.proofs.Math.ListN.{drop_of_length-le}
use Rattle.exec_core.specs.Block as blocks
use Rattle.exec_core.specs.Block.{Name, Key, Now, Next, same_key, Assign, If, Body, Done, Then, assigns, body_assigns}
use Rattle.exec_core.specs.Cases.{Arm, arms_body, case_of}
use Rattle.design_core.specs.declared.expr.Expr as code_expr
use Rattle.design_core.specs.declared.statement.Arm as code_arm
use Rattle.design_core.specs.declared.statement.Stmt as code_stmt
use Rattle.design_core.specs.declared.statement.Stmt.TheVariants as code_stmts
use Rattle.design_core.specs.Design as design
use Rattle.design_core.specs.Heads.{head_of, stmt_value}
use Rattle.design_core.specs.Slots.{size, stmt_size, arms_size, else_size}
use Rattle.design_core.specs.View as view
use Rattle.design_core.proofs.Views.{stmt_assign, stmt_let, stmt_if, stmt_case}
use Rattle.design_exec.specs.Processes as processes
use Rattle.block_net.specs.declared.key.Key as code_key
use Rattle.block_net.specs.Logs.{key_of}
use Rattle.block_net.specs.Source.{expr_in, stmt_in, body_in, else_in, arm_in, arms_in}
use Rattle.block_net.specs.Walks.{among, either}
use Rattle.block_net.specs.Cases.{arms_assign}
use Rattle.block_net.proofs.BindSteps.{among_append}

-- ---- statements of the code

pub body_split : (clocked : Bool) (stmts : List code_stmt.Stmt) (i : ℕ) (s : code_stmt.Stmt) → i < length stmts → s ≡ get_or stmts i s → body_in clocked (drop i stmts) ≡ Then (stmt_in clocked s) (body_in clocked (drop (i + 1) stmts))
body_split clocked stmts i s inside at =
    ap (body_in clocked) (drop_more stmts i s inside) ∙ ap (λ (t : code_stmt.Stmt). Then (stmt_in clocked t) (body_in clocked (drop (i + 1) stmts))) (sym at)

pub size_next : (body : List code_stmt.Stmt) (i : ℕ) (s : code_stmt.Stmt) → i < length body → s ≡ get_or body i s
    → size (view.body_of (drop i body)) ≡ stmt_size (view.stmt_of s) + size (view.body_of (drop (i + 1) body))
size_next body i s inside at =
    ap (λ l. size (view.body_of l)) (drop_more body i s inside) ∙ ap (λ (t : code_stmt.Stmt). stmt_size (view.stmt_of t) + size (view.body_of (drop (i + 1) body))) (sym at)

pub body_end : (clocked : Bool) (stmts : List code_stmt.Stmt) (i : ℕ) → length stmts ≤ i → body_in clocked (drop i stmts) ≡ Done
body_end clocked stmts i past = ap (body_in clocked) (drop_of_length-le stmts past)

pub at_assign : (clocked : Bool) (s : code_stmt.Stmt) (slot line : ℕ) (gens : design.Gens) (x : Name) (part : Option (ℤ × ℤ)) (e : code_expr.Expr) → s ≡ code_stmts.Assign slot line gens x part e
    → stmt_in clocked s ≡ Assign slot (processes.target clocked x) (processes.part_of part) (expr_in e)
at_assign clocked s slot line gens x part e is = ap (stmt_in clocked) is ∙ ap (processes.stmt_of clocked) (stmt_assign slot line gens x part e)

pub at_let : (clocked : Bool) (s : code_stmt.Stmt) (slot line : ℕ) (gens : design.Gens) (x : Name) (e : code_expr.Expr) → s ≡ code_stmts.Let slot line gens x e
    → stmt_in clocked s ≡ Assign slot (Now x) None (expr_in e)
at_let clocked s slot line gens x e is = ap (stmt_in clocked) is ∙ ap (processes.stmt_of clocked) (stmt_let slot line gens x e)

pub at_if : (clocked : Bool) (s : code_stmt.Stmt) (slot line : ℕ) (gens : design.Gens) (c : code_expr.Expr) (a : Vec code_stmt.Stmt Global) (b : Option (Vec code_stmt.Stmt Global)) → s ≡ code_stmts.If slot line gens c a b
    → stmt_in clocked s ≡ If (Some slot) (expr_in c) (body_in clocked a.items) (else_in clocked b)
at_if clocked s slot line gens c a b is = ap (stmt_in clocked) is ∙ ap (processes.stmt_of clocked) (stmt_if slot line gens c a b)

pub at_case : (clocked : Bool) (s : code_stmt.Stmt) (slot line : ℕ) (gens : design.Gens) (v : code_expr.Expr) (a : Vec code_arm.Arm Global) (b : Option (Vec code_stmt.Stmt Global)) → s ≡ code_stmts.Case slot line gens v a b
    → stmt_in clocked s ≡ case_of slot (expr_in v) (arms_in clocked a.items) (else_in clocked b)
at_case clocked s slot line gens v a b is = ap (stmt_in clocked) is ∙ ap (processes.stmt_of clocked) (stmt_case slot line gens v a b)

-- the same by the slot and the expression that a statement tells of itself
pub head_assign : (clocked : Bool) (s : code_stmt.Stmt) (n : ℕ) (v : design.Expr) (slot line : ℕ) (gens : design.Gens) (x : Name) (part : Option (ℤ × ℤ)) (e : code_expr.Expr) → s ≡ code_stmts.Assign slot line gens x part e
    → n ≡ (head_of (view.stmt_of s)).slot → v ≡ stmt_value (view.stmt_of s) → stmt_in clocked s ≡ Assign n (processes.target clocked x) (processes.part_of part) (processes.tree_of v)
head_assign clocked s n v slot line gens x part e is first last =
    subst (λ (d : design.Stmt). processes.stmt_of clocked d ≡ Assign (head_of d).slot (processes.target clocked x) (processes.part_of part) (processes.tree_of (stmt_value d))) (sym (ap view.stmt_of is ∙ stmt_assign slot line gens x part e)) refl
    ∙ (λ j. Assign (sym first j) (processes.target clocked x) (processes.part_of part) (processes.tree_of (sym last j)))

pub head_let : (clocked : Bool) (s : code_stmt.Stmt) (n : ℕ) (v : design.Expr) (slot line : ℕ) (gens : design.Gens) (x : Name) (e : code_expr.Expr) → s ≡ code_stmts.Let slot line gens x e
    → n ≡ (head_of (view.stmt_of s)).slot → v ≡ stmt_value (view.stmt_of s) → stmt_in clocked s ≡ Assign n (Now x) None (processes.tree_of v)
head_let clocked s n v slot line gens x e is first last =
    subst (λ (d : design.Stmt). processes.stmt_of clocked d ≡ Assign (head_of d).slot (Now x) None (processes.tree_of (stmt_value d))) (sym (ap view.stmt_of is ∙ stmt_let slot line gens x e)) refl
    ∙ (λ j. Assign (sym first j) (Now x) None (processes.tree_of (sym last j)))

pub head_if : (clocked : Bool) (s : code_stmt.Stmt) (n : ℕ) (v : design.Expr) (slot line : ℕ) (gens : design.Gens) (c : code_expr.Expr) (a : Vec code_stmt.Stmt Global) (b : Option (Vec code_stmt.Stmt Global)) (items : List code_stmt.Stmt) → s ≡ code_stmts.If slot line gens c a b
    → items ≡ a.items → n ≡ (head_of (view.stmt_of s)).slot → v ≡ stmt_value (view.stmt_of s) → stmt_in clocked s ≡ If (Some n) (processes.tree_of v) (body_in clocked items) (else_in clocked b)
head_if clocked s n v slot line gens c a b items is same first last =
    subst (λ (d : design.Stmt). processes.stmt_of clocked d ≡ If (Some (head_of d).slot) (processes.tree_of (stmt_value d)) (body_in clocked a.items) (else_in clocked b)) (sym (ap view.stmt_of is ∙ stmt_if slot line gens c a b)) refl
    ∙ (λ j. If (Some (sym first j)) (processes.tree_of (sym last j)) (body_in clocked (sym same j)) (else_in clocked b))

pub head_case : (clocked : Bool) (s : code_stmt.Stmt) (n : ℕ) (v : design.Expr) (slot line : ℕ) (gens : design.Gens) (c : code_expr.Expr) (a : Vec code_arm.Arm Global) (b : Option (Vec code_stmt.Stmt Global)) (items : List code_arm.Arm) → s ≡ code_stmts.Case slot line gens c a b
    → items ≡ a.items → n ≡ (head_of (view.stmt_of s)).slot → v ≡ stmt_value (view.stmt_of s) → stmt_in clocked s ≡ case_of n (processes.tree_of v) (arms_in clocked items) (else_in clocked b)
head_case clocked s n v slot line gens c a b items is same first last =
    subst (λ (d : design.Stmt). processes.stmt_of clocked d ≡ case_of (head_of d).slot (processes.tree_of (stmt_value d)) (arms_in clocked a.items) (else_in clocked b)) (sym (ap view.stmt_of is ∙ stmt_case slot line gens c a b)) refl
    ∙ (λ j. case_of (sym first j) (processes.tree_of (sym last j)) (arms_in clocked (sym same j)) (else_in clocked b))

pub arms_split : (clocked : Bool) (arms : List code_arm.Arm) (i : ℕ) (a : code_arm.Arm) → i < length arms → a ≡ get_or arms i a → arms_in clocked (drop i arms) ≡ arm_in clocked a ∷ arms_in clocked (drop (i + 1) arms)
arms_split clocked arms i a inside at =
    ap (arms_in clocked) (drop_more arms i a inside) ∙ ap (λ (b : code_arm.Arm). arm_in clocked b ∷ arms_in clocked (drop (i + 1) arms)) (sym at)

pub arms_end : (clocked : Bool) (arms : List code_arm.Arm) (i : ℕ) → length arms ≤ i → arms_in clocked (drop i arms) ≡ []
arms_end clocked arms i past = ap (arms_in clocked) (drop_of_length-le arms past)

pub arms_size_next : (arms : List code_arm.Arm) (i : ℕ) (a : code_arm.Arm) → i < length arms → a ≡ get_or arms i a
    → arms_size (view.arms_of (drop i arms)) ≡ size (view.body_of a.body.items) + arms_size (view.arms_of (drop (i + 1) arms))
arms_size_next arms i a inside at =
    ap (λ l. arms_size (view.arms_of l)) (drop_more arms i a inside) ∙ ap (λ (b : code_arm.Arm). size (view.body_of b.body.items) + arms_size (view.arms_of (drop (i + 1) arms))) (sym at)

-- the sizes of what a statement holds, and of what an else-branch does
pub if_size : (s : code_stmt.Stmt) (slot line : ℕ) (gens : design.Gens) (c : code_expr.Expr) (a : Vec code_stmt.Stmt Global) (b : Option (Vec code_stmt.Stmt Global)) (items : List code_stmt.Stmt) → s ≡ code_stmts.If slot line gens c a b → items ≡ a.items
    → stmt_size (view.stmt_of s) ≡ 1 + size (view.body_of items) + else_size (view.else_of b)
if_size s slot line gens c a b items is same = ap stmt_size (ap view.stmt_of is ∙ stmt_if slot line gens c a b) ∙ ap (λ l. 1 + size (view.body_of l) + else_size (view.else_of b)) (sym same)

pub case_size : (s : code_stmt.Stmt) (slot line : ℕ) (gens : design.Gens) (c : code_expr.Expr) (a : Vec code_arm.Arm Global) (b : Option (Vec code_stmt.Stmt Global)) (items : List code_arm.Arm) → s ≡ code_stmts.Case slot line gens c a b → items ≡ a.items
    → stmt_size (view.stmt_of s) ≡ 1 + arms_size (view.arms_of items) + else_size (view.else_of b)
case_size s slot line gens c a b items is same = ap stmt_size (ap view.stmt_of is ∙ stmt_case slot line gens c a b) ∙ ap (λ l. 1 + arms_size (view.arms_of l) + else_size (view.else_of b)) (sym same)

pub some_size : (rest : Option (Vec code_stmt.Stmt Global)) (v : Vec code_stmt.Stmt Global) (items : List code_stmt.Stmt) → rest ≡ Some v → items ≡ v.items → size (view.body_of items) ≡ else_size (view.else_of rest)
some_size rest v items is same = ap (λ l. size (view.body_of l)) same ∙ sym (ap (λ (r : Option (Vec code_stmt.Stmt Global)). else_size (view.else_of r)) is)

pub arms_length : (clocked : Bool) (arms : List code_arm.Arm) → length (arms_in clocked arms) ≡ length arms
arms_length clocked [] = refl
arms_length clocked (a ∷ arms) = ap suc (arms_length clocked arms)

-- ---- keys that are assigned

pub or_apart : (a b c : Bool) → ((a || b) || c) ≡ (a || (b || c))
or_apart true b c = refl
or_apart false b c = refl

pub or_false : (a : Bool) → (a || false) ≡ a
or_false true = refl
or_false false = refl

pub collect_next : (clocked : Bool) (now new : Key → Bool) (stmts : List code_stmt.Stmt) (i : ℕ) (s : code_stmt.Stmt) → i < length stmts → s ≡ get_or stmts i s → new ≡ either now (assigns (stmt_in clocked s))
    → either new (body_assigns (body_in clocked (drop (i + 1) stmts))) ≡ either now (body_assigns (body_in clocked (drop i stmts)))
collect_next clocked now new stmts i s inside at is =
    ap (λ (f : Key → Bool). either f (body_assigns (body_in clocked (drop (i + 1) stmts)))) is
    ∙ (λ j y. or_apart (now y) (assigns (stmt_in clocked s) y) (body_assigns (body_in clocked (drop (i + 1) stmts)) y) j)
    ∙ ap (λ b. either now (body_assigns b)) (sym (body_split clocked stmts i s inside at))

pub collect_end : (clocked : Bool) (now all : Key → Bool) (stmts : List code_stmt.Stmt) (i : ℕ) → length stmts ≤ i → either now (body_assigns (body_in clocked (drop i stmts))) ≡ all → now ≡ all
collect_end clocked now all stmts i past is = (λ j y. sym (or_false (now y)) j) ∙ ap (λ b. either now (body_assigns b)) (sym (body_end clocked stmts i past)) ∙ is

-- one key more, which an assignment sets
pub collect_one : (old new : List code_key.Key) (key : code_key.Key) (slot : ℕ) (k : Key) (part : Option blocks.Part) (e : blocks.Expr) (s : blocks.Stmt) → key_of key ≡ k → s ≡ Assign slot k part e → new ≡ old ++ key ∷ [] → among new ≡ either (among old) (assigns s)
collect_one old new key slot k part e s same is grown =
    ap among grown ∙ (λ j y. among_append old (key ∷ []) y j)
    ∙ (λ j y. among old y || or_false (same_key (same j) y) j)
    ∙ ap (λ t. either (among old) (assigns t)) (sym is)

-- those of two branches
pub collect_both : (old mid new : List code_key.Key) (a b : Body) (slot : ℕ) (c : blocks.Expr) (s : blocks.Stmt) → s ≡ If (Some slot) c a b → among mid ≡ either (among old) (body_assigns a)
    → among new ≡ either (among mid) (body_assigns b) → among new ≡ either (among old) (assigns s)
collect_both old mid new a b slot c s is first second =
    second ∙ ap (λ (f : Key → Bool). either f (body_assigns b)) first ∙ (λ j y. or_apart (among old y) (body_assigns a y) (body_assigns b y) j)
    ∙ ap (λ t. either (among old) (assigns t)) (sym is)

pub collect_none : (old : List code_key.Key) → among old ≡ either (among old) (body_assigns Done)
collect_none old = λ j y. sym (or_false (among old y)) j

pub from_none : (keys mid : List code_key.Key) (a b : Body) → among mid ≡ either (among []) (body_assigns a) → among keys ≡ either (among mid) (body_assigns b) → among keys ≡ either (body_assigns a) (body_assigns b)
from_none keys mid a b first second = second ∙ ap (λ (f : Key → Bool). either f (body_assigns b)) first

-- those of arms
pub arms_apart : (arms : List Arm) (b : Body) → arms_assign arms b ≡ either (arms_assign arms Done) (body_assigns b)
arms_apart arms b = λ j y. at arms y j
  where
    at : (arms : List Arm) (y : Key) → arms_assign arms b y ≡ (arms_assign arms Done y || body_assigns b y)
    at [] y = refl
    at (arm ∷ arms) y = ap (λ c. body_assigns arm.body y || c) (at arms y) ∙ sym (or_apart (body_assigns arm.body y) (arms_assign arms Done y) (body_assigns b y))

pub arms_assigned : (value : blocks.Expr) (arms : List Arm) (b : Body) → body_assigns (arms_body value arms b) ≡ arms_assign arms b
arms_assigned value arms b = λ j y. at arms y j
  where
    at : (arms : List Arm) (y : Key) → body_assigns (arms_body value arms b) y ≡ arms_assign arms b y
    at [] y = refl
    at (arm ∷ arms) y = or_false (body_assigns arm.body y || body_assigns (arms_body value arms b) y) ∙ ap (λ c. body_assigns arm.body y || c) (at arms y)

pub case_assigned : (slot : ℕ) (value : blocks.Expr) (arms : List Arm) (b : Body) → assigns (case_of slot value arms b) ≡ arms_assign arms b
case_assigned slot value [] b = refl
case_assigned slot value (arm ∷ arms) b = λ j y. body_assigns arm.body y || arms_assigned value arms b j y

pub collect_arm : (clocked : Bool) (now new : Key → Bool) (arms : List code_arm.Arm) (i : ℕ) (a : code_arm.Arm) (items : List code_stmt.Stmt) → i < length arms → a ≡ get_or arms i a → items ≡ a.body.items → new ≡ either now (body_assigns (body_in clocked items))
    → either new (arms_assign (arms_in clocked (drop (i + 1) arms)) Done) ≡ either now (arms_assign (arms_in clocked (drop i arms)) Done)
collect_arm clocked now new arms i a items inside at same is =
    ap (λ (f : Key → Bool). either f (arms_assign (arms_in clocked (drop (i + 1) arms)) Done)) (is ∙ ap (λ l. either now (body_assigns (body_in clocked l))) same)
    ∙ (λ j y. or_apart (now y) (body_assigns (body_in clocked a.body.items) y) (arms_assign (arms_in clocked (drop (i + 1) arms)) Done y) j)
    ∙ ap (λ l. either now (arms_assign l Done)) (sym (arms_split clocked arms i a inside at))

pub collect_arms_end : (clocked : Bool) (now all : Key → Bool) (arms : List code_arm.Arm) (i : ℕ) → length arms ≤ i → either now (arms_assign (arms_in clocked (drop i arms)) Done) ≡ all → now ≡ all
collect_arms_end clocked now all arms i past is = (λ j y. sym (or_false (now y)) j) ∙ ap (λ l. either now (arms_assign l Done)) (sym (arms_end clocked arms i past)) ∙ is

pub collect_case : (old mid new : List code_key.Key) (arms : List Arm) (b : Body) (slot : ℕ) (v : blocks.Expr) (s : blocks.Stmt) → s ≡ case_of slot v arms b → among mid ≡ either (among old) (arms_assign arms Done)
    → among new ≡ either (among mid) (body_assigns b) → among new ≡ either (among old) (assigns s)
collect_case old mid new arms b slot v s is first second =
    second ∙ ap (λ (f : Key → Bool). either f (body_assigns b)) first ∙ (λ j y. or_apart (among old y) (arms_assign arms Done y) (body_assigns b y) j)
    ∙ ap (either (among old)) (sym (arms_apart arms b) ∙ sym (case_assigned slot v arms b))
    ∙ ap (λ t. either (among old) (assigns t)) (sym is)

pub if_as : (slot : ℕ) (c : blocks.Expr) (clocked : Bool) (items seen : List code_stmt.Stmt) (b : Body) (s : blocks.Stmt) → s ≡ If (Some slot) c (body_in clocked items) b → seen ≡ items → s ≡ If (Some slot) c (body_in clocked seen) b
if_as slot c clocked items seen b s is same = is ∙ ap (λ l. If (Some slot) c (body_in clocked l) b) (sym same)

pub case_as : (slot : ℕ) (v : blocks.Expr) (clocked : Bool) (items seen : List code_arm.Arm) (b : Body) (s : blocks.Stmt) → s ≡ case_of slot v (arms_in clocked items) b → seen ≡ items → s ≡ case_of slot v (arms_in clocked seen) b
case_as slot v clocked items seen b s is same = is ∙ ap (λ l. case_of slot v (arms_in clocked l) b) (sym same)
