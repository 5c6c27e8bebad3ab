-- Where expressions are typed, all widths go together.
use Rattle.std.proofs.Common.{◌≡◌, ℕ, ◌+◌, ◌-◌, ◌<◌, ◌≤◌, Bool, true, false, true≢false, bytes_eq, List, [], ◌∷◌, ◌++◌, Option, Some, None, unwrap_or, if◌then◌else◌, ◌⊎◌, inl, inr, refl, sym, ap, ap₂, ◌∙◌, subst, arith, append_assoc, eq-eqb, nat_le, nat_lt}
use Rattle.std.specs.Prelude.{ℤ, Result, Ok}
use Rattle.std.proofs.lemmas.Bool.Decides.{nat_tests}
use Rattle.std.proofs.lemmas.List.{append-nil}
use Rattle.exec_core.specs.Block.{Name}
use Rattle.list_core.specs.Lists.{EachOf, IsIn}
use Rattle.list_core.proofs.Lists.{each_member}
use Rattle.design_core.specs.declared.expr.UnOp.{UnOp}
use Rattle.design_core.specs.declared.expr.UnOp.TheVariants as one
use Rattle.design_core.specs.declared.expr.Op.{Op}
use Rattle.design_core.specs.declared.expr.Op.TheVariants as two
use Rattle.design_core.specs.declared.expr.Literal.{Literal}
use Rattle.design_core.specs.declared.variant.Signal.{Signal}
use Rattle.design_core.specs.declared.variant.Kind.{Kind}
use Rattle.design_core.specs.declared.variant.Kind.TheVariants.{Input, Output, Wire, Reg, ChildOut}
use Rattle.design_core.specs.Design.{Expr, Read, Out, Value, Unary, Binary, Mux, Zext, Slice, Stmt, Assign, Let, If, Case, Body, Done, Then, Else, NoElse, Otherwise, Arms, NoArms, ThenArm, Conn, Child, Variant}
use Rattle.check_core.specs.declared.fault.Clash.{Clash}
use Rattle.check_core.specs.declared.fault.Refusal.TheVariants.{WidthMismatch}
use Rattle.check_core.specs.Faults.{first_of}
use Rattle.check_core.specs.Names.{any_kind, is_input}
use Rattle.design_core.specs.Dotted.{below}
use Rattle.design_core.specs.WellFormed.{signals_at}
use Rattle.design_core.specs.Statements.{inside, statements, else_statements, arms_statements}
use Rattle.check_core.specs.Widths.{Widths, clash, where_same, unary_width, binary_width, unary_of, binary_of, mux_of, zext_of, slice_of, width_of, width_in, needed, needed_by, part_width, literals_width, arms_width, arm_literals, mismatch, no_width, put_width, put_signal, put_signals, widths_of, start_width, signal_mismatch, conn_mismatch, stmt_mismatch, put_let, mismatch_among, mismatch_in_child, mismatch_in_block, width_mismatch}
use Rattle.design_core.specs.Widths.{bits}
use Rattle.check_exec.proofs.Facts.{same_name, name_same, each_joined}
use Rattle.check_laws.specs.Naming.{IsSignal}
use Rattle.check_laws.specs.Typing.{UnaryGives, BinaryGives, HasWidth, WithLet, After, AfterBody, AfterElse, AfterArms, PartGives, IsTypedStmt, IsTypedBody, IsTypedElse, IsTypedArms, IsDeclared, StartFits, IsTypedConn, IsTyped, TypedAreNotRefused}
use Rattle.check_laws.proofs.Firsts.{earlier_none, first_none, differ}
use Rattle.check_laws.proofs.Verdicts.{not_refused}

-- ---- tests

at_most : (v n : ℕ) → v ≤ n → nat_le v n ≡ true
at_most v n h = grind (arith, nat_tests)

less : (v n : ℕ) → v < n → nat_lt v n ≡ true
less v n h = grind (arith, nat_tests)

-- ---- the operators

-- a width that is found
abbrev good : ℕ → Result ℕ Clash
good n = Ok n

unary_is : (o : UnOp) (u w : ℕ) → UnaryGives o u w → unary_width o u ≡ w
unary_is one.Not u w h = sym h
unary_is one.All u w h = sym h
unary_is one.Any u w h = sym h
unary_is one.Parity u w h = sym h

same_is : (u v this w : ℕ) → u ≡ v → w ≡ this → where_same u v this ≡ Ok w
same_is u v this w e f = ap (λ (b : Bool). if b then good this else clash v u) (eq-eqb u v e) ∙ ap good (sym f)

binary_is : (o : Op) (u v w : ℕ) → BinaryGives o u v w → binary_width o u v ≡ Ok w
binary_is two.Add u v w h = same_is u v u w h.0 h.1
binary_is two.Sub u v w h = same_is u v u w h.0 h.1
binary_is two.Mul u v w h = same_is u v u w h.0 h.1
binary_is two.And u v w h = same_is u v u w h.0 h.1
binary_is two.Or u v w h = same_is u v u w h.0 h.1
binary_is two.Xor u v w h = same_is u v u w h.0 h.1
binary_is two.Eq u v w h = same_is u v 1 w h.0 h.1
binary_is two.Ne u v w h = same_is u v 1 w h.0 h.1
binary_is two.Lt u v w h = same_is u v 1 w h.0 h.1
binary_is two.Le u v w h = same_is u v 1 w h.0 h.1
binary_is two.Shl u v w h = ap good (sym h)
binary_is two.Shr u v w h = ap good (sym h)
binary_is two.Cat u v w h =
    ap (λ (b : Bool). if b then good (u + v) else clash (u + v) 128) (at_most (u + v) 128 (subst (λ (n : ℕ). n ≤ 128) h.0 h.1))
    ∙ ap good (sym h.0)

-- ---- expressions

-- the widths that are looked up are those that names have
Agree : (Name → ℕ → Type 0) → Widths → Type 0
Agree has W = (x : Name) (w : ℕ) → has x w → W x ≡ Some w

looked_up : (has : Name → ℕ → Type 0) (W : Widths) (x : Name) (w : ℕ) → Agree has W → has x w → width_of W x ≡ w
unfolding Agree
looked_up has W x w a h = ap (λ (o : Option ℕ). unwrap_or o 0) (a x w h)

width_is : (has : Name → ℕ → Type 0) (W : Widths) → Agree has W → (e : Expr) (w : ℕ) → HasWidth has e w → width_in W e ≡ Ok w
width_is has W a (Read x) w h = ap good (looked_up has W x w a h)
width_is has W a (Out u q) w h = ap good (looked_up has W (below u q) w a h)
width_is has W a (Value l) w h = ap good (sym h)
width_is has W a (Unary o e) w h = ap (unary_of o) (width_is has W a e h.0 h.1.0) ∙ ap good (unary_is o h.0 w h.1.1)
width_is has W a (Binary o b c) w h =
    ap₂ (binary_of o) (width_is has W a b h.0 h.2.0) (width_is has W a c h.1 h.2.1.0) ∙ binary_is o h.0 h.1 w h.2.1.1
width_is has W a (Mux c x y) w h =
    ap (λ (r : Result ℕ Clash). mux_of r (width_in W x) (width_in W y)) (width_is has W a c 1 h.0)
    ∙ ap₂ (λ (r s : Result ℕ Clash). mux_of (Ok 1) r s) (width_is has W a x w h.1.0) (width_is has W a y w h.1.1)
    ∙ same_is w w w w refl refl
width_is has W a (Zext e n) w h =
    ap (λ (r : Result ℕ Clash). zext_of r (bits n)) (width_is has W a e h.0 h.1.0)
    ∙ ap (λ (b : Bool). if b then good (bits n) else clash h.0 (bits n)) (at_most h.0 (bits n) (subst (λ (k : ℕ). h.0 ≤ k) h.1.1.0 h.1.1.1))
    ∙ ap good (sym h.1.1.0)
width_is has W a (Slice e i j) w h =
    ap (λ (r : Result ℕ Clash). slice_of r (bits i) (bits j)) (width_is has W a e h.0 h.1.0)
    ∙ ap (λ (b : Bool). if b then good (bits i + 1 - bits j) else clash h.0 (bits i + 1)) (less (bits i) h.0 h.1.1.0)
    ∙ ap good (sym h.1.1.1)

-- nothing is told of a width that is the one that is needed
nothing_told : (line : ℕ) (x : Name) (r : Result ℕ Clash) (w : ℕ) → r ≡ Ok w → mismatch line x r ≡ None
nothing_told line x r w e = ap (mismatch line x) e

needed_is : (want w : ℕ) (r : Result ℕ Clash) → want ≡ w → r ≡ Ok w → needed want r ≡ Ok w
needed_is want w r e f =
    ap (needed want) f ∙ ap (λ (b : Bool). if b then good want else clash w want) (eq-eqb w want (sym e)) ∙ ap good e

-- a part is as wide as it is said to be
part_is : (part : Option (ℤ × ℤ)) (u w : ℕ) → PartGives part u w → part_width u part ≡ Ok w
part_is None u w h = ap good (sym h)
part_is (Some b) u w h =
    ap (λ (c : Bool). if c then good (bits b.0 + 1 - bits b.1) else clash u (bits b.0 + 1)) (less (bits b.0) u h.0) ∙ ap good (sym h.1)

both_are : (r s : Result ℕ Clash) (w : ℕ) → r ≡ Ok w → s ≡ Ok w → needed_by r s ≡ Ok w
both_are r s w e f = ap₂ needed_by e f ∙ ap (λ (b : Bool). if b then good w else clash w w) (eq-eqb w w refl)

-- the literals of arms
literals_are : (w : ℕ) (ls : List Literal) → EachOf (λ (l : Literal). bits l.width ≡ w) ls → literals_width w ls ≡ Ok w
literals_are w [] h = refl
literals_are w (l ∷ ls) h = ap (λ (b : Bool). if b then literals_width w ls else clash (bits l.width) w) (eq-eqb (bits l.width) w h.0) ∙ literals_are w ls h.1

arms_have : (has : Name → ℕ → Type 0) (w : ℕ) (arms : Arms) → IsTypedArms has w arms → EachOf (λ (l : Literal). bits l.width ≡ w) (arm_literals arms)
arms_have has w NoArms h = tt
arms_have has w (ThenArm tests body rest) h = each_joined (λ (l : Literal). bits l.width ≡ w) tests (arm_literals rest) h.0 (arms_have (AfterBody body has) w rest h.1.1)

-- ---- statements

one_width : (v w : ℕ) (r : Result ℕ Clash) → r ≡ Ok v → r ≡ Ok w → v ≡ w
one_width v w r e f = cc

let_agrees : (has : Name → ℕ → Type 0) (W : Widths) (x : Name) (e : Expr) (w : ℕ) → Agree has W → HasWidth has e w → Agree (WithLet x e has) (put_let x (width_in W e) W)
unfolding Agree
let_agrees has W x e w a h y v (inl here) =
    ap (λ (r : Result ℕ Clash). put_let x r W y) (width_is has W a e v here.1)
    ∙ ap (λ (b : Bool). if b then Some v else W y) (name_same y x here.0)
let_agrees has W x e w a h y v (inr other) =
    ap (λ (r : Result ℕ Clash). put_let x r W y) (width_is has W a e w h)
    ∙ ap (λ (b : Bool). if b then Some w else W y) (differ y x other.0) ∙ a y v other.1

-- what stands behind, where names have these widths there, tells nothing
FitsAfter : (Name → ℕ → Type 0) → List Stmt → Type 0
FitsAfter has list = (W : Widths) → Agree has W → mismatch_among W list ≡ None

mutual
  unfolding FitsAfter

  stmt_fits : (has : Name → ℕ → Type 0) (s : Stmt) (more : List Stmt) (W : Widths) → Agree has W → IsTypedStmt has s → FitsAfter (After s has) more → mismatch_among W (s ∷ (inside s ++ more)) ≡ None
  stmt_fits has (Assign slot line gens x part e) more W a t k =
      earlier_none (stmt_mismatch W (Assign slot line gens x part e)) (mismatch_among W more)
      (nothing_told line x _ t.1 (both_are (part_width (width_of W x) part) (width_in W e) t.1
      (ap (λ (u : ℕ). part_width u part) (looked_up has W x t.0 a t.2.0) ∙ part_is part t.0 t.1 t.2.1.0) (width_is has W a e t.1 t.2.1.1))) (k W a)
  stmt_fits has (Let slot line gens x e) more W a t k =
      earlier_none (stmt_mismatch W (Let slot line gens x e)) (mismatch_among (put_let x (width_in W e) W) more)
      (nothing_told line x _ t.0 (width_is has W a e t.0 t.1)) (k (put_let x (width_in W e) W) (let_agrees has W x e t.0 a t.1))
  stmt_fits has (If slot line gens c first second) more W a t k =
      earlier_none (stmt_mismatch W (If slot line gens c first second)) (mismatch_among W ((statements first ++ else_statements second) ++ more))
      (nothing_told line _ _ 1 (needed_is 1 1 (width_in W c) refl (width_is has W a c 1 t.0)))
      (ap (mismatch_among W) (append_assoc (statements first) (else_statements second) more)
      ∙ body_fits has first (else_statements second ++ more) W a t.1.0 (λ V b. else_fits (AfterBody first has) second more V b t.1.1 k))
  stmt_fits has (Case slot line gens v arms other) more W a t k =
      earlier_none (stmt_mismatch W (Case slot line gens v arms other)) (mismatch_among W ((arms_statements arms ++ else_statements other) ++ more))
      (nothing_told line _ _ t.0 (ap (λ (r : Result ℕ Clash). arms_width r (arm_literals arms)) (width_is has W a v t.0 t.1.0) ∙ literals_are t.0 (arm_literals arms) (arms_have has t.0 arms t.1.1.0)))
      (ap (mismatch_among W) (append_assoc (arms_statements arms) (else_statements other) more)
      ∙ arms_fit has t.0 arms (else_statements other ++ more) W a t.1.1.0 (λ V b. else_fits (AfterArms arms has) other more V b t.1.1.1 k))

  body_fits : (has : Name → ℕ → Type 0) (b : Body) (more : List Stmt) (W : Widths) → Agree has W → IsTypedBody has b → FitsAfter (AfterBody b has) more → mismatch_among W (statements b ++ more) ≡ None
  body_fits has Done more W a t k = k W a
  body_fits has (Then s rest) more W a t k =
      ap (λ (list : List Stmt). mismatch_among W (s ∷ list)) (append_assoc (inside s) (statements rest) more)
      ∙ stmt_fits has s (statements rest ++ more) W a t.0 (λ V b. body_fits (After s has) rest more V b t.1 k)

  else_fits : (has : Name → ℕ → Type 0) (b : Else) (more : List Stmt) (W : Widths) → Agree has W → IsTypedElse has b → FitsAfter (AfterElse b has) more → mismatch_among W (else_statements b ++ more) ≡ None
  else_fits has NoElse more W a t k = k W a
  else_fits has (Otherwise body) more W a t k = body_fits has body more W a t k

  arms_fit : (has : Name → ℕ → Type 0) (w : ℕ) (arms : Arms) (more : List Stmt) (W : Widths) → Agree has W → IsTypedArms has w arms → FitsAfter (AfterArms arms has) more → mismatch_among W (arms_statements arms ++ more) ≡ None
  arms_fit has w NoArms more W a t k = k W a
  arms_fit has w (ThenArm tests body rest) more W a t k =
      ap (mismatch_among W) (append_assoc (statements body) (arms_statements rest) more)
      ∙ body_fits has body (arms_statements rest ++ more) W a t.1.0 (λ V b. arms_fit (AfterBody body has) w rest more V b t.1.1 k)

-- ---- signals

-- it is the first one, or another
which : (kinds : Kind → Bool) (s : Signal) (rest : List Signal) (x : Name) → IsSignal kinds (s ∷ rest) x → ((kinds s.kind ≡ true) × (bytes_eq x s.name ≡ true)) ⊎ IsSignal kinds rest x
which kinds s rest x c = elim c.among [
  | inl e ↦ inl (ap (λ (t : Signal). kinds t.kind) (sym e) ∙ c.of_kind, name_same x s.name (sym c.named ∙ ap (λ (t : Signal). t.name) e))
  | inr i ↦ inr (record { signal = c.signal; among = i; of_kind = c.of_kind; named = c.named })
]

put_one : (kinds : Kind → Bool) (s : Signal) (W : Widths) (x : Name) (a b : Bool) → kinds s.kind ≡ a → bytes_eq x s.name ≡ b → put_signal kinds s W x ≡ (if a then (if b then Some (bits s.width) else W x) else W x)
put_one kinds s W x true b e f =
    ap (λ (c : Bool). (if c then put_width s.name (bits s.width) W else W) x) e ∙ ap (λ (c : Bool). if c then Some (bits s.width) else W x) f
put_one kinds s W x false b e f = ap (λ (c : Bool). (if c then put_width s.name (bits s.width) W else W) x) e

put_next : (kinds : Kind → Bool) (s : Signal) (rest : List Signal) (W : Widths) (x : Name) (w : ℕ) → (kinds s.kind ≡ true → s.name ≡ x → bits s.width ≡ w) → (a b : Bool) → kinds s.kind ≡ a → bytes_eq x s.name ≡ b →
    (((kinds s.kind ≡ true) × (bytes_eq x s.name ≡ true)) ⊎ IsSignal kinds rest x) ⊎ (W x ≡ Some w) → IsSignal kinds rest x ⊎ (put_signal kinds s W x ≡ Some w)
put_next kinds s rest W x w wide true true e f h = inr (put_one kinds s W x true true e f ∙ ap (λ (n : ℕ). Some n) (wide e (sym (same_name x s.name f))))
put_next kinds s rest W x w wide true false e f (inl (inl both)) = absurd (true≢false (sym both.1 ∙ f))
put_next kinds s rest W x w wide true false e f (inl (inr c)) = inl c
put_next kinds s rest W x w wide true false e f (inr g) = inr (put_one kinds s W x true false e f ∙ g)
put_next kinds s rest W x w wide false b e f (inl (inl both)) = absurd (true≢false (sym both.0 ∙ e))
put_next kinds s rest W x w wide false b e f (inl (inr c)) = inl c
put_next kinds s rest W x w wide false b e f (inr g) = inr (put_one kinds s W x false b e f ∙ g)

put_is : (kinds : Kind → Bool) (signals : List Signal) (W : Widths) (x : Name) (w : ℕ) → ((s : Signal) → IsIn s signals → kinds s.kind ≡ true → s.name ≡ x → bits s.width ≡ w) →
    IsSignal kinds signals x ⊎ (W x ≡ Some w) → put_signals kinds signals W x ≡ Some w
put_is kinds [] W x w wide (inl c) = absurd c.among
put_is kinds [] W x w wide (inr e) = e
put_is kinds (s ∷ rest) W x w wide h =
    put_is kinds rest (put_signal kinds s W) x w (λ t i. wide t (inr i))
    (put_next kinds s rest W x w (wide s (inl refl)) (kinds s.kind) (bytes_eq x s.name) refl refl (elim h [ inl c ↦ inl (which kinds s rest x c) | inr e ↦ inr e ]))

declared_agree : (kinds : Kind → Bool) (signals : List Signal) → Agree (IsDeclared kinds signals) (widths_of kinds signals)
unfolding Agree
declared_agree kinds signals x w h = put_is kinds signals no_width x w h.wide (inl (record { signal = h.signal; among = h.among; of_kind = h.of_kind; named = h.named }))

-- ---- a module

nothing_behind : (has : Name → ℕ → Type 0) → FitsAfter has []
unfolding FitsAfter
nothing_behind has V b = refl

start_is : (k : Kind) (w : ℕ) → StartFits k w → start_width k w ≡ Ok w
start_is Input w h = refl
start_is Output w h = refl
start_is Wire w h = refl
start_is (Reg start) w h = needed_is w w (Ok (bits start.width)) refl (ap good h)
start_is (ChildOut u q) w h = refl

typed_fit : (variants : List Variant) (v : Variant) → IsTyped variants v → width_mismatch variants v ≡ None
typed_fit variants v t =
    let W = widths_of any_kind v.signals in
    let a = declared_agree any_kind v.signals in
    earlier_none (first_of signal_mismatch v.signals) _
    (first_none signal_mismatch v.signals (λ s i. nothing_told s.line s.name _ (bits s.width) (start_is s.kind (bits s.width) (each_member (λ (r : Signal). StartFits r.kind (bits r.width)) v.signals t.starts s i))))
    (earlier_none (first_of (mismatch_in_child W variants) v.children) (first_of (mismatch_in_block W) v.blocks)
    (first_none (mismatch_in_child W variants) v.children (λ c i. first_none (conn_mismatch W (widths_of is_input (signals_at c.variant variants))) c.conns (λ k j. conn_fits c k (each_member (IsTypedConn variants v c) c.conns (each_member (λ (d : Child). EachOf (IsTypedConn variants v d) d.conns) v.children t.connections c i) k j))))
    (first_none (mismatch_in_block W) v.blocks (λ b i.
    ap (mismatch_among W) (sym (append-nil (statements b.body)))
    ∙ body_fits (IsDeclared any_kind v.signals) b.body [] W a (each_member (λ b. IsTypedBody (IsDeclared any_kind v.signals) b.body) v.blocks t.blocks b i) (nothing_behind (AfterBody b.body (IsDeclared any_kind v.signals))))))
  where
    conn_fits : (c : Child) (k : Conn) → IsTypedConn variants v c k → conn_mismatch (widths_of any_kind v.signals) (widths_of is_input (signals_at c.variant variants)) k ≡ None
    conn_fits c k h =
        let P = widths_of is_input (signals_at c.variant variants) in
        nothing_told k.line k.port _ h.0 (needed_is (width_of P k.port) h.0 _ (looked_up (IsDeclared is_input (signals_at c.variant variants)) P k.port h.0 (declared_agree is_input (signals_at c.variant variants)) h.1.0)
        (width_is (IsDeclared any_kind v.signals) (widths_of any_kind v.signals) (declared_agree any_kind v.signals) k.value h.0 h.1.1))

pub typed_are_not_refused : TypedAreNotRefused
typed_are_not_refused d t = not_refused d WidthMismatch (λ v u. typed_fit d.variants v (t v u))
