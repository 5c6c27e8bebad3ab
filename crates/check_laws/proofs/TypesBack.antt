-- Where all widths go together, expressions are typed.
use Rattle.std.proofs.Common.{◌≡◌, ℕ, ◌+◌, ◌-◌, ◌≤◌, ◌==◌, Bool, true, false, true≢false, ◌||◌, bytes_eq, List, [], ◌∷◌, ◌++◌, map, Option, Some, None, unwrap_or, if◌then◌else◌, inl, inr, refl, sym, ap, ◌∙◌, subst, append_assoc, nat_le, nat_lt, leb-true, ltb-true, eqb-true}
use Rattle.std.specs.Prelude.{ℤ, Result, Ok, Err}
use Rattle.std.proofs.lemmas.Bool.{or_right}
use Rattle.std.proofs.lemmas.List.{append-nil}
use Rattle.exec_core.specs.Block.{Name}
use Rattle.list_core.specs.Lists.{EachOf, IsIn}
use Rattle.list_core.proofs.Lists.{each_member, each_from}
use Rattle.design_core.specs.declared.expr.UnOp.{UnOp}
use Rattle.design_core.specs.declared.expr.UnOp.TheVariants as one
use Rattle.design_core.specs.declared.expr.Op.{Op}
use Rattle.design_core.specs.declared.expr.Op.TheVariants as two
use Rattle.design_core.specs.declared.expr.Literal.{Literal}
use Rattle.design_core.specs.declared.variant.Signal.{Signal}
use Rattle.design_core.specs.declared.variant.Kind.{Kind}
use Rattle.design_core.specs.declared.variant.Kind.TheVariants.{Input, Output, Wire, Reg, ChildOut}
use Rattle.design_core.specs.Design.{Expr, Read, Out, Value, Unary, Binary, Mux, Zext, Slice, Gens, Stmt, Assign, Let, If, Case, Body, Done, Then, Else, NoElse, Otherwise, Arms, NoArms, ThenArm, Conn, Child, Block, Variant}
use Rattle.design_exec.specs.Processes.{signal_width}
use Rattle.check_core.specs.declared.fault.Clash.{Clash}
use Rattle.check_core.specs.Faults.{first_of}
use Rattle.check_core.specs.Names.{named, any_kind, is_input, is_child_output, signal_thing, scope_of, targets, unknown_read, unknown_in, unknown_among}
use Rattle.design_core.specs.Dotted.{below}
use Rattle.check_core.specs.Ports.{unknown_output, unknown_port_in, unknown_port_in_child, unknown_port_in_block}
use Rattle.design_core.specs.WellFormed.{signals_at}
use Rattle.design_core.specs.Statements.{inside, statements, else_statements, arms_statements}
use Rattle.check_core.specs.Widths.{Widths, clash, where_same, unary_width, binary_width, mux_width, zext_width, slice_width, unary_of, binary_of, mux_of, zext_of, slice_of, width_of, width_in, needed, needed_by, part_width, literals_width, arms_width, arm_literals, widths_of, start_width, signal_mismatch, stmt_mismatch, put_let, mismatch_among, mismatch_in_child, mismatch_in_block}
use Rattle.design_core.specs.Widths.{bits}
use Rattle.check_exec.proofs.Children.{child_stands}
use Rattle.check_exec.proofs.Facts.{same_name, name_same, each_left, each_right, in_index, earlier_left, earlier_right, none_found}
use Rattle.check_exec.proofs.Instances.{IsClean, clean}
use Rattle.check_exec.proofs.Links.{conn_passes}
use Rattle.check_exec.proofs.Names.{Differ, signals_differ}
use Rattle.check_exec.proofs.SignalWidths.{put_known}
use Rattle.check_exec.proofs.Targets.{named_in, named_any, target_signal, block_known}
use Rattle.check_exec.proofs.Widths.{is_known, matches, err_ok, same_ok, if_ok, needed_there, width_is}
use Rattle.check_laws.specs.Typing.{UnaryGives, BinaryGives, HasWidth, WithLet, After, AfterBody, AfterElse, AfterArms, PartGives, IsTypedStmt, IsTypedBody, IsTypedElse, IsTypedArms, IsDeclared, StartFits, IsTypedConn}
use Rattle.check_laws.specs.Accepting.{AcceptedAreTyped}
use Rattle.check_laws.proofs.Used.{placed, used_clean}

-- ---- the operators

unary_back : (o : UnOp) (u w : ℕ) → unary_width o u ≡ w → UnaryGives o u w
unary_back one.Not u w e = sym e
unary_back one.All u w e = sym e
unary_back one.Any u w e = sym e
unary_back one.Parity u w e = sym e

same_back : (u v this w : ℕ) → where_same u v this ≡ Ok w → (u ≡ v) × (w ≡ this)
same_back u v this w e = let h = if_ok (u == v) this w _ e in (eqb-true u v h.0, sym h.1)

binary_back : (o : Op) (u v w : ℕ) → binary_width o u v ≡ Ok w → BinaryGives o u v w
binary_back two.Add u v w e = same_back u v u w e
binary_back two.Sub u v w e = same_back u v u w e
binary_back two.Mul u v w e = same_back u v u w e
binary_back two.And u v w e = same_back u v u w e
binary_back two.Or u v w e = same_back u v u w e
binary_back two.Xor u v w e = same_back u v u w e
binary_back two.Eq u v w e = same_back u v 1 w e
binary_back two.Ne u v w e = same_back u v 1 w e
binary_back two.Lt u v w e = same_back u v 1 w e
binary_back two.Le u v w e = same_back u v 1 w e
binary_back two.Shl u v w e = sym (same_ok u w e)
binary_back two.Shr u v w e = sym (same_ok u w e)
binary_back two.Cat u v w e = let h = if_ok (nat_le (u + v) 128) (u + v) w _ e in (sym h.1, subst (λ (n : ℕ). n ≤ 128) h.1 (leb-true (u + v) 128 h.0))

mux_back : (c u v w : ℕ) → mux_width c u v ≡ Ok w → (c ≡ 1) × ((u ≡ w) × (v ≡ w))
mux_back c u v w e = by_test (c == 1) refl e
  where
    by_test : (t : Bool) → (c == 1) ≡ t → (if t then where_same u v u else clash c 1) ≡ Ok w → (c ≡ 1) × ((u ≡ w) × (v ≡ w))
    by_test true h f = let k = same_back u v u w f in (eqb-true c 1 h, (sym k.1, sym k.0 ∙ sym k.1))
    by_test false h f = absurd (err_ok _ w f)

-- ---- operands

record UnaryParts (o : UnOp) (r : Result ℕ Clash) (w : ℕ) : Type 0 where
  operand : ℕ
  there : r ≡ Ok operand
  gives : unary_width o operand ≡ w

unary_parts : (o : UnOp) (r : Result ℕ Clash) (w : ℕ) → unary_of o r ≡ Ok w → UnaryParts o r w
unary_parts o (Ok v) w e = record { operand = v; there = refl; gives = same_ok (unary_width o v) w e }
unary_parts o (Err f) w e = absurd (err_ok f w e)

record BinaryParts (o : Op) (r s : Result ℕ Clash) (w : ℕ) : Type 0 where
  left : ℕ
  right : ℕ
  left_there : r ≡ Ok left
  right_there : s ≡ Ok right
  gives : binary_width o left right ≡ Ok w

binary_parts : (o : Op) (r s : Result ℕ Clash) (w : ℕ) → binary_of o r s ≡ Ok w → BinaryParts o r s w
binary_parts o (Ok u) (Ok v) w e = record { left = u; right = v; left_there = refl; right_there = refl; gives = e }
binary_parts o (Ok u) (Err f) w e = absurd (err_ok f w e)
binary_parts o (Err f) s w e = absurd (err_ok f w e)

record MuxParts (q r s : Result ℕ Clash) (w : ℕ) : Type 0 where
  test : q ≡ Ok 1
  first : r ≡ Ok w
  second : s ≡ Ok w

mux_parts : (q r s : Result ℕ Clash) (w : ℕ) → mux_of q r s ≡ Ok w → MuxParts q r s w
mux_parts (Ok c) (Ok u) (Ok v) w e =
    let k = mux_back c u v w e in
    record { test = ap (λ (n : ℕ). Ok n) k.0; first = ap (λ (n : ℕ). Ok n) k.1.0; second = ap (λ (n : ℕ). Ok n) k.1.1 }
mux_parts (Ok c) (Ok u) (Err f) w e = absurd (err_ok f w e)
mux_parts (Ok c) (Err f) s w e = absurd (err_ok f w e)
mux_parts (Err f) r s w e = absurd (err_ok f w e)

record OneParts (r : Result ℕ Clash) (P : ℕ → Type 0) : Type 0 where
  operand : ℕ
  there : r ≡ Ok operand
  gives : P operand

zext_parts : (r : Result ℕ Clash) (v w : ℕ) → zext_of r v ≡ Ok w → OneParts r (λ u. zext_width u v ≡ Ok w)
zext_parts (Ok u) v w e = record { operand = u; there = refl; gives = e }
zext_parts (Err f) v w e = absurd (err_ok f w e)

slice_parts : (r : Result ℕ Clash) (h l w : ℕ) → slice_of r h l ≡ Ok w → OneParts r (λ u. slice_width u h l ≡ Ok w)
slice_parts (Ok u) h l w e = record { operand = u; there = refl; gives = e }
slice_parts (Err f) h l w e = absurd (err_ok f w e)

-- ---- what is assigned, and the literals of arms

needed_back : (u : ℕ) (r : Result ℕ Clash) (v : ℕ) → needed_by (Ok u) r ≡ Ok v → (v ≡ u) × (r ≡ Ok v)
needed_back u (Ok have) v e = let t = if_ok (have == u) u v _ e in (sym t.1, ap (λ (n : ℕ). Ok n) (eqb-true have u t.0 ∙ t.1))
needed_back u (Err f) v e = absurd (err_ok f v e)

part_back : (part : Option (ℤ × ℤ)) (u : ℕ) (r : Result ℕ Clash) (v : ℕ) → needed_by (part_width u part) r ≡ Ok v → PartGives part u v × (r ≡ Ok v)
part_back None u r v e = needed_back u r v e
part_back (Some b) u r v e = by_test (nat_lt (bits b.0) u) refl r e
  where
    by_test : (t : Bool) → nat_lt (bits b.0) u ≡ t → (r : Result ℕ Clash) → needed_by (if t then Ok (bits b.0 + 1 - bits b.1) else clash u (bits b.0 + 1)) r ≡ Ok v → PartGives (Some b) u v × (r ≡ Ok v)
    by_test true h r e = let k = needed_back (bits b.0 + 1 - bits b.1) r v e in ((ltb-true (bits b.0) u h, k.0), k.1)
    by_test false h (Ok have) e = absurd (err_ok _ v e)
    by_test false h (Err f) e = absurd (err_ok f v e)

literals_back : (w : ℕ) (ls : List Literal) (v : ℕ) → literals_width w ls ≡ Ok v → EachOf (λ (l : Literal). bits l.width ≡ w) ls
literals_back w [] v e = tt
literals_back w (l ∷ ls) v e = by_test (λ f. literals_back w ls v f) (bits l.width == w) refl e
  where
    by_test : (literals_width w ls ≡ Ok v → EachOf (λ (l : Literal). bits l.width ≡ w) ls) → (t : Bool) → (bits l.width == w) ≡ t → (if t then literals_width w ls else clash (bits l.width) w) ≡ Ok v → EachOf (λ (l : Literal). bits l.width ≡ w) (l ∷ ls)
    by_test more true h f = (eqb-true (bits l.width) w h, more f)
    by_test more false h f = absurd (err_ok _ v f)

arms_parts : (r : Result ℕ Clash) (ls : List Literal) (v : ℕ) → arms_width r ls ≡ Ok v → OneParts r (λ w. EachOf (λ (l : Literal). bits l.width ≡ w) ls)
arms_parts (Ok w) ls v e = record { operand = w; there = refl; gives = literals_back w ls v e }
arms_parts (Err f) ls v e = absurd (err_ok f v e)

-- ---- names

-- the width that is looked up is one that the name has
record Looked (W : Widths) (has : Name → ℕ → Type 0) (x : Name) : Type 0 where
  width : ℕ
  found : W x ≡ Some width
  is : has x width

looked_is : (W : Widths) (has : Name → ℕ → Type 0) (x : Name) → Looked W has x → has x (width_of W x)
looked_is W has x l = subst (has x) (sym (ap (λ (o : Option ℕ). unwrap_or o 0) l.found)) l.is

looked_has : (W : Widths) (has : Name → ℕ → Type 0) (x : Name) (w : ℕ) → Looked W has x → width_of W x ≡ w → has x w
looked_has W has x w l e = subst (has x) e (looked_is W has x l)

declared : (kinds : Kind → Bool) (signals : List Signal) (x : Name) → Differ (λ y. false) (map signal_thing signals) → named kinds signals x ≡ true → Looked (widths_of kinds signals) (IsDeclared kinds signals) x
declared kinds signals x d e =
    let s = named_in kinds signals x e in
    record {
      width = signal_width signals x;
      found = put_known kinds signals x d e;
      is = record {
        signal = s.0;
        among = s.1.0;
        of_kind = s.1.1.0;
        named = sym s.1.1.1;
        wide = λ t i k n. sym (width_is (λ y. false) signals d t i) ∙ ap (signal_width signals) n;
      };
    }

module _ (v : Variant) (clocked : Bool) where
  outputs : Name → Bool
  outputs = named is_child_output v.signals

  -- what may be read here has a width that is looked up
  record Agree (has : Name → ℕ → Type 0) (W : Widths) (known : Name → Bool) : Type 0 where
    names : (x : Name) → (known x || (scope_of v).signal x) ≡ true → Looked W has x
    ports : (x : Name) → outputs x ≡ true → Looked W has x

  expr_back : (has : Name → ℕ → Type 0) (W : Widths) (known : Name → Bool) → Agree has W known → (line n : ℕ) (e : Expr) (w : ℕ) → unknown_read (scope_of v) known line e ≡ None → unknown_output outputs n e ≡ None → width_in W e ≡ Ok w → HasWidth has e w
  expr_back has W known a line n (Read x) w r o h = looked_has W has x w (a.names x (is_known (known x || (scope_of v).signal x) _ r)) (same_ok (width_of W x) w h)
  expr_back has W known a line n (Out u q) w r o h = looked_has W has (below u q) w (a.ports (below u q) (is_known (outputs (below u q)) _ o)) (same_ok (width_of W (below u q)) w h)
  expr_back has W known a line n (Value l) w r o h = sym (same_ok (bits l.width) w h)
  expr_back has W known a line n (Unary p e) w r o h =
      let k = unary_parts p (width_in W e) w h in
      (k.operand, (expr_back has W known a line n e k.operand r o k.there, unary_back p k.operand w k.gives))
  expr_back has W known a line n (Binary p b c) w r o h =
      let k = binary_parts p (width_in W b) (width_in W c) w h in (
        k.left,
        k.right,
        (
          expr_back has W known a line n b k.left (earlier_left (unknown_read (scope_of v) known line b) _ r) (earlier_left (unknown_output outputs n b) _ o) k.left_there,
          (
            expr_back has W known a line n c k.right (earlier_right (unknown_read (scope_of v) known line b) _ r) (earlier_right (unknown_output outputs n b) _ o) k.right_there,
            binary_back p k.left k.right w k.gives,
          ),
        ),
      )
  expr_back has W known a line n (Mux c x y) w r o h =
      let k = mux_parts (width_in W c) (width_in W x) (width_in W y) w h in
      let r' = earlier_right (unknown_read (scope_of v) known line c) _ r in
      let o' = earlier_right (unknown_output outputs n c) _ o in (
        expr_back has W known a line n c 1 (earlier_left (unknown_read (scope_of v) known line c) _ r) (earlier_left (unknown_output outputs n c) _ o) k.test,
        (
          expr_back has W known a line n x w (earlier_left (unknown_read (scope_of v) known line x) _ r') (earlier_left (unknown_output outputs n x) _ o') k.first,
          expr_back has W known a line n y w (earlier_right (unknown_read (scope_of v) known line x) _ r') (earlier_right (unknown_output outputs n x) _ o') k.second,
        ),
      )
  expr_back has W known a line n (Zext e m) w r o h =
      let k = zext_parts (width_in W e) (bits m) w h in
      let t = if_ok (nat_le k.operand (bits m)) (bits m) w _ k.gives in
      (k.operand, (expr_back has W known a line n e k.operand r o k.there, (sym t.1, subst (λ (p : ℕ). k.operand ≤ p) t.1 (leb-true k.operand (bits m) t.0))))
  expr_back has W known a line n (Slice e i j) w r o h =
      let k = slice_parts (width_in W e) (bits i) (bits j) w h in
      let t = if_ok (nat_lt (bits i) k.operand) (bits i + 1 - bits j) w _ k.gives in
      (k.operand, (expr_back has W known a line n e k.operand r o k.there, (ltb-true (bits i) k.operand t.0, sym t.1)))

  -- ---- a let

  by_name : (has : Name → ℕ → Type 0) (W : Widths) (x : Name) (e : Expr) (w : ℕ) → HasWidth has e w → width_in W e ≡ Ok w → (y : Name) (b : Bool) → bytes_eq y x ≡ b → (bytes_eq y x ≡ false → Looked W has y) → Looked (put_let x (width_in W e) W) (WithLet x e has) y
  by_name has W x e w t h y true same old = record {
    width = w;
    found = ap (λ (r : Result ℕ Clash). put_let x r W y) h ∙ ap (λ (b : Bool). if b then Some w else W y) same;
    is = inl (same_name y x same, t);
  }
  by_name has W x e w t h y false other old =
      let l = old other in
      record {
        width = l.width;
        found = ap (λ (r : Result ℕ Clash). put_let x r W y) h ∙ ap (λ (b : Bool). if b then Some w else W y) other ∙ l.found;
        is = inr ((λ same. true≢false (sym (name_same y x same) ∙ other)), l.is);
      }

  let_agrees : (has : Name → ℕ → Type 0) (W : Widths) (known : Name → Bool) (x : Name) (e : Expr) (w : ℕ) → Agree has W known → HasWidth has e w → width_in W e ≡ Ok w → Agree (WithLet x e has) (put_let x (width_in W e) W) (λ y. bytes_eq y x || known y)
  let_agrees has W known x e w a t h = record {
    names = λ y k. by_name has W x e w t h y (bytes_eq y x) refl (λ other. a.names y (sym (ap (λ (b : Bool). (b || known y) || (scope_of v).signal y) other) ∙ k));
    ports = λ y k. by_name has W x e w t h y (bytes_eq y x) refl (λ other. a.ports y k);
  }

  -- ---- statements

  -- these statements are refused nowhere, where names have these widths before them
  record Passes (has : Name → ℕ → Type 0) (list : List Stmt) : Type 0 where
    widths : Widths
    known : Name → Bool
    agree : Agree has widths known
    fits : mismatch_among widths list ≡ None
    names : unknown_among (scope_of v) (targets (scope_of v) clocked) known list ≡ None
    ports : first_of (unknown_port_in outputs) list ≡ None

  same_list : (has : Name → ℕ → Type 0) (list other : List Stmt) → list ≡ other → Passes has list → Passes has other
  same_list has list other e p = subst (Passes has) e p

  assign_back : (has : Name → ℕ → Type 0) (W : Widths) (known : Name → Bool) → Agree has W known → (slot line : ℕ) (gens : Gens) (x : Name) (part : Option (ℤ × ℤ)) (e : Expr) → stmt_mismatch W (Assign slot line gens x part e) ≡ None → unknown_in (scope_of v) (targets (scope_of v) clocked) known (Assign slot line gens x part e) ≡ None → unknown_output outputs line e ≡ None
      → (u w : ℕ) × (has x u × (PartGives part u w × HasWidth has e w))
  assign_back has W known a slot line gens x part e f r o =
      let signal = target_signal v clocked x (is_known (targets (scope_of v) clocked x) _ (earlier_right (unknown_read (scope_of v) known line e) _ r)) in
      let m = matches line x (needed_by (part_width (width_of W x) part) (width_in W e)) f in
      let k = part_back part (width_of W x) (width_in W e) m.0 m.1 in (
        width_of W x,
        m.0,
        (
          looked_is W has x (a.names x (or_right (known x) (named any_kind v.signals x) signal)),
          (k.0, expr_back has W known a line line e m.0 (earlier_left (unknown_read (scope_of v) known line e) _ r) o k.1),
        ),
      )

  mutual
    stmt_back : (has : Name → ℕ → Type 0) (s : Stmt) (more : List Stmt) → Passes has (s ∷ (inside s ++ more)) → IsTypedStmt has s × Passes (After s has) more
    stmt_back has (Assign slot line gens x part e) more p = (
      assign_back has p.widths p.known p.agree slot line gens x part e (earlier_left (stmt_mismatch p.widths (Assign slot line gens x part e)) _ p.fits) (earlier_left (unknown_in (scope_of v) (targets (scope_of v) clocked) p.known (Assign slot line gens x part e)) _ p.names) (earlier_left (unknown_output outputs line e) _ p.ports),
      record {
        widths = p.widths;
        known = p.known;
        agree = p.agree;
        fits = earlier_right (stmt_mismatch p.widths (Assign slot line gens x part e)) _ p.fits;
        names = earlier_right (unknown_in (scope_of v) (targets (scope_of v) clocked) p.known (Assign slot line gens x part e)) _ p.names;
        ports = earlier_right (unknown_output outputs line e) _ p.ports;
      },
    )
    stmt_back has (Let slot line gens x e) more p =
        let m = matches line x (width_in p.widths e) (earlier_left (stmt_mismatch p.widths (Let slot line gens x e)) _ p.fits) in
        let t = expr_back has p.widths p.known p.agree line line e m.0 (earlier_left (unknown_read (scope_of v) p.known line e) _ p.names) (earlier_left (unknown_output outputs line e) _ p.ports) m.1 in (
          (m.0, t),
          record {
            widths = put_let x (width_in p.widths e) p.widths;
            known = λ y. bytes_eq y x || p.known y;
            agree = let_agrees has p.widths p.known x e m.0 p.agree t m.1;
            fits = earlier_right (stmt_mismatch p.widths (Let slot line gens x e)) _ p.fits;
            names = earlier_right (unknown_read (scope_of v) p.known line e) _ p.names;
            ports = earlier_right (unknown_output outputs line e) _ p.ports;
          },
        )
    stmt_back has (If slot line gens c first second) more p =
        let m = matches line _ (needed 1 (width_in p.widths c)) (earlier_left (stmt_mismatch p.widths (If slot line gens c first second)) _ p.fits) in
        let t = expr_back has p.widths p.known p.agree line line c 1 (earlier_left (unknown_read (scope_of v) p.known line c) _ p.names) (earlier_left (unknown_output outputs line c) _ p.ports) (needed_there 1 (width_in p.widths c) m.0 m.1) in
        let behind : Passes has ((statements first ++ else_statements second) ++ more) = record {
          widths = p.widths;
          known = p.known;
          agree = p.agree;
          fits = earlier_right (stmt_mismatch p.widths (If slot line gens c first second)) _ p.fits;
          names = earlier_right (unknown_read (scope_of v) p.known line c) _ p.names;
          ports = earlier_right (unknown_output outputs line c) _ p.ports;
        } in
        let one = body_back has first (else_statements second ++ more) (same_list has _ _ (append_assoc (statements first) (else_statements second) more) behind) in
        let two = else_back (AfterBody first has) second more one.1 in
        ((t, (one.0, two.0)), two.1)
    stmt_back has (Case slot line gens value arms other) more p =
        let m = matches line _ (arms_width (width_in p.widths value) (arm_literals arms)) (earlier_left (stmt_mismatch p.widths (Case slot line gens value arms other)) _ p.fits) in
        let k = arms_parts (width_in p.widths value) (arm_literals arms) m.0 m.1 in
        let t = expr_back has p.widths p.known p.agree line line value k.operand (earlier_left (unknown_read (scope_of v) p.known line value) _ p.names) (earlier_left (unknown_output outputs line value) _ p.ports) k.there in
        let behind : Passes has ((arms_statements arms ++ else_statements other) ++ more) = record {
          widths = p.widths;
          known = p.known;
          agree = p.agree;
          fits = earlier_right (stmt_mismatch p.widths (Case slot line gens value arms other)) _ p.fits;
          names = earlier_right (unknown_read (scope_of v) p.known line value) _ p.names;
          ports = earlier_right (unknown_output outputs line value) _ p.ports;
        } in
        let one = arms_back has k.operand arms (else_statements other ++ more) k.gives (same_list has _ _ (append_assoc (arms_statements arms) (else_statements other) more) behind) in
        let two = else_back (AfterArms arms has) other more one.1 in
        ((k.operand, (t, (one.0, two.0))), two.1)

    body_back : (has : Name → ℕ → Type 0) (b : Body) (more : List Stmt) → Passes has (statements b ++ more) → IsTypedBody has b × Passes (AfterBody b has) more
    body_back has Done more p = (tt, p)
    body_back has (Then s rest) more p =
        let one = stmt_back has s (statements rest ++ more) (same_list has _ _ (ap (λ (list : List Stmt). s ∷ list) (append_assoc (inside s) (statements rest) more)) p) in
        let two = body_back (After s has) rest more one.1 in
        ((one.0, two.0), two.1)

    else_back : (has : Name → ℕ → Type 0) (b : Else) (more : List Stmt) → Passes has (else_statements b ++ more) → IsTypedElse has b × Passes (AfterElse b has) more
    else_back has NoElse more p = (tt, p)
    else_back has (Otherwise body) more p = body_back has body more p

    arms_back : (has : Name → ℕ → Type 0) (w : ℕ) (arms : Arms) (more : List Stmt) → EachOf (λ (l : Literal). bits l.width ≡ w) (arm_literals arms) → Passes has (arms_statements arms ++ more) → IsTypedArms has w arms × Passes (AfterArms arms has) more
    arms_back has w NoArms more literals p = (tt, p)
    arms_back has w (ThenArm tests body rest) more literals p =
        let one = body_back has body (arms_statements rest ++ more) (same_list has _ _ (append_assoc (statements body) (arms_statements rest) more) p) in
        let two = arms_back (AfterBody body has) w rest more (each_right (λ (l : Literal). bits l.width ≡ w) tests (arm_literals rest) literals) one.1 in
        ((each_left (λ (l : Literal). bits l.width ≡ w) tests (arm_literals rest) literals, (one.0, two.0)), two.1)

-- ---- a module

start_back : (k : Kind) (w n : ℕ) → start_width k w ≡ Ok n → StartFits k w
start_back Input w n e = tt
start_back Output w n e = tt
start_back Wire w n e = tt
start_back (Reg start) w n e = same_ok (bits start.width) w (needed_there w (Ok (bits start.width)) n e)
start_back (ChildOut u q) w n e = tt

module _ (variants : List Variant) (v : Variant) (c : IsClean variants v) where
  known_names : (clocked : Bool) → Agree v clocked (IsDeclared any_kind v.signals) (widths_of any_kind v.signals) (λ x. false)
  unfolding outputs
  known_names clocked = record {
    names = λ x k. declared any_kind v.signals x (signals_differ v c.apart) k;
    ports = λ x k. declared any_kind v.signals x (signals_differ v c.apart) (named_any is_child_output v.signals x k);
  }

  block_back : (b : Block) → IsIn b v.blocks → IsTypedBody (IsDeclared any_kind v.signals) b.body
  unfolding outputs
  block_back b i =
      (body_back v b.clocked (IsDeclared any_kind v.signals) b.body []
      (same_list v b.clocked (IsDeclared any_kind v.signals) _ _ (sym (append-nil (statements b.body))) (record {
        widths = widths_of any_kind v.signals;
        known = λ x. false;
        agree = known_names b.clocked;
        fits = each_member (λ (k : Block). mismatch_in_block (widths_of any_kind v.signals) k ≡ None) v.blocks
            (none_found (mismatch_in_block (widths_of any_kind v.signals)) v.blocks
            (earlier_right (first_of (mismatch_in_child (widths_of any_kind v.signals) variants) v.children) _ (earlier_right (first_of signal_mismatch v.signals) _ c.widths))) b i;
        names = block_known variants v b c i;
        ports = each_member (λ (k : Block). unknown_port_in_block (named is_child_output v.signals) k ≡ None) v.blocks
            (none_found (unknown_port_in_block (named is_child_output v.signals)) v.blocks
            (earlier_right (first_of (unknown_port_in_child (named is_child_output v.signals) variants) v.children) _ c.ports)) b i;
      }))).0

  starts_back : EachOf (λ (s : Signal). StartFits s.kind (bits s.width)) v.signals
  starts_back = each_from (λ (s : Signal). StartFits s.kind (bits s.width)) v.signals (λ s i.
      let m = matches s.line s.name (start_width s.kind (bits s.width))
      (each_member (λ (t : Signal). signal_mismatch t ≡ None) v.signals (none_found signal_mismatch v.signals (earlier_left (first_of signal_mismatch v.signals) _ c.widths)) s i) in
      start_back s.kind (bits s.width) m.0 m.1)

  -- where the signals of the child's variant differ in their names
  conn_back : (child : Child) → IsIn child v.children → Differ (λ y. false) (map signal_thing (signals_at child.variant variants)) → (k : Conn) → IsIn k child.conns → IsTypedConn variants v child k
  unfolding outputs
  conn_back child i d k j =
      let p = conn_passes variants v c child i k j in
      let ports = widths_of is_input (signals_at child.variant variants) in (
        width_of ports k.port,
        (
          looked_is ports (IsDeclared is_input (signals_at child.variant variants)) k.port (declared is_input (signals_at child.variant variants) k.port d p.port),
          expr_back v false (IsDeclared any_kind v.signals) (widths_of any_kind v.signals) (λ x. false) (known_names false) k.line k.line k.value (width_of ports k.port) p.reads p.outputs p.width,
        ),
      )

pub accepted_are_typed : AcceptedAreTyped
accepted_are_typed d sound v u =
    let c = used_clean d sound v u in
    let p = placed d v u in
    record {
      starts = starts_back d.variants v c;
      connections = each_from (λ (child : Child). EachOf (IsTypedConn d.variants v child) child.conns) v.children (λ child i.
          let at = in_index v.children child i in
          let below = child_stands d sound.kept p.number p.instance v p.stands at.0 child at.1 in
          let differ = signals_differ below.variant (clean d sound.accepted below.number below.instance below.variant below.stands).apart in
          each_from (IsTypedConn d.variants v child) child.conns (conn_back d.variants v c child i (subst (λ (signals : List Signal). Differ (λ y. false) (map signal_thing signals)) (sym below.signals) differ)));
      blocks = each_from (λ (b : Block). IsTypedBody (IsDeclared any_kind v.signals) b.body) v.blocks (block_back d.variants v c);
    }
