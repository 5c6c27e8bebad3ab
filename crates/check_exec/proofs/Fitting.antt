-- An expression that the checks pass is a tree whose widths fit.
use Rattle.std.proofs.Common.{◌≡◌, ℕ, ◌+◌, ◌-◌, ◌<◌, ◌≤◌, ◌==◌, Bool, true, false, ◌||◌, ◌&&◌, Some, None, unwrap_or, Result, Ok, Err, if◌then◌else◌, true≢false, refl, sym, ap, ap₂, ◌∙◌, subst, arith, leb-true, ltb-true, eqb-true}
use Rattle.std.specs.Prelude.{ℤ, pos, negsuc, nat_le, nat_lt, int_le}
use Rattle.bv_core.specs.Operators.{Fits1, Fits2, FitsMux, width1_of, width2_of}
use Rattle.tree_core.specs.Width.{width_of, WellFormed}
use Rattle.tree_core.proofs.Same.{both_true}
use Rattle.exec_core.specs.Block.{Name}
use Rattle.design_core.specs.declared.expr.UnOp.{UnOp}
use Rattle.design_core.specs.declared.expr.UnOp.TheVariants as one
use Rattle.design_core.specs.declared.expr.Op.{Op}
use Rattle.design_core.specs.declared.expr.Op.TheVariants as two
use Rattle.design_core.specs.Design.{Expr, Read, Out, Value, Unary, Binary, Mux, Zext, Slice}
use Rattle.design_exec.specs.Processes as processes
use Rattle.design_exec.specs.Processes.{tree_of}
use Rattle.check_core.specs.declared.fault.Clash.{Clash}
use Rattle.names.specs.Known.{Known}
use Rattle.check_core.specs.Names.{Scope, unknown_read}
use Rattle.design_core.specs.Dotted.{below}
use Rattle.check_core.specs.Ports.{unknown_output}
use Rattle.check_core.specs.Widths as checked
use Rattle.check_core.specs.Widths.{Widths, is_width, is_slice, is_sized, clash, where_same, unary_width, binary_width, mux_width, zext_width, slice_width, unary_of, binary_of, mux_of, zext_of, slice_of, width_in}
use Rattle.design_core.specs.Widths.{bits}
use Rattle.check_exec.proofs.Facts.{earlier_left, earlier_right}
use Rattle.check_exec.proofs.Widths.{width_from, literal_bits, is_known, err_ok, same_ok, if_ok}

-- a tree of this width
abbrev pub HasTree : (Name → Type 0) → (Name → ℕ) → Expr → ℕ → Type 0
HasTree good F e w = WellFormed good F (tree_of e) × (width_of F (tree_of e) ≡ w)

-- ---- operators

one_fits : (o : UnOp) (w : ℕ) → Fits1 (processes.unary_of o) w
one_fits one.Not w = tt
one_fits one.All w = tt
one_fits one.Any w = tt
one_fits one.Parity w = tt

one_width : (o : UnOp) (w : ℕ) → width1_of (processes.unary_of o) w ≡ unary_width o w
one_width one.Not w = refl
one_width one.All w = refl
one_width one.Any w = refl
one_width one.Parity w = refl

two_fit : (o : Op) (a b w : ℕ) → binary_width o a b ≡ Ok w → Fits2 (processes.binary_of o) a b × (width2_of (processes.binary_of o) a b ≡ w)
two_fit two.Add a b w e = let h = if_ok (a == b) a w _ e in (eqb-true a b h.0, h.1)
two_fit two.Sub a b w e = let h = if_ok (a == b) a w _ e in (eqb-true a b h.0, h.1)
two_fit two.Mul a b w e = let h = if_ok (a == b) a w _ e in (eqb-true a b h.0, h.1)
two_fit two.And a b w e = let h = if_ok (a == b) a w _ e in (eqb-true a b h.0, h.1)
two_fit two.Or a b w e = let h = if_ok (a == b) a w _ e in (eqb-true a b h.0, h.1)
two_fit two.Xor a b w e = let h = if_ok (a == b) a w _ e in (eqb-true a b h.0, h.1)
two_fit two.Eq a b w e = let h = if_ok (a == b) 1 w _ e in (eqb-true a b h.0, h.1)
two_fit two.Ne a b w e = let h = if_ok (a == b) 1 w _ e in (eqb-true a b h.0, h.1)
two_fit two.Lt a b w e = let h = if_ok (a == b) 1 w _ e in (eqb-true a b h.0, h.1)
two_fit two.Le a b w e = let h = if_ok (a == b) 1 w _ e in (eqb-true a b h.0, h.1)
two_fit two.Shl a b w e = (tt, same_ok a w e)
two_fit two.Shr a b w e = (tt, same_ok a w e)
two_fit two.Cat a b w e = let h = if_ok (nat_le (a + b) 128) (a + b) w _ e in (leb-true (a + b) 128 h.0, h.1)

mux_fits : (c a b w : ℕ) → mux_width c a b ≡ Ok w → FitsMux c a b × (a ≡ w)
mux_fits c a b w e = by_test (c == 1) refl e
  where
    by_test : (t : Bool) → (c == 1) ≡ t → (if t then where_same a b a else clash c 1) ≡ Ok w → FitsMux c a b × (a ≡ w)
    by_test true h f = let k = if_ok (a == b) a w _ f in ((eqb-true c 1 h, eqb-true a b k.0), k.1)
    by_test false h f = absurd (err_ok _ w f)

-- places of a slice
pub slice_from : (h l : ℤ) → is_slice h l ≡ true → bits l ≤ bits h
slice_from (pos h) (pos l) e =
    let all = both_true (int_le (pos 0) (pos l)) (int_le (pos l) (pos h) && int_le (pos h) (pos 127)) e in
    leb-true l h (both_true (int_le (pos l) (pos h)) (int_le (pos h) (pos 127)) all.1).0
slice_from (negsuc h) (pos l) e =
    let all = both_true (int_le (pos 0) (pos l)) (int_le (pos l) (negsuc h) && int_le (negsuc h) (pos 127)) e in
    absurd (true≢false (sym (both_true (int_le (pos l) (negsuc h)) (int_le (negsuc h) (pos 127)) all.1).0))
slice_from h (negsuc l) e = absurd (true≢false (sym e))

slice_fits : (h l w v : ℕ) → l ≤ h → slice_width w h l ≡ Ok v → ((l ≤ h) × (h < w)) × (h - l + 1 ≡ v)
slice_fits h l w v low e =
    let k = if_ok (nat_lt h w) (h + 1 - l) v _ e in
    ((low, ltb-true h w k.0), one_more ∙ k.1)
  where
    one_more : h - l + 1 ≡ h + 1 - l
    one_more = omega (arith, low)

-- ---- operands

unary_parts : (o : UnOp) (r : Result ℕ Clash) (w : ℕ) → unary_of o r ≡ Ok w → (v : ℕ) × ((r ≡ Ok v) × (unary_width o v ≡ w))
unary_parts o (Ok v) w e = (v, (refl, same_ok (unary_width o v) w e))
unary_parts o (Err f) w e = absurd (err_ok f w e)

binary_parts : (o : Op) (r s : Result ℕ Clash) (w : ℕ) → binary_of o r s ≡ Ok w → (u v : ℕ) × ((r ≡ Ok u) × (s ≡ Ok v) × (binary_width o u v ≡ Ok w))
binary_parts o (Ok u) (Ok v) w e = (u, v, (refl, refl, e))
binary_parts o (Ok u) (Err f) w e = absurd (err_ok f w e)
binary_parts o (Err f) s w e = absurd (err_ok f w e)

mux_parts : (q r s : Result ℕ Clash) (w : ℕ) → mux_of q r s ≡ Ok w → (c u v : ℕ) × ((q ≡ Ok c) × (r ≡ Ok u) × (s ≡ Ok v) × (mux_width c u v ≡ Ok w))
mux_parts (Ok c) (Ok u) (Ok v) w e = (c, u, v, (refl, refl, refl, e))
mux_parts (Ok c) (Ok u) (Err f) w e = absurd (err_ok f w e)
mux_parts (Ok c) (Err f) s w e = absurd (err_ok f w e)
mux_parts (Err f) r s w e = absurd (err_ok f w e)

zext_parts : (r : Result ℕ Clash) (v w : ℕ) → zext_of r v ≡ Ok w → (u : ℕ) × ((r ≡ Ok u) × (zext_width u v ≡ Ok w))
zext_parts (Ok u) v w e = (u, (refl, e))
zext_parts (Err f) v w e = absurd (err_ok f w e)

slice_parts : (r : Result ℕ Clash) (h l w : ℕ) → slice_of r h l ≡ Ok w → (u : ℕ) × ((r ≡ Ok u) × (slice_width u h l ≡ Ok w))
slice_parts (Ok u) h l w e = (u, (refl, e))
slice_parts (Err f) h l w e = absurd (err_ok f w e)

-- ---- expressions

-- what may be read is good, and has the same width for both
pub record Agree (scope : Scope) (lets outputs : Known) (W : Widths) (good : Name → Type 0) (F : Name → ℕ) : Type 0 where
  pub names : (x : Name) → (lets x || scope.signal x) ≡ true → good x × (W x ≡ Some (F x))
  pub ports : (x : Name) → outputs x ≡ true → good x × (W x ≡ Some (F x))

pub width_at : (W : Widths) (F : Name → ℕ) (x : Name) → W x ≡ Some (F x) → checked.width_of W x ≡ F x
width_at W F x e = ap (λ o. unwrap_or o 0) e

module _ (scope : Scope) (lets outputs : Known) (W : Widths) (good : Name → Type 0) (F : Name → ℕ) (line n : ℕ) (agree : Agree scope lets outputs W good F) where
  unary_tree : (o : UnOp) (e : Expr) (v w : ℕ) → unary_width o v ≡ w → HasTree good F e v → HasTree good F (Unary o e) w
  unary_tree o e v w h t = ((t.0, one_fits o (width_of F (tree_of e))), ap (width1_of (processes.unary_of o)) t.1 ∙ one_width o v ∙ h)

  binary_tree : (o : Op) (a b : Expr) (u v w : ℕ) → binary_width o u v ≡ Ok w → HasTree good F a u → HasTree good F b v → HasTree good F (Binary o a b) w
  binary_tree o a b u v w h t k =
      let fits = two_fit o u v w h in (
        (t.0, k.0, subst (λ p. Fits2 (processes.binary_of o) p (width_of F (tree_of b))) (sym t.1) (subst (λ p. Fits2 (processes.binary_of o) u p) (sym k.1) fits.0)),
        ap₂ (width2_of (processes.binary_of o)) t.1 k.1 ∙ fits.1,
      )

  mux_tree : (c a b : Expr) (q u v w : ℕ) → mux_width q u v ≡ Ok w → HasTree good F c q → HasTree good F a u → HasTree good F b v → HasTree good F (Mux c a b) w
  mux_tree c a b q u v w h s t k =
      let fits = mux_fits q u v w h in
      ((s.0, t.0, k.0, (s.1 ∙ (fits.0).0, t.1 ∙ (fits.0).1 ∙ sym k.1)), t.1 ∙ fits.1)

  zext_tree : (e : Expr) (to : ℤ) (u w : ℕ) → is_width to ≡ true → zext_width u (bits to) ≡ Ok w → HasTree good F e u → HasTree good F (Zext e to) w
  zext_tree e to u w s h t =
      let k = if_ok (nat_le u (bits to)) (bits to) w _ h in (
        (
          t.0,
          (
            (subst (λ p. p ≤ bits to) (sym t.1) (leb-true u (bits to) k.0)),
            (width_from to s).1,
          ),
        ),
        k.1,
      )

  slice_tree : (e : Expr) (h l : ℤ) (u w : ℕ) → is_slice h l ≡ true → slice_width u (bits h) (bits l) ≡ Ok w → HasTree good F e u → HasTree good F (Slice e h l) w
  slice_tree e h l u w s f t =
      let k = slice_fits (bits h) (bits l) u w (slice_from h l s) f in (
        (
          t.0,
          (
            ((k.0).0),
            (subst (λ p. bits h < p) (sym t.1) (k.0).1),
          ),
        ),
        k.1,
      )

  pub fits_expr : (e : Expr) (w : ℕ) → unknown_read scope lets line e ≡ None → unknown_output outputs n e ≡ None → is_sized e ≡ true → width_in W e ≡ Ok w → HasTree good F e w
  fits_expr (Read x) w r o s h =
      let known = agree.names x (is_known (lets x || scope.signal x) _ r) in
      (known.0, sym (width_at W F x known.1) ∙ same_ok (checked.width_of W x) w h)
  fits_expr (Out u q) w r o s h =
      let known = agree.ports (below u q) (is_known (outputs (below u q)) _ o) in
      (known.0, sym (width_at W F (below u q) known.1) ∙ same_ok (checked.width_of W (below u q)) w h)
  fits_expr (Value l) w r o s h = (literal_bits l s, same_ok (bits l.width) w h)
  fits_expr (Unary p e) w r o s h =
      let k = unary_parts p (width_in W e) w h in
      unary_tree p e k.0 w k.1.1 (fits_expr e k.0 r o s k.1.0)
  fits_expr (Binary p a b) w r o s h =
      let k = binary_parts p (width_in W a) (width_in W b) w h in
      let sized = both_true (is_sized a) (is_sized b) s in
      binary_tree p a b k.0 k.1 w k.2.2
      (fits_expr a k.0 (earlier_left (unknown_read scope lets line a) _ r) (earlier_left (unknown_output outputs n a) _ o) sized.0 k.2.0)
      (fits_expr b k.1 (earlier_right (unknown_read scope lets line a) _ r) (earlier_right (unknown_output outputs n a) _ o) sized.1 k.2.1)
  fits_expr (Mux c a b) w r o s h =
      let k = mux_parts (width_in W c) (width_in W a) (width_in W b) w h in
      let sized = both_true (is_sized c) (is_sized a && is_sized b) s in
      let branches = both_true (is_sized a) (is_sized b) sized.1 in
      let r' = earlier_right (unknown_read scope lets line c) _ r in
      let o' = earlier_right (unknown_output outputs n c) _ o in
      mux_tree c a b k.0 k.1 k.2 w k.3.3
      (fits_expr c k.0 (earlier_left (unknown_read scope lets line c) _ r) (earlier_left (unknown_output outputs n c) _ o) sized.0 k.3.0)
      (fits_expr a k.1 (earlier_left (unknown_read scope lets line a) _ r') (earlier_left (unknown_output outputs n a) _ o') branches.0 k.3.1)
      (fits_expr b k.2 (earlier_right (unknown_read scope lets line a) _ r') (earlier_right (unknown_output outputs n a) _ o') branches.1 k.3.2)
  fits_expr (Zext e to) w r o s h =
      let k = zext_parts (width_in W e) (bits to) w h in
      let sized = both_true (is_sized e) (is_width to) s in
      zext_tree e to k.0 w sized.1 k.1.1 (fits_expr e k.0 r o sized.0 k.1.0)
  fits_expr (Slice e a b) w r o s h =
      let k = slice_parts (width_in W e) (bits a) (bits b) w h in
      let sized = both_true (is_sized e) (is_slice a b) s in
      slice_tree e a b k.0 w sized.1 k.1.1 (fits_expr e k.0 r o sized.0 k.1.0)
