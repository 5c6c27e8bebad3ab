-- Each step of the evaluation of a form: what it asks of the trees behind an operator, and what the operator's tree comes to.
use Rattle.std.proofs.Common.{◌≡◌, ◌≤◌, ◌-◌, arith, length, get_or, take, drop, ℕ, List, Some, sym, ap, ap₂, ◌∙◌, subst}
use Rattle.bv_core.specs.Value.{Bits}
use Rattle.bv_core.specs.Operators.{Fits1, Fits2, FitsMux, apply1_of, apply2_of, choose_of, width1_of, width2_of}
use Rattle.bv_core.specs.declared.Op1.{Op1}
use Rattle.bv_core.specs.declared.Op2.{Op2}
use Rattle.bv_core.specs.declared.NodeId.{NodeId}
use Rattle.bv_core.specs.declared.Ref.{Ref}
use Rattle.bv_core.specs.declared.Sample.{Sample}
use Rattle.bv_core.specs.declared.Sample.TheVariants.{Known, Unknown}
use Rattle.bv_core.proofs.Results.{one_fits, two_fit, choice_fits, one_has_width, two_have_width, choice_has_width}
use Rattle.tree_core.specs.Tree.{Tree, Const, One, Two, Mux}
use Rattle.tree_core.specs.Width.{width_of, IsOf}
use Rattle.cond_lang.specs.Bound.{HasWidth, known, ref_width}
use Rattle.cond_lang.specs.declared.form.Unary.{Unary}
use Rattle.cond_lang.specs.declared.form.Part.{Part}
use Rattle.cond_lang.specs.declared.form.Part.TheVariants as part
use Rattle.cond_lang.specs.Form.{op_of, first_tree, later}
use Rattle.cond_lang.specs.Places.{ref_at, trees_at}
use Rattle.cond_lang.specs.Sampled.{Fits1At, Fits2At, FitsChoiceAt, IsReady, ComesTo}
use Rattle.cond_lang.specs.Strict.{on_one, on_two, on_three}
use Rattle.cond_lang.proofs.Forms.{headed}

-- ---- widths

value_of_some : (r : Sample) (b : Bits) (w : ℕ) → known r ≡ Some b → IsOf w b → HasWidth w r
value_of_some (Known c) b w e h = let is : c ≡ b = cc in subst (λ (b : Bits). IsOf w b) (sym is) h
value_of_some Unknown b w e h = tt

one_wide : (o : Op1) (w : ℕ) (s r : Sample) → Fits1 o w → HasWidth w s → known r ≡ on_one (apply1_of o) (known s) → HasWidth (width1_of o w) r
one_wide o w (Known b) r f h e =
    value_of_some r (apply1_of o b) (width1_of o w) e (record { width = one_has_width o b ∙ ap (width1_of o) h.width; bits = one_fits o b (subst (Fits1 o) (sym h.width) f) h.bits })
one_wide o w Unknown (Known c) f h e = absurd cc
one_wide o w Unknown Unknown f h e = tt

two_wide : (o : Op2) (v w : ℕ) (s t r : Sample) → Fits2 o v w → HasWidth v s → HasWidth w t → known r ≡ on_two (apply2_of o) (known s) (known t) → HasWidth (width2_of o v w) r
two_wide o v w (Known a) (Known b) r f h k e =
    value_of_some r (apply2_of o a b) (width2_of o v w) e (record {
      width = two_have_width o a b ∙ ap₂ (width2_of o) h.width k.width;
      bits = two_fit o a b (subst (λ n. Fits2 o n b.width) (sym h.width) (subst (Fits2 o v) (sym k.width) f)) h.bits k.bits;
    })
two_wide o v w (Known a) Unknown (Known c) f h k e = absurd cc
two_wide o v w (Known a) Unknown Unknown f h k e = tt
two_wide o v w Unknown t (Known c) f h k e = absurd cc
two_wide o v w Unknown t Unknown f h k e = tt

choice_wide : (u v w : ℕ) (q s t r : Sample) → FitsMux u v w → HasWidth u q → HasWidth v s → HasWidth w t → known r ≡ on_three choose_of (known q) (known s) (known t) → HasWidth v r
choice_wide u v w (Known c) (Known a) (Known b) r f g h k e =
    let widths : FitsMux c.width a.width b.width = (g.width ∙ f.0, h.width ∙ f.1 ∙ sym k.width) in
    value_of_some r (choose_of c a b) v e (record { width = choice_has_width c a b widths ∙ h.width; bits = choice_fits c a b widths h.bits k.bits })
choice_wide u v w (Known c) (Known a) Unknown (Known d) f g h k e = absurd cc
choice_wide u v w (Known c) (Known a) Unknown Unknown f g h k e = tt
choice_wide u v w (Known c) Unknown t (Known d) f g h k e = absurd cc
choice_wide u v w (Known c) Unknown t Unknown f g h k e = tt
choice_wide u v w Unknown s t (Known d) f g h k e = absurd cc
choice_wide u v w Unknown s t Unknown f g h k e = tt

one_at : (o : Op1) (w : ℕ) (s : Sample) → Fits1 o w → HasWidth w s → Fits1At o s
one_at o w (Known b) f h = subst (Fits1 o) (sym h.width) f
one_at o w Unknown f h = tt

two_at : (o : Op2) (v w : ℕ) (s t : Sample) → Fits2 o v w → HasWidth v s → HasWidth w t → Fits2At o s t
two_at o v w (Known a) (Known b) f h k = subst (λ n. Fits2 o n b.width) (sym h.width) (subst (Fits2 o v) (sym k.width) f)
two_at o v w (Known a) Unknown f h k = tt
two_at o v w Unknown t f h k = tt

choice_at : (u v w : ℕ) (q s t : Sample) → FitsMux u v w → HasWidth u q → HasWidth v s → HasWidth w t → FitsChoiceAt q s t
choice_at u v w (Known c) (Known a) (Known b) f g h k = (g.width ∙ f.0, h.width ∙ f.1 ∙ sym k.width)
choice_at u v w (Known c) (Known a) Unknown f g h k = tt
choice_at u v w (Known c) Unknown t f g h k = tt
choice_at u v w Unknown s t f g h k = tt

-- no values are asked for where no tree is left
pub none_asks : {X : Type 0} (pre : NodeId → Type 0) (post : NodeId → Sample → Type 0) → IsReady pre post (Const (record { width = 0; value = 0 })) → X
none_asks pre post h = let none : 1 ≤ 0 = h.fits.some in absurd (omega arith)

-- ---- steps

module _ (pre : NodeId → Type 0) (post : NodeId → Sample → Type 0) where
  abbrev Asks : Tree Ref → Type 0
  Asks t = IsReady pre post t

  abbrev Comes : Tree Ref → Sample → Type 0
  Comes t s = ComesTo post t s

  pub one_asks : (o : Op1) (a : Tree Ref) → Asks (One o a) → Asks a
  one_asks o a h = record { fits = h.fits.0; callable = h.callable; widths = h.widths }

  pub one_takes : (o : Op1) (a : Tree Ref) (s : Sample) → Asks (One o a) → Comes a s → Fits1At o s
  one_takes o a s h c = one_at o (width_of ref_width a) s h.fits.1 c.width

  pub one_comes : (o : Op1) (a : Tree Ref) (s r : Sample) → Asks (One o a) → Comes a s → known r ≡ on_one (apply1_of o) (known s) → Comes (One o a) r
  one_comes o a s r h c e = record { width = one_wide o (width_of ref_width a) s r h.fits.1 c.width e; value = λ samples each. e ∙ ap (on_one (apply1_of o)) (c.value samples each) }

  pub two_asks : (o : Op2) (a b : Tree Ref) → Asks (Two o a b) → Asks a × Asks b
  two_asks o a b h = (record { fits = h.fits.0; callable = h.callable.0; widths = h.widths.0 }, record { fits = h.fits.1; callable = h.callable.1; widths = h.widths.1 })

  pub two_takes : (o : Op2) (a b : Tree Ref) (s t : Sample) → Asks (Two o a b) → Comes a s → Comes b t → Fits2At o s t
  two_takes o a b s t h c d = two_at o (width_of ref_width a) (width_of ref_width b) s t h.fits.2 c.width d.width

  pub two_comes : (o : Op2) (a b : Tree Ref) (s t r : Sample) → Asks (Two o a b) → Comes a s → Comes b t → known r ≡ on_two (apply2_of o) (known s) (known t) → Comes (Two o a b) r
  two_comes o a b s t r h c d e = record {
    width = two_wide o (width_of ref_width a) (width_of ref_width b) s t r h.fits.2 c.width d.width e;
    value = λ samples each. e ∙ ap₂ (on_two (apply2_of o)) (c.value samples each.0) (d.value samples each.1);
  }

  pub mux_asks : (c a b : Tree Ref) → Asks (Mux c a b) → Asks c × Asks a × Asks b
  mux_asks c a b h = (
    record { fits = h.fits.0; callable = h.callable.0; widths = h.widths.0 },
    record { fits = h.fits.1; callable = h.callable.1; widths = h.widths.1 },
    record { fits = h.fits.2; callable = h.callable.2; widths = h.widths.2 },
  )

  pub mux_takes : (c a b : Tree Ref) (q s t : Sample) → Asks (Mux c a b) → Comes c q → Comes a s → Comes b t → FitsChoiceAt q s t
  mux_takes c a b q s t h z x y = choice_at (width_of ref_width c) (width_of ref_width a) (width_of ref_width b) q s t h.fits.3 z.width x.width y.width

  pub mux_comes : (c a b : Tree Ref) (q s t r : Sample) → Asks (Mux c a b) → Comes c q → Comes a s → Comes b t → known r ≡ on_three choose_of (known q) (known s) (known t) → Comes (Mux c a b) r
  mux_comes c a b q s t r h z x y e = record {
    width = choice_wide (width_of ref_width c) (width_of ref_width a) (width_of ref_width b) q s t r h.fits.3 z.width x.width y.width e;
    value = λ samples each. e ∙ (λ i. on_three choose_of (z.value samples each.0 i) (x.value samples each.1 i) (y.value samples each.2 i));
  }

  -- a form that begins with an operator
  abbrev Behind : List Ref → List Part → List (Tree Ref)
  Behind refs parts = trees_at refs (take (length parts - 1) (drop 1 parts))

  pub one_told : (refs : List Ref) (parts : List Part) (d : Part) (o : Unary) (s r : Sample) → 1 ≤ length parts → get_or parts 0 d ≡ part.One o → Asks (first_tree (trees_at refs parts))
      → Comes (first_tree (Behind refs parts)) s → known r ≡ on_one (apply1_of (op_of o)) (known s) → Comes (first_tree (trees_at refs parts)) r
  one_told refs parts d o s r some is h c e =
      let split = headed (λ s. ref_at refs s.place) parts d (part.One o) some is in
      subst (λ (ts : List (Tree Ref)). Comes (first_tree ts) r) (sym split)
      (one_comes (op_of o) (first_tree (Behind refs parts)) s r (subst (λ (ts : List (Tree Ref)). Asks (first_tree ts)) split h) c e)

  pub two_told : (refs : List Ref) (parts : List Part) (d : Part) (o : Op2) (mid : List (Tree Ref)) (s t r : Sample) → 1 ≤ length parts → get_or parts 0 d ≡ part.Two o → Asks (first_tree (trees_at refs parts))
      → Comes (first_tree (Behind refs parts)) t → mid ≡ later (Behind refs parts) → Comes (first_tree mid) s → known r ≡ on_two (apply2_of o) (known s) (known t) → Comes (first_tree (trees_at refs parts)) r
  two_told refs parts d o mid s t r some is h c later_is x e =
      let split = headed (λ s. ref_at refs s.place) parts d (part.Two o) some is in
      subst (λ (ts : List (Tree Ref)). Comes (first_tree ts) r) (sym split)
      (two_comes o (first_tree (later (Behind refs parts))) (first_tree (Behind refs parts)) s t r (subst (λ (ts : List (Tree Ref)). Asks (first_tree ts)) split h)
      (subst (λ (ts : List (Tree Ref)). Comes (first_tree ts) s) later_is x) c e)

  pub mux_told : (refs : List Ref) (parts : List Part) (d : Part) (mid low : List (Tree Ref)) (q s t r : Sample) → 1 ≤ length parts → get_or parts 0 d ≡ part.Mux → Asks (first_tree (trees_at refs parts))
      → Comes (first_tree (Behind refs parts)) t → mid ≡ later (Behind refs parts) → Comes (first_tree mid) s → low ≡ later mid → Comes (first_tree low) q → known r ≡ on_three choose_of (known q) (known s) (known t) → Comes (first_tree (trees_at refs parts)) r
  mux_told refs parts d mid low q s t r some is h c mid_is x low_is z e =
      let split = headed (λ s. ref_at refs s.place) parts d part.Mux some is in
      let ts = Behind refs parts in
      subst (λ (ts : List (Tree Ref)). Comes (first_tree ts) r) (sym split)
      (mux_comes (first_tree (later (later ts))) (first_tree (later ts)) (first_tree ts) q s t r (subst (λ (ts : List (Tree Ref)). Asks (first_tree ts)) split h)
      (subst (λ (l : List (Tree Ref)). Comes (first_tree l) q) (low_is ∙ ap later mid_is) z) (subst (λ (l : List (Tree Ref)). Comes (first_tree l) s) mid_is x) c e)
