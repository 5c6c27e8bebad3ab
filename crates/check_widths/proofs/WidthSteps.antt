-- The widths of operators, after those of their operands.
use Rattle.std.proofs.Common.{◌≡◌, ℕ, List, Option, Some, None, Result, Ok, Err, refl, ap, ap₂, ◌∙◌}
use Rattle.design_core.specs.declared.expr.Literal.{Literal}
use Rattle.design_core.specs.declared.expr.UnOp.{UnOp}
use Rattle.design_core.specs.declared.expr.Op.{Op}
use Rattle.check_core.specs.declared.fault.Clash.{Clash}
use Rattle.check_core.specs.declared.fault.CheckFault.{CheckFault}
use Rattle.names.specs.Known.{Name}
use Rattle.check_core.specs.Widths.{mismatch, unary_width, binary_width, mux_width, zext_width, slice_width, unary_of, binary_of, mux_of, zext_of, slice_of, needed, needed_width, needed_by, arms_width, literals_width}

no_some : {A : Type 0} (a : A) (o : Option A) → o ≡ None → o ≡ Some a → ⊥
no_some a o e f = cc

pub unary_done : (o : UnOp) (a : Result ℕ Clash) (v : ℕ) → a ≡ Ok v → unary_of o a ≡ Ok (unary_width o v)
unary_done o a v e = ap (unary_of o) e

pub unary_inside : (line : ℕ) (name : Name) (fault : CheckFault) (o : UnOp) (a : Result ℕ Clash) → mismatch line name a ≡ Some fault → mismatch line name (unary_of o a) ≡ Some fault
unary_inside line name fault o (Ok v) e = absurd (no_some fault None refl e)
unary_inside line name fault o (Err found) e = e

pub binary_done : (o : Op) (a b : Result ℕ Clash) (v w x : ℕ) → a ≡ Ok v → b ≡ Ok w → binary_width o v w ≡ Ok x → binary_of o a b ≡ Ok x
binary_done o a b v w x e f g = ap₂ (binary_of o) e f ∙ g

pub binary_left : (line : ℕ) (name : Name) (fault : CheckFault) (o : Op) (a b : Result ℕ Clash) → mismatch line name a ≡ Some fault → mismatch line name (binary_of o a b) ≡ Some fault
binary_left line name fault o (Ok v) b e = absurd (no_some fault None refl e)
binary_left line name fault o (Err found) b e = e

pub binary_right : (line : ℕ) (name : Name) (fault : CheckFault) (o : Op) (a b : Result ℕ Clash) (v : ℕ) → a ≡ Ok v → mismatch line name b ≡ Some fault → mismatch line name (binary_of o a b) ≡ Some fault
binary_right line name fault o a (Ok w) v e f = absurd (no_some fault None refl f)
binary_right line name fault o a (Err found) v e f = ap (λ r. mismatch line name (binary_of o r (Err found))) e ∙ f

pub binary_op : (line : ℕ) (name : Name) (fault : CheckFault) (o : Op) (a b : Result ℕ Clash) (v w : ℕ) → a ≡ Ok v → b ≡ Ok w → mismatch line name (binary_width o v w) ≡ Some fault → mismatch line name (binary_of o a b) ≡ Some fault
binary_op line name fault o a b v w e f g = ap₂ (λ r s. mismatch line name (binary_of o r s)) e f ∙ g

pub mux_done : (a b c : Result ℕ Clash) (u v w x : ℕ) → a ≡ Ok u → b ≡ Ok v → c ≡ Ok w → mux_width u v w ≡ Ok x → mux_of a b c ≡ Ok x
mux_done a b c u v w x e f g h = (λ i. mux_of (e i) (f i) (g i)) ∙ h

pub mux_test : (line : ℕ) (name : Name) (fault : CheckFault) (a b c : Result ℕ Clash) → mismatch line name a ≡ Some fault → mismatch line name (mux_of a b c) ≡ Some fault
mux_test line name fault (Ok u) b c e = absurd (no_some fault None refl e)
mux_test line name fault (Err found) b c e = e

pub mux_first : (line : ℕ) (name : Name) (fault : CheckFault) (a b c : Result ℕ Clash) (u : ℕ) → a ≡ Ok u → mismatch line name b ≡ Some fault → mismatch line name (mux_of a b c) ≡ Some fault
mux_first line name fault a (Ok v) c u e f = absurd (no_some fault None refl f)
mux_first line name fault a (Err found) c u e f = ap (λ r. mismatch line name (mux_of r (Err found) c)) e ∙ f

pub mux_second : (line : ℕ) (name : Name) (fault : CheckFault) (a b c : Result ℕ Clash) (u v : ℕ) → a ≡ Ok u → b ≡ Ok v → mismatch line name c ≡ Some fault → mismatch line name (mux_of a b c) ≡ Some fault
mux_second line name fault a b (Ok w) u v e f g = absurd (no_some fault None refl g)
mux_second line name fault a b (Err found) u v e f g = ap₂ (λ r s. mismatch line name (mux_of r s (Err found))) e f ∙ g

pub mux_op : (line : ℕ) (name : Name) (fault : CheckFault) (a b c : Result ℕ Clash) (u v w : ℕ) → a ≡ Ok u → b ≡ Ok v → c ≡ Ok w → mismatch line name (mux_width u v w) ≡ Some fault → mismatch line name (mux_of a b c) ≡ Some fault
mux_op line name fault a b c u v w e f g h = (λ i. mismatch line name (mux_of (e i) (f i) (g i))) ∙ h

pub zext_done : (a : Result ℕ Clash) (w v x : ℕ) → a ≡ Ok w → zext_width w v ≡ Ok x → zext_of a v ≡ Ok x
zext_done a w v x e f = ap (λ r. zext_of r v) e ∙ f

pub zext_inside : (line : ℕ) (name : Name) (fault : CheckFault) (a : Result ℕ Clash) (v : ℕ) → mismatch line name a ≡ Some fault → mismatch line name (zext_of a v) ≡ Some fault
zext_inside line name fault (Ok w) v e = absurd (no_some fault None refl e)
zext_inside line name fault (Err found) v e = e

pub zext_op : (line : ℕ) (name : Name) (fault : CheckFault) (a : Result ℕ Clash) (w v : ℕ) → a ≡ Ok w → mismatch line name (zext_width w v) ≡ Some fault → mismatch line name (zext_of a v) ≡ Some fault
zext_op line name fault a w v e f = ap (λ r. mismatch line name (zext_of r v)) e ∙ f

pub slice_done : (a : Result ℕ Clash) (w h l x : ℕ) → a ≡ Ok w → slice_width w h l ≡ Ok x → slice_of a h l ≡ Ok x
slice_done a w h l x e f = ap (λ r. slice_of r h l) e ∙ f

pub slice_inside : (line : ℕ) (name : Name) (fault : CheckFault) (a : Result ℕ Clash) (h l : ℕ) → mismatch line name a ≡ Some fault → mismatch line name (slice_of a h l) ≡ Some fault
slice_inside line name fault (Ok w) h l e = absurd (no_some fault None refl e)
slice_inside line name fault (Err found) h l e = e

pub slice_op : (line : ℕ) (name : Name) (fault : CheckFault) (a : Result ℕ Clash) (w h l : ℕ) → a ≡ Ok w → mismatch line name (slice_width w h l) ≡ Some fault → mismatch line name (slice_of a h l) ≡ Some fault
slice_op line name fault a w h l e f = ap (λ r. mismatch line name (slice_of r h l)) e ∙ f

pub ruleset width_steps = (unary_done, unary_inside, binary_done, binary_left, binary_right, binary_op, mux_done, mux_test, mux_first, mux_second, mux_op, zext_done, zext_inside, zext_op, slice_done, slice_inside, slice_op)

pub needed_inside : (line : ℕ) (name : Name) (fault : CheckFault) (want : ℕ) (a : Result ℕ Clash) → mismatch line name a ≡ Some fault → mismatch line name (needed want a) ≡ Some fault
needed_inside line name fault want (Ok w) e = absurd (no_some fault None refl e)
needed_inside line name fault want (Err found) e = e

pub needed_here : (line : ℕ) (name : Name) (fault : CheckFault) (want have : ℕ) (a : Result ℕ Clash) → a ≡ Ok have → mismatch line name (needed_width want have) ≡ Some fault → mismatch line name (needed want a) ≡ Some fault
needed_here line name fault want have a e f = ap (λ r. mismatch line name (needed want r)) e ∙ f

pub needed_done : (line : ℕ) (name : Name) (want have w : ℕ) (a : Result ℕ Clash) → a ≡ Ok have → needed_width want have ≡ Ok w → mismatch line name (needed want a) ≡ None
needed_done line name want have w a e f = ap (λ r. mismatch line name (needed want r)) e ∙ ap (mismatch line name) f

pub none_done : (line : ℕ) (name : Name) (w : ℕ) (a : Result ℕ Clash) → a ≡ Ok w → mismatch line name a ≡ None
none_done line name w a e = ap (mismatch line name) e

pub ruleset needed_steps = (needed_inside, needed_here, needed_done, none_done)

-- ---- an assignment, whose width stands behind that of its expression

pub by_inside : (line : ℕ) (name : Name) (fault : CheckFault) (want have : Result ℕ Clash) → mismatch line name have ≡ Some fault → mismatch line name (needed_by want have) ≡ Some fault
by_inside line name fault want (Ok w) e = absurd (no_some fault None refl e)
by_inside line name fault (Ok w) (Err found) e = e
by_inside line name fault (Err other) (Err found) e = e

pub by_target : (line : ℕ) (name : Name) (fault : CheckFault) (want have : Result ℕ Clash) (w : ℕ) → have ≡ Ok w → mismatch line name want ≡ Some fault → mismatch line name (needed_by want have) ≡ Some fault
by_target line name fault (Ok v) have w e f = absurd (no_some fault None refl f)
by_target line name fault (Err found) have w e f = ap (λ r. mismatch line name (needed_by (Err found) r)) e ∙ f

pub by_here : (line : ℕ) (name : Name) (fault : CheckFault) (want have : Result ℕ Clash) (v w : ℕ) → want ≡ Ok v → have ≡ Ok w → mismatch line name (needed_width v w) ≡ Some fault
    → mismatch line name (needed_by want have) ≡ Some fault
by_here line name fault want have v w e f g = ap₂ (λ r s. mismatch line name (needed_by r s)) e f ∙ g

pub by_done : (line : ℕ) (name : Name) (want have : Result ℕ Clash) (v w x : ℕ) → want ≡ Ok v → have ≡ Ok w → needed_width v w ≡ Ok x → mismatch line name (needed_by want have) ≡ None
by_done line name want have v w x e f g = ap₂ (λ r s. mismatch line name (needed_by r s)) e f ∙ ap (mismatch line name) g

pub ruleset by_steps = (by_inside, by_target, by_here, by_done)

-- ---- a `case`, whose literals stand behind its value

pub arms_inside : (line : ℕ) (name : Name) (fault : CheckFault) (a : Result ℕ Clash) (literals : List Literal) → mismatch line name a ≡ Some fault → mismatch line name (arms_width a literals) ≡ Some fault
arms_inside line name fault (Ok w) literals e = absurd (no_some fault None refl e)
arms_inside line name fault (Err found) literals e = e

pub arms_here : (line : ℕ) (name : Name) (fault : CheckFault) (a : Result ℕ Clash) (literals : List Literal) (w : ℕ) → a ≡ Ok w → mismatch line name (literals_width w literals) ≡ Some fault
    → mismatch line name (arms_width a literals) ≡ Some fault
arms_here line name fault a literals w e f = ap (λ r. mismatch line name (arms_width r literals)) e ∙ f

pub arms_done : (line : ℕ) (name : Name) (a : Result ℕ Clash) (literals : List Literal) (w x : ℕ) → a ≡ Ok w → literals_width w literals ≡ Ok x → mismatch line name (arms_width a literals) ≡ None
arms_done line name a literals w x e f = ap (λ r. mismatch line name (arms_width r literals)) e ∙ ap (mismatch line name) f

pub ruleset arms_steps = (arms_inside, arms_here, arms_done)
