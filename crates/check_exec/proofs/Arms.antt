-- A `case` as the nested `if`s that it is translated to: what they assign, which paths skip a bit, and how wide their conditions are.
use Rattle.std.proofs.Common.{◌≡◌, ℕ, ℤ, Bool, true, false, ◌||◌, ◌&&◌, List, [], ◌∷◌, ◌++◌, map, Option, Some, None, inl, inr, refl, sym, ap, ◌∙◌, subst, if◌then◌else◌, arith}
use Rattle.std.proofs.lemmas.Bool.{or_left, or_right}
use Rattle.bv_core.specs.Value.{Bits, IsBits}
use Rattle.bv_core.specs.Operators.{flag_of}
use Rattle.bv_core.specs.declared.operators.Op2.TheVariants.{Eq, Or}
use Rattle.tree_core.specs.Tree.{Const, Two}
use Rattle.tree_core.specs.Width.{width_of, WellFormed}
use Rattle.exec_core.specs.Block.{Name, Expr, Key, Part, assigns, body_assigns, Body}
use Rattle.exec_core.specs.Cases.{Arm, or_else_is, test_of, arms_body, case_of}
use Rattle.exec_core.specs.Paths.{HasWidth, Skips, BodySkips}
use Rattle.list_core.specs.Lists.{EachOf}
use Rattle.design_core.specs.Widths.{bits}
use Rattle.design_exec.specs.Processes.{part_of}
use Rattle.check_core.specs.Widths.{is_slice, is_part}
use Rattle.check_core.specs.Paths.{part_in}

or_none : (a : Bool) → (a || false) ≡ a
or_none true = refl
or_none false = refl

-- ---- what is assigned

pub case_assigns : (slot : ℕ) (v : Expr) (arms : List Arm) (other : Body) (y : Key) → assigns (case_of slot v arms other) y ≡ body_assigns (arms_body v arms other) y
case_assigns slot v [] other y = refl
case_assigns slot v (arm ∷ arms) other y = sym (or_none (body_assigns arm.body y || body_assigns (arms_body v arms other) y))

pub arm_assigns : (v : Expr) (arm : Arm) (arms : List Arm) (other : Body) (y : Key) → body_assigns (arms_body v (arm ∷ arms) other) y ≡ (body_assigns arm.body y || body_assigns (arms_body v arms other) y)
arm_assigns v arm arms other y = or_none (body_assigns arm.body y || body_assigns (arms_body v arms other) y)

-- ---- parts

-- bounds that are a slice are the part of the checks
pub same_part : (part : Option (ℤ × ℤ)) → is_part part ≡ true → part_in part ≡ part_of part
same_part None e = refl
same_part (Some b) e = ap (λ (t : Bool). if t then Some (part b) else Some none) e
  where
    part : ℤ × ℤ → Part
    part b = record { high = bits b.0; low = bits b.1 }

    none : Part
    none = record { high = 0; low = 1 }

-- ---- conditions

-- a literal of this width
abbrev pub IsLiteralOf : ℕ → Bits → Type 0
IsLiteralOf w l = (w ≡ l.width) × IsBits l

-- the condition of a `case` without an arm
pub false_bits : IsBits (flag_of false)
false_bits = record { some = omega arith; most = omega arith; fits = omega arith }

module _ (known : Name → Bool) (F : Name → ℕ) (v : Expr) (w : ℕ) (wide : HasWidth known F v w) where
  or_wide : (t : Expr) (ls : List Bits) → HasWidth known F t 1 → EachOf (IsLiteralOf w) ls → HasWidth known F (or_else_is t v ls) 1
  or_wide t [] h g = h
  or_wide t (l ∷ ls) h g = or_wide (Two Or t (Two Eq v (Const l))) ls ((h.0, (wide.0, g.0.1, wide.1 ∙ g.0.0), h.1), h.1) g.1

  pub test_wide : (ls : List Bits) → EachOf (IsLiteralOf w) ls → HasWidth known F (test_of v ls) 1
  test_wide [] g = (false_bits, refl)
  test_wide (l ∷ ls) g = or_wide (Two Eq v (Const l)) ls ((wide.0, g.0.1, wide.1 ∙ g.0.0), refl) g.1
