-- What the part of Verilog that a net is printed in means, over values of names, all of them numbers without signs.
use Rattle.std.specs.Prelude.{◌≡◌, ℕ, ◌+◌, ◌-◌, ◌<◌, ◌≤◌, List, ◌∷◌, ◌++◌, map, codes}
use Rattle.std.specs.Fmt.{decimal}
use Rattle.bv_core.specs.Value.{Bits}
use Rattle.bv_core.specs.Operators.{apply1_of, apply2_of, choose_of}
use Rattle.bv_core.specs.declared.operators.Op1.TheVariants as one
use Rattle.bv_core.specs.declared.operators.Op2.TheVariants as two
use Rattle.list_core.specs.Lists.{EachOf, IsIn, AreApart}
use Rattle.verilog_out.specs.Syntax.{Identifier, Given, Numbered, Prefix, Invert, AllOf, AnyOf, ParityOf, Infix, Plus, Minus, Times, BitAnd, BitOr, BitXor, Equal, Unequal, Less, AtMost, ShiftLeft, ShiftRight, Expression, Literal, Copy, Before, Between, Join, Pad, Select, Choose, Declaration, Wire, Reg, Assignment, Module}

-- the name that an identifier stands for: an escaped one is the plain name
abbrev pub name_of : Identifier → List ℕ
name_of (Given name) = name
name_of (Numbered number) = codes "_" ++ decimal number

-- so many zeros
abbrev pub zeros_of : ℕ → Bits
zeros_of width = record { width = width; value = 0 }

-- ~ gives the other bit at each place; & | ^ before one operand take all its bits together
abbrev pub before_value : Prefix → Bits → Bits
before_value Invert a = apply1_of one.Not a
before_value AllOf a = apply1_of one.All a
before_value AnyOf a = apply1_of one.Any a
before_value ParityOf a = apply1_of one.Parity a

-- + - * are modulo 2 to the width; & | ^ are bit by bit; comparisons give one bit; << and >> fill with zeros
abbrev pub between_value : Infix → Bits → Bits → Bits
between_value Plus a b = apply2_of two.Add a b
between_value Minus a b = apply2_of two.Sub a b
between_value Times a b = apply2_of two.Mul a b
between_value BitAnd a b = apply2_of two.And a b
between_value BitOr a b = apply2_of two.Or a b
between_value BitXor a b = apply2_of two.Xor a b
between_value Equal a b = apply2_of two.Eq a b
between_value Unequal a b = apply2_of two.Ne a b
between_value Less a b = apply2_of two.Lt a b
between_value AtMost a b = apply2_of two.Le a b
between_value ShiftLeft a b = apply2_of two.Shl a b
between_value ShiftRight a b = apply2_of two.Shr a b

-- {a, b} puts a high; [high:low] selects; ?: is its second where its first is 1, else its third
abbrev pub meaning : (List ℕ → Bits) → Expression → Bits
meaning W (Literal b) = b
meaning W (Copy a) = W (name_of a)
meaning W (Before sign a) = before_value sign (W (name_of a))
meaning W (Between sign a b) = between_value sign (W (name_of a)) (W (name_of b))
meaning W (Join a b) = apply2_of two.Cat (W (name_of a)) (W (name_of b))
meaning W (Pad zeros a) = apply2_of two.Cat (zeros_of zeros) (W (name_of a))
meaning W (Select a high low) = apply1_of (one.Slice high low) (W (name_of a))
meaning W (Choose c a b) = choose_of (W (name_of c)) (W (name_of a)) (W (name_of b))

-- the widths under which it means that: those of the operand and of the target
abbrev pub BeforeFits : Prefix → ℕ → ℕ → Type 0
BeforeFits Invert a target = a ≡ target
BeforeFits AllOf a target = target ≡ 1
BeforeFits AnyOf a target = target ≡ 1
BeforeFits ParityOf a target = target ≡ 1

-- the right operand of a shift has any width
abbrev pub BetweenFits : Infix → ℕ → ℕ → ℕ → Type 0
BetweenFits Plus a b target = (a ≡ target) × (b ≡ target)
BetweenFits Minus a b target = (a ≡ target) × (b ≡ target)
BetweenFits Times a b target = (a ≡ target) × (b ≡ target)
BetweenFits BitAnd a b target = (a ≡ target) × (b ≡ target)
BetweenFits BitOr a b target = (a ≡ target) × (b ≡ target)
BetweenFits BitXor a b target = (a ≡ target) × (b ≡ target)
BetweenFits Equal a b target = (a ≡ b) × (target ≡ 1)
BetweenFits Unequal a b target = (a ≡ b) × (target ≡ 1)
BetweenFits Less a b target = (a ≡ b) × (target ≡ 1)
BetweenFits AtMost a b target = (a ≡ b) × (target ≡ 1)
BetweenFits ShiftLeft a b target = a ≡ target
BetweenFits ShiftRight a b target = a ≡ target

abbrev pub ExpressionFits : (List ℕ → Bits) → ℕ → Expression → Type 0
ExpressionFits W target (Literal b) = b.width ≡ target
ExpressionFits W target (Copy a) = (W (name_of a)).width ≡ target
ExpressionFits W target (Before sign a) = BeforeFits sign (W (name_of a)).width target
ExpressionFits W target (Between sign a b) = BetweenFits sign (W (name_of a)).width (W (name_of b)).width target
ExpressionFits W target (Join a b) = (W (name_of a)).width + (W (name_of b)).width ≡ target
ExpressionFits W target (Pad zeros a) = zeros + (W (name_of a)).width ≡ target
ExpressionFits W target (Select a high low) = (low ≤ high) × (high < (W (name_of a)).width) × (high - low + 1 ≡ target)
ExpressionFits W target (Choose c a b) = ((W (name_of c)).width ≡ 1) × ((W (name_of a)).width ≡ target) × ((W (name_of b)).width ≡ target)

-- a name with its width
abbrev pub declared_name : Declaration → List ℕ × ℕ
declared_name (Wire width a) = (name_of a, width)
declared_name (Reg width a start) = (name_of a, width)

-- the names of a module beside the clock, each with its width
abbrev pub names_of : Module → List (List ℕ × ℕ)
names_of m = (m.inputs ++ m.outputs) ++ map declared_name m.declarations

-- each name is declared once
abbrev pub AreDeclaredOnce : Module → Type 0
AreDeclaredOnce m = AreApart (codes "clk" ∷ map (λ (name : List ℕ × ℕ). name.0) (names_of m))

-- the widths fit, and the target has the value
pub record Holds (m : Module) (W : List ℕ → Bits) (a : Assignment) : Type 0 where
  pub width : ℕ
  pub declared : IsIn (name_of a.target, width) (names_of m)
  pub fits : ExpressionFits W width a.value
  pub value : W (name_of a.target) ≡ meaning W a.value

-- values of the names that meet a module: each has its width, and each assignment holds
pub record Meets (m : Module) (W : List ℕ → Bits) : Type 0 where
  pub widths : EachOf (λ (name : List ℕ × ℕ). (W name.0).width ≡ name.1) (names_of m)
  pub assignments : EachOf (Holds m W) m.assignments
