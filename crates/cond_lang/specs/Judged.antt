-- Which expressions are conditions over what names stand for: each name has a value, and the widths fit.
use Rattle.std.specs.Prelude.{ℕ, ◌+◌, ◌^◌, Bool, true, false, ◌&&◌, ◌==◌, nat_le, nat_lt, List, [], ◌∷◌, drop, Option, Some, None, Result, Ok, Err}
use Rattle.bv_core.specs.Value.{Bits}
use Rattle.bv_core.specs.Operators.{width1_of, width2_of}
use Rattle.bv_core.specs.declared.Op1.{Op1}
use Rattle.bv_core.specs.declared.Op1.TheVariants as op1
use Rattle.bv_core.specs.declared.Op2.{Op2}
use Rattle.bv_core.specs.declared.Op2.TheVariants as op2
use Rattle.gen_tree.specs.declared.Op.{Op}
use Rattle.gen_tree.specs.declared.Op.TheVariants as op
use Rattle.gen_tree.specs.Tree.{Int, Fam, Expr, read, out, value, unary, binary, mux, zext, slice}
use Rattle.cond_lang.specs.Names.{Name, number, fam_name, output_name}
use Rattle.cond_lang.specs.Meaning.{literal, unary_of, binary_of, tree_of, leaves}

-- what a name stands for at a place: a value of a width, nothing yet, or a value that was not kept
pub data Status : Type 0 where
  shown : (width : ℕ) → Status
  unset : Status
  removed : Status

-- the names in scope at a place, with what they stand for
abbrev pub Scope : Type 0
Scope = Name → Option Status

-- why an expression is no condition there: a name that has no value; or a part that does not fit, whose first token has this
-- offset
pub data Refusal : Type 0 where
  not_in_scope : Name → Refusal
  was_removed : Name → Refusal
  is_unset : Name → Refusal
  misfit : (offset : ℕ) → Refusal

-- ---- names

-- why a name has no value
abbrev pub refused_name : Name → Option Status → Option Refusal
refused_name x None = Some (not_in_scope x)
refused_name x (Some (shown w)) = None
refused_name x (Some unset) = Some (is_unset x)
refused_name x (Some removed) = Some (was_removed x)

abbrev pub or_else : Option Refusal → Option Refusal → Option Refusal
or_else (Some found) rest = Some found
or_else None rest = rest

-- the first of these names that has no value
abbrev pub first_refused : Scope → List Name → Option Refusal
first_refused scope [] = None
first_refused scope (x ∷ xs) = or_else (refused_name x (scope x)) (first_refused scope xs)

-- the width of a name that has a value
abbrev pub status_width : Option Status → ℕ
status_width None = 0
status_width (Some (shown w)) = w
status_width (Some unset) = 0
status_width (Some removed) = 0

-- ---- widths

-- the operator takes this width
abbrev pub fits_one : Op1 → ℕ → Bool
fits_one op1.Not w = true
fits_one op1.All w = true
fits_one op1.Any w = true
fits_one op1.Parity w = true
fits_one (op1.Slice high low) w = nat_le low high && nat_lt high w
fits_one (op1.Zext to) w = nat_le w to && nat_le to 128

-- the operator takes these widths
abbrev pub fits_two : Op2 → ℕ → ℕ → Bool
fits_two op2.Add a b = a == b
fits_two op2.Sub a b = a == b
fits_two op2.Mul a b = a == b
fits_two op2.And a b = a == b
fits_two op2.Or a b = a == b
fits_two op2.Xor a b = a == b
fits_two op2.Eq a b = a == b
fits_two op2.Ne a b = a == b
fits_two op2.Lt a b = a == b
fits_two op2.Le a b = a == b
fits_two op2.Shl a b = true
fits_two op2.Shr a b = true
fits_two op2.Cat a b = nat_le (a + b) 128

-- a choice takes a condition and two branches of these widths
abbrev pub fits_choice : ℕ → ℕ → ℕ → Bool
fits_choice c a b = c == 1 && a == b

-- a width from 1 to 128, and a number below 2 to its power
abbrev pub fits_literal : Bits → Bool
fits_literal b = nat_le 1 b.width && nat_le b.width 128 && nat_lt b.value (2 ^ b.width)

-- the offset of the first token
abbrev pub first : List ℕ → ℕ
first [] = 0
first (offset ∷ offsets) = offset

-- a part's width, with the offsets of the tokens behind it; or the offset of the first token of the first part in it that does
-- not fit
abbrev pub Judged : Type 0
Judged = Result (ℕ × List ℕ) ℕ

infixl 10 ◌>>=◌
abbrev pub ◌>>=◌ : {A B : Type 0} → Result A ℕ → (A → Result B ℕ) → Result B ℕ
(Ok x) >>= f = f x
(Err offset) >>= f = Err offset

-- a part of this width, where it fits; its tokens have the offsets `from` on, up to those of the rest
abbrev pub fitting : Bool → ℕ → List ℕ → List ℕ → Judged
fitting true w from rest = Ok (w, rest)
fitting false w from rest = Err (first from)

-- the tokens of a name: NAME, or NAME # NUMBER
abbrev pub index_tokens : Option Int → ℕ
index_tokens None = 1
index_tokens (Some i) = 3

abbrev pub fam_tokens : Fam → ℕ
fam_tokens f = index_tokens f.index

-- the tokens before the first operand: a bracket, or `cat` and a bracket
abbrev pub tokens_before : Op → ℕ
tokens_before op.Cat = 2
tokens_before _ = 1

-- a part whose tokens have these offsets, over names of these widths: operands from left to right, before their operator
abbrev pub width_in : (Name → ℕ) → Expr → List ℕ → Judged
width_in widths (read f) from = Ok (widths (fam_name f), drop (fam_tokens f) from)
width_in widths (out f q) from = Ok (widths (output_name f q), drop (fam_tokens f + 2) from)
width_in widths (value l) from = fitting (fits_literal (literal l)) (literal l).width from (drop 1 from)
width_in widths (unary o e) from = do
  a ← width_in widths e (drop 2 from)
  fitting (fits_one (unary_of o) a.0) (width1_of (unary_of o) a.0) from (drop 1 a.1)
width_in widths (binary o e f) from = do
  a ← width_in widths e (drop (tokens_before o) from)
  b ← width_in widths f (drop 1 a.1)
  fitting (fits_two (binary_of o) a.0 b.0) (width2_of (binary_of o) a.0 b.0) from (drop 1 b.1)
width_in widths (mux e f g) from = do
  c ← width_in widths e (drop 2 from)
  a ← width_in widths f (drop 1 c.1)
  b ← width_in widths g (drop 1 a.1)
  fitting (fits_choice c.0 a.0 b.0) a.0 from (drop 1 b.1)
width_in widths (zext e w) from = do
  a ← width_in widths e (drop 2 from)
  fitting (fits_one (op1.Zext (number w)) a.0) (width1_of (op1.Zext (number w)) a.0) from (drop 3 a.1)
width_in widths (slice e h l) from = do
  a ← width_in widths e from
  fitting (fits_one (op1.Slice (number h) (number l)) a.0) (width1_of (op1.Slice (number h) (number l)) a.0) from (drop 5 a.1)

-- ---- both

abbrev pub width_or_misfit : Judged → Result ℕ Refusal
width_or_misfit (Ok found) = Ok found.0
width_or_misfit (Err offset) = Err (misfit offset)

abbrev pub unless_refused : {A : Type 0} → Option Refusal → Result A Refusal → Result A Refusal
unless_refused None rest = rest
unless_refused (Some refusal) rest = Err refusal

-- the width of a condition whose tokens have these offsets, or why it is none: names in the order of the text, then widths
abbrev pub judged : Scope → Expr → List ℕ → Result ℕ Refusal
judged scope e offsets =
    unless_refused (first_refused scope (leaves (tree_of e))) (width_or_misfit (width_in (λ x. status_width (scope x)) e offsets))
