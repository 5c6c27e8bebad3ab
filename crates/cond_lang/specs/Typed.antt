-- Which expressions of a condition have a width, where names have these: a clause for each form, whatever is judged first. And of one
-- that has none, which part is told: the parts of an expression in the order in which they are judged, and the first that has none.
use Rattle.std.specs.Prelude.{◌≡◌, ℕ, ◌+◌, ◌-◌, ◌<◌, ◌≤◌, List, [], ◌∷◌, ◌++◌, drop}
use Rattle.bv_core.specs.Value.{IsBits}
use Rattle.list_core.specs.Lists.{EachOf}
use Rattle.gen_token.specs.Words.{Tok}
use Rattle.gen_tree.specs.declared.Dialect.TheVariants as dialect
use Rattle.gen_tree.specs.declared.UnOp.{UnOp}
use Rattle.gen_tree.specs.declared.UnOp.TheVariants as un_op
use Rattle.gen_tree.specs.declared.Op.{Op}
use Rattle.gen_tree.specs.declared.Op.TheVariants as op
use Rattle.gen_tree.specs.Grammar.{SpellsExpr}
use Rattle.gen_tree.specs.Tree.{Expr, read, out, value, unary, binary, mux, zext, slice}
use Rattle.cond_lang.specs.Names.{Name, number, fam_name, output_name}
use Rattle.cond_lang.specs.Meaning.{literal}
use Rattle.cond_lang.specs.Judged.{fam_tokens, tokens_before}

-- ---- widths

-- the width of a result, where the operand has this width
abbrev pub UnaryGives : UnOp → (operand result : ℕ) → Type 0
UnaryGives un_op.Not u w = w ≡ u
UnaryGives un_op.All u w = w ≡ 1
UnaryGives un_op.Any u w = w ≡ 1
UnaryGives un_op.Parity u w = w ≡ 1

-- where the operands have these widths
abbrev pub BinaryGives : Op → (first second result : ℕ) → Type 0
BinaryGives op.Add u v w = (u ≡ v) × (w ≡ u)
BinaryGives op.Sub u v w = (u ≡ v) × (w ≡ u)
BinaryGives op.Mul u v w = (u ≡ v) × (w ≡ u)
BinaryGives op.And u v w = (u ≡ v) × (w ≡ u)
BinaryGives op.Or u v w = (u ≡ v) × (w ≡ u)
BinaryGives op.Xor u v w = (u ≡ v) × (w ≡ u)
BinaryGives op.Eq u v w = (u ≡ v) × (w ≡ 1)
BinaryGives op.Ne u v w = (u ≡ v) × (w ≡ 1)
BinaryGives op.Lt u v w = (u ≡ v) × (w ≡ 1)
BinaryGives op.Le u v w = (u ≡ v) × (w ≡ 1)
BinaryGives op.Shl u v w = w ≡ u
BinaryGives op.Shr u v w = w ≡ u
BinaryGives op.Cat u v w = (w ≡ u + v) × (w ≤ 128)

-- an expression has a width, where names have these
abbrev pub HasWidth : (Name → ℕ) → Expr → ℕ → Type 0
HasWidth widths (read f) w = w ≡ widths (fam_name f)
HasWidth widths (out f q) w = w ≡ widths (output_name f q)
HasWidth widths (value l) w = IsBits (literal l) × (w ≡ (literal l).width)
HasWidth widths (unary o e) w = (u : ℕ) × (HasWidth widths e u × UnaryGives o u w)
HasWidth widths (binary o a b) w = (u v : ℕ) × (HasWidth widths a u × (HasWidth widths b v × BinaryGives o u v w))
HasWidth widths (mux c a b) w = HasWidth widths c 1 × (HasWidth widths a w × HasWidth widths b w)
HasWidth widths (zext e n) w = (u : ℕ) × (HasWidth widths e u × ((w ≡ number n) × ((u ≤ w) × (w ≤ 128))))
HasWidth widths (slice e h l) w = (u : ℕ) × (HasWidth widths e u × ((number l ≤ number h) × ((number h < u) × (w ≡ number h - number l + 1))))

-- it has one
abbrev pub Fits : (Name → ℕ) → Expr → Type 0
Fits widths e = (w : ℕ) × HasWidth widths e w

-- ---- parts

-- how many tokens spell an expression
abbrev pub tokens_of : Expr → ℕ
tokens_of (read f) = fam_tokens f
tokens_of (out f q) = fam_tokens f + 2
tokens_of (value l) = 1
tokens_of (unary o e) = 2 + tokens_of e + 1
tokens_of (binary o a b) = tokens_before o + tokens_of a + 1 + tokens_of b + 1
tokens_of (mux c a b) = 2 + tokens_of c + 1 + tokens_of a + 1 + tokens_of b + 1
tokens_of (zext e n) = 2 + tokens_of e + 3
tokens_of (slice e h l) = tokens_of e + 5

-- the parts of an expression in the order in which they are judged, operands from left to right before their operator; each with the
-- number of its first token, where that of the expression is n
abbrev pub parts_from : ℕ → Expr → List (ℕ × Expr)
parts_from n (read f) = (n, read f) ∷ []
parts_from n (out f q) = (n, out f q) ∷ []
parts_from n (value l) = (n, value l) ∷ []
parts_from n (unary o e) = parts_from (n + 2) e ++ (n, unary o e) ∷ []
parts_from n (binary o a b) =
    parts_from (n + tokens_before o) a ++ (parts_from (n + tokens_before o + tokens_of a + 1) b ++ (n, binary o a b) ∷ [])
parts_from n (mux c a b) =
    parts_from (n + 2) c ++ (parts_from (n + 2 + tokens_of c + 1) a ++ (parts_from (n + 2 + tokens_of c + 1 + tokens_of a + 1) b ++ (n, mux c a b) ∷ []))
parts_from n (zext e m) = parts_from (n + 2) e ++ (n, zext e m) ∷ []
parts_from n (slice e h l) = parts_from n e ++ (n, slice e h l) ∷ []

-- the first of these parts that has no width begins with this token: all before it have one
pub record IsFirstMisfit (widths : Name → ℕ) (parts : List (ℕ × Expr)) (begin : ℕ) : Type 0 where
  pub before : List (ℕ × Expr)
  pub part : Expr
  pub behind : List (ℕ × Expr)
  pub split : parts ≡ before ++ (begin, part) ∷ behind
  pub fit : EachOf (λ p. Fits widths p.1) before
  pub misfit : Fits widths part → ⊥

-- the tokens from that of its number on begin with what a part spells
abbrev pub IsSpelledAt : List Tok → ℕ × Expr → Type 0
IsSpelledAt tokens p = (rest : List Tok) × SpellsExpr dialect.Condition p.1 (drop p.0 tokens) rest
