-- How many tokens an expression has: as many as spell it.
use Rattle.std.proofs.Common.{◌≡◌, ℕ, ◌+◌, suc, List, [], ◌∷◌, length, Option, Some, None, refl, ap, arith}
use Rattle.gen_token.specs.declared.Mark.{Mark}
use Rattle.gen_token.specs.Words.{Word, Tok}
use Rattle.gen_tree.specs.declared.Dialect.{Dialect}
use Rattle.gen_tree.specs.declared.Dialect.TheVariants as dialect
use Rattle.gen_tree.specs.declared.UnOp.{UnOp}
use Rattle.gen_tree.specs.declared.UnOp.TheVariants as un_op
use Rattle.gen_tree.specs.declared.Op.{Op}
use Rattle.gen_tree.specs.declared.Op.TheVariants as op
use Rattle.gen_tree.specs.Grammar.{Span, Single, SpellsInt, SpellsIndex, SpellsFam, SpellsLit, SpellsTwo, SpellsPrim, SpellsExpr, op_mark}
use Rattle.gen_tree.specs.Tree.{Int, num, var, bin, Fam, Lit, plain, bits, Expr, read, out, value, unary, binary, mux, zext, slice}
use Rattle.cond_lang.specs.Names.{Name}
use Rattle.cond_lang.specs.Meaning.{unary_of, binary_of, tree_of}
use Rattle.cond_lang.specs.Judged.{index_tokens, fam_tokens}
use Rattle.cond_lang.specs.Form.{seated, names_in}
use Rattle.cond_lang.specs.Places.{before_one, behind_one, before_two, size}

pub plain_before : (o : UnOp) → before_one (unary_of o) ≡ 2
plain_before un_op.Not = refl
plain_before un_op.All = refl
plain_before un_op.Any = refl
plain_before un_op.Parity = refl

pub plain_behind : (o : UnOp) → behind_one (unary_of o) ≡ 1
plain_behind un_op.Not = refl
plain_behind un_op.All = refl
plain_behind un_op.Any = refl
plain_behind un_op.Parity = refl

-- the tokens before the first operand, by whether a mark stands between the two
abbrev pub front : Option Mark → ℕ
front (Some m) = 1
front None = 2

front_is : (o : Op) → before_two (binary_of o) ≡ front (op_mark o)
front_is op.Add = refl
front_is op.Sub = refl
front_is op.Mul = refl
front_is op.And = refl
front_is op.Or = refl
front_is op.Xor = refl
front_is op.Eq = refl
front_is op.Ne = refl
front_is op.Lt = refl
front_is op.Le = refl
front_is op.Shl = refl
front_is op.Shr = refl
front_is op.Cat = refl

one_long : (w : Word) (ts rest : List Tok) → Single w ts rest → length ts ≡ suc (length rest)
one_long w [] rest h = absurd h
one_long w (t ∷ ts) rest h = ap (λ (l : List Tok). suc (length l)) h.1

int_long : (i : Int) (ts rest : List Tok) → SpellsInt dialect.Condition i ts rest → length ts ≡ suc (length rest)
int_long (num n) ts rest h = one_long _ ts rest h
int_long (var x) ts rest h = absurd h
int_long (bin o a b) ts rest h = absurd h

index_long : (i : Option Int) (ts rest : List Tok) → SpellsIndex dialect.Condition i ts rest → suc (length ts) ≡ index_tokens i + length rest
index_long None ts rest h = omega (arith, ap (λ (l : List Tok). length l) h)
index_long (Some i) ts rest (mid, hash, int) = omega (arith, one_long _ ts mid hash, int_long i mid rest int)

fam_long : (f : Fam) (ts rest : List Tok) → SpellsFam dialect.Condition f ts rest → length ts ≡ fam_tokens f + length rest
fam_long f ts rest (mid, name, index) = omega (arith, one_long _ ts mid name, index_long f.index mid rest index)

lit_long : (l : Lit) (ts rest : List Tok) → SpellsLit dialect.Condition l ts rest → length ts ≡ suc (length rest)
lit_long (plain w v) ts rest h = one_long _ ts rest h
lit_long (bits w v) ts rest h = absurd h

two_long : (k : Option Mark) (A B : Span) (m n : ℕ) (ts rest : List Tok) → ((ts rest : List Tok) → A ts rest → length ts ≡ m + length rest) → ((ts rest : List Tok) → B ts rest → length ts ≡ n + length rest)
    → SpellsTwo k A B ts rest → length ts ≡ front k + m + 1 + n + 1 + length rest
two_long (Some k) A B m n ts rest a b (t1, p, (t2, q, (t3, r, (t4, s, t)))) = omega (arith, one_long _ ts t1 p, a t1 t2 q, one_long _ t2 t3 r, b t3 t4 s, one_long _ t4 rest t)
two_long None A B m n ts rest a b (t1, p, (t2, q, (t3, r, (t4, s, (t5, t, u))))) =
    omega (arith, one_long _ ts t1 p, one_long _ t1 t2 q, a t2 t3 r, one_long _ t3 t4 s, b t4 t5 t, one_long _ t5 rest u)

pub prim_expr : (m : Dialect) (e : Expr) (ts rest : List Tok) → SpellsPrim m e ts rest → SpellsExpr m e ts rest
prim_expr m (read f) ts rest h = h
prim_expr m (out f q) ts rest h = h
prim_expr m (value l) ts rest h = h
prim_expr m (unary o e) ts rest h = h
prim_expr m (binary o a b) ts rest h = h
prim_expr m (mux c a b) ts rest h = h
prim_expr m (zext e w) ts rest h = h
prim_expr m (slice e h l) ts rest s = absurd s

pub spelled_long : (e : Expr) (names : List Name) (ts rest : List Tok) → SpellsExpr dialect.Condition e ts rest → length ts ≡ size (seated names e) + length rest
spelled_long (read f) names ts rest h = fam_long f ts rest h
spelled_long (out f q) names ts rest (t1, p, (t2, d, n)) = omega (arith, fam_long f ts t1 p, one_long _ t1 t2 d, one_long _ t2 rest n)
spelled_long (value l) names ts rest h = omega (arith, lit_long l ts rest h)
spelled_long (unary o e) names ts rest (t1, p, (t2, q, (t3, r, s))) =
    omega (arith, plain_before o, plain_behind o, one_long _ ts t1 p, one_long _ t1 t2 q, spelled_long e names t2 t3 r, one_long _ t3 rest s)
spelled_long (binary o a b) names ts rest h =
    let second = names_in names (tree_of a) in
    let long = two_long (op_mark o) (SpellsExpr dialect.Condition a) (SpellsExpr dialect.Condition b) (size (seated names a)) (size (seated second b)) ts rest (spelled_long a names) (spelled_long b second) h in
    omega (arith, front_is o, long)
spelled_long (mux c a b) names ts rest (t1, p, (t2, q, (t3, r, (t4, s, (t5, t, (t6, u, (t7, v, w))))))) =
    let second = names_in names (tree_of c) in
    let third = names_in second (tree_of a) in
    omega (arith, one_long _ ts t1 p, one_long _ t1 t2 q, spelled_long c names t2 t3 r, one_long _ t3 t4 s, spelled_long a second t4 t5 t, one_long _ t5 t6 u, spelled_long b third t6 t7 v, one_long _ t7 rest w)
spelled_long (zext e w) names ts rest (t1, p, (t2, q, (t3, r, (t4, s, (t5, t, u))))) =
    omega (arith, one_long _ ts t1 p, one_long _ t1 t2 q, spelled_long e names t2 t3 r, one_long _ t3 t4 s, int_long w t4 t5 t, one_long _ t5 rest u)
spelled_long (slice e h l) names ts rest (t1, p, (t2, q, (t3, r, (t4, s, (t5, t, u))))) =
    omega (arith, spelled_long e names ts t1 (prim_expr dialect.Condition e ts t1 p), one_long _ t1 t2 q, int_long h t2 t3 r, one_long _ t3 t4 s, int_long l t4 t5 t, one_long _ t5 rest u)
