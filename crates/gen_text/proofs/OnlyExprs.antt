-- What a tree spells is read as that tree: integers and expressions.
use Rattle.std.proofs.Common.{◌≡◌, ◌≤◌, ◌-◌, ℕ, zero, suc, Bool, true, false, List, [], ◌∷◌, Option, Some, None, Ok, refl, ◌∙◌, arith}
use Rattle.gen_token.specs.declared.Keyword.{Keyword}
use Rattle.gen_token.specs.declared.Mark.{Mark}
use Rattle.gen_token.specs.declared.Mark.TheVariants as mark
use Rattle.gen_token.specs.Words.{Word, Name, Sign, Tok}
use Rattle.gen_tree.specs.declared.IntOp.{IntOp}
use Rattle.gen_tree.specs.declared.IntOp.TheVariants as int_op
use Rattle.gen_tree.specs.declared.Cmp.{Cmp}
use Rattle.gen_tree.specs.declared.Cmp.TheVariants as cmp
use Rattle.gen_tree.specs.declared.UnOp.{UnOp}
use Rattle.gen_tree.specs.declared.UnOp.TheVariants as un_op
use Rattle.gen_tree.specs.declared.Op.{Op}
use Rattle.gen_tree.specs.declared.Op.TheVariants as op
use Rattle.gen_tree.specs.declared.Dialect.{Dialect}
use Rattle.gen_tree.specs.declared.Dialect.TheVariants as dialect
use Rattle.gen_tree.specs.Tree.{Int, num, var, bin, Fam, Lit, plain, bits, Expr, read, out, value, unary, binary, mux, zext, slice}
use Rattle.gen_tree.specs.Grammar.{Single, Sym, Key, SpellsInt, SpellsIndex, SpellsFam, SpellsLit, SpellsTwo, SpellsPrim, SpellsExpr, int_op_mark, cmp_mark, op_mark}
use Rattle.gen_text.specs.Forms.{is_mark}
use Rattle.gen_text.specs.Reading.{behind, mark_at, keyword_at, begins, rest_of, name_at, open_at, int_at, int_op_at, cmp_at, index_at, fam_rest_at, fam_at, lit_at, op_at, prim_step, expr_step, expr_at, inner_expr}
use Rattle.gen_text.proofs.Machine.{Fixed, key, sign, fixed_word, is_fixed}
use Rattle.gen_text.proofs.WordsRead.{is_itself}
use Rattle.gen_text.proofs.Depth.{int_depth, index_depth, lit_depth, expr_depth}

-- ---- one word

pub word_only : (f : Fixed) (ts rest : List Tok) → Single (fixed_word f) ts rest → behind (is_fixed f) ts ≡ Ok rest
word_only f [] rest h = absurd h
word_only f (t ∷ ts) rest h = rw (h.0, is_itself f, h.1) refl

pub mark_only : (m : Mark) (ts rest : List Tok) → Sym m ts rest → mark_at m ts ≡ Ok rest
mark_only m ts rest h = word_only (sign m) ts rest h

pub key_only : (k : Keyword) (ts rest : List Tok) → Key k ts rest → keyword_at k ts ≡ Ok rest
key_only k ts rest h = word_only (key k) ts rest h

-- a word stands there that does not pass the test
pub not_next : (test : Word → Bool) (w : Word) (ts rest : List Tok) → test w ≡ false → Single w ts rest → begins test ts ≡ false
not_next test w [] rest e h = refl
not_next test w (t ∷ ts) rest e h = rw (h.0, e) refl

pub next_is : (f : Fixed) (ts rest : List Tok) → Single (fixed_word f) ts rest → (begins (is_fixed f) ts ≡ true) × (rest_of ts ≡ rest)
next_is f [] rest h = absurd h
next_is f (t ∷ ts) rest h = (rw (h.0, is_itself f) refl, h.1)

pub name_only : (x : List ℕ) (ts rest : List Tok) → Single (Name x) ts rest → name_at ts ≡ Ok (x, rest)
name_only x [] rest h = absurd h
name_only x (t ∷ ts) rest h = rw (h.0, h.1) refl

pub open_only : (m : Mark) (room : ℕ) (ts rest : List Tok) → Sym m ts rest → open_at m (suc room) ts ≡ Ok rest
open_only m room ts rest h = mark_only m ts rest h

pub less_one : (n : ℕ) → suc n - 1 ≡ n
less_one n = omega arith

-- ---- integers

int_op_only : (o : IntOp) (ts rest : List Tok) → Sym (int_op_mark o) ts rest → int_op_at ts ≡ Ok (o, rest)
int_op_only o [] rest h = absurd h
int_op_only int_op.Add (t ∷ ts) rest h = rw (h.0, h.1) refl
int_op_only int_op.Sub (t ∷ ts) rest h = rw (h.0, h.1) refl
int_op_only int_op.Mul (t ∷ ts) rest h = rw (h.0, h.1) refl

pub cmp_only : (c : Cmp) (ts rest : List Tok) → Sym (cmp_mark c) ts rest → cmp_at ts ≡ Ok (c, rest)
cmp_only c [] rest h = absurd h
cmp_only cmp.Eq (t ∷ ts) rest h = rw (h.0, h.1) refl
cmp_only cmp.Ne (t ∷ ts) rest h = rw (h.0, h.1) refl
cmp_only cmp.Lt (t ∷ ts) rest h = rw (h.0, h.1) refl
cmp_only cmp.Le (t ∷ ts) rest h = rw (h.0, h.1) refl

pub int_only : (m : Dialect) (x : Int) (room : ℕ) (ts rest : List Tok) → int_depth x ≤ room → SpellsInt m x ts rest → int_at m room ts ≡ Ok (x, rest)
unfolding int_at
int_only m (num n) room [] rest le h = absurd h
int_only m (num n) zero (t ∷ ts) rest le h = rw (h.0, h.1) refl
int_only m (num n) (suc room) (t ∷ ts) rest le h = rw (h.0, h.1) refl
int_only dialect.Condition (var x) room ts rest le h = absurd h
int_only dialect.Source (var x) room [] rest le h = absurd h
int_only dialect.Source (var x) zero (t ∷ ts) rest le h = rw (h.0, h.1) refl
int_only dialect.Source (var x) (suc room) (t ∷ ts) rest le h = rw (h.0, h.1) refl
int_only dialect.Condition (bin o a b) room ts rest le h = absurd h
int_only dialect.Source (bin o a b) room [] rest le h = absurd h.1
int_only dialect.Source (bin o a b) zero (t ∷ ts) rest le h = absurd (omega arith)
int_only dialect.Source (bin o a b) (suc room) (t ∷ ts) rest le (t1, w, (t2, sa, (t3, so, (t4, sb, sc)))) =
    rw (w.0, w.1, int_only dialect.Source a room t1 t2 (omega arith) sa, int_op_only o t2 t3 so, int_only dialect.Source b room t3 t4 (omega arith) sb, mark_only mark.RightParen t4 rest sc) refl

pub index_only : (m : Dialect) (i : Option Int) (room : ℕ) (ts rest : List Tok) → index_depth i ≤ room → SpellsIndex m i ts rest → begins (is_mark mark.Hash) rest ≡ false → index_at m room ts ≡ Ok (i, rest)
index_only m None room ts rest le h f = rw (h, f) refl
index_only m (Some i) room ts rest le (t1, w, si) f =
    let e = next_is (sign mark.Hash) ts t1 w in
    rw (e.0, e.1, int_only m i room t1 rest le si) refl

pub fam_rest_only : (m : Dialect) (f : Fam) (room : ℕ) (ts rest : List Tok) → index_depth f.index ≤ room → SpellsIndex m f.index ts rest → begins (is_mark mark.Hash) rest ≡ false → fam_rest_at m room f.name ts ≡ Ok (f, rest)
fam_rest_only m f room ts rest le h n = rw (index_only m f.index room ts rest le h n) refl

pub fam_only : (f : Fam) (room : ℕ) (ts rest : List Tok) → index_depth f.index ≤ room → SpellsFam dialect.Source f ts rest → begins (is_mark mark.Hash) rest ≡ false → fam_at room ts ≡ Ok (f, rest)
fam_only f room ts rest le (t1, x, h) n = rw (name_only f.name ts t1 x, fam_rest_only dialect.Source f room t1 rest le h n) refl

-- ---- literals

pub lit_only : (m : Dialect) (l : Lit) (room : ℕ) (ts rest : List Tok) → lit_depth l ≤ room → SpellsLit m l ts rest → lit_at m room ts ≡ Ok (l, rest)
lit_only m (plain w v) room [] rest le h = absurd h
lit_only m (plain w v) room (t ∷ ts) rest le h = rw (h.0, h.1) refl
lit_only dialect.Condition (bits w v) room ts rest le h = absurd h
lit_only dialect.Source (bits w v) room [] rest le h = absurd h.1
lit_only dialect.Source (bits w v) zero (t ∷ ts) rest le h = absurd (omega arith)
lit_only dialect.Source (bits w v) (suc room) (t ∷ ts) rest le (t1, k, (t2, s1, (t3, sw, (t4, s2, (t5, sv, s3))))) =
    rw (k.0, k.1, mark_only mark.LeftParen t1 t2 s1, less_one room, int_only dialect.Source w room t2 t3 (omega arith) sw, mark_only mark.Comma t3 t4 s2, int_only dialect.Source v room t4 t5 (omega arith) sv, mark_only mark.RightParen t5 rest s3) refl

-- ---- expressions

op_only : (o : Op) (k : Mark) (ts rest : List Tok) → op_mark o ≡ Some k → Sym k ts rest → op_at ts ≡ Ok (o, rest)
op_only o k [] rest e h = absurd h
op_only op.Add k (t ∷ ts) rest e h = let is : mark.Plus ≡ k = cc in rw (h.0, ← is, h.1) refl
op_only op.Sub k (t ∷ ts) rest e h = let is : mark.Minus ≡ k = cc in rw (h.0, ← is, h.1) refl
op_only op.Mul k (t ∷ ts) rest e h = let is : mark.Star ≡ k = cc in rw (h.0, ← is, h.1) refl
op_only op.And k (t ∷ ts) rest e h = let is : mark.Ampersand ≡ k = cc in rw (h.0, ← is, h.1) refl
op_only op.Or k (t ∷ ts) rest e h = let is : mark.Bar ≡ k = cc in rw (h.0, ← is, h.1) refl
op_only op.Xor k (t ∷ ts) rest e h = let is : mark.Caret ≡ k = cc in rw (h.0, ← is, h.1) refl
op_only op.Eq k (t ∷ ts) rest e h = let is : mark.EqualsEquals ≡ k = cc in rw (h.0, ← is, h.1) refl
op_only op.Ne k (t ∷ ts) rest e h = let is : mark.NotEquals ≡ k = cc in rw (h.0, ← is, h.1) refl
op_only op.Lt k (t ∷ ts) rest e h = let is : mark.Less ≡ k = cc in rw (h.0, ← is, h.1) refl
op_only op.Le k (t ∷ ts) rest e h = let is : mark.LessEquals ≡ k = cc in rw (h.0, ← is, h.1) refl
op_only op.Shl k (t ∷ ts) rest e h = let is : mark.LessLess ≡ k = cc in rw (h.0, ← is, h.1) refl
op_only op.Shr k (t ∷ ts) rest e h = let is : mark.GreaterGreater ≡ k = cc in rw (h.0, ← is, h.1) refl
op_only op.Cat k (t ∷ ts) rest e h = absurd cc

-- what may stand behind an expression
pub record Follows (ts : List Tok) : Type 0 where
  pub index : begins (is_mark mark.Hash) ts ≡ false
  pub dot : begins (is_mark mark.Dot) ts ≡ false
  pub bounds : begins (is_mark mark.LeftBracket) ts ≡ false

pub follows : (w : Word) (ts rest : List Tok) → is_mark mark.Hash w ≡ false → is_mark mark.Dot w ≡ false → is_mark mark.LeftBracket w ≡ false → Single w ts rest → Follows ts
follows w ts rest a b c h = record { index = not_next (is_mark mark.Hash) w ts rest a h; dot = not_next (is_mark mark.Dot) w ts rest b h; bounds = not_next (is_mark mark.LeftBracket) w ts rest c h }

follows_op : (o : Op) (k : Mark) (ts rest : List Tok) → op_mark o ≡ Some k → Sym k ts rest → Follows ts
follows_op op.Add k ts rest e h = let is : k ≡ mark.Plus = cc in follows (Sign k) ts rest (rw is refl) (rw is refl) (rw is refl) h
follows_op op.Sub k ts rest e h = let is : k ≡ mark.Minus = cc in follows (Sign k) ts rest (rw is refl) (rw is refl) (rw is refl) h
follows_op op.Mul k ts rest e h = let is : k ≡ mark.Star = cc in follows (Sign k) ts rest (rw is refl) (rw is refl) (rw is refl) h
follows_op op.And k ts rest e h = let is : k ≡ mark.Ampersand = cc in follows (Sign k) ts rest (rw is refl) (rw is refl) (rw is refl) h
follows_op op.Or k ts rest e h = let is : k ≡ mark.Bar = cc in follows (Sign k) ts rest (rw is refl) (rw is refl) (rw is refl) h
follows_op op.Xor k ts rest e h = let is : k ≡ mark.Caret = cc in follows (Sign k) ts rest (rw is refl) (rw is refl) (rw is refl) h
follows_op op.Eq k ts rest e h = let is : k ≡ mark.EqualsEquals = cc in follows (Sign k) ts rest (rw is refl) (rw is refl) (rw is refl) h
follows_op op.Ne k ts rest e h = let is : k ≡ mark.NotEquals = cc in follows (Sign k) ts rest (rw is refl) (rw is refl) (rw is refl) h
follows_op op.Lt k ts rest e h = let is : k ≡ mark.Less = cc in follows (Sign k) ts rest (rw is refl) (rw is refl) (rw is refl) h
follows_op op.Le k ts rest e h = let is : k ≡ mark.LessEquals = cc in follows (Sign k) ts rest (rw is refl) (rw is refl) (rw is refl) h
follows_op op.Shl k ts rest e h = let is : k ≡ mark.LessLess = cc in follows (Sign k) ts rest (rw is refl) (rw is refl) (rw is refl) h
follows_op op.Shr k ts rest e h = let is : k ≡ mark.GreaterGreater = cc in follows (Sign k) ts rest (rw is refl) (rw is refl) (rw is refl) h
follows_op op.Cat k ts rest e h = absurd cc

follows_comma : (ts rest : List Tok) → Sym mark.Comma ts rest → Follows ts
follows_comma ts rest h = follows (Sign mark.Comma) ts rest refl refl refl h

follows_close : (ts rest : List Tok) → Sym mark.RightParen ts rest → Follows ts
follows_close ts rest h = follows (Sign mark.RightParen) ts rest refl refl refl h

pub expr_opened : (m : Dialect) (room : ℕ) (ts : List Tok) → expr_at m room ts ≡ expr_step m room (inner_expr m room) ts
unfolding expr_at
expr_opened m zero ts = refl
expr_opened m (suc room) ts = refl

-- behind a primary expression no index and no dot stands
record PrimOnly (e : Expr) : Type 0 where
  only : (m : Dialect) (room : ℕ) (ts rest : List Tok) → expr_depth e ≤ room → SpellsPrim m e ts rest → begins (is_mark mark.Hash) rest ≡ false → begins (is_mark mark.Dot) rest ≡ false → prim_step m room (inner_expr m room) ts ≡ Ok (e, rest)

pub record ExprOnly (e : Expr) : Type 0 where
  pub only : (m : Dialect) (room : ℕ) (ts rest : List Tok) → expr_depth e ≤ room → SpellsExpr m e ts rest → Follows rest → expr_at m room ts ≡ Ok (e, rest)

from_prim : (e : Expr) → ((m : Dialect) (ts rest : List Tok) → SpellsExpr m e ts rest → SpellsPrim m e ts rest) → PrimOnly e → ExprOnly e
from_prim e plainly p = record { only = λ m room ts rest le h f. expr_opened m room ts ∙ rw (p.only m room ts rest le (plainly m ts rest h) f.index f.dot, f.bounds) refl }

read_only : (f : Fam) → PrimOnly (read f)
read_only f = record { only = by }
  where
    by : (m : Dialect) (room : ℕ) (ts rest : List Tok) → expr_depth (read f) ≤ room → SpellsPrim m (read f) ts rest → begins (is_mark mark.Hash) rest ≡ false → begins (is_mark mark.Dot) rest ≡ false → prim_step m room (inner_expr m room) ts ≡ Ok (read f, rest)
    by m room [] rest le h s d = absurd h.1
    by m room (t ∷ ts) rest le (t1, x, si) s d = rw (x.0, x.1, fam_rest_only m f room t1 rest le si s, d) refl

out_only : (f : Fam) (q : List ℕ) → PrimOnly (out f q)
out_only f q = record { only = by }
  where
    by : (m : Dialect) (room : ℕ) (ts rest : List Tok) → expr_depth (out f q) ≤ room → SpellsPrim m (out f q) ts rest → begins (is_mark mark.Hash) rest ≡ false → begins (is_mark mark.Dot) rest ≡ false → prim_step m room (inner_expr m room) ts ≡ Ok (out f q, rest)
    by m room [] rest le h s d = absurd h.1.1
    by m room (t ∷ ts) rest le (t2, (t1, x, si), (t3, w, n)) s d =
        let e = next_is (sign mark.Dot) t2 t3 w in
        rw (x.0, x.1, fam_rest_only m f room t1 t2 le si (not_next (is_mark mark.Hash) (Sign mark.Dot) t2 t3 refl w), e.0, e.1, name_only q t3 rest n) refl

value_only : (l : Lit) → PrimOnly (value l)
value_only l = record { only = λ m room ts rest le h s d. by m l room ts rest le h }
  where
    by : (m : Dialect) (l : Lit) (room : ℕ) (ts rest : List Tok) → lit_depth l ≤ room → SpellsLit m l ts rest → prim_step m room (inner_expr m room) ts ≡ Ok (value l, rest)
    by m (plain w v) room [] rest le h = absurd h
    by m (plain w v) room (t ∷ ts) rest le h = rw (h.0, h.1) refl
    by dialect.Condition (bits w v) room ts rest le h = absurd h
    by dialect.Source (bits w v) room [] rest le h = absurd h.1
    by dialect.Source (bits w v) zero (t ∷ ts) rest le h = absurd (omega arith)
    by dialect.Source (bits w v) (suc room) (t ∷ ts) rest le (t1, k, (t2, s1, (t3, sw, (t4, s2, (t5, sv, s3))))) =
        rw (k.0, k.1, mark_only mark.LeftParen t1 t2 s1, less_one room, int_only dialect.Source w room t2 t3 (omega arith) sw, mark_only mark.Comma t3 t4 s2, int_only dialect.Source v room t4 t5 (omega arith) sv, mark_only mark.RightParen t5 rest s3) refl

unary_only : (o : UnOp) (e : Expr) → ExprOnly e → PrimOnly (unary o e)
unary_only o e oe = record { only = λ m room ts rest le h s d. by o m room ts rest le h }
  where
    by : (o : UnOp) (m : Dialect) (room : ℕ) (ts rest : List Tok) → suc (expr_depth e) ≤ room → SpellsPrim m (unary o e) ts rest → prim_step m room (inner_expr m room) ts ≡ Ok (unary o e, rest)
    by o m room [] rest le h = absurd h.1
    by o m zero (t ∷ ts) rest le h = absurd (omega arith)
    by un_op.Not m (suc room) (t ∷ ts) rest le (t1, w, (t2, s1, (t3, se, s2))) = rw (w.0, w.1, mark_only mark.LeftParen t1 t2 s1, oe.only m room t2 t3 (omega arith) se (follows_close t3 rest s2), mark_only mark.RightParen t3 rest s2) refl
    by un_op.All m (suc room) (t ∷ ts) rest le (t1, w, (t2, s1, (t3, se, s2))) = rw (w.0, w.1, mark_only mark.LeftParen t1 t2 s1, oe.only m room t2 t3 (omega arith) se (follows_close t3 rest s2), mark_only mark.RightParen t3 rest s2) refl
    by un_op.Any m (suc room) (t ∷ ts) rest le (t1, w, (t2, s1, (t3, se, s2))) = rw (w.0, w.1, mark_only mark.LeftParen t1 t2 s1, oe.only m room t2 t3 (omega arith) se (follows_close t3 rest s2), mark_only mark.RightParen t3 rest s2) refl
    by un_op.Parity m (suc room) (t ∷ ts) rest le (t1, w, (t2, s1, (t3, se, s2))) = rw (w.0, w.1, mark_only mark.LeftParen t1 t2 s1, oe.only m room t2 t3 (omega arith) se (follows_close t3 rest s2), mark_only mark.RightParen t3 rest s2) refl

between_only : (o : Op) (k : Mark) (a b : Expr) → op_mark o ≡ Some k → ExprOnly a → ExprOnly b → (m : Dialect) (room : ℕ) (ts rest : List Tok) → expr_depth (binary o a b) ≤ room
    → SpellsTwo (Some k) (SpellsExpr m a) (SpellsExpr m b) ts rest → prim_step m room (inner_expr m room) ts ≡ Ok (binary o a b, rest)
between_only o k a b e oa ob m room [] rest le h = absurd h.1
between_only o k a b e oa ob m zero (t ∷ ts) rest le h = absurd (omega arith)
between_only o k a b e oa ob m (suc room) (t ∷ ts) rest le (t1, w, (t2, sa, (t3, so, (t4, sb, sc)))) =
    rw (w.0, w.1, oa.only m room t1 t2 (omega arith) sa (follows_op o k t2 t3 e so), op_only o k t2 t3 e so, ob.only m room t3 t4 (omega arith) sb (follows_close t4 rest sc), mark_only mark.RightParen t4 rest sc) refl

cat_only : (a b : Expr) → ExprOnly a → ExprOnly b → (m : Dialect) (room : ℕ) (ts rest : List Tok) → expr_depth (binary op.Cat a b) ≤ room
    → SpellsTwo None (SpellsExpr m a) (SpellsExpr m b) ts rest → prim_step m room (inner_expr m room) ts ≡ Ok (binary op.Cat a b, rest)
cat_only a b oa ob m room [] rest le h = absurd h.1
cat_only a b oa ob m zero (t ∷ ts) rest le h = absurd (omega arith)
cat_only a b oa ob m (suc room) (t ∷ ts) rest le (t1, w, (t2, s1, (t3, sa, (t4, s2, (t5, sb, s3))))) =
    rw (w.0, w.1, mark_only mark.LeftParen t1 t2 s1, oa.only m room t2 t3 (omega arith) sa (follows_comma t3 t4 s2), mark_only mark.Comma t3 t4 s2, ob.only m room t4 t5 (omega arith) sb (follows_close t5 rest s3), mark_only mark.RightParen t5 rest s3) refl

binary_only : (o : Op) (a b : Expr) → ExprOnly a → ExprOnly b → PrimOnly (binary o a b)
binary_only op.Add a b oa ob = record { only = λ m room ts rest le h s d. between_only op.Add mark.Plus a b refl oa ob m room ts rest le h }
binary_only op.Sub a b oa ob = record { only = λ m room ts rest le h s d. between_only op.Sub mark.Minus a b refl oa ob m room ts rest le h }
binary_only op.Mul a b oa ob = record { only = λ m room ts rest le h s d. between_only op.Mul mark.Star a b refl oa ob m room ts rest le h }
binary_only op.And a b oa ob = record { only = λ m room ts rest le h s d. between_only op.And mark.Ampersand a b refl oa ob m room ts rest le h }
binary_only op.Or a b oa ob = record { only = λ m room ts rest le h s d. between_only op.Or mark.Bar a b refl oa ob m room ts rest le h }
binary_only op.Xor a b oa ob = record { only = λ m room ts rest le h s d. between_only op.Xor mark.Caret a b refl oa ob m room ts rest le h }
binary_only op.Eq a b oa ob = record { only = λ m room ts rest le h s d. between_only op.Eq mark.EqualsEquals a b refl oa ob m room ts rest le h }
binary_only op.Ne a b oa ob = record { only = λ m room ts rest le h s d. between_only op.Ne mark.NotEquals a b refl oa ob m room ts rest le h }
binary_only op.Lt a b oa ob = record { only = λ m room ts rest le h s d. between_only op.Lt mark.Less a b refl oa ob m room ts rest le h }
binary_only op.Le a b oa ob = record { only = λ m room ts rest le h s d. between_only op.Le mark.LessEquals a b refl oa ob m room ts rest le h }
binary_only op.Shl a b oa ob = record { only = λ m room ts rest le h s d. between_only op.Shl mark.LessLess a b refl oa ob m room ts rest le h }
binary_only op.Shr a b oa ob = record { only = λ m room ts rest le h s d. between_only op.Shr mark.GreaterGreater a b refl oa ob m room ts rest le h }
binary_only op.Cat a b oa ob = record { only = λ m room ts rest le h s d. cat_only a b oa ob m room ts rest le h }

zext_only : (e : Expr) (i : Int) → ExprOnly e → PrimOnly (zext e i)
zext_only e i oe = record { only = λ m room ts rest le h s d. by m room ts rest le h }
  where
    by : (m : Dialect) (room : ℕ) (ts rest : List Tok) → expr_depth (zext e i) ≤ room → SpellsPrim m (zext e i) ts rest → prim_step m room (inner_expr m room) ts ≡ Ok (zext e i, rest)
    by m room [] rest le h = absurd h.1
    by m zero (t ∷ ts) rest le h = absurd (omega arith)
    by m (suc room) (t ∷ ts) rest le (t1, w, (t2, s1, (t3, se, (t4, s2, (t5, si, s3))))) =
        rw (w.0, w.1, mark_only mark.LeftParen t1 t2 s1, less_one room, oe.only m room t2 t3 (omega arith) se (follows_comma t3 t4 s2), mark_only mark.Comma t3 t4 s2, int_only m i room t4 t5 (omega arith) si, mark_only mark.RightParen t5 rest s3) refl

mux_only : (c a b : Expr) → ExprOnly c → ExprOnly a → ExprOnly b → PrimOnly (mux c a b)
mux_only c a b oc oa ob = record { only = λ m room ts rest le h s d. by m room ts rest le h }
  where
    by : (m : Dialect) (room : ℕ) (ts rest : List Tok) → expr_depth (mux c a b) ≤ room → SpellsPrim m (mux c a b) ts rest → prim_step m room (inner_expr m room) ts ≡ Ok (mux c a b, rest)
    by m room [] rest le h = absurd h.1
    by m zero (t ∷ ts) rest le h = absurd (omega arith)
    by m (suc room) (t ∷ ts) rest le (t1, w, (t2, s1, (t3, sc, (t4, s2, (t5, sa, (t6, s3, (t7, sb, s4))))))) =
        rw (
          w.0,
          w.1,
          mark_only mark.LeftParen t1 t2 s1,
          oc.only m room t2 t3 (omega arith) sc (follows_comma t3 t4 s2),
          mark_only mark.Comma t3 t4 s2,
          oa.only m room t4 t5 (omega arith) sa (follows_comma t5 t6 s3),
          mark_only mark.Comma t5 t6 s3,
          ob.only m room t6 t7 (omega arith) sb (follows_close t7 rest s4),
          mark_only mark.RightParen t7 rest s4,
        ) refl

slice_only : (e : Expr) (i j : Int) → PrimOnly e → ExprOnly (slice e i j)
slice_only e i j p = record { only = λ m room ts rest le h f. by m room ts rest le h }
  where
    by : (m : Dialect) (room : ℕ) (ts rest : List Tok) → expr_depth (slice e i j) ≤ room → SpellsExpr m (slice e i j) ts rest → expr_at m room ts ≡ Ok (slice e i j, rest)
    by m zero ts rest le h = absurd (omega arith)
    by m (suc room) ts rest le (t1, sp, (t2, w, (t3, si, (t4, w2, (t5, sj, w3))))) =
        let next = next_is (sign mark.LeftBracket) t1 t2 w in
        expr_opened m (suc room) ts ∙ rw (
          p.only m (suc room) ts t1 (omega arith) sp (not_next (is_mark mark.Hash) (Sign mark.LeftBracket) t1 t2 refl w) (not_next (is_mark mark.Dot) (Sign mark.LeftBracket) t1 t2 refl w),
          next.0,
          mark_only mark.LeftBracket t1 t2 w,
          less_one room,
          int_only m i room t2 t3 (omega arith) si,
          mark_only mark.Colon t3 t4 w2,
          int_only m j room t4 t5 (omega arith) sj,
          mark_only mark.RightBracket t5 rest w3,
        ) refl

both : (e : Expr) → PrimOnly e × ExprOnly e
both (read f) = (read_only f, from_prim (read f) (λ m ts rest h. h) (read_only f))
both (out f q) = (out_only f q, from_prim (out f q) (λ m ts rest h. h) (out_only f q))
both (value l) = (value_only l, from_prim (value l) (λ m ts rest h. h) (value_only l))
both (unary o e) = let p : PrimOnly (unary o e) = unary_only o e (both e).1 in (p, from_prim (unary o e) (λ m ts rest h. h) p)
both (binary o a b) = let p : PrimOnly (binary o a b) = binary_only o a b (both a).1 (both b).1 in (p, from_prim (binary o a b) (λ m ts rest h. h) p)
both (mux c a b) = let p : PrimOnly (mux c a b) = mux_only c a b (both c).1 (both a).1 (both b).1 in (p, from_prim (mux c a b) (λ m ts rest h. h) p)
both (zext e i) = let p : PrimOnly (zext e i) = zext_only e i (both e).1 in (p, from_prim (zext e i) (λ m ts rest h. h) p)
both (slice e i j) = (record { only = λ m room ts rest le h s d. absurd h }, slice_only e i j (both e).0)

pub expr_only : (e : Expr) → ExprOnly e
expr_only e = (both e).1

pub source_expr_only : (e : Expr) (room : ℕ) (ts rest after : List Tok) (w : Word) → expr_depth e ≤ room → SpellsExpr dialect.Source e ts rest
    → is_mark mark.Hash w ≡ false → is_mark mark.Dot w ≡ false → is_mark mark.LeftBracket w ≡ false → Single w rest after → expr_at dialect.Source room ts ≡ Ok (e, rest)
source_expr_only e room ts rest after w le h a b c s = (expr_only e).only dialect.Source room ts rest le h (follows w rest after a b c s)
