-- The parts of an expression are spelled from the tokens on by whose numbers they are told.
use Rattle.std.proofs.Common.{◌≡◌, ℕ, ◌+◌, List, [], ◌∷◌, drop, Option, Some, None, refl, sym, ap, ◌∙◌, subst, arith}
use Rattle.std.proofs.lemmas.List.{drop-drop}
use Rattle.list_core.specs.Lists.{EachOf}
use Rattle.list_core.proofs.Lists.{each_append}
use Rattle.gen_token.specs.declared.Mark.{Mark}
use Rattle.gen_token.specs.Words.{Word, Tok}
use Rattle.gen_tree.specs.declared.Dialect.TheVariants as dialect
use Rattle.gen_tree.specs.declared.Op.{Op}
use Rattle.gen_tree.specs.declared.Op.TheVariants as op
use Rattle.gen_tree.specs.Grammar.{Span, Single, SpellsInt, SpellsIndex, SpellsFam, SpellsLit, SpellsTwo, SpellsExpr, op_mark}
use Rattle.gen_tree.specs.Tree.{Int, num, var, bin, Fam, Lit, plain, bits, Expr, read, out, value, unary, binary, mux, zext, slice}
use Rattle.cond_lang.specs.Judged.{index_tokens, fam_tokens, tokens_before}
use Rattle.cond_lang.specs.Typed.{tokens_of, parts_from, IsSpelledAt}
use Rattle.cond_lang.specs.Laws.{PartsAreSpelled}
use Rattle.cond_lang.proofs.Sizes.{front, prim_expr}

tokens_front : (o : Op) → front (op_mark o) ≡ tokens_before o
tokens_front op.Add = refl
tokens_front op.Sub = refl
tokens_front op.Mul = refl
tokens_front op.And = refl
tokens_front op.Or = refl
tokens_front op.Xor = refl
tokens_front op.Eq = refl
tokens_front op.Ne = refl
tokens_front op.Lt = refl
tokens_front op.Le = refl
tokens_front op.Shl = refl
tokens_front op.Shr = refl
tokens_front op.Cat = refl

module _ (all : List Tok) where
  -- these tokens stand from this number on
  abbrev At : ℕ → List Tok → Type 0
  At n ts = drop n all ≡ ts

  moved : (n m : ℕ) (ts : List Tok) → n ≡ m → At n ts → At m ts
  moved n m ts e h = ap (λ (k : ℕ). drop k all) (sym e) ∙ h

  one_on : (n : ℕ) (w : Word) (ts rest : List Tok) → Single w ts rest → At n ts → At (n + 1) rest
  one_on n w [] rest h at = absurd h
  one_on n w (t ∷ ts) rest h at = sym (drop-drop 1 n all) ∙ ap (drop 1) at ∙ h.1

  int_on : (n : ℕ) (i : Int) (ts rest : List Tok) → SpellsInt dialect.Condition i ts rest → At n ts → At (n + 1) rest
  int_on n (num k) ts rest h at = one_on n _ ts rest h at
  int_on n (var x) ts rest h at = absurd h
  int_on n (bin o a b) ts rest h at = absurd h

  index_on : (n : ℕ) (i : Option Int) (ts rest : List Tok) → SpellsIndex dialect.Condition i ts rest → At (n + 1) ts → At (n + index_tokens i) rest
  index_on n None ts rest h at = at ∙ h
  index_on n (Some i) ts rest (mid, hash, int) at = moved (n + 1 + 1 + 1) (n + 3) rest (omega arith) (int_on (n + 1 + 1) i mid rest int (one_on (n + 1) _ ts mid hash at))

  fam_on : (n : ℕ) (f : Fam) (ts rest : List Tok) → SpellsFam dialect.Condition f ts rest → At n ts → At (n + fam_tokens f) rest
  fam_on n f ts rest (mid, name, index) at = index_on n f.index mid rest index (one_on n _ ts mid name at)

  lit_on : (n : ℕ) (l : Lit) (ts rest : List Tok) → SpellsLit dialect.Condition l ts rest → At n ts → At (n + 1) rest
  lit_on n (plain w v) ts rest h at = one_on n _ ts rest h at
  lit_on n (bits w v) ts rest h at = absurd h

  -- two operands, of which the first has so many tokens and begins behind so many, and what closes them
  record TwoAt (A B : Span) (n b m : ℕ) (rest : List Tok) : Type 0 where
    first : List Tok
    behind : List Tok
    second : List Tok
    last : List Tok
    one : A first behind
    one_at : At (n + b) first
    two : B second last
    two_at : At (n + b + m + 1) second
    close : (l : ℕ) → At (n + b + m + 1 + l) last → At (n + b + m + 1 + l + 1) rest

  two_on : (k : Option Mark) (A B : Span) (n m : ℕ) (ts rest : List Tok) → ((i : ℕ) (us vs : List Tok) → A us vs → At i us → At (i + m) vs)
      → SpellsTwo k A B ts rest → At n ts → TwoAt A B n (front k) m rest
  two_on (Some k) A B n m ts rest on (t1, p, (t2, q, (t3, r, (t4, s, t)))) at =
      let first_at = one_on n _ ts t1 p at in
      record {
        first = t1;
        behind = t2;
        second = t3;
        last = t4;
        one = q;
        one_at = first_at;
        two = s;
        two_at = one_on (n + 1 + m) _ t2 t3 r (on (n + 1) t1 t2 q first_at);
        close = λ l last_at. one_on (n + 1 + m + 1 + l) _ t4 rest t last_at;
      }
  two_on None A B n m ts rest on (t1, p, (t2, q, (t3, r, (t4, s, (t5, t, u))))) at =
      let first_at = moved (n + 1 + 1) (n + 2) t2 (omega arith) (one_on (n + 1) _ t1 t2 q (one_on n _ ts t1 p at)) in
      record {
        first = t2;
        behind = t3;
        second = t4;
        last = t5;
        one = r;
        one_at = first_at;
        two = t;
        two_at = one_on (n + 2 + m) _ t3 t4 s (on (n + 2) t2 t3 r first_at);
        close = λ l last_at. one_on (n + 2 + m + 1 + l) _ t5 rest u last_at;
      }

  expr_on : (e : Expr) (n : ℕ) (ts rest : List Tok) → SpellsExpr dialect.Condition e ts rest → At n ts → At (n + tokens_of e) rest
  expr_on (read f) n ts rest h at = fam_on n f ts rest h at
  expr_on (out f q) n ts rest (t1, p, (t2, d, k)) at =
      moved (n + fam_tokens f + 1 + 1) (n + (fam_tokens f + 2)) rest (omega arith) (one_on (n + fam_tokens f + 1) _ t2 rest k (one_on (n + fam_tokens f) _ t1 t2 d (fam_on n f ts t1 p at)))
  expr_on (value l) n ts rest h at = lit_on n l ts rest h at
  expr_on (unary o e) n ts rest (t1, p, (t2, q, (t3, r, s))) at =
      let inner = one_on (n + 1) _ t1 t2 q (one_on n _ ts t1 p at) in
      moved (n + 1 + 1 + tokens_of e + 1) (n + tokens_of (unary o e)) rest (omega arith) (one_on (n + 1 + 1 + tokens_of e) _ t3 rest s (expr_on e (n + 1 + 1) t2 t3 r inner))
  expr_on (binary o a b) n ts rest h at =
      let t = two_on (op_mark o) (SpellsExpr dialect.Condition a) (SpellsExpr dialect.Condition b) n (tokens_of a) ts rest (λ i us vs. expr_on a i us vs) h at in
      let s = n + front (op_mark o) + tokens_of a + 1 in
      moved (s + tokens_of b + 1) (n + tokens_of (binary o a b)) rest (omega (arith, tokens_front o)) (t.close (tokens_of b) (expr_on b s t.second t.last t.two t.two_at))
  expr_on (mux c a b) n ts rest (t1, p, (t2, q, (t3, r, (t4, s, (t5, t, (t6, u, (t7, v, w))))))) at =
      let i = n + 1 + 1 in
      let j = i + tokens_of c + 1 in
      let k = j + tokens_of a + 1 in
      let one = expr_on c i t2 t3 r (one_on (n + 1) _ t1 t2 q (one_on n _ ts t1 p at)) in
      let two = expr_on a j t4 t5 t (one_on (i + tokens_of c) _ t3 t4 s one) in
      let three = expr_on b k t6 t7 v (one_on (j + tokens_of a) _ t5 t6 u two) in
      moved (k + tokens_of b + 1) (n + tokens_of (mux c a b)) rest (omega arith) (one_on (k + tokens_of b) _ t7 rest w three)
  expr_on (zext e m) n ts rest (t1, p, (t2, q, (t3, r, (t4, s, (t5, t, u))))) at =
      let i = n + 1 + 1 in
      let one = expr_on e i t2 t3 r (one_on (n + 1) _ t1 t2 q (one_on n _ ts t1 p at)) in
      let two = int_on (i + tokens_of e + 1) m t4 t5 t (one_on (i + tokens_of e) _ t3 t4 s one) in
      moved (i + tokens_of e + 1 + 1 + 1) (n + tokens_of (zext e m)) rest (omega arith) (one_on (i + tokens_of e + 1 + 1) _ t5 rest u two)
  expr_on (slice e hi lo) n ts rest (t1, p, (t2, q, (t3, r, (t4, s, (t5, t, u))))) at =
      let i = n + tokens_of e in
      let one = expr_on e n ts t1 (prim_expr dialect.Condition e ts t1 p) at in
      let two = int_on (i + 1) hi t2 t3 r (one_on i _ t1 t2 q one) in
      let three = int_on (i + 1 + 1 + 1) lo t4 t5 t (one_on (i + 1 + 1) _ t3 t4 s two) in
      moved (i + 1 + 1 + 1 + 1 + 1) (n + tokens_of (slice e hi lo)) rest (omega arith) (one_on (i + 1 + 1 + 1 + 1) _ t5 rest u three)

  own : (e : Expr) (n : ℕ) (ts rest : List Tok) → SpellsExpr dialect.Condition e ts rest → At n ts → IsSpelledAt all (n, e)
  own e n ts rest h at = (rest, subst (λ (l : List Tok). SpellsExpr dialect.Condition e l rest) (sym at) h)

  abbrev AllSpelled : ℕ → Expr → Type 0
  AllSpelled n e = EachOf (IsSpelledAt all) (parts_from n e)

  parts_at : (e : Expr) (n : ℕ) (ts rest : List Tok) → SpellsExpr dialect.Condition e ts rest → At n ts → AllSpelled n e
  parts_at (read f) n ts rest h at = (own (read f) n ts rest h at, tt)
  parts_at (out f q) n ts rest h at = (own (out f q) n ts rest h at, tt)
  parts_at (value l) n ts rest h at = (own (value l) n ts rest h at, tt)
  parts_at (unary o e) n ts rest (t1, p, (t2, q, (t3, r, s))) at =
      let inner = moved (n + 1 + 1) (n + 2) t2 (omega arith) (one_on (n + 1) _ t1 t2 q (one_on n _ ts t1 p at)) in
      each_append _ (parts_from (n + 2) e) _ (parts_at e (n + 2) t2 t3 r inner) (own (unary o e) n ts rest (t1, p, (t2, q, (t3, r, s))) at, tt)
  parts_at (binary o a b) n ts rest h at =
      let t = two_on (op_mark o) (SpellsExpr dialect.Condition a) (SpellsExpr dialect.Condition b) n (tokens_of a) ts rest (λ i us vs. expr_on a i us vs) h at in
      let f = front (op_mark o) in
      each_append _ (parts_from (n + tokens_before o) a) _
      (subst (λ (k : ℕ). AllSpelled (n + k) a) (tokens_front o) (parts_at a (n + f) t.first t.behind t.one t.one_at))
      (each_append _ (parts_from (n + tokens_before o + tokens_of a + 1) b) _
      (subst (λ (k : ℕ). AllSpelled (n + k + tokens_of a + 1) b) (tokens_front o) (parts_at b (n + f + tokens_of a + 1) t.second t.last t.two t.two_at))
      (own (binary o a b) n ts rest h at, tt))
  parts_at (mux c a b) n ts rest (t1, p, (t2, q, (t3, r, (t4, s, (t5, t, (t6, u, (t7, v, w))))))) at =
      let i = n + 2 in
      let j = i + tokens_of c + 1 in
      let k = j + tokens_of a + 1 in
      let start = moved (n + 1 + 1) i t2 (omega arith) (one_on (n + 1) _ t1 t2 q (one_on n _ ts t1 p at)) in
      let next = one_on (i + tokens_of c) _ t3 t4 s (expr_on c i t2 t3 r start) in
      let last = one_on (j + tokens_of a) _ t5 t6 u (expr_on a j t4 t5 t next) in
      each_append _ (parts_from i c) _ (parts_at c i t2 t3 r start) (each_append _ (parts_from j a) _ (parts_at a j t4 t5 t next)
      (each_append _ (parts_from k b) _ (parts_at b k t6 t7 v last) (own (mux c a b) n ts rest (t1, p, (t2, q, (t3, r, (t4, s, (t5, t, (t6, u, (t7, v, w))))))) at, tt)))
  parts_at (zext e m) n ts rest (t1, p, (t2, q, (t3, r, s))) at =
      let inner = moved (n + 1 + 1) (n + 2) t2 (omega arith) (one_on (n + 1) _ t1 t2 q (one_on n _ ts t1 p at)) in
      each_append _ (parts_from (n + 2) e) _ (parts_at e (n + 2) t2 t3 r inner) (own (zext e m) n ts rest (t1, p, (t2, q, (t3, r, s))) at, tt)
  parts_at (slice e hi lo) n ts rest (t1, p, more) at =
      each_append _ (parts_from n e) _ (parts_at e n ts t1 (prim_expr dialect.Condition e ts t1 p) at) (own (slice e hi lo) n ts rest (t1, p, more) at, tt)

pub parts_are_spelled : PartsAreSpelled
parts_are_spelled tokens e h = parts_at tokens e 0 tokens [] h refl
