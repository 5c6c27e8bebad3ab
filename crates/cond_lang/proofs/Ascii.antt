-- The names of what a text is read as are texts: each of their bytes is ASCII, since they come from tokens.
use Rattle.std.proofs.Common.{◌≡◌, ℕ, zero, suc, ◌<◌, ◌≤◌, ◌^◌, ◌&&◌, Bool, true, false, List, [], ◌∷◌, ◌++◌, Option, Some, None, Result, Ok, Err, codes, if◌then◌else◌, refl, sym, ap, ◌∙◌, subst, arith}
use Rattle.std.specs.Prelude.{decimal}
use Rattle.std.specs.List.{list_all}
use Rattle.std.specs.Borrow.{Bor}
use Rattle.std.specs.Fn.{Shared}
use Rattle.std.specs.Str.{IsAscii, IsUtf8}
use Rattle.std.proofs.lemmas.Bool.Decides.{nat_tests}
use Rattle.std.proofs.lemmas.Fmt.{IsAscii-decimal}
use Rattle.std.proofs.lemmas.Str.{IsUtf8-from_ascii}
use Rattle.bv_core.specs.declared.Binding.{Binding}
use Rattle.list_core.specs.Lists.{EachOf}
use Rattle.list_core.proofs.Lists.{each_left, each_right, each_append}
use Rattle.names.specs.Known.{has}
use Rattle.tree_core.specs.Tree.{Tree, Const, Leaf, One, Two, Mux}
use Rattle.gen_token.specs.Bytes.{is_name_byte, is_letter}
use Rattle.gen_token.specs.Spelling.{is_name_text, Spells}
use Rattle.gen_token.specs.Tokens.{token_at}
use Rattle.gen_token.specs.Words.{Word, Name, Number, Literal, Reserved, Sign, Tok}
use Rattle.gen_token.proofs.ReadToken.{exact}
use Rattle.gen_tree.specs.declared.Dialect.TheVariants as dialect
use Rattle.gen_token.specs.declared.Mark.TheVariants as mark
use Rattle.gen_tree.specs.Grammar.{Span, ◌⨾◌, Single, Never, SpellsInt, SpellsIndex, SpellsFam, SpellsLit, SpellsTwo, SpellsRead, SpellsPrim, SpellsExpr, op_mark}
use Rattle.gen_tree.specs.Tree.{Int, num, var, bin, Fam, Lit, plain, bits, Expr, read, out, value, unary, binary, mux, zext, slice}
use Rattle.cond_lang.specs.Names.{number, index_name, fam_name, output_name}
use Rattle.cond_lang.specs.Meaning.{tree_of, leaves}
use Rattle.cond_lang.specs.Found.{Says, Finds}
use Rattle.cond_lang.specs.Form.{noted, names_in}
use Rattle.cond_lang.specs.Reader.{cond_at, tokens_by, word_before, expr_or_nought, read_as}
use Rattle.cond_lang.specs.Reading.{start, next}
use Rattle.cond_lang.proofs.Conditions.{read_found}

-- ---- bytes

-- all bytes are below 128
abbrev pub AreAscii : List ℕ → Type 0
AreAscii bytes = EachOf (λ byte. byte < 128) bytes

name_byte : (byte : ℕ) → is_name_byte byte ≡ true → byte < 128
name_byte byte e = grind (arith, nat_tests, e)

name_bytes : (bytes : List ℕ) → list_all is_name_byte bytes ≡ true → AreAscii bytes
name_bytes [] e = tt
name_bytes (byte ∷ bytes) e = let parts = both (is_name_byte byte) (list_all is_name_byte bytes) e in (name_byte byte parts.0, name_bytes bytes parts.1)
  where
    both : (a b : Bool) → (a && b) ≡ true → (a ≡ true) × (b ≡ true)
    both true b e = (refl, e)
    both false b e = cc

name_text : (bytes : List ℕ) → is_name_text bytes ≡ true → AreAscii bytes
name_text [] e = cc
name_text (byte ∷ bytes) e = let parts = both (is_letter byte) (list_all is_name_byte bytes) e in (letter byte parts.0, name_bytes bytes parts.1)
  where
    both : (a b : Bool) → (a && b) ≡ true → (a ≡ true) × (b ≡ true)
    both true b e = (refl, e)
    both false b e = cc

    letter : (byte : ℕ) → is_letter byte ≡ true → byte < 128
    letter byte e = grind (arith, nat_tests, e)

ascii_each : (bytes : List ℕ) → IsAscii bytes → AreAscii bytes
ascii_each [] h = tt
ascii_each (byte ∷ bytes) h = (h 0, ascii_each bytes (λ i. h (suc i)))

-- ---- words of a text

abbrev WordFits : Word → Type 0
WordFits (Name bytes) = AreAscii bytes
WordFits (Number n) = n ≤ 2 ^ 62
WordFits (Literal w v) = Unit {0}
WordFits (Reserved k) = Unit {0}
WordFits (Sign m) = Unit {0}

abbrev Fit : List Tok → Type 0
Fit toks = EachOf (λ (t : Tok). WordFits t.word) toks

spelled_fits : (word : Word) (lexeme : List ℕ) → Spells word lexeme → WordFits word
spelled_fits (Name bytes) lexeme h = name_text bytes (subst (λ l. is_name_text l ≡ true) h.0 h.1.text)
spelled_fits (Number n) lexeme h = h.1
spelled_fits (Literal w v) lexeme h = tt
spelled_fits (Reserved k) lexeme h = tt
spelled_fits (Sign m) lexeme h = tt

-- ---- what spans give

abbrev Gives : Span → Type 0 → Type 0
Gives S N = (ts rest : List Tok) → S ts rest → Fit ts → N × Fit rest

after : {A B : Span} {M N : Type 0} → Gives A M → Gives B N → Gives (A ⨾ B) (M × N)
after a b ts rest h w = let x = a ts h.0 h.1 w in let y = b h.0 rest h.2 x.1 in ((x.0, y.0), y.1)

given : {S : Span} {M N : Type 0} → (M → N) → Gives S M → Gives S N
given f a ts rest h w = let x = a ts rest h w in (f x.0, x.1)

never : {N : Type 0} → Gives Never N
never ts rest h w = absurd h

single : (word : Word) → Gives (Single word) (WordFits word)
single word [] rest h w = absurd h
single word (t ∷ ts) rest h w = (subst WordFits h.0 w.0, subst Fit h.1 w.1)

int_gives : (i : Int) → Gives (SpellsInt dialect.Condition i) (number i ≤ 2 ^ 62)
int_gives (num n) = single (Number n)
int_gives (var x) = never
int_gives (bin o a b) = never

index_ascii : (n : ℕ) → n ≤ 2 ^ 62 → AreAscii (codes "#" ++ decimal n)
index_ascii n h = (let hash : 35 < 128 = omega arith in hash, ascii_each (decimal n) (IsAscii-decimal n (omega (arith, h))))

index_gives : (o : Option Int) → Gives (SpellsIndex dialect.Condition o) (AreAscii (index_name o))
index_gives None ts rest h w = (tt, subst Fit h w)
index_gives (Some i) ts rest h w = given (λ x. index_ascii (number i) x.1) (after (single (Sign mark.Hash)) (int_gives i)) ts rest h w

fam_gives : (f : Fam) → Gives (SpellsFam dialect.Condition f) (AreAscii (fam_name f))
fam_gives f = given (λ x. each_append _ f.name (index_name f.index) x.0 x.1) (after (single (Name f.name)) (index_gives f.index))

lit_gives : (l : Lit) → Gives (SpellsLit dialect.Condition l) (Unit {0})
lit_gives (plain w v) = given (λ x. tt) (single (Literal w v))
lit_gives (bits w v) = never

abbrev Names : Expr → Type 0
Names e = EachOf AreAscii (leaves (tree_of e))

out_gives : (f : Fam) (q : List ℕ) → Gives (SpellsRead dialect.Condition f (Some q)) (AreAscii (output_name f q))
out_gives f q =
    given (λ x. each_append _ (fam_name f) (codes "." ++ q) x.0 (let dot : 46 < 128 = omega arith in dot, x.1.1))
    (after (fam_gives f) (after (single (Sign mark.Dot)) (single (Name q))))

two_gives : (o : Option _) {A B : Span} {M N : Type 0} → Gives A M → Gives B N → Gives (SpellsTwo o A B) (M × N)
two_gives (Some m) a b = given (λ x. (x.1.0, x.1.1.1.0)) (after (single _) (after a (after (single _) (after b (single _)))))
two_gives None a b = given (λ x. (x.1.1.0, x.1.1.1.1.0)) (after (single _) (after (single _) (after a (after (single _) (after b (single _))))))

prim_is_expr : (e : Expr) (ts rest : List Tok) → SpellsPrim dialect.Condition e ts rest → SpellsExpr dialect.Condition e ts rest
prim_is_expr (read f) ts rest h = h
prim_is_expr (out f q) ts rest h = h
prim_is_expr (value l) ts rest h = h
prim_is_expr (unary o e) ts rest h = h
prim_is_expr (binary o a b) ts rest h = h
prim_is_expr (mux c a b) ts rest h = h
prim_is_expr (zext e w) ts rest h = h
prim_is_expr (slice e x y) ts rest h = absurd h

expr_gives : (e : Expr) → Gives (SpellsExpr dialect.Condition e) (Names e)
expr_gives (read f) = given (λ x. (x, tt)) (fam_gives f)
expr_gives (out f q) = given (λ x. (x, tt)) (out_gives f q)
expr_gives (value l) = lit_gives l
expr_gives (unary o e) = given (λ x. x.1.1.0) (after (single _) (after (single _) (after (expr_gives e) (single _))))
expr_gives (binary o a b) = given (λ x. each_append _ (leaves (tree_of a)) (leaves (tree_of b)) x.0 x.1) (two_gives (op_mark o) (expr_gives a) (expr_gives b))
expr_gives (mux c a b) =
    given (λ x. each_append _ (leaves (tree_of c)) (leaves (tree_of a) ++ leaves (tree_of b)) x.1.1.0 (each_append _ (leaves (tree_of a)) (leaves (tree_of b)) x.1.1.1.1.0 x.1.1.1.1.1.1.0))
    (after (single _) (after (single _) (after (expr_gives c) (after (single _) (after (expr_gives a) (after (single _) (after (expr_gives b) (single _))))))))
expr_gives (zext e n) = given (λ x. x.1.1.0) (after (single _) (after (single _) (after (expr_gives e) (after (single _) (after (int_gives n) (single _))))))
expr_gives (slice e hi lo) =
    given (λ x. x.0)
    (after (λ ts rest h w. expr_gives e ts rest (prim_is_expr e ts rest h) w) (after (single _) (after (int_gives hi) (after (single _) (after (int_gives lo) (single _))))))

-- ---- the names of a text

taken_fit : (n : ℕ) (at : ℕ × List ℕ) → Fit (tokens_by n at)
taken_fit zero at = tt
taken_fit (suc n) at = by (token_at at.1) refl (taken_fit n (next at))
  where
    by : (o : Option (Word × List ℕ)) → token_at at.1 ≡ o → Fit (tokens_by n (next at)) → Fit (word_before at.0 o (tokens_by n (next at)))
    by None e more = tt
    by (Some found) e more = let token = (exact at.1 found.0 found.1).0 e in (spelled_fits found.0 token.longest.lexeme token.longest.spelled, more)

ascii_from : (bytes : List ℕ) → AreAscii bytes → IsAscii bytes
ascii_from [] h i = omega arith
ascii_from (byte ∷ bytes) h zero = h.0
ascii_from (byte ∷ bytes) h (suc i) = ascii_from bytes h.1 i

abbrev pub AreTexts : List (List ℕ) → Type 0
AreTexts names = EachOf (λ name. IsUtf8 name) names

leaves_texts : (names : List (List ℕ)) → EachOf AreAscii names → AreTexts names
leaves_texts [] h = tt
leaves_texts (x ∷ xs) h = (IsUtf8-from_ascii x (ascii_from x h.0), leaves_texts xs h.1)

read_texts : (n : ℕ) (text : List ℕ) → AreTexts (leaves (tree_of (read_as n text)))
unfolding read_as
read_texts n text = by (cond_at 64 (tokens_by n (start text))) refl
  where
    by : (o : Result Expr ℕ) → cond_at 64 (tokens_by n (start text)) ≡ o → AreTexts (leaves (tree_of (expr_or_nought o)))
    by (Ok e) is =
        let found = read_found 64 (tokens_by n (start text)) e is in
        leaves_texts (leaves (tree_of e)) (expr_gives e (tokens_by n (start text)) [] found.0 (taken_fit n (start text))).0
    by (Err left) is = tt

-- ---- what holds of each name as it stands holds of each name once

one_noted : (P : List ℕ → Type 0) (names : List (List ℕ)) (x : List ℕ) → EachOf P names → P x → EachOf P (noted names x)
one_noted P names x h p = by (has names x)
  where
    by : (b : Bool) → EachOf P (if b then names else names ++ x ∷ [])
    by true = h
    by false = each_append P names (x ∷ []) h (p, tt)

each_in : (P : List ℕ → Type 0) (names : List (List ℕ)) (t : Tree (List ℕ)) → EachOf P names → EachOf P (leaves t) → EachOf P (names_in names t)
each_in P names (Const b) h k = h
each_in P names (Leaf x) h k = one_noted P names x h k.0
each_in P names (One o a) h k = each_in P names a h k
each_in P names (Two o a b) h k = each_in P (names_in names a) b (each_in P names a h (each_left P (leaves a) (leaves b) k)) (each_right P (leaves a) (leaves b) k)
each_in P names (Mux c a b) h k =
    let behind = each_right P (leaves c) (leaves a ++ leaves b) k in
    each_in P (names_in (names_in names c) a) b
    (each_in P (names_in names c) a (each_in P names c h (each_left P (leaves c) (leaves a ++ leaves b) k)) (each_left P (leaves a) (leaves b) behind))
    (each_right P (leaves a) (leaves b) behind)

-- of these names, which are those of an expression
each_named : (P : List ℕ → Type 0) (e : Expr) (names : List (List ℕ)) → names ≡ names_in [] (tree_of e) → EachOf P (leaves (tree_of e)) → EachOf P names
each_named P e names are h = subst (EachOf P) (sym are) (each_in P [] (tree_of e) tt h)

pub named_texts : (n : ℕ) (text : List ℕ) (names : List (List ℕ)) → names ≡ names_in [] (tree_of (read_as n text)) → AreTexts names
named_texts n text names are = each_named (λ name. IsUtf8 name) (read_as n text) names are (read_texts n text)

-- calls that answer so for every name do so for these
says_each : {F : Type 0} (calls : Shared F (Bor (List ℕ) × Unit {0}) (Option Binding)) (find : F) (places : List ℕ → Option Binding) (names : List (List ℕ))
    → ((name : Bor (List ℕ)) (found : Option Binding) → calls.post find (name, tt) found → found ≡ places name.now) → EachOf (Says calls find places) names
says_each calls find places [] says = tt
says_each calls find places (x ∷ xs) says = ((λ name found is post. says name found post ∙ ap places is), says_each calls find places xs says)

pub finds_each : {F : Type 0} (calls : Shared F (Bor (List ℕ) × Unit {0}) (Option Binding)) (find : F) (places : List ℕ → Option Binding) (names : List (List ℕ))
    → ((name : Bor (List ℕ)) (found : Option Binding) → calls.post find (name, tt) found → found ≡ places name.now) → Finds calls find places names
finds_each calls find places names says = record { each = says_each calls find places names says }

-- calls that find the names of an expression as they stand find each of them once
pub finds_named : {F : Type 0} (calls : Shared F (Bor (List ℕ) × Unit {0}) (Option Binding)) (find : F) (places : List ℕ → Option Binding) (e : Expr) (names : List (List ℕ))
    → names ≡ names_in [] (tree_of e) → Finds calls find places (leaves (tree_of e)) → Finds calls find places names
finds_named calls find places e names are finds = record { each = each_named (Says calls find places) e names are finds.each }
