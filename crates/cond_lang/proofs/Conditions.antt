-- What is read as a condition is exactly what is spelled so within the room; a fault is the first place.
use Rattle.std.proofs.Common.{◌≡◌, ◌≤◌, ◌+◌, ℕ, suc, List, [], ◌∷◌, ◌++◌, length, Result, Ok, Err, refl, sym, ap, subst, ◌∙◌, arith, append-nil, inl, inr}
use Rattle.gen_token.specs.Words.{Tok}
use Rattle.gen_tree.specs.declared.Dialect.TheVariants as dialect
use Rattle.gen_tree.specs.Brackets.{Within}
use Rattle.gen_tree.specs.Grammar.{SpellsExpr}
use Rattle.gen_tree.specs.Places.{IsBad, FaultAt}
use Rattle.gen_tree.specs.Tree.{Expr}
use Rattle.gen_text.specs.Reading.{Read, ◌>>=◌, expr_at}
use Rattle.gen_text.proofs.Completions.{Halt, halts, Why}
use Rattle.gen_text.proofs.Depth.{expr_depth}
use Rattle.gen_text.proofs.ExprsRead.{expr_reads}
use Rattle.gen_text.proofs.Law.{accepted_within, accepted_if_within}
use Rattle.gen_text.proofs.Machine.{an_expr, settle, run, at_end, End, accepted, stopped}
use Rattle.gen_text.proofs.Moves.{Reads}
use Rattle.gen_text.proofs.OnlyExprs.{Follows, expr_only}
use Rattle.cond_lang.specs.Reading.{IsCondition}
use Rattle.cond_lang.specs.Reader.{whole_expr, cond_at}

-- the machine over a condition
abbrev runs : ℕ → List Tok → End
runs room ts = run dialect.Condition room (an_expr ∷ []) ts

-- what the reader answers, and what the machine does
abbrev Answer : ℕ → List Tok → Result Expr ℕ → Type 0
Answer room ts (Ok e) = SpellsExpr dialect.Condition e ts [] × (runs room ts ≡ accepted)
Answer room ts (Err left) = runs room ts ≡ stopped left

at_bottom : (room : ℕ) → run dialect.Condition room [] [] ≡ accepted
unfolding run at_end
at_bottom room = refl

-- behind a condition nothing may stand
full : (room : ℕ) (t : Tok) (ts : List Tok) → run dialect.Condition room [] (t ∷ ts) ≡ stopped (suc (length ts))
unfolding run settle
full room t ts = refl

abbrev ReadsExpr : ℕ → List Tok → Read Expr → Type 0
ReadsExpr room ts o = Reads dialect.Condition room (an_expr ∷ []) ts room (λ e. SpellsExpr dialect.Condition e ts) o

answers : (room : ℕ) (ts : List Tok) → Answer room ts (cond_at room ts)
answers room ts = by (expr_at dialect.Condition room ts) (expr_reads dialect.Condition room ts)
  where
    by : (o : Read Expr) → ReadsExpr room ts o → Answer room ts (o >>= whole_expr)
    by (Err left) g = g.reads.stops []
    by (Ok (e, [])) g = (g.reads.1, g.reads.0.comes [] ∙ at_bottom room)
    by (Ok (e, t ∷ t1)) g = g.reads.0.comes [] ∙ full room t t1

told : (room : ℕ) (ts : List Tok) (o : Result Expr ℕ) → cond_at room ts ≡ o → Answer room ts o
told room ts o e = subst (λ (o : Result Expr ℕ). Answer room ts o) e (answers room ts)

-- a list that the machine accepts is the spelling of an expression
accepted_spelled : (room : ℕ) (ts : List Tok) → runs room ts ≡ accepted → IsCondition ts
accepted_spelled room ts e = by (cond_at room ts) refl
  where
    by : (o : Result Expr ℕ) → cond_at room ts ≡ o → IsCondition ts
    by (Ok x) eo = (x, (told room ts (Ok x) eo).0)
    by (Err left) eo = let h : stopped left ≡ accepted = sym (told room ts (Err left) eo) ∙ e in absurd cc

nothing_follows : Follows []
nothing_follows = record { index = refl; dot = refl; bounds = refl }

spelled_read : (e : Expr) (room : ℕ) (ts : List Tok) → expr_depth e ≤ room → SpellsExpr dialect.Condition e ts [] → cond_at room ts ≡ Ok e
spelled_read e room ts le h = rw ((expr_only e).only dialect.Condition room ts [] le h nothing_follows) refl

spelled_accepted : (e : Expr) (ts : List Tok) → SpellsExpr dialect.Condition e ts [] → runs (expr_depth e) ts ≡ accepted
spelled_accepted e ts h = (told (expr_depth e) ts (Ok e) (spelled_read e (expr_depth e) ts (omega arith) h)).1

abbrev expr_or : Expr → Result Expr ℕ → Expr
expr_or d (Ok e) = e
expr_or d (Err left) = d

-- a list is spelled by one expression at most
pub one_tree : (a b : Expr) (ts : List Tok) → SpellsExpr dialect.Condition a ts [] → SpellsExpr dialect.Condition b ts [] → a ≡ b
one_tree a b ts ha hb =
    let room : ℕ = expr_depth a + expr_depth b in
    let ea : cond_at room ts ≡ Ok a = spelled_read a room ts (omega arith) ha in
    let eb : cond_at room ts ≡ Ok b = spelled_read b room ts (omega arith) hb in
    ap (expr_or a) (sym ea ∙ eb)

pub read_found : (room : ℕ) (ts : List Tok) (e : Expr) → cond_at room ts ≡ Ok e → SpellsExpr dialect.Condition e ts [] × Within room ts
read_found room ts e eo = let a = told room ts (Ok e) eo in (a.0, accepted_within dialect.Condition ts room (an_expr ∷ []) a.1)

pub read_only : (room : ℕ) (ts : List Tok) (e : Expr) → SpellsExpr dialect.Condition e ts [] → Within room ts → cond_at room ts ≡ Ok e
read_only room ts e h w = by (cond_at room ts) refl
  where
    by : (o : Result Expr ℕ) → cond_at room ts ≡ o → o ≡ Ok e
    by (Ok x) eo = ap Ok (one_tree x e ts (told room ts (Ok x) eo).0 h)
    by (Err left) eo =
        let acc : runs room ts ≡ accepted = accepted_if_within dialect.Condition ts (expr_depth e) room (an_expr ∷ []) (spelled_accepted e ts h) w in
        let bad : stopped left ≡ accepted = sym (told room ts (Err left) eo) ∙ acc in absurd cc

bad_is : (room : ℕ) (ts good bad : List Tok) (left : ℕ) → cond_at room ts ≡ Err left → ts ≡ good ++ bad → Within room good → Why dialect.Condition room (an_expr ∷ []) good bad → IsBad IsCondition room good bad
bad_is room ts good [] left e parts w why = λ whole.
    let all : ts ≡ good = parts ∙ append-nil good in
    let is : cond_at room good ≡ Ok whole.0 = read_only room good whole.0 whole.1 w in
    let bad : cond_at room good ≡ Err left = ap (cond_at room) (sym all) ∙ e in
    let wrong : Ok whole.0 ≡ Err left = sym is ∙ bad in
    absurd cc
bad_is room ts good (t ∷ rest) left e parts w (inl none) = inl (λ more whole. none more (expr_depth whole.0) (spelled_accepted whole.0 (good ++ t ∷ more) whole.1))
bad_is room ts good (t ∷ rest) left e parts w (inr deep) = inr deep

pub read_fault : (room : ℕ) (ts : List Tok) (left : ℕ) → cond_at room ts ≡ Err left → FaultAt IsCondition room ts left
read_fault room ts left e =
    let h : Halt dialect.Condition room (an_expr ∷ []) ts left = halts dialect.Condition ts room left (an_expr ∷ []) (told room ts (Err left) e) in
    record { good = h.good; bad = h.bad; parts = h.parts; count = h.count; completion = h.completion; begins = accepted_spelled (room + h.extra) (h.good ++ h.completion) h.begins; within = h.within; is_bad = bad_is room ts h.good h.bad left e h.parts h.within h.why }
