-- A piece behind others; what is left where there is none; and a bracket in which no operator stands.
use Rattle.std.proofs.Common.{◌≡◌, ◌<◌, ◌-◌, ℕ, zero, suc, List, [], ◌∷◌, ◌++◌, take, Result, Ok, Err, refl, sym, ap, ◌∙◌, arith}
use Rattle.gen_token.specs.declared.Mark.TheVariants as mark
use Rattle.gen_token.specs.Words.{Tok}
use Rattle.gen_tree.specs.declared.Dialect.{Dialect}
use Rattle.gen_tree.specs.declared.Op.{Op}
use Rattle.gen_tree.specs.Tree.{plain, Expr, value, binary}
use Rattle.gen_text.specs.declared.fault.ReadFault.{ReadFault}
use Rattle.gen_text.specs.declared.fault.ReadFault.TheVariants as faults
use Rattle.gen_text.specs.declared.pieces.Piece.{Piece}
use Rattle.gen_text.specs.Faults.{Fails}
use Rattle.gen_text.specs.Pieces.{top, below, with_piece, piled, exprs_of}
use Rattle.gen_text.specs.Reading.{◌>>=◌, open_at, mark_at, op_at, expr_at, inner_expr, bracket_at}

piled_more : (es : List Expr) (ps : List Piece) (p : Piece) → piled es (ps ++ p ∷ []) ≡ with_piece p (piled es ps)
piled_more es [] p = refl
piled_more es (q ∷ ps) p = piled_more (with_piece q es) ps p

pub one_behind : (ps : List Piece) (p : Piece) → exprs_of (ps ++ p ∷ []) ≡ with_piece p (exprs_of ps)
unfolding exprs_of
one_behind ps p = piled_more [] ps p

-- where no piece is left, none stands for anything
pub none_left : (ps qs : List Piece) (n : ℕ) → n ≡ 0 → qs ≡ take (n - 1) ps → ps ≡ qs ++ [] → (value (plain 0 0) ≡ top (exprs_of ps)) × (exprs_of qs ≡ below (exprs_of ps))
unfolding exprs_of
none_left ps qs n nought rest items =
    let first : qs ≡ [] = rest ∙ ap (λ (k : ℕ). take (k - 1) ps) nought in
    let all : ps ≡ [] = items ∙ ap (λ (l : List Piece). l ++ []) first in
    (ap (λ (l : List Piece). top (piled [] l)) (sym all), ap (λ (l : List Piece). piled [] l) first ∙ ap (λ (l : List Piece). below (piled [] l)) (sym all))

-- where no operator is read behind the first value, none is read in brackets
pub no_operator : (fault : ReadFault) (m : Dialect) (room : ℕ) (ts first rest : List Tok) (e : Expr) → 0 < room → open_at mark.LeftParen room ts ≡ Ok first → expr_at m (room - 1) first ≡ Ok (e, rest) → Fails fault (op_at rest)
    → Fails fault (bracket_at room (inner_expr m room) ts)
no_operator fault m zero ts first rest e some opened read fails = absurd (omega (arith, some))
no_operator fault m (suc room) ts first rest e some opened read fails =
    let one : suc room - 1 ≡ room = omega arith in
    let here : expr_at m room first ≡ Ok (e, rest) = ap (λ n. expr_at m n first) (sym one) ∙ read in
    rw (opened, here) (by fault (op_at rest) fails)
  where
    then : Op × List Tok → Result (Expr × List Tok) ℕ
    then o = expr_at m room o.1 >>= λ b. mark_at mark.RightParen b.1 >>= λ rest. Ok (binary o.0 e b.0, rest)

    by : (fault : ReadFault) (r : Result (Op × List Tok) ℕ) → Fails fault r → Fails fault (r >>= then)
    by (faults.At left) (Ok o) h = absurd (let bad : Ok o ≡ Err left = h in cc)
    by (faults.At left) (Err other) h = (let same : ◌≡◌ {A = Result (Op × List Tok) ℕ} (Err other) (Err left) = h in let is : other ≡ left = cc in ap Err is)
    by faults.NoMemory r h = tt

pub no_pieces : exprs_of [] ≡ []
unfolding exprs_of
no_pieces = refl
