-- Reading a condition from left to right, with one token ahead: an expression, and nothing behind it. A fault is the number of
-- tokens from the bad one on. `room` is how many brackets may still be opened.
use Rattle.std.specs.Prelude.{ℕ, zero, suc, List, [], ◌∷◌, length, cond, Option, Some, None, Result, Ok, Err}
use Rattle.gen_token.specs.Tokens.{token_at}
use Rattle.gen_token.specs.Words.{Word, Tok}
use Rattle.gen_tree.specs.declared.Dialect.TheVariants as dialect
use Rattle.gen_tree.specs.Tree.{plain, Expr, value}
use Rattle.gen_text.specs.Reading.{◌>>=◌, expr_at, none_left}
use Rattle.cond_lang.specs.Reading.{start, next}

abbrev pub whole_expr : Expr × List Tok → Result Expr ℕ
whole_expr found = cond (none_left found.1) (Ok found.0) (Err (length found.1))

abbrev pub cond_at : ℕ → List Tok → Result Expr ℕ
cond_at room ts = expr_at dialect.Condition room ts >>= whole_expr

-- ---- of the bytes of a text

abbrev pub word_before : ℕ → Option (Word × List ℕ) → List Tok → List Tok
word_before line None more = []
word_before line (Some found) more = record { line = line; word = found.0 } ∷ more

-- the first tokens of what stands there, at most so many
abbrev pub tokens_by : ℕ → ℕ × List ℕ → List Tok
tokens_by zero at = []
tokens_by (suc n) at = word_before at.0 (token_at at.1) (tokens_by n (next at))

abbrev pub expr_or_nought : Result Expr ℕ → Expr
expr_or_nought (Ok e) = e
expr_or_nought (Err left) = value (plain 0 0)

-- the condition that so many tokens of a text are read as
unfoldable pub read_as : ℕ → List ℕ → Expr
read_as count text = expr_or_nought (cond_at 64 (tokens_by count (start text)))
