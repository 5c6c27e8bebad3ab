-- What a text shows that was read as a condition.
use Rattle.std.specs.Prelude.{ℕ, List, length}
use Rattle.gen_tree.specs.Tree.{Expr}
use Rattle.cond_lang.specs.declared.text.CondText.{CondText}
use Rattle.cond_lang.specs.Reader.{read_as}

-- its expression
abbrev pub text_expr : CondText → Expr
text_expr t = read_as (length t.offsets.items) t.bytes

-- the offsets of its tokens
abbrev pub text_offsets : CondText → List ℕ
text_offsets t = t.offsets.items
