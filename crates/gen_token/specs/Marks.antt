-- The marks.
use Rattle.std.specs.Prelude.{ℕ, List, [], ◌∷◌, Option, find, nat_eq, codes}
use Rattle.std.specs.List.{starts_with}
use Rattle.gen_token.specs.declared.mark.Mark.{Mark}
use Rattle.gen_token.specs.declared.mark.Mark.TheVariants as mark

-- how a source spells a mark
abbrev pub mark_text : Mark → List ℕ
mark_text mark.LeftBrace = codes "{"
mark_text mark.RightBrace = codes "}"
mark_text mark.LeftParen = codes "("
mark_text mark.RightParen = codes ")"
mark_text mark.LeftBracket = codes "["
mark_text mark.RightBracket = codes "]"
mark_text mark.Semicolon = codes ";"
mark_text mark.Colon = codes ":"
mark_text mark.Comma = codes ","
mark_text mark.Dot = codes "."
mark_text mark.DotDot = codes ".."
mark_text mark.Equals = codes "="
mark_text mark.EqualsEquals = codes "=="
mark_text mark.NotEquals = codes "!="
mark_text mark.Less = codes "<"
mark_text mark.LessEquals = codes "<="
mark_text mark.LessLess = codes "<<"
mark_text mark.GreaterGreater = codes ">>"
mark_text mark.Plus = codes "+"
mark_text mark.Minus = codes "-"
mark_text mark.Star = codes "*"
mark_text mark.Ampersand = codes "&"
mark_text mark.Bar = codes "|"
mark_text mark.Caret = codes "^"
mark_text mark.Tilde = codes "~"
mark_text mark.Hash = codes "#"

-- every mark, the longer ones first
abbrev pub marks : List Mark
marks =
    mark.DotDot ∷
    mark.EqualsEquals ∷
    mark.NotEquals ∷
    mark.LessEquals ∷
    mark.LessLess ∷
    mark.GreaterGreater ∷
    mark.LeftBrace ∷
    mark.RightBrace ∷
    mark.LeftParen ∷
    mark.RightParen ∷
    mark.LeftBracket ∷
    mark.RightBracket ∷
    mark.Semicolon ∷
    mark.Colon ∷
    mark.Comma ∷
    mark.Dot ∷
    mark.Equals ∷
    mark.Less ∷
    mark.Plus ∷
    mark.Minus ∷
    mark.Star ∷
    mark.Ampersand ∷
    mark.Bar ∷
    mark.Caret ∷
    mark.Tilde ∷
    mark.Hash ∷
    []

-- the longest mark in front of a text
abbrev pub mark_of : List ℕ → Option Mark
mark_of text = find (λ mark. starts_with nat_eq text (mark_text mark)) marks
