-- The keywords.
use Rattle.std.specs.Prelude.{ℕ, List, [], ◌∷◌, Option, find, bytes_eq, codes}
use Rattle.gen_token.specs.declared.keyword.Keyword.{Keyword}
use Rattle.gen_token.specs.declared.keyword.Keyword.TheVariants as keyword

-- how a source spells a keyword
abbrev pub keyword_text : Keyword → List ℕ
keyword_text keyword.Module = codes "module"
keyword_text keyword.Input = codes "input"
keyword_text keyword.Output = codes "output"
keyword_text keyword.Wire = codes "wire"
keyword_text keyword.Reg = codes "reg"
keyword_text keyword.Inst = codes "inst"
keyword_text keyword.Comb = codes "comb"
keyword_text keyword.Ff = codes "ff"
keyword_text keyword.For = codes "for"
keyword_text keyword.In = codes "in"
keyword_text keyword.Gen = codes "gen"
keyword_text keyword.If = codes "if"
keyword_text keyword.Else = codes "else"
keyword_text keyword.Let = codes "let"
keyword_text keyword.Bits = codes "bits"
keyword_text keyword.Cat = codes "cat"
keyword_text keyword.Zext = codes "zext"
keyword_text keyword.Mux = codes "mux"
keyword_text keyword.All = codes "all"
keyword_text keyword.Any = codes "any"
keyword_text keyword.Parity = codes "parity"
keyword_text keyword.Clk = codes "clk"
keyword_text keyword.Case = codes "case"
keyword_text keyword.Default = codes "default"
keyword_text keyword.Import = codes "import"

-- every keyword
abbrev pub keywords : List Keyword
keywords =
    keyword.Module ∷
    keyword.Input ∷
    keyword.Output ∷
    keyword.Wire ∷
    keyword.Reg ∷
    keyword.Inst ∷
    keyword.Comb ∷
    keyword.Ff ∷
    keyword.For ∷
    keyword.In ∷
    keyword.Gen ∷
    keyword.If ∷
    keyword.Else ∷
    keyword.Let ∷
    keyword.Bits ∷
    keyword.Cat ∷
    keyword.Zext ∷
    keyword.Mux ∷
    keyword.All ∷
    keyword.Any ∷
    keyword.Parity ∷
    keyword.Clk ∷
    keyword.Case ∷
    keyword.Default ∷
    keyword.Import ∷
    []

-- the keyword that a word is
abbrev pub keyword_of : List ℕ → Option Keyword
keyword_of word = find (λ keyword. bytes_eq (keyword_text keyword) word) keywords
