-- The imports of a source that was read have names of the language.
use Rattle.std.proofs.Common.{◌≡◌, ℕ, false, List, [], ◌∷◌, Option, Some, None, IsSomeAnd, refl, subst}
use Rattle.list_core.specs.Lists.{EachOf}
use Rattle.gen_token.specs.Spelling as spelling
use Rattle.gen_token.specs.Spelling.{IsName}
use Rattle.gen_token.specs.Tokens.{skip, token_at, TokensFrom}
use Rattle.gen_token.specs.Words.{Word, Name, Number, Literal, Reserved, Sign, Tok}
use Rattle.gen_token.proofs.ReadToken.{exact}
use Rattle.places.specs.Places.{place}
use Rattle.gen_tree.specs.Tree.{Import, Source}
use Rattle.gen_tree.specs.Grammar.{Single, Each, SpellsImport}
use Rattle.gen_text.specs.Source.{Reads}

-- a word that is a name is a name of the language
abbrev IsNamed : Word → Type 0
IsNamed (Name bytes) = IsName bytes
IsNamed (Number n) = Unit {0}
IsNamed (Literal w v) = Unit {0}
IsNamed (Reserved k) = Unit {0}
IsNamed (Sign m) = Unit {0}

abbrev AreNamed : List Tok → Type 0
AreNamed toks = EachOf (λ (t : Tok). IsNamed t.word) toks

spelled : (word : Word) (lexeme : List ℕ) → spelling.Spells word lexeme → IsNamed word
spelled (Name bytes) lexeme h = subst IsName h.0 h.1
spelled (Number n) lexeme h = tt
spelled (Literal w v) lexeme h = tt
spelled (Reserved k) lexeme h = tt
spelled (Sign m) lexeme h = tt

tokens_named : (at : ℕ × List ℕ) (toks : List Tok) (end : Option ℕ) → TokensFrom at toks end → AreNamed toks
tokens_named at [] end h = tt
tokens_named at (tok ∷ toks) end h = by_token (λ next g. tokens_named next toks end g) (token_at at.1) refl h.1
  where
    by_token : ((next : ℕ × List ℕ) → TokensFrom next toks end → AreNamed toks) → (o : Option (Word × List ℕ)) → token_at at.1 ≡ o
        → IsSomeAnd o (λ found. (found.0 ≡ tok.word) × TokensFrom (skip false at.0 found.1) toks end) → AreNamed (tok ∷ toks)
    by_token more None e g = absurd g
    by_token more (Some found) e g =
        let token = (exact at.1 found.0 found.1).0 e in
        (subst IsNamed g.0 (spelled found.0 token.longest.lexeme token.longest.spelled), more (skip false at.0 found.1) g.1)

-- a word in front of tokens, and those behind it
single : (word : Word) (ts rest : List Tok) → Single word ts rest → AreNamed ts → IsNamed word × AreNamed rest
single word [] rest h w = absurd h
single word (t ∷ ts) rest h w = (subst IsNamed h.0 w.0, subst AreNamed h.1 w.1)

import_named : (i : Import) (ts rest : List Tok) → SpellsImport i ts rest → AreNamed ts → IsName i.name × AreNamed rest
import_named i ts rest h w =
    let key = single _ ts h.1.0 h.1.1 w in
    let name = single _ h.1.0 h.1.2.0 h.1.2.1 key.1 in
    let end = single _ h.1.2.0 rest h.1.2.2 name.1 in
    (name.0, end.1)

each_named : (imports : List Import) (ts rest : List Tok) → Each SpellsImport imports ts rest → AreNamed ts → EachOf (λ (i : Import). IsName i.name) imports
each_named [] ts rest h w = tt
each_named (i ∷ imports) ts rest h w =
    let first = import_named i ts h.0 h.1 w in
    (first.0, each_named imports h.0 rest h.2 first.1)

pub imports_named : (file : ℕ) (text : List ℕ) (s : Source) → Reads file text s → EachOf (λ (i : Import). IsName i.name) s.imports
imports_named file text s r = each_named s.imports r.tokens r.spelled.0 r.spelled.1 (tokens_named (skip false (place file 1) text) r.tokens None r.are)
