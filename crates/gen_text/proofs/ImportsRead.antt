-- Imports are read as they are spelled, and what imports spell is read so.
use Rattle.std.proofs.Common.{◌≡◌, ◌<◌, ℕ, suc, true, false, List, [], ◌∷◌, length, Ok, refl, arith, inl, inr}
use Rattle.gen_token.specs.declared.Keyword.TheVariants as keyword
use Rattle.gen_token.specs.declared.Mark.TheVariants as mark
use Rattle.gen_token.specs.Words.{Reserved, Tok}
use Rattle.gen_tree.specs.declared.Dialect.TheVariants as dialect
use Rattle.gen_tree.specs.Tree.{Import, Module}
use Rattle.gen_tree.specs.Grammar.{Each, SpellsImport, SpellsModules}
use Rattle.gen_text.specs.Forms.{is_keyword}
use Rattle.gen_text.specs.Reading.{each_by, import_at, import_rest_at, begins_import, imports_at}
use Rattle.gen_text.proofs.Machine.{sign, a_module, an_import, imports_end, import_symbols, settle, run, at_end}
use Rattle.gen_text.proofs.Moves.{Comes, Reads, then_read, then_word, done, begins as takes_first, refuses, refuses_end}
use Rattle.gen_text.proofs.WordsRead.{test, is_keyword_is, word_reads, name_reads}
use Rattle.gen_text.proofs.Lists.{EachReads, each_reads, each_only, takes}
use Rattle.gen_text.proofs.Loops.{Shortens}
use Rattle.gen_text.proofs.OnlyExprs.{mark_only, name_only}

import_rest_reads : (room : ℕ) (t : Tok) (ts : List Tok) → t.word ≡ Reserved keyword.Import
    → Reads dialect.Source room import_symbols ts room (λ i rest. SpellsImport i (t ∷ ts) rest × (length rest < suc (length ts))) (import_rest_at t.line ts)
import_rest_reads room t ts is =
    then_read _ (name_reads room ts) (λ x t1 gx lx.
    then_word _ (word_reads (sign mark.Semicolon) room room t1 refl) (λ rest gs ls.
    done ((refl, (ts, (is, refl), (t1, gx, gs))), omega arith)))

pub import_reads : (room : ℕ) (ts : List Tok) → Reads dialect.Source room (an_import ∷ []) ts room (λ i rest. SpellsImport i ts rest × (length rest < length ts)) (import_at ts)
unfolding import_at
import_reads room [] = refuses_end refl
import_reads room (t ∷ ts) = elim (test (is_keyword keyword.Import t.word)) [
  | inl e ↦
      let is : t.word ≡ Reserved keyword.Import = is_keyword_is keyword.Import t.word e in
      rw e (takes_first (rw e refl) (rw is refl) (import_rest_reads room t ts is))
  | inr e ↦ rw e (refuses (rw e refl))
]

pub imports_shorten : Shortens import_at
imports_shorten = record { shortens = λ ts i rest e. takes dialect.Source 64 _ SpellsImport ts i rest _ (import_reads 64 ts) e }

opens_imports : (room : ℕ) (ts : List Tok) → begins_import ts ≡ true → Comes dialect.Source room (imports_end ∷ []) ts room (an_import ∷ imports_end ∷ []) ts
unfolding run settle at_end
opens_imports room [] h = absurd cc
opens_imports room (t ∷ ts) h = record { comes = λ stack. rw h refl }

pub imports_read : (room : ℕ) (ts : List Tok) → EachReads dialect.Source room imports_end begins_import SpellsImport ts (imports_at ts)
imports_read room ts = each_reads dialect.Source (suc (length ts)) room imports_end an_import begins_import SpellsImport import_at ts (record { opens = opens_imports room; reads = import_reads room }) (omega arith)

-- behind the imports
pub after_imports : (room : ℕ) (ts : List Tok) → begins_import ts ≡ false → Comes dialect.Source room (imports_end ∷ []) ts room (a_module ∷ []) ts
unfolding run settle at_end
after_imports room [] h = record { comes = λ stack. refl }
after_imports room (t ∷ ts) h = record { comes = λ stack. rw h refl }

-- ---- what is spelled is read

import_only : (i : Import) (ts rest : List Tok) → SpellsImport i ts rest → (begins_import ts ≡ true) × (import_at ts ≡ Ok (i, rest)) × (length rest < length ts)
unfolding import_at
import_only i [] rest h = absurd h.0
import_only i (t ∷ ts) rest (ln, (t1, w, (t2, x, s))) =
    let e : import_at (t ∷ ts) ≡ Ok (i, rest) = rw (w.0, w.1, ln, name_only i.name t1 t2 x, mark_only mark.Semicolon t2 rest s) refl in
    (rw w.0 refl, e, takes dialect.Source 64 _ SpellsImport (t ∷ ts) i rest _ (import_reads 64 (t ∷ ts)) e)

-- modules begin with no import
no_import : (ms : List Module) (ts : List Tok) → SpellsModules ms ts → begins_import ts ≡ false
no_import [] ts h = absurd h
no_import (m ∷ ms) [] h = absurd h.1.0
no_import (m ∷ ms) (t ∷ ts) h = let w : t.word ≡ Reserved keyword.Module = h.1.1.1.0 in rw w refl

pub imports_only : (is : List Import) (ms : List Module) (ts mid : List Tok) → Each SpellsImport is ts mid → SpellsModules ms mid → imports_at ts ≡ Ok (is, mid)
imports_only is ms ts mid h more = each_only is (suc (length ts)) begins_import SpellsImport import_at ts mid import_only (no_import ms mid more) (omega arith) h

-- where no import begins there is none
pub none_begins : (ts : List Tok) → begins_import ts ≡ false → imports_at ts ≡ Ok ([], ts)
unfolding each_by
none_begins ts h = rw h refl
