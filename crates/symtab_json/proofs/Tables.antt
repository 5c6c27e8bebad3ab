-- What is read is a table, and literals are what is printed.
use Rattle.std.proofs.Common.{◌≡◌, ℕ, Bool, true, false, cond, List, Option, Some, None, option_and_then, bytes_eq, Ok, Err, Result, refl, sym, ap, ◌∙◌, subst}
use Rattle.std.proofs.lemmas.Slice.Eq.{bytes_eq-Decides}
use Rattle.bv_core.specs.Value.{Bits}
use Rattle.bv_core.specs.Text.{shown}
use Rattle.symtab.specs.Shape.{IsTable}
use Rattle.symtab.specs.declared.parts.TableParts.{TableParts}
use Rattle.symtab_json.specs.declared.entries.Entries.{Entries}
use Rattle.symtab_json.specs.declared.entries.Outside.{Outside}
use Rattle.symtab_json.specs.declared.fault.TableFault.{TableFault}
use Rattle.symtab_json.specs.Judged.{entries_outside, told_parts}
use Rattle.symtab_json.specs.Literals.{literal_in, if_shown, told_literal}
use Rattle.symtab_json.specs.Told.{by_entries, by_numbers, told_entries}
use Rattle.symtab_json.specs.Laws.{LiteralsAreShown, TablesAreTold}
use Rattle.symtab_json.proofs.Fits.{text_fits}
use Rattle.symtab_json.proofs.Shown.{literal_back}

shown_at : (b : Bool) (text : List ℕ) (found bits : Bits) → bytes_eq (shown found) text ≡ b → cond b (Some found) None ≡ Some bits → text ≡ shown bits
shown_at true text found bits same e = let is : found ≡ bits = cc in sym ((bytes_eq-Decides (shown found) text).0 same) ∙ ap shown is
shown_at false text found bits same e = absurd (cc)

shown_of : (text : List ℕ) (found : Option Bits) (bits : Bits) → option_and_then (if_shown text) found ≡ Some bits → text ≡ shown bits
shown_of text None bits e = absurd (cc)
shown_of text (Some found) bits e = shown_at (bytes_eq (shown found) text) text found bits refl e

pub literals_are_shown : LiteralsAreShown
literals_are_shown text bits h = (λ e. shown_of text (literal_in text) bits e, λ e. ap told_literal e ∙ literal_back bits h)

table_at : (text : List ℕ) (e : Entries) (outside : Option Outside) (parts : TableParts) → told_entries text ≡ Ok e → entries_outside e ≡ outside → by_numbers e outside ≡ Ok parts → IsTable parts
table_at text e None parts told inside h = let same : told_parts e ≡ parts = cc in subst IsTable same (text_fits text e told inside).table
table_at text e (Some o) parts told inside h = absurd (cc)

table_of : (text : List ℕ) (told : Result Entries TableFault) (parts : TableParts) → told_entries text ≡ told → by_entries told ≡ Ok parts → IsTable parts
table_of text (Ok e) parts is h = table_at text e (entries_outside e) parts is refl h
table_of text (Err f) parts is h = absurd (cc)

pub tables_are_told : TablesAreTold
tables_are_told text parts h = table_of text (told_entries text) parts refl h
