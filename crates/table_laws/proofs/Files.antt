-- The symbol file of a compiled design with a line feed behind it tells the table of the design.
use Rattle.std.proofs.Common.{◌≡◌, ℕ, ◌≤◌, ◌<◌, ◌^◌, false, cond, List, [], ◌∷◌, ◌++◌, length, length-append, nat_lt, None, Ok, Err, IsUtf8, option_and_then, refl, sym, ap, ◌∙◌, arith}
use Rattle.std.proofs.lemmas.Bool.Decides.{nat_tests}
use Rattle.std.proofs.lemmas.Str.{IsUtf8-append, is_utf8-from_IsUtf8}
use Rattle.json.specs.Lex.{tokens}
use Rattle.json.specs.Json as json
use Rattle.json.proofs.Printed.Trees.{ArePrintable-json_tokens}
use Rattle.json.proofs.Printed.Utf8.{IsUtf8-are_ascii}
use Rattle.json.specs.Tree.{json_tokens}
use Rattle.serde_json.specs.Data.{Data}
use Rattle.serde_json.specs.Read.{read, of_json, max_depth}
use Rattle.serde_json.specs.Written.{outline, compact_text}
use Rattle.serde_json.proofs.Texts.{print-outline}
use Rattle.symtab.specs.Shape.{IsTable}
use Rattle.symtab.specs.declared.parts.TableParts.{TableParts}
use Rattle.symtab_json.specs.declared.fault.TableFault.TheVariants as fault
use Rattle.symtab_json.specs.Files.{table_json, symbols_text}
use Rattle.symtab_json.specs.Told.{json_of, by_json, by_entries, told_table}
use Rattle.symtab_json.specs.ReadBack.{AreTexts}
use Rattle.symtab_json.proofs.Rounds.{Round}
use Rattle.symtab_json.proofs.Trees.{round_table}
use Rattle.symtab_json.proofs.Again.{files_read_back}
use Rattle.symbol_net.specs.Line.{symbols_line}
use Rattle.table_laws.specs.ReadBack.{TableLinesReadBack}
use Rattle.table_laws.proofs.LineFeed.{tokens_line}
use Rattle.table_laws.proofs.Counted.{nodes_few}
use Rattle.table_laws.proofs.Texts.{are_texts}

read_line : (d : Data) → Round 127 d → read (compact_text d ++ 10 ∷ []) ≡ read (compact_text d)
read_line d of =
    let same : tokens (compact_text d ++ 10 ∷ []) ≡ tokens (compact_text d) =
    ap (λ (l : List ℕ). tokens (l ++ 10 ∷ [])) (sym (print-outline d)) ∙ tokens_line (json_tokens (outline d)) (ArePrintable-json_tokens (outline d) of.numbers) ∙ ap tokens (print-outline d) in
    ap (λ ts. option_and_then of_json (option_and_then (λ p. json.if_last p.0 p.1) (json.value max_depth ts))) same

json_line : (d : Data) → Round 127 d → json_of (compact_text d ++ 10 ∷ []) ≡ json_of (compact_text d)
json_line d of =
    let text = compact_text d in
    let longer : IsUtf8 (text ++ 10 ∷ []) = IsUtf8-append text (10 ∷ []) of.utf8 (IsUtf8-are_ascii (10 ∷ []) refl) in
    ap (λ b. cond b (read (text ++ 10 ∷ [])) None) (is_utf8-from_IsUtf8 (text ++ 10 ∷ []) longer) ∙ read_line d of ∙ sym (ap (λ b. cond b (read text) None) (is_utf8-from_IsUtf8 text of.utf8))

not_long : (text : List ℕ) → length text ≤ 2 ^ 26 → nat_lt (2 ^ 26) (length text) ≡ false
not_long text h = grind (arith, nat_tests, h)

told_line : (parts : TableParts) → IsTable parts → AreTexts parts → length (symbols_line parts) ≤ 2 ^ 26 → told_table (symbols_line parts) ≡ Ok parts
told_line parts table texts short =
    let text = symbols_text parts in
    let shorter : length text ≤ 2 ^ 26 = omega (arith, short, length-append text (10 ∷ [])) in
    ap (λ b. by_entries (cond b (Err fault.TooLong) (by_json (json_of (text ++ 10 ∷ []))))) (not_long (text ++ 10 ∷ []) short)
    ∙ ap (λ o. by_entries (by_json o)) (json_line (table_json parts) (round_table parts table texts))
    ∙ sym (ap (λ b. by_entries (cond b (Err fault.TooLong) (by_json (json_of text)))) (not_long text shorter))
    ∙ files_read_back parts table texts shorter

pub table_lines : TableLinesReadBack
table_lines d pairs mode net parts sound order texts trimmed short =
    let few : length parts.nodes < 2 ^ 64 = omega (arith, nodes_few parts, short, length-append (symbols_text parts) (10 ∷ [])) in
    told_line parts trimmed.is_table (are_texts d pairs mode net parts sound order texts trimmed few) short
