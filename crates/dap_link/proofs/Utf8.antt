-- Bytes that are UTF-8 and JSON, and bytes that are not.
use Rattle.std.proofs.Common.{◌≡◌, List, ℕ, Bool, true, false, cond, Option, Some, None, refl, sym, ap, IsUtf8}
use Rattle.std.specs.Str.{is_utf8}
use Rattle.std.proofs.lemmas.Str.{IsUtf8-from_is_utf8, is_utf8-from_IsUtf8}
use Rattle.serde_json.specs.Data.{Data}
use Rattle.serde_json.specs.Read.{read}
use Rattle.symtab_json.specs.Entries.{kept_if}
use Rattle.symtab_json.specs.Told.{json_of}
use Rattle.dap_link.specs.Frames.{is_message, is_message_text}
use Rattle.std.specs.Option.{option_map_or}

json_found : (text : List ℕ) (d : Data) → IsUtf8 text → read text ≡ Some d → json_of text ≡ Some d
json_found text d utf8 e = rw (is_utf8-from_IsUtf8 text utf8) e

none_at : (b : Bool) (text : List ℕ) (found : Option Data) → is_utf8 text ≡ b → (IsUtf8 text → found ≡ None) → cond b found None ≡ None
none_at true text found e h = h (IsUtf8-from_is_utf8 text e)
none_at false text found e h = refl

pub body_told : (text : List ℕ) (d : Data) → IsUtf8 text → read text ≡ Some d → is_message d ≡ is_message_text text
body_told text d utf8 e = sym (ap (λ o. option_map_or is_message o false) (json_found text d utf8 e))

pub body_none : (text : List ℕ) → (IsUtf8 text → read text ≡ None) → false ≡ is_message_text text
body_none text h = sym (ap (λ o. option_map_or is_message o false) (none_at (is_utf8 text) text (read text) refl h))

-- bytes that a request can name, and bytes that none can
pub kept_utf8 : (text own : List ℕ) → IsUtf8 text → own ≡ text → Some own ≡ kept_if is_utf8 (Some text)
kept_utf8 text own utf8 e = rw (is_utf8-from_IsUtf8 text utf8) (ap Some e)

not_kept : (b : Bool) (text : List ℕ) → is_utf8 text ≡ b → (IsUtf8 text → ⊥) → None ≡ kept_if is_utf8 (Some text)
not_kept true text e apart = absurd (apart (IsUtf8-from_is_utf8 text e))
not_kept false text e apart = rw e refl

pub not_utf8 : (text : List ℕ) → (IsUtf8 text → ⊥) → None ≡ kept_if is_utf8 (Some text)
not_utf8 text apart = not_kept (is_utf8 text) text refl apart
