-- Bytes that are UTF-8 and JSON, and bytes that are not.
use Rattle.std.proofs.Common.{◌≡◌, List, ℕ, Bool, true, false, cond, Option, Some, None, refl, sym, IsUtf8}
use Rattle.std.specs.Str.{is_utf8}
use Rattle.std.proofs.lemmas.Str.{IsUtf8-from_is_utf8, is_utf8-from_IsUtf8}
use Rattle.serde_json.specs.Data.{Data}
use Rattle.serde_json.specs.Read.{read}
use Rattle.symtab_json.specs.Told.{json_of}

-- bytes that are UTF-8 and read as a value
pub json_found : (text : List ℕ) (d : Data) → IsUtf8 text → read text ≡ Some d → Some d ≡ json_of text
json_found text d utf8 e = sym (rw (is_utf8-from_IsUtf8 text utf8) e)

none_at : (b : Bool) (text : List ℕ) (found : Option Data) → is_utf8 text ≡ b → (IsUtf8 text → found ≡ None) → None ≡ cond b found None
none_at true text found e h = sym (h (IsUtf8-from_is_utf8 text e))
none_at false text found e h = refl

-- bytes that do not
pub json_none : (text : List ℕ) → (IsUtf8 text → read text ≡ None) → None ≡ json_of text
json_none text h = none_at (is_utf8 text) text (read text) refl h
