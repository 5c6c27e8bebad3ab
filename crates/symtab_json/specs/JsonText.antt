-- Texts that are JSON values.
use Rattle.std.specs.Prelude.{◌≡◌, ℕ, List, Some}
use Rattle.json.specs.Lex.{tokens}
use Rattle.serde_json.specs.Data.{Data}
use Rattle.serde_json.specs.Read.{read}
use Rattle.symtab_json.specs.Standing.{head_value, IsValue}
use Rattle.symtab_json.specs.Told.{json_of}

-- the value that a text begins with
abbrev pub value_of : List ℕ → Data
value_of text = head_value (tokens text)

-- a text that is a value
pub record IsWhole (text : List ℕ) : Type 0 where
  pub value : IsValue (tokens text)
  pub whole : read text ≡ Some (value_of text)

-- bytes that are UTF-8 and a value
pub record IsJson (text : List ℕ) : Type 0 where
  pub value : IsValue (tokens text)
  pub json : json_of text ≡ Some (value_of text)
