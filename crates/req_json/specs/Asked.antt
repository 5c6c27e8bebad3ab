-- What the bytes of a request ask: a command with its fields, or the first reason why they ask nothing.
use Rattle.std.specs.Prelude.{◌≡◌, ℕ, ◌≤◌, ◌==◌, List, length, is_some, codes, bytes_eq, nat_lt, Option, Some, None, Result, Ok, Err, if◌then◌else◌, ⊤}
use Rattle.serde_json.specs.Data.{Data}
use Rattle.serde_json.specs.Find.{as_object}
use Rattle.symtab_json.specs.Entries.{told_count}
use Rattle.symtab_json.specs.Told.{json_of}
use Rattle.machine_core.specs.declared.request.Asked.{Asked}
use Rattle.machine_core.specs.declared.request.Asked.TheVariants.{Good, Bad}
use Rattle.machine_core.specs.declared.request.Cmd.{Cmd}
use Rattle.machine_core.specs.declared.request.Cmd.TheVariants as cmd
use Rattle.req_json.specs.declared.field.FieldName.{FieldName}
use Rattle.req_json.specs.declared.field.FieldName.TheVariants as field
use Rattle.req_json.specs.declared.field.FieldFault.{FieldFault}
use Rattle.req_json.specs.declared.field.FieldFault.TheVariants as fault
use Rattle.req_json.specs.Fields.{field_key, under, optional, with_field, required_count, required_place, required_text, optional_text}

-- the table of commands: in each row the name of a command, and its fields in their order, each of its kind; no command has another name
abbrev pub row_in : List ℕ → Data → Option (Result Cmd FieldName)
row_in name d =
    if bytes_eq name (codes "break") then Some (with_field (required_place d) (λ line. with_field (optional_text field.Instance d) (λ instance. with_field (optional_text field.Cond d) (λ cond. Ok (cmd.Break line instance cond))))) else
    if bytes_eq name (codes "delete") then Some (with_field (required_count field.Bp d) (λ bp. Ok (cmd.Delete bp))) else
    if bytes_eq name (codes "watch") then Some (with_field (required_place d) (λ line. with_field (required_text field.Instance d) (λ instance. with_field (required_text field.Expr d) (λ expr. Ok (cmd.Watch line instance expr))))) else
    if bytes_eq name (codes "unwatch") then Some (with_field (required_count field.Wp d) (λ wp. Ok (cmd.Unwatch wp))) else
    if bytes_eq name (codes "continue") then Some (Ok cmd.Continue) else
    if bytes_eq name (codes "reverse") then Some (Ok cmd.Reverse) else
    if bytes_eq name (codes "step") then Some (with_field (optional_text field.Instance d) (λ instance. Ok (cmd.Step instance))) else
    if bytes_eq name (codes "back") then Some (with_field (optional_text field.Instance d) (λ instance. Ok (cmd.Back instance))) else
    if bytes_eq name (codes "pause") then Some (Ok cmd.Pause) else
    if bytes_eq name (codes "threads") then Some (Ok cmd.Threads) else
    if bytes_eq name (codes "values") then Some (with_field (required_text field.Instance d) (λ instance. Ok (cmd.Values instance))) else
    if bytes_eq name (codes "eval") then Some (with_field (required_text field.Instance d) (λ instance. with_field (required_text field.Expr d) (λ expr. Ok (cmd.Eval instance expr)))) else
    if bytes_eq name (codes "drop") then Some (with_field (required_count field.K d) (λ k. Ok (cmd.Drop k))) else
    if bytes_eq name (codes "status") then Some (Ok cmd.Status) else
    if bytes_eq name (codes "bye") then Some (Ok cmd.Bye) else None

-- the field of a row that is wrong, unless memory ran out
abbrev pub RowIsWrong : Option (Result Cmd FieldName) → FieldFault → Type 0
RowIsWrong row fault.NoMemory = ⊤
RowIsWrong row (fault.Wrong f) = row ≡ Some (Err f)

-- ---- the reasons: the text is too long, is no JSON, has a field that is wrong, has a command that is not known

abbrev pub bad_text : ℕ → Option ℕ → Option (List ℕ) → Asked
bad_text code id field = Bad (record { code = code; id = id; field = field })

abbrev pub too_long : Asked
too_long = bad_text 1 None None

abbrev pub not_json : Asked
not_json = bad_text 2 None None

abbrev pub bad_shape : Option ℕ → FieldName → Asked
bad_shape id f = bad_text 3 id (Some (field_key f))

abbrev pub unknown_cmd : Option ℕ → Asked
unknown_cmd id = bad_text 4 id None

-- ---- in their order: the whole, id, cmd, whether the command is known, its fields

abbrev pub asked_cmd : Option ℕ → Result Cmd FieldName → Asked
asked_cmd id (Ok c) = Good (record { id = id; cmd = c })
asked_cmd id (Err f) = bad_shape id f

abbrev pub asked_row : Option ℕ → Option (Result Cmd FieldName) → Asked
asked_row id None = unknown_cmd id
asked_row id (Some found) = asked_cmd id found

abbrev pub asked_word : Option ℕ → Data → Result (List ℕ) FieldName → Asked
asked_word id d (Err f) = bad_shape id f
asked_word id d (Ok word) = asked_row id (row_in word d)

abbrev pub asked_with_id : Data → Option (Option ℕ) → Asked
asked_with_id d None = bad_shape None field.Id
asked_with_id d (Some id) = asked_word id d (required_text field.Cmd d)

abbrev pub asked_tree : Data → Asked
asked_tree d = if is_some (as_object d) then asked_with_id d (optional told_count (under field.Id d)) else bad_shape None field.Whole

abbrev pub asked_json : Option Data → Asked
asked_json None = not_json
asked_json (Some d) = asked_tree d

-- the largest request in bytes
abbrev pub most_bytes : ℕ
most_bytes = 65536

-- what bytes ask
abbrev pub asked : List ℕ → Asked
asked text = if nat_lt most_bytes (length text) then too_long else asked_json (json_of text)

-- ---- what holds of a text that asks nothing: its code is one of four, and it has a field exactly where that is its reason

pub record IsTextFault (code : ℕ) (field : Option (List ℕ)) : Type 0 where
  pub least : 1 ≤ code
  pub most : code ≤ 4
  pub named : is_some field ≡ (code == 3)

abbrev pub IsAsked : Asked → Type 0
IsAsked (Good request) = ⊤
IsAsked (Bad text) = IsTextFault text.code text.field
