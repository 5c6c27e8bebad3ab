-- The fields of requests: their keys, and what each kind of field tells.
use Rattle.std.specs.Prelude.{◌≡◌, ℕ, ◌^◌, Bool, nat_lt, List, is_some, codes, Option, Some, None, Result, Ok, Err, option_map, option_and_then, if◌then◌else◌, ⊤}
use Rattle.serde_json.specs.Data.{Data}
use Rattle.serde_json.specs.Find.{get, as_null, as_str}
use Rattle.places.specs.Places.{place}
use Rattle.symtab_json.specs.Entries.{kept_if, told_count}
use Rattle.req_json.specs.declared.field.FieldName.{FieldName}
use Rattle.req_json.specs.declared.field.FieldName.TheVariants as field
use Rattle.req_json.specs.declared.field.FieldFault.{FieldFault}
use Rattle.req_json.specs.declared.field.FieldFault.TheVariants as fault

-- the key of a field; the whole request has none
abbrev pub field_key : FieldName → List ℕ
field_key field.Whole = codes ""
field_key field.Id = codes "id"
field_key field.Cmd = codes "cmd"
field_key field.File = codes "file"
field_key field.Line = codes "line"
field_key field.Instance = codes "instance"
field_key field.Cond = codes "cond"
field_key field.Bp = codes "bp"
field_key field.Wp = codes "wp"
field_key field.Expr = codes "expr"
field_key field.K = codes "k"

-- what stands under the key of a field
abbrev pub under : FieldName → Data → Option Data
under f d = get (field_key f) d

-- what is told, or that the field is wrong
abbrev pub unless_wrong : {A : Type 0} → FieldName → Option A → Result A FieldName
unless_wrong f None = Err f
unless_wrong f (Some x) = Ok x

-- a field, and what goes on with it; a wrong field ends all
abbrev pub with_field : {A B : Type 0} → Result A FieldName → (A → Result B FieldName) → Result B FieldName
with_field (Err f) rest = Err f
with_field (Ok x) rest = rest x

-- what is told of a field that may be left out: nothing where it is; null stands for one that is left out
abbrev pub optional : {A : Type 0} → (Data → Option A) → Option Data → Option (Option A)
optional told None = Some None
optional told (Some d) = if is_some (as_null d) then Some None else option_map Some (told d)

-- ---- the kinds: whole numbers from 0 to 2^64-1, and texts, each of which must be there or may be left out

abbrev pub required_count : FieldName → Data → Result ℕ FieldName
required_count f d = unless_wrong f (option_and_then told_count (under f d))

-- one that is below a bound
abbrev pub is_below : ℕ → ℕ → Bool
is_below most n = nat_lt n most

abbrev pub required_below : ℕ → FieldName → Data → Result ℕ FieldName
required_below most f d = unless_wrong f (kept_if (is_below most) (option_and_then told_count (under f d)))

abbrev pub required_text : FieldName → Data → Result (List ℕ) FieldName
required_text f d = unless_wrong f (option_and_then as_str (under f d))

abbrev pub optional_text : FieldName → Data → Result (Option (List ℕ)) FieldName
optional_text f d = unless_wrong f (optional as_str (under f d))

-- ---- a place in the source: the number of a file, below 64, or 0 where it is left out; and a line of it, below 2^24

abbrev pub file_told : Option (Option ℕ) → Result ℕ FieldName
file_told None = Err field.File
file_told (Some None) = Ok 0
file_told (Some (Some file)) = if nat_lt file 64 then Ok file else Err field.File

abbrev pub file_number : Data → Result ℕ FieldName
file_number d = file_told (optional told_count (under field.File d))

-- as one number
abbrev pub required_place : Data → Result ℕ FieldName
required_place d = with_field (file_number d) (λ file. with_field (required_below (2 ^ 24) field.Line d) (λ line. Ok (place file line)))

-- the field that is wrong, unless memory ran out
abbrev pub IsWrong : {A : Type 0} → Result A FieldName → FieldFault → Type 0
IsWrong found fault.NoMemory = ⊤
IsWrong found (fault.Wrong f) = found ≡ Err f
