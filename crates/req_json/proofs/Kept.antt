-- A text that asks nothing has one of four codes, and a field exactly where that is the reason.
use Rattle.std.proofs.Common.{◌≡◌, ℕ, List, Bool, true, false, Option, Some, None, Result, Ok, Err, IfOk, cond, refl, sym, subst, arith, is_some}
use Rattle.text_core.specs.declared.memory.NoMemory.{NoMemory}
use Rattle.serde_json.specs.Data.{Data}
use Rattle.serde_json.specs.Find.{as_object}
use Rattle.symtab_json.specs.Entries.{told_count}
use Rattle.machine_core.specs.declared.request.Asked.{Asked}
use Rattle.machine_core.specs.declared.request.Cmd.{Cmd}
use Rattle.req_json.specs.declared.field.FieldName.{FieldName}
use Rattle.req_json.specs.declared.field.FieldName.TheVariants as field
use Rattle.req_json.specs.Fields.{under, optional, required_text}
use Rattle.req_json.specs.Asked.{IsAsked, asked_cmd, asked_row, asked_word, asked_with_id, asked_tree, bad_shape, row_in, unknown_cmd}

shape_kept : (id : Option ℕ) (f : FieldName) → IsAsked (bad_shape id f)
shape_kept id f = record { least = omega arith; most = omega arith; named = refl }

unknown_kept : (id : Option ℕ) → IsAsked (unknown_cmd id)
unknown_kept id = record { least = omega arith; most = omega arith; named = refl }

cmd_kept : (id : Option ℕ) (c : Result Cmd FieldName) → IsAsked (asked_cmd id c)
cmd_kept id (Ok c) = tt
cmd_kept id (Err f) = shape_kept id f

row_kept : (id : Option ℕ) (row : Option (Result Cmd FieldName)) → IsAsked (asked_row id row)
row_kept id None = unknown_kept id
row_kept id (Some found) = cmd_kept id found

word_kept : (id : Option ℕ) (d : Data) (word : Result (List ℕ) FieldName) → IsAsked (asked_word id d word)
word_kept id d (Err f) = shape_kept id f
word_kept id d (Ok word) = row_kept id (row_in word d)

id_kept : (d : Data) (id : Option (Option ℕ)) → IsAsked (asked_with_id d id)
id_kept d None = shape_kept None field.Id
id_kept d (Some id) = word_kept id d (required_text field.Cmd d)

tree_kept : (d : Data) → IsAsked (asked_tree d)
tree_kept d = at (is_some (as_object d))
  where
    at : (b : Bool) → IsAsked (cond b (asked_with_id d (optional told_count (under field.Id d))) (bad_shape None field.Whole))
    at true = id_kept d (optional told_count (under field.Id d))
    at false = shape_kept None field.Whole

-- what was read
pub kept_of : (found : Result Asked NoMemory) (d : Data) → IfOk found (λ a. a ≡ asked_tree d) → IfOk found IsAsked
kept_of (Ok a) d e = subst IsAsked (sym e) (tree_kept d)
kept_of (Err e) d h = tt
