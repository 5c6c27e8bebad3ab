use Rattle.std.proofs.Common.{◌∷◌, refl, sym, ap, ◌∙◌, arith, inl, inr}
use Rattle.json.specs.Reads.{token_of}
use Rattle.symtab_json.proofs.Openings.{list_opened, object_opened, string_passed, number_passed, boolean_passed, null_passed, begins_of}
use Rattle.symtab_json.proofs.tokens.open_value.Goals as goal

pub unreachable-requires : goal.unreachable-requires
unreachable-requires c = let begins = begins_of _ _ (token_of c.first_token.result) c.requires c.first_token.ensures in grind (arith, begins)

pub returns-in-BeginArray : goal.returns-in-BeginArray
returns-in-BeginArray c = list_opened _ _ c.requires (c.in-BeginArray.ensures)

pub returns-in-BeginObject : goal.returns-in-BeginObject
returns-in-BeginObject c = object_opened _ _ c.requires (c.in-BeginObject.ensures)

pub returns-in-String : goal.returns-in-String
returns-in-String c = string_passed _ _ _ c.in-String.text.now (c.in-String.ensures) refl refl

pub returns-in-Number : goal.returns-in-Number
returns-in-Number c = number_passed _ _ _ c.in-Number.text.now c.requires (c.in-Number.ensures) (sym c.number_of.ensures) refl

pub returns-in-Bool : goal.returns-in-Bool
returns-in-Bool c = elim c.in-Bool.is [
  | inl b ↦ boolean_passed _ _ _ b.0 (c.first_token.ensures ∙ ap (λ t. token_of t ∷ c.first_token.new.reader) b.1) refl refl
  | inr n ↦ null_passed _ _ _ (c.first_token.ensures ∙ ap (λ t. token_of t ∷ c.first_token.new.reader) n) refl refl
]
