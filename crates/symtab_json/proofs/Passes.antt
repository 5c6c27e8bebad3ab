-- What is left when values are passed over, nested as deep as they may.
use Rattle.std.proofs.Common.{◌≡◌, ℕ, ◌-◌, ◌<◌, Bool, true, false, cond, List, [], ◌∷◌, length, Option, Some, None, option_map, option_and_then, IsUtf8, refl, sym, ap, ◌∙◌}
use Rattle.std.specs.Str.{is_utf8}
use Rattle.std.proofs.lemmas.Str.{IsUtf8-from_is_utf8, is_utf8-from_IsUtf8}
use Rattle.json.specs.Token.{Token}
use Rattle.json.specs.Lex.{tokens}
use Rattle.json.specs.Json as json
use Rattle.json.specs.Json.{parse_map, after_end_array, read_key, value}
use Rattle.json.proofs.Grammar.{left, left-parse_map, value_is, left_some, left_none}
use Rattle.serde_json.specs.Data.{Num, Data, number, array, object, Members, no_members, put}
use Rattle.serde_json.specs.Read.{of_json, converted, number_of, read}
use Rattle.symtab_json.specs.Standing.{value_at, items_at, members_at, passed_value, passed_items, passed_members}
use Rattle.symtab_json.specs.JsonText.{IsWhole, IsJson}
use Rattle.symtab_json.specs.Told.{json_of}
use Rattle.symtab_json.proofs.Turns.{converted_some, value_at-begin_array, value_at-begin_object, value_at-shorter, item_end, item_more, item_none, member_end, member_more, member_none, member_no_key, members_any}
use Rattle.symtab_json.proofs.Heads.{value_found}

none_some : {A : Type 0} (x : A) → None ≡ Some x → ⊥
none_some x e = cc

-- ---- values

pub none_passed : (depth : ℕ) (ts : List Token) → value depth ts ≡ None → passed_value depth ts ≡ None
unfolding passed_value value_at
none_passed depth ts e = ap (λ o. left (converted of_json o)) e

pub nothing_passed : (depth : ℕ) (ts : List Token) → ts ≡ [] → passed_value depth ts ≡ None
nothing_passed depth ts is = ap (passed_value depth) is ∙ none_passed depth [] (value_is depth [])

pub string_passed : (depth : ℕ) (ts r : List Token) (s : List ℕ) → ts ≡ Token.string s ∷ r → passed_value depth ts ≡ Some r
unfolding passed_value value_at
string_passed depth ts r s is = ap (passed_value depth) is ∙ ap (λ o. left (converted of_json o)) (value_is depth (Token.string s ∷ r))

pub boolean_passed : (depth : ℕ) (ts r : List Token) (b : Bool) → ts ≡ Token.boolean b ∷ r → passed_value depth ts ≡ Some r
unfolding passed_value value_at
boolean_passed depth ts r b is = ap (passed_value depth) is ∙ ap (λ o. left (converted of_json o)) (value_is depth (Token.boolean b ∷ r))

pub null_passed : (depth : ℕ) (ts r : List Token) → ts ≡ Token.null ∷ r → passed_value depth ts ≡ Some r
unfolding passed_value value_at
null_passed depth ts r is = ap (passed_value depth) is ∙ ap (λ o. left (converted of_json o)) (value_is depth (Token.null ∷ r))

numbered : (r : List Token) (o : Option Num) → left (option_map {U = Data × List Token} (λ d. (d, r)) (option_map number o)) ≡ option_map (λ n. r) o
numbered r None = refl
numbered r (Some n) = refl

pub number_passed : (depth : ℕ) (ts r : List Token) (s : List ℕ) → ts ≡ Token.number s ∷ r → passed_value depth ts ≡ option_map (λ n. r) (number_of s)
unfolding passed_value value_at
number_passed depth ts r s is = ap (passed_value depth) is ∙ ap (λ o. left (converted of_json o)) (value_is depth (Token.number s ∷ r)) ∙ numbered r (number_of s)

pub array_passed : (depth : ℕ) (ts r : List Token) → ts ≡ Token.begin_array ∷ r → 0 < depth → passed_value depth ts ≡ passed_items (depth - 1) r
unfolding passed_value passed_items
array_passed depth ts r is some = ap (passed_value depth) is ∙ ap left (value_at-begin_array depth r some) ∙ left-parse_map array (items_at (depth - 1) r)

pub object_passed : (depth : ℕ) (ts r : List Token) → ts ≡ Token.begin_object ∷ r → 0 < depth → passed_value depth ts ≡ passed_members (depth - 1) r
unfolding passed_value passed_members
object_passed depth ts r is some = ap (passed_value depth) is ∙ ap left (value_at-begin_object depth r some) ∙ left-parse_map object (members_at (depth - 1) no_members r)

pub array_too_deep : (depth : ℕ) (ts r : List Token) → ts ≡ Token.begin_array ∷ r → depth ≡ 0 → passed_value depth ts ≡ None
unfolding value
array_too_deep depth ts r is none = ap (passed_value depth) is ∙ ap (λ n. passed_value n (Token.begin_array ∷ r)) none ∙ none_passed 0 (Token.begin_array ∷ r) refl

pub object_too_deep : (depth : ℕ) (ts r : List Token) → ts ≡ Token.begin_object ∷ r → depth ≡ 0 → passed_value depth ts ≡ None
unfolding value
object_too_deep depth ts r is none = ap (passed_value depth) is ∙ ap (λ n. passed_value n (Token.begin_object ∷ r)) none ∙ none_passed 0 (Token.begin_object ∷ r) refl

-- no other token begins a value
abbrev pub EndsOrFails : Token → Type 0
EndsOrFails Token.begin_object = ⊥
EndsOrFails Token.end_object = Unit {0}
EndsOrFails Token.begin_array = ⊥
EndsOrFails Token.end_array = Unit {0}
EndsOrFails (Token.key s) = Unit {0}
EndsOrFails (Token.string s) = ⊥
EndsOrFails (Token.number s) = ⊥
EndsOrFails (Token.boolean b) = ⊥
EndsOrFails Token.null = ⊥
EndsOrFails Token.bad = Unit {0}

end_none : (depth : ℕ) (t : Token) (r : List Token) → EndsOrFails t → value depth (t ∷ r) ≡ None
end_none depth Token.begin_object r h = absurd h
end_none depth Token.end_object r h = value_is depth (Token.end_object ∷ r)
end_none depth Token.begin_array r h = absurd h
end_none depth Token.end_array r h = value_is depth (Token.end_array ∷ r)
end_none depth (Token.key s) r h = value_is depth (Token.key s ∷ r)
end_none depth (Token.string s) r h = absurd h
end_none depth (Token.number s) r h = absurd h
end_none depth (Token.boolean b) r h = absurd h
end_none depth Token.null r h = absurd h
end_none depth Token.bad r h = value_is depth (Token.bad ∷ r)

pub end_passed : (depth : ℕ) (ts r : List Token) (t : Token) → EndsOrFails t → ts ≡ t ∷ r → passed_value depth ts ≡ None
end_passed depth ts r t h is = ap (passed_value depth) is ∙ none_passed depth (t ∷ r) (end_none depth t r h)

pub passed_shorter : (depth : ℕ) (ts r : List Token) → passed_value depth ts ≡ Some r → length r < length ts
unfolding passed_value
passed_shorter depth ts r e = let d = left_some (value_at depth ts) r e in value_at-shorter depth ts d.0 r d.1

-- ---- entries

pub items_ended : (depth : ℕ) (ts r : List Token) → after_end_array ts ≡ Some r → passed_items depth ts ≡ Some r
unfolding passed_items
items_ended depth ts r e = ap left (item_end depth ts r e)

pub item_passed : (depth : ℕ) (ts r : List Token) → after_end_array ts ≡ None → passed_value depth ts ≡ Some r → passed_items depth ts ≡ passed_items depth r
unfolding passed_value passed_items
item_passed depth ts r going e =
    let d = left_some (value_at depth ts) r e in
    ap left (item_more depth ts r d.0 going d.1) ∙ left-parse_map _ (items_at depth r)

pub item_failed : (depth : ℕ) (ts : List Token) → after_end_array ts ≡ None → passed_value depth ts ≡ None → passed_items depth ts ≡ None
unfolding passed_value passed_items
item_failed depth ts going e = ap left (item_none depth ts going (left_none (value_at depth ts) e))

-- ---- members

pub members_ended : (depth : ℕ) (ts r : List Token) → read_key ts ≡ Some (None, r) → passed_members depth ts ≡ Some r
unfolding passed_members
members_ended depth ts r e = ap left (member_end depth no_members ts r e)

pub key_failed : (depth : ℕ) (ts : List Token) → read_key ts ≡ None → passed_members depth ts ≡ None
unfolding passed_members
key_failed depth ts e = ap left (member_no_key depth no_members ts e)

left_known : (depth : ℕ) (before known : Members) (ts : List Token) (a b : Option (Members × List Token)) → members_at depth before ts ≡ a → members_at depth known ts ≡ b → left a ≡ left b
left_known depth before known ts None None e f = refl
left_known depth before known ts None (Some y) e f = let all = members_any depth known before y.0 ts y.1 f in absurd (none_some _ (sym e ∙ all.1))
left_known depth before known ts (Some x) b e f = let all = members_any depth before known x.0 ts x.1 e in ap left (sym all.1 ∙ f)

pub member_passed : (depth : ℕ) (k : List ℕ) (ts s r : List Token) → read_key ts ≡ Some (Some k, s) → passed_value depth s ≡ Some r → passed_members depth ts ≡ passed_members depth r
unfolding passed_value passed_members
member_passed depth k ts s r key e =
    let d = left_some (value_at depth s) r e in
    ap left (member_more depth no_members k ts s r d.0 key d.1) ∙ left_known depth (put k d.0 no_members) no_members r _ _ refl refl

pub member_failed : (depth : ℕ) (k : List ℕ) (ts s : List Token) → read_key ts ≡ Some (Some k, s) → passed_value depth s ≡ None → passed_members depth ts ≡ None
unfolding passed_value passed_members
member_failed depth k ts s key e = ap left (member_none depth no_members k ts s key (left_none (value_at depth s) e))

-- ---- whole texts

whole_read : (o : Option (json.Json × List Token)) (d : Data) → converted of_json o ≡ Some (d, []) → option_and_then of_json (option_and_then (λ p. json.if_last p.0 p.1) o) ≡ Some d
whole_read o d e = let j = converted_some of_json o d [] e in ap (λ o. option_and_then of_json (option_and_then (λ p. json.if_last p.0 p.1) o)) j.1 ∙ j.2

more_read : (o : Option (json.Json × List Token)) (d : Data) (t : Token) (r : List Token) → converted of_json o ≡ Some (d, t ∷ r) → option_and_then of_json (option_and_then (λ p. json.if_last p.0 p.1) o) ≡ None
more_read o d t r e = let j = converted_some of_json o d (t ∷ r) e in ap (λ o. option_and_then of_json (option_and_then (λ p. json.if_last p.0 p.1) o)) j.1

no_value : (r : List Token) (x : Option Data) → option_map {U = Data × List Token} (λ d. (d, r)) x ≡ None → x ≡ None
no_value r None e = refl
no_value r (Some d) e = absurd (cc)

none_read : (o : Option (json.Json × List Token)) → converted of_json o ≡ None → option_and_then of_json (option_and_then (λ p. json.if_last p.0 p.1) o) ≡ None
none_read None e = refl
none_read (Some (j, [])) e = no_value [] (of_json j) e
none_read (Some (j, t ∷ r)) e = refl

pub text_whole : (text : List ℕ) → passed_value 127 (tokens text) ≡ Some [] → IsWhole text
unfolding passed_value value_at
text_whole text e =
    let d = left_some (value_at 127 (tokens text)) [] e in
    let found = value_found (tokens text) [] d.0 d.1 in
    record { value = found.is; whole = whole_read (value 127 (tokens text)) d.0 d.1 ∙ ap Some (sym found.head_is) }

pub text_and_more : (text : List ℕ) (t : Token) (r : List Token) → passed_value 127 (tokens text) ≡ Some (t ∷ r) → read text ≡ None
unfolding passed_value value_at
text_and_more text t r e = let d = left_some (value_at 127 (tokens text)) (t ∷ r) e in more_read (value 127 (tokens text)) d.0 t r d.1

pub text_failed : (text : List ℕ) → passed_value 127 (tokens text) ≡ None → read text ≡ None
unfolding passed_value value_at
text_failed text e = none_read (value 127 (tokens text)) (left_none (value_at 127 (tokens text)) e)

-- ---- bytes

pub whole_json : (text : List ℕ) → IsUtf8 text → IsWhole text → IsJson text
whole_json text utf8 of = record { value = of.value; json = rw (is_utf8-from_IsUtf8 text utf8) of.whole }

none_at : (b : Bool) (text : List ℕ) (found : Option Data) → is_utf8 text ≡ b → (IsUtf8 text → found ≡ None) → cond b found None ≡ None
none_at true text found e h = h (IsUtf8-from_is_utf8 text e)
none_at false text found e h = refl

pub no_json : (text : List ℕ) → (IsUtf8 text → read text ≡ None) → json_of text ≡ None
no_json text h = none_at (is_utf8 text) text (read text) refl h
