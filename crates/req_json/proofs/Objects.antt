-- Members that are kept as texts are those of the object that is written.
use Rattle.std.proofs.Common.{◌≡◌, ℕ, ◌==◌, codes, List, [], ◌∷◌, ◌++◌, Bool, true, false, String, Global, string_bytes, string_cmp, nat_cmp, Ordering, Less, Equal, Greater, refl, ap, ◌∙◌}
use Rattle.std.specs.Ordering.{match_ordering}
use Rattle.std.specs.BTreeMap.{insert_entry}
use Rattle.std.specs.Cmp.Lexicographic.{slice_cmp}
use Rattle.json.specs.Print.{quoted}
use Rattle.serde_json.specs.Data.{Data, Members, member, no_members, object}
use Rattle.serde_json.specs.Written.{comma_if, compact_text, members_text}
use Rattle.places.specs.Places.{file_of, line_in}
use Rattle.symtab_json.specs.Files.{count_json}
use Rattle.req_json.specs.Values.{file_texts_unless, file_unless, place_texts, with_place}
use Rattle.req_json.specs.Objects.{member_texts, object_text, pairs_text, put_text, text_in, texts_in, with_member}

abbrev Entry : Type 0
Entry = String Global × List ℕ

-- ---- a map that takes a member

in_at : (o : Ordering) (a b c : List Entry) → texts_in (match_ordering o a b c) ≡ match_ordering o (texts_in a) (texts_in b) (texts_in c)
in_at Less a b c = refl
in_at Equal a b c = refl
in_at Greater a b c = refl

pub entry_put : (ms : List Entry) (key : String Global) (text : List ℕ) → texts_in (insert_entry string_cmp ms key text) ≡ put_text (string_bytes key) text (texts_in ms)
unfolding put_text
entry_put [] key text = refl
entry_put (m ∷ ms) key text =
    in_at (string_cmp key m.0) _ _ _ ∙ ap (λ rest. match_ordering (string_cmp key m.0) ((string_bytes key, text) ∷ text_in m ∷ texts_in ms) ((string_bytes m.0, text) ∷ texts_in ms) (text_in m ∷ rest)) (entry_put ms key text)

-- ---- an object that takes a member

pub texts_none : member_texts no_members ≡ []
unfolding member_texts
texts_none = refl

texts_at : (o : Ordering) (a b c : Members) → member_texts (match_ordering o a b c) ≡ match_ordering o (member_texts a) (member_texts b) (member_texts c)
texts_at Less a b c = refl
texts_at Equal a b c = refl
texts_at Greater a b c = refl

pub texts_with : (key : List ℕ) (value : Data) (ms : Members) → member_texts (with_member key value ms) ≡ put_text key (compact_text value) (member_texts ms)
unfolding with_member member_texts put_text
texts_with key value no_members = refl
texts_with key value (member k d ms) =
    texts_at (slice_cmp nat_cmp key k) _ _ _
    ∙ ap (λ rest. match_ordering (slice_cmp nat_cmp key k) ((key, compact_text value) ∷ (k, compact_text d) ∷ member_texts ms) ((k, compact_text value) ∷ member_texts ms) ((k, compact_text d) ∷ rest)) (texts_with key value ms)

-- with a place
file_texts : (first : Bool) (file : ℕ) (ms : Members) → member_texts (file_unless first file ms) ≡ file_texts_unless first file (member_texts ms)
file_texts true file ms = refl
file_texts false file ms = texts_with (codes "file") (count_json file) ms

pub texts_place : (at : ℕ) (ms : Members) → member_texts (with_place at ms) ≡ place_texts at (member_texts ms)
unfolding with_place place_texts
texts_place at ms =
    file_texts (file_of at == 0) (file_of at) (with_member (codes "line") (count_json (line_in at)) ms)
    ∙ ap (file_texts_unless (file_of at == 0) (file_of at)) (texts_with (codes "line") (count_json (line_in at)) ms)

-- ---- what is written

pairs_are : (later : Bool) (ms : Members) → pairs_text later (member_texts ms) ≡ members_text later ms
unfolding member_texts
pairs_are later no_members = refl
pairs_are later (member k d ms) = ap (λ rest. comma_if later ++ (quoted k ++ 58 ∷ (compact_text d ++ rest))) (pairs_are true ms)

pub object_is : (ms : Members) → object_text (member_texts ms) ≡ compact_text (object ms)
object_is ms = ap (λ rest. 123 ∷ rest) (pairs_are false ms)
