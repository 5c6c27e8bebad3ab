-- Objects of few members, as they are kept until they are written.
use Rattle.std.proofs.Common.{◌≡◌, ℕ, List, [], sym, ap, ◌∙◌}
use Rattle.serde_json.specs.Data.{Data, Members, no_members}
use Rattle.serde_json.specs.Written.{compact_text}
use Rattle.req_json.specs.Objects.{MemberTexts, member_texts, one_member, put_text, two_members, with_member}
use Rattle.req_json.proofs.Objects.{texts_none, texts_with}

pub texts_one : (k : List ℕ) (v : Data) → member_texts (one_member k v) ≡ put_text k (compact_text v) []
texts_one k v = texts_with k v no_members ∙ ap (put_text k (compact_text v)) texts_none

-- what takes a member, of members that are kept so
pub put_one : (k : List ℕ) (d : Data) (new : MemberTexts) → new ≡ put_text k (compact_text d) [] → new ≡ member_texts (one_member k d)
put_one k d new e = e ∙ sym (texts_one k d)

pub put_more : (k : List ℕ) (d : Data) (ms : Members) (texts new : MemberTexts) → new ≡ put_text k (compact_text d) texts → texts ≡ member_texts ms → new ≡ member_texts (with_member k d ms)
put_more k d ms texts new e h = e ∙ ap (put_text k (compact_text d)) h ∙ sym (texts_with k d ms)

pub put_two : (k : List ℕ) (d : Data) (l : List ℕ) (e : Data) (new : MemberTexts) → new ≡ put_text l (compact_text e) (put_text k (compact_text d) []) → new ≡ member_texts (two_members k d l e)
put_two k d l e new h = put_more l e (one_member k d) (put_text k (compact_text d) []) new h (sym (texts_one k d))

-- the first of an object that has none yet
pub put_first : (k : List ℕ) (d : Data) (texts new : MemberTexts) → new ≡ put_text k (compact_text d) texts → texts ≡ [] → new ≡ member_texts (one_member k d)
put_first k d texts new e h = put_one k d new (e ∙ ap (put_text k (compact_text d)) h)

-- and one that was written before
pub put_written : (k : List ℕ) (d : Data) (text : List ℕ) (texts new : MemberTexts) → new ≡ put_text k text texts → text ≡ compact_text d → texts ≡ [] → new ≡ member_texts (one_member k d)
put_written k d text texts new e w h = put_first k d texts new (e ∙ ap (λ t. put_text k t texts) w) h
