-- The text of each message to an editor: compact JSON, whose keys stand in the order of their bytes, behind a head that tells its length.
use Rattle.std.specs.Prelude.{ℕ, List, ◌∷◌, ◌++◌, length, Bool, is_none, codes, decimal, Option, Some, None}
use Rattle.serde_json.specs.Data.{Members, boolean, object, string}
use Rattle.serde_json.specs.Written.{compact_text}
use Rattle.symtab_json.specs.Files.{count_json}
use Rattle.req_json.specs.Objects.{MemberTexts, object_text, put_text, two_members, with_member}
use Rattle.dap_text.specs.declared.payload.Payload.{Payload}
use Rattle.dap_text.specs.declared.payload.Happening.{Happening}
use Rattle.dap_text.specs.Payloads.{failure_in, happening_body, happening_word, payload_body}

-- a body, where there is one; and the name of a refusal, where there is one
abbrev pub with_body : Option Members → Members → Members
with_body None ms = ms
with_body (Some body) ms = with_member (codes "body") (object body) ms

abbrev pub with_failure : Option (List ℕ) → Members → Members
with_failure None ms = ms
with_failure (Some name) ms = with_member (codes "message") (string name) ms

-- the same body, of members that are kept as texts
abbrev pub body_texts : Option MemberTexts → MemberTexts → MemberTexts
body_texts None ms = ms
body_texts (Some body) ms = put_text (codes "body") (object_text body) ms

-- a response: its own number, that of the message which it answers, the name of its command, and whether it did as it was asked
abbrev pub plain_members : (seq request_seq : ℕ) → List ℕ → Bool → Members
plain_members seq request_seq command success =
    with_member (codes "type") (string (codes "response")) (
    with_member (codes "success") (boolean success) (
    with_member (codes "seq") (count_json seq) (
    two_members (codes "command") (string command) (codes "request_seq") (count_json request_seq))))

abbrev pub response_members : (seq request_seq : ℕ) → List ℕ → Payload → Members
response_members seq request_seq command p =
    with_body (payload_body p) (with_failure (failure_in p) (plain_members seq request_seq command (is_none (failure_in p))))

-- an event: its own number
abbrev pub event_members : ℕ → Happening → Members
event_members seq h =
    with_body (happening_body h) (
    with_member (codes "type") (string (codes "event")) (two_members (codes "event") (string (happening_word h)) (codes "seq") (count_json seq)))

-- ---- their bytes: the head ends with an empty line

abbrev pub framed_text : List ℕ → List ℕ
framed_text body = codes "Content-Length: " ++ (decimal (length body) ++ (13 ∷ 10 ∷ 13 ∷ 10 ∷ body))

abbrev pub response_text : (seq request_seq : ℕ) → List ℕ → Payload → List ℕ
response_text seq request_seq command p = framed_text (compact_text (object (response_members seq request_seq command p)))

abbrev pub event_text : ℕ → Happening → List ℕ
event_text seq h = framed_text (compact_text (object (event_members seq h)))
