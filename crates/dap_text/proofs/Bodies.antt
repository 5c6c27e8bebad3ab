-- A body that is put in as a text is the one of the object that is written.
use Rattle.std.proofs.Common.{◌≡◌, Option, Some, None, option_map, codes, refl, sym, ap, ◌∙◌}
use Rattle.serde_json.specs.Data.{Members, object}
use Rattle.req_json.specs.Objects.{member_texts, put_text}
use Rattle.req_json.proofs.Objects.{object_is, texts_with}
use Rattle.dap_text.specs.Texts.{body_texts, with_body}

pub texts_body : (body : Option Members) (ms : Members) → member_texts (with_body body ms) ≡ body_texts (option_map member_texts body) (member_texts ms)
texts_body None ms = refl
texts_body (Some body) ms =
    texts_with (codes "body") (object body) ms ∙ ap (λ text. put_text (codes "body") text (member_texts ms)) (sym (object_is body))
