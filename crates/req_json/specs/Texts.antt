-- The text of each line that a session puts out.
use Rattle.std.specs.Prelude.{ℕ, List, map}
use Rattle.machine_core.specs.Journal.{Line, Replied, Noticed}
use Rattle.req_json.specs.Replies.{reply_text}
use Rattle.req_json.specs.Notices.{notice_text}

-- no line feed stands in it
unfoldable pub line_text : Line → List ℕ
line_text (Replied reply) = reply_text reply
line_text (Noticed notice) = notice_text notice

abbrev pub texts_of : List Line → List (List ℕ)
texts_of lines = map line_text lines
