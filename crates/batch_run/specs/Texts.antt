-- A batch of requests as a text, and the text of what a session puts out.
use Rattle.std.specs.Prelude.{ℕ, ◌==◌, Bool, not, List, [], ◌∷◌, ◌++◌, map, filter, bytes_eq, codes}
use Rattle.std.specs.List.{slice_split, flat_map}
use Rattle.listen.specs.Pairs.{Heard}
use Rattle.world_core.specs.World.{World}
use Rattle.machine_core.specs.declared.request.Asked.{Asked}
use Rattle.machine_core.specs.Reading.{Reader}
use Rattle.machine_core.specs.Journal.{Line, Replied, Noticed, batch_output}
use Rattle.req_json.specs.Asked.{asked}
use Rattle.req_json.specs.Replies.{reply_text}
use Rattle.req_json.specs.Notices.{notice_text}

-- ---- requests

abbrev pub is_feed : ℕ → Bool
is_feed byte = byte == 10

abbrev pub has_byte : List ℕ → Bool
has_byte line = not (bytes_eq line [])

-- the lines of a text that hold a byte; the last need not end with a line feed
abbrev pub lines_of : List ℕ → List (List ℕ)
lines_of text = filter has_byte (slice_split is_feed text)

-- each is a request
abbrev pub requests_of : List ℕ → List Asked
requests_of text = map asked (lines_of text)

-- requests have at most 16 MiB
abbrev pub most_requests : ℕ
most_requests = 16777216

-- the line of requests that are too long
abbrev pub requests_fault : List ℕ
requests_fault = codes "requests fault 1 TooLong\n"

-- ---- lines

abbrev pub line_text : Line → List ℕ
line_text (Replied reply) = reply_text reply ++ 10 ∷ []
line_text (Noticed notice) = notice_text notice ++ 10 ∷ []

abbrev pub session_text : List Line → List ℕ
session_text lines = flat_map line_text lines

-- what a session over a world puts out for these requests, from listeners that mean this
abbrev pub batch_text : Reader → World → List Heard → List ℕ → List ℕ
batch_text read w heard requests = session_text (batch_output read w heard (requests_of requests))
