-- What comes of each time that a door is asked, and the lines that tell it.
use Rattle.std.specs.Prelude.{◌≢◌, ℕ, ◌+◌, suc, List, [], ◌∷◌, ◌++◌, codes}
use Rattle.std.specs.Fmt.{decimal}
use Rattle.link_edge.specs.declared.answers.End.{End}
use Rattle.link_edge.specs.declared.answers.End.TheVariants.{Bye, Closed, Failed, NoMemory}
use Rattle.serve_net.specs.declared.visit.Visit.{Visit}
use Rattle.serve_net.specs.declared.visit.Visit.TheVariants.{NoLink, Linked}

-- ---- the lines

-- words, and a number
abbrev pub said : List ℕ → ℕ → List ℕ
said words number = words ++ decimal number

abbrev pub end_word : End → List ℕ
end_word Bye = codes "bye"
end_word Closed = codes "closed"
end_word Failed = codes "failed"
end_word NoMemory = []

-- `WHO I door failed`, or `WHO I end E requests R`, where WHO is what comes of a link, with a space behind it
abbrev pub line_of : List ℕ → ℕ → Visit → List ℕ
line_of who number NoLink = said who number ++ codes " door failed\n"
line_of who number (Linked end requests) = said who number ++ codes " end " ++ end_word end ++ said (codes " requests ") requests ++ codes "\n"

-- the lines of visits, counted from a number
unfoldable pub lines_from : List ℕ → ℕ → List Visit → List ℕ
lines_from who number [] = []
lines_from who number (visit ∷ visits) = line_of who number visit ++ lines_from who (suc number) visits

-- of a link comes a connection
abbrev pub connection : List ℕ
connection = codes "connection "

abbrev pub visit_line : ℕ → Visit → List ℕ
visit_line number visit = line_of connection number visit

abbrev pub visits_text : List Visit → List ℕ
visits_text visits = lines_from connection 0 visits

-- a visit has a line, unless its connection ended for want of memory
abbrev pub HasLine : Visit → Type 0
HasLine NoLink = Unit {0}
HasLine (Linked end requests) = end ≢ NoMemory

-- ---- the connections among them

-- a connection as its line tells it: how it ended, and after how many requests
abbrev pub Told : Type 0
Told = End × ℕ

abbrev pub link_in : Visit → List Told
link_in NoLink = []
link_in (Linked end requests) = (end, requests) ∷ []

unfoldable pub links_in : List Visit → List Told
links_in [] = []
links_in (visit ∷ visits) = link_in visit ++ links_in visits

-- how often the door failed
abbrev pub failure_in : Visit → ℕ
failure_in NoLink = 1
failure_in (Linked end requests) = 0

unfoldable pub failures_in : List Visit → ℕ
failures_in [] = 0
failures_in (visit ∷ visits) = failure_in visit + failures_in visits
