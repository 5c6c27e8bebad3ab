-- A service of two connections, worked by hand: one client comes and takes its leave after three requests, and the second time the door fails.
use Rattle.std.specs.Prelude.{◌≡◌, ℕ, List, [], ◌∷◌, Some, codes}
use Rattle.link_edge.specs.MemoryLinks.{LinkInMemory, meaning_of}
use Rattle.link_edge.specs.declared.answers.End.TheVariants.{Bye}
use Rattle.duo_run.specs.declared.event.Event.{Event}
use Rattle.duo_run.specs.declared.event.Event.TheVariants.{Request, Turns}
use Rattle.duo_run.specs.declared.served.Served.{Served}
use Rattle.serve_net.specs.declared.visit.Visit.{Visit}
use Rattle.serve_net.specs.declared.visit.Visit.TheVariants.{NoLink, Linked}
use Rattle.show_net.specs.Over.{Over}
use Rattle.serve_net.specs.Members.{IsMember}
use Rattle.serve_net.specs.Service.{ServesAll}

-- a breakpoint, a run that takes one turn, and a leave
abbrev pub journal : (b c y : List ℕ) → List Event
journal b c y = Request b ∷ Request c ∷ Turns 1 ∷ Request y ∷ []

abbrev pub visits : List Visit
visits = Linked Bye 3 ∷ NoLink ∷ []

abbrev pub text : List ℕ
text = codes "connection 0 end bye requests 3\nconnection 1 door failed\n"

-- over any design, whatever the texts of the requests: from a door with one link, with no listeners, and from an output that took nothing yet
abbrev pub TwoConnectionsAreServed : Type 0
TwoConnectionsAreServed = (over : Over) (b c y : List ℕ) (s : Served LinkInMemory) → IsMember meaning_of over [] s → s.journal.items ≡ journal b c y → s.end ≡ Bye
    → ServesAll meaning_of over [] 2 (Some 1) (Some 0) 0 1 (s ∷ []) (Some []) (Some text)
