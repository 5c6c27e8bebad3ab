-- A service to three clients at once, worked by hand: the door fails the first time; one client takes its leave after three requests, and one
-- goes without a word.
use Rattle.std.specs.Prelude.{◌≡◌, ℕ, List, [], ◌∷◌, Some, codes}
use Rattle.link_edge.specs.MemoryLinks.{LinkInMemory, meaning_of}
use Rattle.link_edge.specs.declared.answers.End.TheVariants.{Bye, Closed}
use Rattle.hub_core.specs.declared.event.HubEvent.{HubEvent}
use Rattle.hub_core.specs.declared.event.HubEvent.TheVariants.{Ask, Left, Turns}
use Rattle.hub_core.specs.declared.served.ClientEnd.{ClientEnd}
use Rattle.hub_core.specs.declared.served.HubServed.{HubServed}
use Rattle.hub_core.specs.declared.served.HubEnd.TheVariants.{AllLeft}
use Rattle.serve_net.specs.declared.visit.Visit.{Visit}
use Rattle.serve_net.specs.declared.visit.Visit.TheVariants.{NoLink, Linked}
use Rattle.show_net.specs.Over.{Over}
use Rattle.hub_net.specs.Clients.{IsHub}
use Rattle.hub_net.specs.AtOnce.{ServesAtOnce}

-- the first that came sets a breakpoint; the other is gone, the first lets it run for a turn, and takes its leave
abbrev pub journal : (b c y : List ℕ) → List HubEvent
journal b c y = Ask 0 b ∷ Left 1 ∷ Ask 0 c ∷ Turns 1 ∷ Ask 0 y ∷ Left 0 ∷ []

abbrev pub visits : List Visit
visits = NoLink ∷ Linked Bye 3 ∷ Linked Closed 0 ∷ []

abbrev pub text : List ℕ
text = codes "client 0 door failed\nclient 1 end bye requests 3\nclient 2 end closed requests 0\n"

-- over any design, whatever the texts of the requests: from a door with two links, with no listeners, and from an output that took nothing yet
abbrev pub TwoOfThreeAreServed : Type 0
TwoOfThreeAreServed = (over : Over) (b c y : List ℕ) (hub : HubServed LinkInMemory) (first second : ClientEnd) → IsHub meaning_of over [] 2 hub → hub.journal.items ≡ journal b c y
    → hub.clients.items ≡ first ∷ second ∷ [] → first.end ≡ Bye → second.end ≡ Closed → hub.end ≡ AllLeft
    → ServesAtOnce meaning_of over [] 3 (Some 2) (Some 0) 0 1 (Some hub) (Some []) (Some text)
