-- The sample service, step by step.
use Rattle.std.proofs.Common.{arith, ◌≡◌, ℕ, List, [], ◌∷◌, length, Some, refl, sym, ap}
use Rattle.std.specs.Fmt.{digits}
use Rattle.std.proofs.lemmas.List.Elements.{All-nil, All-cons}
use Rattle.link_edge.specs.MemoryLinks.{LinkInMemory}
use Rattle.link_edge.specs.declared.answers.End.TheVariants.{Bye, Closed}
use Rattle.hub_core.specs.declared.served.ClientEnd.{ClientEnd}
use Rattle.hub_core.specs.declared.served.HubServed.{HubServed}
use Rattle.hub_core.specs.HubJournals.{asks_of, hub_deeds}
use Rattle.serve_net.specs.declared.visit.Visit.TheVariants.{NoLink, Linked}
use Rattle.serve_net.specs.Visits.{HasLine, lines_from, links_in, failures_in}
use Rattle.hub_net.specs.Clients.{client, told_from, told_in}
use Rattle.hub_net.specs.Sample.{journal, visits, text, TwoOfThreeAreServed}
use Rattle.hub_net.proofs.Visiting.{has_line, lasts}

three : (b c y : List ℕ) → length (asks_of 0 (hub_deeds (journal b c y))) ≡ 3
unfolding asks_of hub_deeds
three b c y = refl

none : (b c y : List ℕ) → length (asks_of 1 (hub_deeds (journal b c y))) ≡ 0
unfolding asks_of hub_deeds
none b c y = refl

lines : lines_from client 0 visits ≡ text
unfolding lines_from digits
lines = refl

told : (b c y : List ℕ) (hub : HubServed LinkInMemory) (first second : ClientEnd) → hub.journal.items ≡ journal b c y → hub.clients.items ≡ first ∷ second ∷ [] → first.end ≡ Bye → second.end ≡ Closed
    → told_in (Some hub) ≡ (Bye, 3) ∷ (Closed, 0) ∷ []
unfolding told_from
told b c y hub first second did are bye closed = rw (did, are, bye, closed, three b c y, none b c y) refl

pub two_of_three_are_served : TwoOfThreeAreServed
unfolding links_in failures_in lasts
two_of_three_are_served over b c y hub first second is did are bye closed gone = record {
  visits = visits;
  counted = refl;
  lines = All-cons HasLine NoLink (Linked Bye 3 ∷ Linked Closed 0 ∷ []) tt (All-cons HasLine (Linked Bye 3) (Linked Closed 0 ∷ []) (has_line Bye refl) (All-cons HasLine (Linked Closed 0) [] (has_line Closed refl) (All-nil HasLine)));
  told = told b c y hub first second did are bye closed;
  answers = record { links = refl; failures = omega arith };
  hub_is = (is, omega arith);
  all_gone = gone;
  taken = ap Some (sym lines);
}
