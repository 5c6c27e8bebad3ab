-- The sample service, step by step.
use Rattle.std.proofs.Common.{arith, ◌≡◌, ◌≢◌, true≢false, ℕ, Bool, true, false, List, [], ◌∷◌, length, Some, refl, sym, ap, ◌∙◌}
use Rattle.std.specs.Fmt.{digits}
use Rattle.std.proofs.lemmas.List.Elements.{All-nil, All-cons}
use Rattle.link_edge.specs.declared.answers.End.{End}
use Rattle.link_edge.specs.declared.answers.End.TheVariants.{Bye, Closed, Failed, NoMemory}
use Rattle.duo_run.specs.declared.event.Event.{Event}
use Rattle.duo_run.specs.Journals.{requests_of}
use Rattle.serve_net.specs.declared.visit.Visit.TheVariants.{NoLink, Linked}
use Rattle.serve_net.specs.Visits.{Told, HasLine, visits_text, lines_from, links_in, failures_in}
use Rattle.serve_net.specs.Members.{AreMembers}
use Rattle.serve_net.specs.Sample.{journal, visits, text, TwoConnectionsAreServed}

three : (b c y : List ℕ) → length (requests_of (journal b c y)) ≡ 3
unfolding requests_of
three b c y = refl

lasts : End → Bool
lasts Bye = true
lasts Closed = true
lasts Failed = true
lasts NoMemory = false

bye_lasts : Bye ≢ NoMemory
unfolding lasts
bye_lasts e = true≢false (ap lasts e)

lines : visits_text visits ≡ text
unfolding lines_from digits
lines = refl

pub two_connections_are_served : TwoConnectionsAreServed
unfolding links_in failures_in AreMembers
two_connections_are_served over b c y s is did ended = record {
  visits = visits;
  counted = refl;
  came = record {
    answers = record { links = refl; failures = omega arith };
    lines = All-cons HasLine (Linked Bye 3) (NoLink ∷ []) bye_lasts (All-cons HasLine NoLink [] tt (All-nil HasLine));
    told = ap (λ (told : Told). told ∷ []) (λ i. (ended i, (ap (λ (events : List Event). length (requests_of events)) did ∙ three b c y) i));
    members = (is, tt);
  };
  taken = ap Some (sym lines);
}
