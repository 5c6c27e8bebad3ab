-- A service to all clients at once, from what its steps say.
use Rattle.std.proofs.Common.{arith, ◌≡◌, ◌≤◌, inl, inr, ℕ, Bool, true, false, List, [], Option, Some, None, Result, Ok, Err, IfSome, IfOk, OnOk, OnErr, append-nil, map, length, refl, sym, ◌∙◌}
use Rattle.std.proofs.lemmas.List.{length-map}
use Rattle.io_edge.specs.Taken.{Appends, AppendsFront}
use Rattle.io_edge.proofs.Growth.{no_growth, front_from_whole}
use Rattle.io_edge.specs.declared.sink_end.SinkEnd.{SinkEnd}
use Rattle.io_edge.specs.declared.sink_end.SinkEnd.TheVariants as sink_ends
use Rattle.listen.specs.Pairs.{Heard}
use Rattle.link_edge.specs.Links.{Meaning}
use Rattle.hub_core.specs.declared.served.HubServed.{HubServed}
use Rattle.hub_core.specs.declared.served.HubEnd.TheVariants.{AllLeft, NoMemory}
use Rattle.hub_core.specs.HubJournals.{hub_deeds}
use Rattle.serve_net.specs.Visits.{lines_from, links_in}
use Rattle.show_net.specs.Over.{Over}
use Rattle.hub_net.specs.Came.{Gathers, AsksSome, comings, failings}
use Rattle.hub_net.specs.Clients.{IsHub, client, told_in, visits_in}
use Rattle.hub_net.specs.AtOnce.{IsHubOf, AllAreGone, ServesAtOnce, ServesSomeAtOnce, told_status}
use Rattle.hub_net.proofs.Counting.{counted}
use Rattle.hub_net.proofs.Visiting.{told_len, all_have_lines, visits_within, untold_of, whole_of, all_told}

-- so many times the door was asked at most, where it was asked so often
pub gathered_some : (count : ℕ) (links : List Meaning) (came : List Bool) (l0 l1 : Option ℕ) (f0 f1 : ℕ) → Gathers count links came l0 l1 f0 f1 → AsksSome count l0 l1 f0 f1
gathered_some count links came l0 l1 f0 f1 g = record { came = comings came; failing = failings came; within = omega (arith, counted came, g.counted); answers = g.answers }

module _ {L : Type 0} (meant : L → Meaning) (over : Over) (heard : List Heard) (count : ℕ) (l0 l1 : Option ℕ) (f0 f1 : ℕ) where
  -- memory ran out before there was a session
  pub starved_before : (old : Option (List ℕ)) (status : ℕ) → status ≡ 9 → AsksSome count l0 l1 f0 f1 → ServesSomeAtOnce meant over heard count l0 l1 f0 f1 None old old status
  unfolding lines_from links_in visits_in
  starved_before old status is asks = record {
    came = asks.came;
    failing = asks.failing;
    asked = asks.within;
    answers = asks.answers;
    hub_is = tt;
    visits = [];
    within = omega arith;
    lines = all_have_lines [] [];
    untold = [];
    told = refl;
    untold_are = inl refl;
    taken = no_growth old old [] refl;
    whole = λ not9. absurd (not9 is);
  }

  told_some : (n : ℕ) (hub : Option (HubServed L)) → IsHubOf meant over heard n hub → length (told_in hub) ≤ n
  told_some n None is = omega arith
  told_some n (Some h) is = elim is.0.seated [
    | inl none ↦ rw (told_len 0 h.clients.items (hub_deeds h.journal.items), none.0) (omega arith)
    | inr all ↦ rw (told_len 0 h.clients.items (hub_deeds h.journal.items), all) (omega arith)
  ]

  told_whole : (n : ℕ) (hub : Option (HubServed L)) → IsHubOf meant over heard n hub → AllAreGone hub → length (told_in hub) ≡ n
  told_whole n None is gone = sym is
  told_whole n (Some h) is gone = elim is.0.seated [
    | inl none ↦ absurd (let bad : AllLeft ≡ NoMemory = sym gone ∙ none.1 in cc)
    | inr all ↦ told_len 0 h.clients.items (hub_deeds h.journal.items) ∙ all
  ]

  hub_some : (n : ℕ) (hub : Option (HubServed L)) → IsHubOf meant over heard n hub → IfSome hub (λ h. IsHub meant over heard n h)
  hub_some n None is = tt
  hub_some n (Some h) is = is.0

  module _ (links : List Meaning) (came : List Bool) (gathers : Gathers count links came l0 l1 f0 f1) (n : ℕ) (many : length links ≡ n) (hub : Option (HubServed L)) (is : IsHubOf meant over heard n hub) (old new : Option (List ℕ)) where
    is_came : IsHubOf meant over heard (comings came) hub
    is_came = rw (sym many ∙ gathers.links_are) at is

    pub served_whole : length (visits_in came (told_in hub)) ≡ length came → AllAreGone hub → Appends old new (lines_from client 0 (visits_in came (told_in hub))) → ServesAtOnce meant over heard count l0 l1 f0 f1 hub old new
    served_whole whole gone taken =
        let all = whole_of came (told_in hub) whole in
        record {
          visits = visits_in came (told_in hub);
          counted = whole ∙ gathers.counted;
          lines = all_have_lines came (told_in hub);
          told = all_told came (told_in hub) whole (told_whole (comings came) hub is_came gone);
          answers = rw (all.links, all.failures) gathers.answers;
          hub_is = rw all.links is_came;
          all_gone = gone;
          taken = taken;
        }

    pub served_some : (status : ℕ) → AppendsFront old new (lines_from client 0 (visits_in came (told_in hub))) → ServesSomeAtOnce meant over heard count l0 l1 f0 f1 hub old new status
    served_some status taken =
        let some = untold_of came (told_in hub) (told_some (comings came) hub is_came) in
        record {
          came = comings came;
          failing = failings came;
          asked = omega (arith, counted came, gathers.counted);
          answers = gathers.answers;
          hub_is = hub_some (comings came) hub is_came;
          visits = visits_in came (told_in hub);
          within = omega (arith, visits_within came (told_in hub), gathers.counted);
          lines = all_have_lines came (told_in hub);
          untold = some.untold;
          told = some.is;
          untold_are = some.are;
          taken = taken;
          whole = λ not9. (counted came ∙ gathers.counted, is_came);
        }

-- ---- the room, and the status

pub seats_within : {L : Type 0} (m : L → Meaning) (links : List L) (count : ℕ) (came : List Bool) (l0 l1 : Option ℕ) (f0 f1 : ℕ) → Gathers count (map m links) came l0 l1 f0 f1 → count ≤ 8 → length links ≤ 8
seats_within m links count came l0 l1 f0 f1 g few = omega (arith, g.links_are, g.counted, counted came, few, length-map links m)

-- all was told, and every client has left
pub told_all : (A B : Type 0) (result : Result Bool SinkEnd) → OnOk result A → IfOk result (λ whole. whole ≡ true → B) → told_status result ≡ 0 → A × B
told_all A B (Ok true) taken whole is = (taken, whole refl)
told_all A B (Ok false) taken whole is = absurd (let bad : 9 ≡ 0 = is in cc)
told_all A B (Err sink_ends.Failed) taken whole is = absurd (let bad : 8 ≡ 0 = is in cc)
told_all A B (Err sink_ends.NoMemory) taken whole is = absurd (let bad : 9 ≡ 0 = is in cc)

-- a front of it was
pub told_front : (old new : Option (List ℕ)) (text : List ℕ) (result : Result Bool SinkEnd) → OnOk result (Appends old new text) → OnErr result (AppendsFront old new text) → AppendsFront old new text
told_front old new text (Ok whole) taken front = front_from_whole old new text [] text (sym (append-nil text)) taken
told_front old new text (Err end) taken front = front
