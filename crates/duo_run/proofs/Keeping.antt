-- A connection in the middle, step by step.
use Rattle.std.proofs.Common.{◌≡◌, ◌≢◌, arith, ℕ, Bool, List, [], ◌∷◌, ◌++◌, Some, refl, ◌∙◌, ap, append_assoc, append-nil, Vec}
use Rattle.io_edge.specs.Taken.{Appends}
use Rattle.io_edge.proofs.Growth.{grown_twice}
use Rattle.link_edge.specs.Links.{Meaning}
use Rattle.duo_run.specs.declared.event.Event.TheVariants.{Request}
use Rattle.link_pump.specs.declared.cause.Cause.TheVariants as cause
use Rattle.link_pump.specs.declared.outlet.Outlet.{Outlet}
use Rattle.duo_run.specs.declared.journal.Journal.{Journal}
use Rattle.duo_run.specs.declared.desk.Desk.{Desk}
use Rattle.duo_run.specs.Deeds.{Deed, Asks, Goes, requests_in}
use Rattle.duo_run.specs.Polls.{Poll}
use Rattle.duo_run.specs.Journals.{deeds_of, TurnAdded}
use Rattle.link_pump.specs.Outlets.{Delivered}
use Rattle.duo_run.specs.Desks.{Held}
use Rattle.duo_run.proofs.Doing.{requests_append}
use Rattle.duo_run.proofs.Noting.{deeds_request, deeds_turn_added}
use Rattle.link_pump.proofs.Sending.{nothing_grown}

module _ {L : Type 0} where
  -- nothing was served yet
  pub fresh : (start : Meaning) (d : Desk L) → d.journal.events.items ≡ [] → d.unapplied.items ≡ [] → d.outlet.sent.items ≡ [] → d.outlet.unsent.items ≡ []
      → d.outlet.over ≢ Some cause.Closed → d.outlet.over ≢ Some cause.Failed → Held start start d [] [] [] []
  unfolding deeds_of requests_in
  fresh start d journal unapplied sent unsent open_still whole = record {
    polls_are = nothing_grown start.polls;
    deeds_are = rw journal refl;
    read = rw unapplied (nothing_grown start.received);
    delivered = record {
      sent_is = rw sent (nothing_grown start.sent);
      lines = ([], rw (sent, unsent) refl, λ over. refl);
      unsent = λ over. unsent;
      counts = record { faults = omega arith; idles = omega arith; ends = omega arith };
      shut = refl;
      closed = λ over. absurd (open_still over);
      failed = λ over. absurd (whole over);
    };
  }

  -- a message was put with those that are not applied
  pub put_aside : (start now next : Meaning) (d : Desk L) (o : Outlet L) (u : Vec (List ℕ) _) (text : List ℕ) (polls : List Poll) (deeds : List Deed) (made : List (List ℕ))
      → u.items ≡ d.unapplied.items ++ text ∷ [] → next ≡ now → (Delivered start now d.outlet made → Delivered start next o made)
      → Held start now d polls deeds (text ∷ []) made → Held start next (record d { outlet = o; unapplied = u }) polls deeds [] made
  put_aside start now next d o u text polls deeds made e same delivers was = record {
    polls_are = rw same was.polls_are;
    deeds_are = was.deeds_are;
    read = rw (same, e, append-nil, ← append_assoc) was.read;
    delivered = delivers was.delivered;
  }

  -- what is the same but for room that was taken
  pub same_held : (start now : Meaning) (d : Desk L) (js : Journal) (polls : List Poll) (deeds : List Deed) (taken made : List (List ℕ)) → js.events.items ≡ d.journal.events.items
      → Held start now d polls deeds taken made → Held start now (record d { journal = js }) polls deeds taken made
  same_held start now d js polls deeds taken made e was = record { polls_are = was.polls_are; deeds_are = rw e was.deeds_are; read = was.read; delivered = was.delivered }

  -- the link, with what was sent over it, has changed, and what was told by it has not
  pub ended_on : (start now next : Meaning) (d : Desk L) (o : Outlet L) (js : Journal) (polls : List Poll) (deeds : List Deed) (taken made : List (List ℕ)) → js.events.items ≡ d.journal.events.items → next ≡ now
      → (Delivered start now d.outlet made → Delivered start next o made) → Held start now d polls deeds taken made → Held start next (record d { outlet = o; journal = js }) polls deeds taken made
  ended_on start now next d o js polls deeds taken made e same delivers was = record {
    polls_are = rw same was.polls_are;
    deeds_are = rw e was.deeds_are;
    read = rw same was.read;
    delivered = delivers was.delivered;
  }

  pub room_made : (start now next : Meaning) (d : Desk L) (o : Outlet L) (u : Vec (List ℕ) _) (polls : List Poll) (deeds : List Deed) (made : List (List ℕ)) → u.items ≡ d.unapplied.items → next ≡ now
      → (Delivered start now d.outlet made → Delivered start next o made) → Held start now d polls deeds [] made → Held start next (record d { outlet = o; unapplied = u }) polls deeds [] made
  room_made start now next d o u polls deeds made e same delivers was = record {
    polls_are = rw same was.polls_are;
    deeds_are = was.deeds_are;
    read = rw (same, e) was.read;
    delivered = delivers was.delivered;
  }

  pub same_desk : (start now next : Meaning) (d e : Desk L) (polls : List Poll) (deeds : List Deed) (taken made : List (List ℕ)) → e.outlet ≡ d.outlet → e.unapplied ≡ d.unapplied
      → e.journal.events.items ≡ d.journal.events.items → next ≡ now → Held start now d polls deeds taken made → Held start next e polls deeds taken made
  same_desk start now next d e polls deeds taken made outlet unapplied journal same was = record {
    polls_are = rw same was.polls_are;
    deeds_are = rw journal was.deeds_are;
    read = rw (same, unapplied) was.read;
    delivered = rw (same, outlet) was.delivered;
  }

  -- a poll added these, and gave these messages
  pub polled_on : (start now next : Meaning) (d : Desk L) (o : Outlet L) (polls added : List Poll) (deeds : List Deed) (heard made : List (List ℕ)) → Appends now.polls next.polls added
      → Appends now.received next.received heard → (Delivered start now d.outlet made → Delivered start next o made)
      → Held start now d polls deeds [] made → Held start next (record d { outlet = o }) (polls ++ added) deeds heard made
  polled_on start now next d o polls added deeds heard made polled received delivers was = record {
    polls_are = grown_twice start.polls now.polls next.polls polls added was.polls_are polled;
    deeds_are = was.deeds_are;
    read = rw append-nil at (grown_twice start.received now.received next.received ((requests_in deeds ++ d.unapplied.items) ++ []) heard was.read received);
    delivered = delivers was.delivered;
  }

  -- a request was applied
  pub asked_on : (start now next : Meaning) (d : Desk L) (o : Outlet L) (js : Journal) (left : Bool) (text : List ℕ) (polls : List Poll) (deeds : List Deed) (made more : List (List ℕ))
      → d.unapplied.items ≡ [] → js.events.items ≡ d.journal.events.items ++ Request text ∷ [] → next.polls ≡ now.polls → next.received ≡ now.received
      → (Delivered start now d.outlet made → Delivered start next o more)
      → Held start now d polls deeds (text ∷ []) made → Held start next (record d { outlet = o; journal = js; left = left }) polls (deeds ++ Asks text ∷ []) [] more
  unfolding requests_in
  asked_on start now next d o js left text polls deeds made more none noted p r delivers was = record {
    polls_are = rw p was.polls_are;
    deeds_are = rw (noted, deeds_request, was.deeds_are) refl;
    read = rw (r, none, append-nil, append-nil, requests_append deeds (Asks text ∷ [])) (rw (none, append-nil) at was.read);
    delivered = delivers was.delivered;
  }

  -- a turn was made
  pub gone_on : (start now next : Meaning) (d : Desk L) (o : Outlet L) (js : Journal) (polls : List Poll) (deeds : List Deed) (made more : List (List ℕ))
      → TurnAdded d.journal.events.items js.events.items → next.polls ≡ now.polls → next.received ≡ now.received
      → (Delivered start now d.outlet made → Delivered start next o more)
      → Held start now d polls deeds [] made → Held start next (record d { outlet = o; journal = js }) polls (deeds ++ Goes ∷ []) [] more
  unfolding requests_in
  gone_on start now next d o js polls deeds made more noted p r delivers was = record {
    polls_are = rw p was.polls_are;
    deeds_are = deeds_turn_added _ _ noted ∙ ap (λ l. l ++ Goes ∷ []) was.deeds_are;
    read = rw (r, requests_append deeds (Goes ∷ []), append-nil (requests_in deeds)) was.read;
    delivered = delivers was.delivered;
  }
