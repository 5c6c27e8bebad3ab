-- A client, step by step.
use Rattle.std.proofs.Common.{◌≡◌, ◌≢◌, inl, inr, ℕ, List, [], ◌∷◌, ◌++◌, Option, None, Some, refl, sym, ◌∙◌, append-nil, Vec}
use Rattle.io_edge.specs.Taken.{Appends}
use Rattle.io_edge.proofs.Growth.{grown_twice}
use Rattle.link_edge.specs.Links.{Meaning}
use Rattle.link_pump.specs.declared.cause.Cause.{Cause}
use Rattle.link_pump.specs.declared.cause.Cause.TheVariants.{NoMemory}
use Rattle.link_pump.specs.declared.outlet.Outlet.{Outlet}
use Rattle.link_pump.specs.Outlets.{Delivered, Lasts}
use Rattle.link_pump.proofs.Sending.{nothing_grown}
use Rattle.link_pump.proofs.Pumping.{outlet_fresh}
use Rattle.hub_core.specs.declared.client.Client.{Client}
use Rattle.hub_core.specs.Clients.{ClientFits}

-- what holds while memory has not run out and while a link is in use holds on
pub place_on : (old new : Option Cause) (A B C : Type 0) → Lasts old new → (old ≢ Some NoMemory → A) × (old ≡ None → B) × C → (new ≢ Some NoMemory → A) × (new ≡ None → B) × C
place_on None new A B C lasts was = (λ fed. was.0 (λ e. let bad : None ≡ Some NoMemory = e in cc), λ free. was.1 refl, was.2)
place_on (Some c) new A B C (inl e) was = (λ fed. was.0 (λ f. fed (e ∙ f)), λ free. absurd (let bad : None ≡ Some c = sym free ∙ e in cc), was.2)
place_on (Some c) new A B C (inr e) was = (λ fed. absurd (fed e), λ free. absurd (let bad : None ≡ Some NoMemory = sym free ∙ e in cc), was.2)

pub place_lost : (new : Option Cause) (A B C : Type 0) → new ≡ Some NoMemory → C → (new ≢ Some NoMemory → A) × (new ≡ None → B) × C
place_lost new A B C e few = (λ fed. absurd (fed e), λ free. absurd (let bad : None ≡ Some NoMemory = sym free ∙ e in cc), few)

module _ {L : Type 0} where
  -- nothing was read and made
  pub fits_fresh : (start : Meaning) (c : Client L) → c.outlet.sent.items ≡ [] → c.outlet.unsent.items ≡ [] → c.outlet.over ≡ None → c.unapplied.items ≡ [] → ClientFits start start c [] []
  fits_fresh start c sent unsent free none = record { delivered = outlet_fresh start c.outlet sent unsent free; read = rw none (nothing_grown start.received) }

  -- room was taken, or there was none
  pub fits_roomy : (start now next : Meaning) (c : Client L) (o : Outlet L) (u : Vec (List ℕ) _) (asked made : List (List ℕ)) → u.items ≡ c.unapplied.items → next ≡ now → (Delivered start now c.outlet made → Delivered start next o made)
      → ClientFits start now c asked made → ClientFits start next (record c { outlet = o; unapplied = u }) asked made
  fits_roomy start now next c o u asked made e same delivers was = record { delivered = delivers was.delivered; read = rw (same, e) was.read }

  -- room was taken for a line
  pub room_sent : (start now : Meaning) (c : Client L) (s : Vec (List ℕ) _) (asked made : List (List ℕ)) → s.items ≡ c.outlet.sent.items
      → ClientFits start now c asked made → ClientFits start now (record c { outlet = record c.outlet { sent = s } }) asked made
  room_sent start now c s asked made e was = record {
    delivered = record {
      sent_is = rw e was.delivered.sent_is;
      lines = rw e was.delivered.lines;
      unsent = was.delivered.unsent;
      counts = was.delivered.counts;
      shut = was.delivered.shut;
      closed = was.delivered.closed;
      failed = was.delivered.failed;
    };
    read = was.read;
  }

  -- lines were delivered, or lost
  pub fits_sent : (start now next : Meaning) (c : Client L) (o : Outlet L) (asked made more : List (List ℕ)) → next.received ≡ now.received → (Delivered start now c.outlet made → Delivered start next o more)
      → ClientFits start now c asked made → ClientFits start next (record c { outlet = o }) asked more
  fits_sent start now next c o asked made more same delivers was = record { delivered = delivers was.delivered; read = rw same was.read }

  -- a message was read
  pub fits_read : (start now next : Meaning) (c : Client L) (o : Outlet L) (asked made heard : List (List ℕ)) → c.unapplied.items ≡ [] → Appends now.received next.received heard → (Delivered start now c.outlet made → Delivered start next o made)
      → ClientFits start now c asked made → ClientFits start next (record c { outlet = o }) (asked ++ heard) made
  fits_read start now next c o asked made heard none received delivers was = record {
    delivered = delivers was.delivered;
    read = rw (none, append-nil) (grown_twice start.received now.received next.received asked heard (rw (none, append-nil) at was.read) received);
  }

  -- one that was read is not applied
  pub fits_starved : (start now next : Meaning) (c : Client L) (o : Outlet L) (u : Vec (List ℕ) _) (text : List ℕ) (asked made : List (List ℕ)) → c.unapplied.items ≡ [] → u.items ≡ c.unapplied.items ++ text ∷ [] → next ≡ now
      → (Delivered start now c.outlet made → Delivered start next o made) → ClientFits start now c (asked ++ text ∷ []) made → ClientFits start next (record c { outlet = o; unapplied = u }) asked made
  fits_starved start now next c o u text asked made none e same delivers was = record {
    delivered = delivers was.delivered;
    read = rw (same, e, none) (rw (none, append-nil) at was.read);
  }

pub free_fed : (over : Option Cause) → over ≡ None → over ≢ Some NoMemory
free_fed over e f = let bad : None ≡ Some NoMemory = sym e ∙ f in cc
