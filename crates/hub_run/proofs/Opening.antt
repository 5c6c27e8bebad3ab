-- Ports that have just been opened, and the side of a link in a thread of its own.
use Rattle.std.proofs.Common.{◌≡◌, false, List, [], ◌∷◌, ◌++◌, Option, None, Some, map, refl, ◌∙◌, ap}
use Rattle.link_edge.specs.Links.{Meaning}
use Rattle.link_pump.specs.declared.pump.Pump.{Pump}
use Rattle.link_pump.specs.declared.rings.ToLink.{ToLink}
use Rattle.link_pump.specs.declared.rings.ToLink.TheVariants.{Begun, Line, SessionOver, ClientOver}
use Rattle.link_pump.specs.Rings.{client_left}
use Rattle.link_pump.specs.Pumps.{Pumped}
use Rattle.hub_core.specs.Ends.{AllOpen}
use Rattle.hub_run.specs.declared.port.Port.{Port}
use Rattle.hub_run.specs.declared.port.Port.TheVariants.{Far, Near}
use Rattle.hub_run.specs.Ports.{LinkPost, port_means, Begins, AllBegin}

-- ---- the side of a link

-- a side whose link was shut
pub closed_on : {L : Type 0} (start now : Meaning) (p : Pump L) (l : L) → Pumped start now p → Pumped start now (record p { outlet = record p.outlet { link = l } })
closed_on start now p l was =
    let d = was.delivered in
    record {
      read = was.read;
      delivered = record { sent_is = d.sent_is; lines = d.lines; unsent = d.unsent; counts = d.counts; shut = d.shut; closed = d.closed; failed = d.failed };
      feed = was.feed;
      told = was.told;
      settled = was.settled;
      begun = was.begun;
      untouched = was.untouched;
      left = was.left;
    }

-- a side that was told at once that the session is over was not told that the client has left
pub never_left : (xs ys : List ToLink) → xs ++ ys ≡ SessionOver ∷ [] → client_left xs ≡ false
unfolding client_left
never_left [] ys e = refl
never_left (SessionOver ∷ []) ys e = refl
never_left (SessionOver ∷ x ∷ xs) ys e = absurd (let bad : x ∷ (xs ++ ys) ≡ [] = cc in cc)
never_left (Line t ∷ xs) ys e = absurd (let bad : Line t ≡ SessionOver = cc in cc)
never_left (Begun ∷ xs) ys e = absurd (let bad : Begun ≡ SessionOver = cc in cc)
never_left (ClientOver ∷ xs) ys e = absurd (let bad : ClientOver ≡ SessionOver = cc in cc)

-- ---- ports

module _ {R L : Type 0} (m : L → Meaning) where
  one_open : (start : Meaning) (p : Option (LinkPost L)) (q : Port R L) → start.shut ≡ false → Begins m start p q → (port_means m q).shut ≡ false
  one_open start (Some p) (Far d) open_still was = was.still
  one_open start None (Near l) open_still was = ap (λ a. a.shut) was ∙ open_still
  one_open start (Some p) (Near l) open_still was = absurd was
  one_open start None (Far d) open_still was = absurd was

  pub all_open : (starts : List Meaning) (ps : List (Option (LinkPost L))) (qs : List (Port R L)) → AllOpen starts → AllBegin m starts ps qs → AllOpen (map (port_means m) qs)
  unfolding AllOpen AllBegin
  all_open [] [] [] still was = tt
  all_open (a ∷ starts) (p ∷ ps) (q ∷ qs) still was = (one_open a p q still.0 was.0, all_open starts ps qs still.1 was.1)
  all_open [] [] (q ∷ qs) still was = absurd was
  all_open [] (p ∷ ps) qs still was = absurd was
  all_open (a ∷ starts) [] qs still was = absurd was
  all_open (a ∷ starts) (p ∷ ps) [] still was = absurd was

  pub begin_none : (ps : List (Option (LinkPost L))) (qs : List (Port R L)) → ps ≡ [] → qs ≡ [] → AllBegin m [] ps qs
  unfolding AllBegin
  begin_none [] [] e f = tt
  begin_none (p ∷ ps) qs e f = absurd (let bad : p ∷ ps ≡ [] = e in cc)
  begin_none [] (q ∷ qs) e f = absurd (let bad : q ∷ qs ≡ [] = f in cc)

  pub begin_more : (starts : List Meaning) (ps : List (Option (LinkPost L))) (qs : List (Port R L)) (a : Meaning) (p : Option (LinkPost L)) (q : Port R L) → AllBegin m starts ps qs → Begins m a p q
      → AllBegin m (starts ++ a ∷ []) (ps ++ p ∷ []) (qs ++ q ∷ [])
  unfolding AllBegin
  begin_more [] [] [] a p q was one = (one, tt)
  begin_more (s ∷ starts) (x ∷ ps) (y ∷ qs) a p q was one = (was.0, begin_more starts ps qs a p q was.1 one)
  begin_more [] [] (y ∷ qs) a p q was one = absurd was
  begin_more [] (x ∷ ps) qs a p q was one = absurd was
  begin_more (s ∷ starts) [] qs a p q was one = absurd was
  begin_more (s ∷ starts) (x ∷ ps) [] a p q was one = absurd was

-- the next link
pub open_next : {L : Type 0} (m : L → Meaning) (ls rest : List L) (l : L) → ls ≡ l ∷ rest → AllOpen (map m ls) → ((m l).shut ≡ false) × AllOpen (map m rest)
unfolding AllOpen
open_next m ls rest l is all = let at : AllOpen (map m (l ∷ rest)) = rw is at all in (at.0, at.1)
