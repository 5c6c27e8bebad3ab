-- What is given back of clients that were served.
use Rattle.std.proofs.Common.{◌≡◌, ◌≢◌, ◌⊎◌, inl, inr, ℕ, suc, ◌+◌, Bool, true, false, List, [], ◌∷◌, ◌++◌, Option, None, Some, refl, sym, ◌∙◌, map, append_assoc, append-nil, add-one}
use Rattle.std.specs.Prelude.{slice_index_or}
use Rattle.link_edge.specs.Links.{Meaning}
use Rattle.link_edge.specs.declared.answers.End.TheVariants as ends
use Rattle.link_pump.specs.declared.cause.Cause.{Cause}
use Rattle.link_pump.specs.declared.cause.Cause.TheVariants.{Closed, Failed, NoMemory}
use Rattle.hub_core.specs.declared.client.Client.{Client}
use Rattle.hub_core.specs.declared.served.ClientEnd.{ClientEnd}
use Rattle.hub_core.specs.Clients.{ClientFits, HasPlace, AllFit, AllUsable}
use Rattle.hub_core.specs.Ends.{end_of, client_end, shut_unless, ends_from, links_from, ClientServed, AllServed, AllApplied, AllOpen}

-- ---- ends, by why a link is over

end_fed : (took : Bool) (over : Option Cause) → end_of took over ≢ ends.NoMemory → over ≢ Some NoMemory
end_fed took over fed e = fed (rw e refl)

end_bye : (took : Bool) (over : Option Cause) → end_of took over ≡ ends.Bye → took ≡ true
end_bye true over e = refl
end_bye false None e = absurd (let bad : ends.NoMemory ≡ ends.Bye = e in cc)
end_bye false (Some Closed) e = absurd (let bad : ends.Closed ≡ ends.Bye = e in cc)
end_bye false (Some Failed) e = absurd (let bad : ends.Failed ≡ ends.Bye = e in cc)
end_bye false (Some NoMemory) e = absurd (let bad : ends.NoMemory ≡ ends.Bye = e in cc)

end_took : (took : Bool) (over : Option Cause) → took ≡ true → (end_of took over ≡ ends.Bye) ⊎ (end_of took over ≡ ends.NoMemory)
end_took false over e = absurd (let bad : false ≡ true = e in cc)
end_took true None e = inl refl
end_took true (Some Closed) e = inl refl
end_took true (Some Failed) e = inl refl
end_took true (Some NoMemory) e = inr refl

end_closed : (took : Bool) (over : Option Cause) → end_of took over ≡ ends.Closed → over ≡ Some Closed
end_closed true None e = absurd (let bad : ends.Bye ≡ ends.Closed = e in cc)
end_closed true (Some Closed) e = refl
end_closed true (Some Failed) e = absurd (let bad : ends.Bye ≡ ends.Closed = e in cc)
end_closed true (Some NoMemory) e = absurd (let bad : ends.NoMemory ≡ ends.Closed = e in cc)
end_closed false None e = absurd (let bad : ends.NoMemory ≡ ends.Closed = e in cc)
end_closed false (Some Closed) e = refl
end_closed false (Some Failed) e = absurd (let bad : ends.Failed ≡ ends.Closed = e in cc)
end_closed false (Some NoMemory) e = absurd (let bad : ends.NoMemory ≡ ends.Closed = e in cc)

end_failed : (took : Bool) (over : Option Cause) → end_of took over ≡ ends.Failed → over ≡ Some Failed
end_failed true None e = absurd (let bad : ends.Bye ≡ ends.Failed = e in cc)
end_failed true (Some Closed) e = absurd (let bad : ends.Bye ≡ ends.Failed = e in cc)
end_failed true (Some Failed) e = refl
end_failed true (Some NoMemory) e = absurd (let bad : ends.NoMemory ≡ ends.Failed = e in cc)
end_failed false None e = absurd (let bad : ends.NoMemory ≡ ends.Failed = e in cc)
end_failed false (Some Closed) e = absurd (let bad : ends.Closed ≡ ends.Failed = e in cc)
end_failed false (Some Failed) e = refl
end_failed false (Some NoMemory) e = absurd (let bad : ends.NoMemory ≡ ends.Failed = e in cc)

all_sent_of : (A B : Type 0) (took : Bool) (over : Option Cause) (unsent : List (List ℕ)) → (over ≡ None → unsent ≡ []) → (over ≡ Some Closed → A) → (over ≡ Some Failed → B)
    → (unsent ≡ []) ⊎ (A ⊎ (B ⊎ (end_of took over ≡ ends.NoMemory)))
all_sent_of A B took None unsent free closed failed = inl (free refl)
all_sent_of A B took (Some Closed) unsent free closed failed = inr (inl (closed refl))
all_sent_of A B took (Some Failed) unsent free closed failed = inr (inr (inl (failed refl)))
all_sent_of A B took (Some NoMemory) unsent free closed failed = inr (inr (inr refl))

module _ {L : Type 0} where
  -- one client, by what holds of it while it is served
  client_served : (start now : Meaning) (c : Client L) (asked made : List (List ℕ)) (took here : Bool) → start.shut ≡ false → HasPlace c → ClientFits start now c asked made
      → ClientServed start (shut_unless here now) (client_end took c) asked made took here
  client_served start now c asked made took true open_still place was = record {
    output = (was.delivered.lines.0, was.delivered.lines.1, λ fed. was.delivered.lines.2 (end_fed took c.outlet.over fed));
    sent_is = was.delivered.sent_is;
    all_sent = all_sent_of _ _ took c.outlet.over c.outlet.unsent.items was.delivered.unsent was.delivered.closed was.delivered.failed;
    read = was.read;
    all_applied = λ bye fed. place.0 (end_fed took c.outlet.over fed);
    bye = end_bye took c.outlet.over;
    took_leave = end_took took c.outlet.over;
    closed = λ e. was.delivered.closed (end_closed took c.outlet.over e);
    failed = λ e. was.delivered.failed (end_failed took c.outlet.over e);
    counts = was.delivered.counts;
    shut = was.delivered.shut ∙ open_still;
  }
  client_served start now c asked made took false open_still place was = record {
    output = (was.delivered.lines.0, was.delivered.lines.1, λ fed. was.delivered.lines.2 (end_fed took c.outlet.over fed));
    sent_is = was.delivered.sent_is;
    all_sent = all_sent_of _ _ took c.outlet.over c.outlet.unsent.items was.delivered.unsent was.delivered.closed was.delivered.failed;
    read = was.read;
    all_applied = λ bye fed. place.0 (end_fed took c.outlet.over fed);
    bye = end_bye took c.outlet.over;
    took_leave = end_took took c.outlet.over;
    closed = λ e. was.delivered.closed (end_closed took c.outlet.over e);
    failed = λ e. was.delivered.failed (end_failed took c.outlet.over e);
    counts = record { faults = was.delivered.counts.faults; idles = was.delivered.counts.idles; ends = was.delivered.counts.ends };
    shut = refl;
  }

module _ {L : Type 0} (m : L → Meaning) where
  pub all_served : (k : ℕ) (asked made : ℕ → List (List ℕ)) (here byes : List Bool) (starts : List Meaning) (cs : List (Client L)) → AllOpen starts → AllUsable m cs → AllFit m k asked made starts cs
      → AllServed k asked made (λ j. slice_index_or byes j false) (λ j. slice_index_or here j false) starts (links_from m here k cs) (ends_from byes k cs)
  unfolding AllOpen AllUsable AllFit AllServed ends_from links_from
  all_served k asked made here byes [] [] still usable fit = tt
  all_served k asked made here byes (a ∷ starts) (c ∷ cs) still usable fit = (
    client_served a (m c.outlet.link) c (asked k) (made k) (slice_index_or byes k false) (slice_index_or here k false) still.0 usable.0 fit.0,
    all_served (suc k) asked made here byes starts cs still.1 usable.2 fit.1,
  )
  all_served k asked made here byes [] (c ∷ cs) still usable fit = absurd fit
  all_served k asked made here byes (a ∷ starts) [] still usable fit = absurd fit

  pub all_applied : (k : ℕ) (byes : List Bool) (cs : List (Client L)) → AllUsable m cs → AllApplied (ends_from byes k cs)
  unfolding AllUsable AllApplied ends_from
  all_applied k byes [] usable = tt
  all_applied k byes (c ∷ cs) usable =
      let took = slice_index_or byes k false in
      let place = usable.0 in
      (record { few = place.2; all = λ fed. place.0 (end_fed took c.outlet.over fed) }, all_applied (suc k) byes cs usable.2)

  -- only what stands for their numbers counts
  pub served_same : (k : ℕ) (asked lines asked' lines' : ℕ → List (List ℕ)) (took here took' here' : ℕ → Bool) (starts nows : List Meaning) (es : List ClientEnd) → AllServed k asked lines took here starts nows es
      → ((j : ℕ) → (asked' j ≡ asked j) × (lines' j ≡ lines j) × (took' j ≡ took j) × (here' j ≡ here j)) → AllServed k asked' lines' took' here' starts nows es
  unfolding AllServed
  served_same k asked lines asked' lines' took here took' here' [] [] [] all same = tt
  served_same k asked lines asked' lines' took here took' here' (a ∷ starts) (b ∷ nows) (e ∷ es) all same =
      let at = same k in
      (rw (at.0, at.1, at.2, at.3) all.0, served_same (suc k) asked lines asked' lines' took here took' here' starts nows es all.1 same)
  served_same k asked lines asked' lines' took here took' here' [] (b ∷ nows) es all same = absurd all
  served_same k asked lines asked' lines' took here took' here' [] [] (e ∷ es) all same = absurd all
  served_same k asked lines asked' lines' took here took' here' (a ∷ starts) [] es all same = absurd all
  served_same k asked lines asked' lines' took here took' here' (a ∷ starts) (b ∷ nows) [] all same = absurd all

-- where nobody was served
pub none_applied : (es : List ClientEnd) → es ≡ [] → AllApplied es
unfolding AllApplied
none_applied [] e = tt
none_applied (e ∷ es) none = absurd (let bad : e ∷ es ≡ [] = none in cc)

-- one more was given back
pub ends_more : {L : Type 0} (byes : List Bool) (n next : ℕ) (c : Client L) (cs rest : List (Client L)) (es grown total : List ClientEnd) (e : ClientEnd) → next ≡ n + 1 → cs ≡ c ∷ rest → e ≡ client_end (slice_index_or byes n false) c
    → grown ≡ es ++ e ∷ [] → es ++ ends_from byes n cs ≡ total → grown ++ ends_from byes next rest ≡ total
unfolding ends_from
ends_more byes n next c cs rest es grown total e at is made g inv = rw (at, add-one, g, append_assoc, made) (rw is at inv)

pub links_more : {L : Type 0} (m : L → Meaning) (here : List Bool) (n next : ℕ) (c : Client L) (cs rest : List (Client L)) (ls grown total : List Meaning) (l : Meaning) → next ≡ n + 1 → cs ≡ c ∷ rest
    → l ≡ shut_unless (slice_index_or here n false) (m c.outlet.link) → grown ≡ ls ++ l ∷ [] → ls ++ links_from m here n cs ≡ total → grown ++ links_from m here next rest ≡ total
unfolding links_from
links_more m here n next c cs rest ls grown total l at is made g inv = rw (at, add-one, g, append_assoc, made) (rw is at inv)

pub links_all : {L : Type 0} (m : L → Meaning) (here : List Bool) (n : ℕ) (cs : List (Client L)) (ls total : List Meaning) → cs ≡ [] → ls ++ links_from m here n cs ≡ total → ls ≡ total
unfolding links_from
links_all m here n cs ls total none inv = sym (append-nil ls) ∙ rw none at inv

pub ends_all : {L : Type 0} (byes : List Bool) (n : ℕ) (cs : List (Client L)) (es total : List ClientEnd) → cs ≡ [] → es ++ ends_from byes n cs ≡ total → es ≡ total
unfolding ends_from
ends_all byes n cs es total none inv = sym (append-nil es) ∙ rw none at inv

-- the next link
pub open_next : {L : Type 0} (m : L → Meaning) (ls rest : List L) (l : L) → ls ≡ l ∷ rest → AllOpen (map m ls) → ((m l).shut ≡ false) × AllOpen (map m rest)
unfolding AllOpen
open_next m ls rest l is all = let at : AllOpen (map m (l ∷ rest)) = rw is at all in (at.0, at.1)
