-- What the session's side leaves of each client, and what is given back of it.
use Rattle.std.proofs.Common.{◌≡◌, ◌≤◌, ℕ, suc, Bool, true, List, [], ◌∷◌, ◌++◌, Option, None, Some, Vec, length, map, refl, sym, ◌∙◌, ap, subst, append_assoc, append-nil}
use Rattle.std.specs.declared.alloc.Global.{Global}
use Rattle.rtrb.specs.declared.AnyItems.{AnyItems}
use Rattle.rtrb.specs.declared.producer.Producer.{Producer}
use Rattle.rtrb.specs.declared.consumer.Consumer.{Consumer}
use Rattle.rtrb.specs.Ring.{sent, received}
use Rattle.link_edge.specs.Links.{Meaning}
use Rattle.link_pump.specs.declared.ends.Ends.{Ends}
use Rattle.link_pump.specs.declared.outlet.Outlet.{Outlet}
use Rattle.link_pump.specs.declared.rings.FromLink.{FromLink}
use Rattle.link_pump.specs.declared.rings.ToLink.{ToLink}
use Rattle.link_pump.specs.Ends.{meaning_of}
use Rattle.link_pump.specs.Names.{ring_of_consumer}
use Rattle.link_pump.specs.Outlets.{Delivered, opened}
use Rattle.link_pump.specs.Rings.{heard_in, cause_in, lines_in, finishes, marked_last}
use Rattle.link_pump.specs.Sides.{IsSide, Passes, end_in_two}
use Rattle.link_pump.proofs.Ringing.{heard_nothing, lines_of_begun}
use Rattle.link_pump.proofs.Naming.{told_messages, told_lines}
use Rattle.link_pump.proofs.Joining.{closed_once, broke_once, end_is, end_bye, bye_fed}
use Rattle.hub_core.specs.declared.served.ClientEnd.{ClientEnd}
use Rattle.hub_core.specs.Ends.{ClientServed, AllServed, IsApplied, AllApplied}
use Rattle.hub_run.specs.declared.port.Port.{Port}
use Rattle.hub_run.specs.declared.port.Port.TheVariants.{Far, Near}
use Rattle.hub_run.specs.Ports.{LinkPost, far_means, port_means, near_tag, far_tag, tagged, FarTied, FarBegins, Begins, AllBegin}
use Rattle.hub_run.specs.Finished.{FarStands, Stands, AllStand, Ready, AllReady}
use Rattle.hub_run.proofs.Tagging.{untold, far_is_near, near_is_far}

-- ---- a client whose link is in a thread of its own

module _ {R L : Type 0} (m : L → Meaning) (start : Meaning) (post : LinkPost L) (d e : Ends R) (c : ClientEnd) (asked lines : List (List ℕ)) (took here : Bool)
    (was : FarBegins m start post d) (served : ClientServed (far_means d) (far_means e) c asked lines took here) where
  far_tied : FarTied post e
  far_tied =
      let read = untold far_tag (meaning_of d.messages d.lines d.over d.idles d.shut).received (meaning_of e.messages e.lines e.over e.idles e.shut).received (asked ++ c.unapplied.items) served.read in
      let ms = told_messages d.messages e.messages (heard_in (received e.messages)) (heard_in (received d.messages) ++ (asked ++ c.unapplied.items)) read in
      let ls = told_lines d.lines e.lines (lines_in (sent e.lines)) (lines_in (sent d.lines) ++ c.sent.items) served.sent_is in
      let same = ms.ring in
      let same' = ls.ring in
      let here' = was.tied.messages in
      let there = was.tied.lines in
      record {
        messages = (same.0.0 ∙ here'.0, same.0.1 ∙ here'.1, same.0.2 ∙ here'.2, same.0.3 ∙ here'.3);
        lines = (there.0 ∙ sym same'.0.0, there.1 ∙ sym same'.0.1, there.2 ∙ sym same'.0.2, there.3 ∙ sym same'.0.3);
        places = same.1 ∙ was.tied.places;
        room = was.tied.room;
      }

  far_stands : length c.unapplied.items ≤ 1 → FarStands m start post e c asked lines took here
  far_stands few =
      let read = untold far_tag (meaning_of d.messages d.lines d.over d.idles d.shut).received (meaning_of e.messages e.lines e.over e.idles e.shut).received (asked ++ c.unapplied.items) served.read in
      let ms = told_messages d.messages e.messages (heard_in (received e.messages)) (heard_in (received d.messages) ++ (asked ++ c.unapplied.items)) read in
      let ls = told_lines d.lines e.lines (lines_in (sent e.lines)) (lines_in (sent d.lines) ++ c.sent.items) served.sent_is in
      record {
        link_is = was.link_is;
        read = ms.rest ∙ ap (λ l. l ++ (asked ++ c.unapplied.items)) (ap heard_in was.none ∙ heard_nothing);
        few = few;
        all_applied = served.all_applied;
        pushed = ls.rest ∙ ap (λ l. l ++ c.sent.items) (ap lines_in was.begun ∙ lines_of_begun);
        output = served.output;
        bye = served.bye;
        took_leave = served.took_leave;
        closed = λ is. closed_once e.over (rw was.free at (served.closed is));
        failed = λ is. broke_once e.over (rw was.free at (served.failed is));
        shut = served.shut;
      }

-- what was told first of a link at hand is left out
near_served : (tag : List ℕ) (a b : Meaning) (c : ClientEnd) (asked lines : List (List ℕ)) (took here : Bool) → ClientServed (tagged tag a) (tagged tag b) c asked lines took here → ClientServed a b c asked lines took here
near_served tag a b c asked lines took here was = record {
  output = was.output;
  sent_is = was.sent_is;
  all_sent = was.all_sent;
  read = untold tag a.received b.received (asked ++ c.unapplied.items) was.read;
  all_applied = was.all_applied;
  bye = was.bye;
  took_leave = was.took_leave;
  closed = was.closed;
  failed = was.failed;
  counts = record { faults = was.counts.faults; idles = was.counts.idles; ends = was.counts.ends };
  shut = was.shut;
}

-- ---- each client

module _ {R L : Type 0} (m : L → Meaning) where
  one_on : (start : Meaning) (p : Option (LinkPost L)) (q r : Port R L) (c : ClientEnd) (asked lines : List (List ℕ)) (took here : Bool) → Begins m start p q
      → ClientServed (port_means m q) (port_means m r) c asked lines took here → IsApplied c → Stands m start p r c asked lines took here × Ready p r c
  one_on start (Some p) (Far d) (Far e) c asked lines took here was served applied =
      (far_stands m start p d e c asked lines took here was served applied.few, (far_tied m start p d e c asked lines took here was served, applied.few))
  one_on start (Some p) (Far d) (Near k) c asked lines took here was served applied = absurd (far_is_near (ring_of_consumer d.messages ++ heard_in (received d.messages)) (m k).received (asked ++ c.unapplied.items) served.read)
  one_on start None (Near l) (Near k) c asked lines took here was served applied = (near_served near_tag start (m k) c asked lines took here (rw was at served), tt)
  one_on start None (Near l) (Far e) c asked lines took here was served applied = absurd (near_is_far (m l).received (ring_of_consumer e.messages ++ heard_in (received e.messages)) (asked ++ c.unapplied.items) served.read)
  one_on start (Some p) (Near l) r c asked lines took here was served applied = absurd was
  one_on start None (Far d) r c asked lines took here was served applied = absurd was

  pub all_on : (k : ℕ) (asked lines : ℕ → List (List ℕ)) (took here : ℕ → Bool) (starts : List Meaning) (ps : List (Option (LinkPost L))) (qs rs : List (Port R L)) (es : List ClientEnd) → AllBegin m starts ps qs
      → AllServed k asked lines took here (map (port_means m) qs) (map (port_means m) rs) es → AllApplied es → AllStand m k asked lines took here starts ps rs es × AllReady ps rs es
  unfolding AllBegin AllServed AllApplied AllStand AllReady
  all_on k asked lines took here [] [] [] [] [] was served applied = (tt, tt)
  all_on k asked lines took here (a ∷ starts) (p ∷ ps) (q ∷ qs) (r ∷ rs) (e ∷ es) was served applied =
      let one = one_on a p q r e (asked k) (lines k) (took k) (here k) was.0 served.0 applied.0 in
      let rest = all_on (suc k) asked lines took here starts ps qs rs es was.1 served.1 applied.1 in
      ((one.0, rest.0), (one.1, rest.1))
  all_on k asked lines took here [] [] [] [] (e ∷ es) was served applied = absurd served
  all_on k asked lines took here [] [] [] (r ∷ rs) es was served applied = absurd served
  all_on k asked lines took here [] [] (q ∷ qs) rs es was served applied = absurd was
  all_on k asked lines took here [] (p ∷ ps) qs rs es was served applied = absurd was
  all_on k asked lines took here (a ∷ starts) [] qs rs es was served applied = absurd was
  all_on k asked lines took here (a ∷ starts) (p ∷ ps) [] rs es was served applied = absurd was
  all_on k asked lines took here (a ∷ starts) (p ∷ ps) (q ∷ qs) [] es was served applied = absurd served
  all_on k asked lines took here (a ∷ starts) (p ∷ ps) (q ∷ qs) (r ∷ rs) [] was served applied = absurd served

-- ---- the two sides of a client

pub side_of : {R L : Type 0} (m : L → Meaning) (start : Meaning) (post : LinkPost L) (e : Ends R) (c : ClientEnd) (asked lines : List (List ℕ)) (took here : Bool) (messages : Consumer FromLink Global AnyItems) (final : Producer ToLink Global AnyItems)
    → messages ≡ e.messages → lines_in (sent final) ≡ lines_in (sent e.lines) → (finishes (sent final) ≡ true) × (marked_last (sent final) ≡ true) → FarStands m start post e c asked lines took here
    → IsSide messages final asked c.unapplied.items c.sent.items c.end
side_of m start post e c asked lines took here messages final is same last was = record {
  read = ap (λ r. heard_in (received r)) is ∙ was.read;
  few = was.few;
  all_applied = was.all_applied;
  ended = last.0;
  once = last.1;
  pushed_are = same ∙ was.pushed;
  closed = λ over. ap (λ r. cause_in (received r)) is ∙ e.marked ∙ was.closed over;
  failed = λ over. ap (λ r. cause_in (received r)) is ∙ e.marked ∙ was.failed over;
}

pub client_given : {R L : Type 0} (m : L → Meaning) (start mid now : Meaning) (post : LinkPost L) (e : Ends R) (c : ClientEnd) (o : Outlet L) (u : Vec (List ℕ) Global) (asked lines : List (List ℕ)) (took here : Bool)
    → FarStands m start post e c asked lines took here → opened now ≡ mid → Passes start mid asked u.items o.sent.items o.unsent.items (end_in_two c.end o.over) → Delivered start mid o (c.sent.items ++ c.unsent.items)
    → now.shut ≡ e.shut → ClientServed start now (record { unapplied = u; sent = o.sent; unsent = o.unsent; end = end_in_two c.end o.over }) asked lines took here
client_given m start mid now post e c o u asked lines took here was same passes told shut =
    let p = subst (λ (a : Meaning). Passes start a asked u.items o.sent.items o.unsent.items (end_in_two c.end o.over)) (sym same) passes in
    record {
      output = (
        told.lines.0 ++ was.output.0,
        was.output.1 ∙ ap (λ l. l ++ was.output.0) told.lines.1 ∙ append_assoc (o.sent.items ++ o.unsent.items) told.lines.0 was.output.0,
        λ fed. let is = end_is c.end o.over fed in rw (told.lines.2 is.1, was.output.2 (λ n. fed (is.0 ∙ n))) refl,
      );
      sent_is = p.sent_is;
      all_sent = p.all_sent;
      read = p.read;
      all_applied = p.all_applied;
      bye = λ n. let is = end_is c.end o.over (λ x. bye_fed (sym n ∙ x)) in was.bye (sym is.0 ∙ n);
      took_leave = λ n. end_bye c.end o.over (was.took_leave n);
      closed = p.closed;
      failed = p.failed;
      counts = record { faults = p.counts.faults; idles = p.counts.idles; ends = p.counts.ends };
      shut = shut ∙ was.shut;
    }

-- ---- each client, in order

module _ {R L : Type 0} where
  pub ready_first : (p : Option (LinkPost L)) (ps ps' : List (Option (LinkPost L))) (q : Port R L) (qs qs' : List (Port R L)) (c : ClientEnd) (es es' : List ClientEnd) → ps' ≡ p ∷ ps → qs' ≡ q ∷ qs → es' ≡ c ∷ es
      → AllReady ps' qs' es' → Ready p q c × AllReady ps qs es
  unfolding AllReady
  ready_first p ps ps' q qs qs' c es es' a b d all = let at : AllReady (p ∷ ps) (q ∷ qs) (c ∷ es) = rw (a, b, d) at all in at

  pub no_post : (q : Port R L) (qs qs' : List (Port R L)) (ps : List (Option (LinkPost L))) (es : List ClientEnd) → ps ≡ [] → qs' ≡ q ∷ qs → AllReady ps qs' es → ⊥
  unfolding AllReady
  no_post q qs qs' ps es a b all = let at : AllReady [] (q ∷ qs) es = rw (a, b) at all in at

  pub no_end : (p : Option (LinkPost L)) (ps ps' : List (Option (LinkPost L))) (q : Port R L) (qs qs' : List (Port R L)) (es : List ClientEnd) → ps' ≡ p ∷ ps → qs' ≡ q ∷ qs → es ≡ [] → AllReady ps' qs' es → ⊥
  unfolding AllReady
  no_end p ps ps' q qs qs' es a b d all = let at : AllReady (p ∷ ps) (q ∷ qs) [] = rw (a, b, d) at all in at

-- what of the first of them decides what is given back of all that are left
pub record Goes {R L : Type 0} (m : L → Meaning) (k : ℕ) (asked lines : ℕ → List (List ℕ)) (took here : ℕ → Bool) (starts : List Meaning) (nows : List Meaning) (done : List ClientEnd)
    (ps : List (Option (LinkPost L))) (qs : List (Port R L)) (es : List ClientEnd) : Type 0 where
  pub rest : List Meaning
  pub stand : AllStand m k asked lines took here rest ps qs es
  pub all : (more : List Meaning) (given : List ClientEnd) → AllServed k asked lines took here rest more given → AllServed 0 asked lines took here starts (nows ++ more) (done ++ given)

module _ (asked lines : ℕ → List (List ℕ)) (took here : ℕ → Bool) where
  served_first : (k : ℕ) (a : Meaning) (rest nows : List Meaning) (now : Meaning) (c : ClientEnd) (es : List ClientEnd) → ClientServed a now c (asked k) (lines k) (took k) (here k) → AllServed (suc k) asked lines took here rest nows es
      → AllServed k asked lines took here (a ∷ rest) (now ∷ nows) (c ∷ es)
  unfolding AllServed
  served_first k a rest nows now c es one all = (one, all)

  served_none : (k : ℕ) → AllServed k asked lines took here [] [] []
  unfolding AllServed
  served_none k = tt

module _ {R L : Type 0} (m : L → Meaning) (asked lines : ℕ → List (List ℕ)) (took here : ℕ → Bool) where
  stand_first : (k : ℕ) (starts : List Meaning) (p : Option (LinkPost L)) (ps : List (Option (LinkPost L))) (q : Port R L) (qs : List (Port R L)) (e : ClientEnd) (es : List ClientEnd)
      → AllStand m k asked lines took here starts (p ∷ ps) (q ∷ qs) (e ∷ es)
      → (a : Meaning) × (rest : List Meaning) × (starts ≡ a ∷ rest) × Stands m a p q e (asked k) (lines k) (took k) (here k) × AllStand m (suc k) asked lines took here rest ps qs es
  unfolding AllStand
  stand_first k (a ∷ rest) p ps q qs e es all = (a, rest, refl, all.0, all.1)
  stand_first k [] p ps q qs e es all = absurd all

  stand_none : (k : ℕ) (starts : List Meaning) (ps : List (Option (LinkPost L))) (qs : List (Port R L)) (es : List ClientEnd) → qs ≡ [] → AllStand m k asked lines took here starts ps qs es → starts ≡ []
  unfolding AllStand
  stand_none k [] ps qs es none all = refl
  stand_none k (a ∷ rest) [] qs es none all = absurd all
  stand_none k (a ∷ rest) (p ∷ ps) [] es none all = absurd all
  stand_none k (a ∷ rest) (p ∷ ps) (q ∷ qs) es none all = absurd (let bad : q ∷ qs ≡ [] = none in cc)

  pub goes_start : (starts nows : List Meaning) (done : List ClientEnd) (ps : List (Option (LinkPost L))) (qs : List (Port R L)) (es : List ClientEnd) → nows ≡ [] → done ≡ [] → AllStand m 0 asked lines took here starts ps qs es
      → Goes m (length done) asked lines took here starts nows done ps qs es
  goes_start starts nows done ps qs es e f stand = rw (e, f) (record { rest = starts; stand = stand; all = λ more given served. served })

  pub goes_next : (k k' : ℕ) (starts nows nows' : List Meaning) (done done' : List ClientEnd) (p : Option (LinkPost L)) (ps ps' : List (Option (LinkPost L))) (q : Port R L) (qs qs' : List (Port R L)) (e : ClientEnd) (es es' : List ClientEnd)
      (now : Meaning) (c : ClientEnd) → k' ≡ suc k → ps' ≡ p ∷ ps → qs' ≡ q ∷ qs → es' ≡ e ∷ es → nows' ≡ nows ++ now ∷ [] → done' ≡ done ++ c ∷ []
      → ((start : Meaning) (asks told : List (List ℕ)) (left stays : Bool) → Stands m start p q e asks told left stays → ClientServed start now c asks told left stays)
      → Goes m k asked lines took here starts nows done ps' qs' es' → Goes m k' asked lines took here starts nows' done' ps qs es
  goes_next k k' starts nows nows' done done' p ps ps' q qs qs' e es es' now c at is_p is_q is_e grown given one was =
      let stand : AllStand m k asked lines took here was.rest (p ∷ ps) (q ∷ qs) (e ∷ es) = rw (is_p, is_q, is_e) at was.stand in
      let first = stand_first k was.rest p ps q qs e es stand in
      rw (at, grown, given) (record {
        rest = first.1;
        stand = first.4;
        all = λ more more' served.
            let all = was.all (now ∷ more) (c ∷ more') (rw first.2 (served_first asked lines took here k first.0 first.1 more now c more' (one first.0 (asked k) (lines k) (took k) (here k) first.3) served)) in
            rw (append_assoc nows (now ∷ []) more, append_assoc done (c ∷ []) more') all;
      })

  pub goes_end : (k : ℕ) (starts nows : List Meaning) (done : List ClientEnd) (ps : List (Option (LinkPost L))) (qs : List (Port R L)) (es : List ClientEnd) → qs ≡ [] → Goes m k asked lines took here starts nows done ps qs es
      → AllServed 0 asked lines took here starts nows done
  goes_end k starts nows done ps qs es none was =
      let over = stand_none k was.rest ps qs es none was.stand in
      let all = was.all [] [] (rw over (served_none asked lines took here k)) in
      rw (append-nil nows, append-nil done) at all
