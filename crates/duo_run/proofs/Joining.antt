-- What the two sides have done together.
use Rattle.std.proofs.Common.{◌≡◌, ◌≢◌, ◌≤◌, ◌⊎◌, ℕ, Bool, true, List, [], ◌∷◌, ◌++◌, length, Option, None, refl, sym, ◌∙◌, ap, append_assoc}
use Rattle.std.specs.declared.alloc.Global.{Global}
use Rattle.rtrb.specs.declared.AnyItems.{AnyItems}
use Rattle.rtrb.specs.declared.producer.Producer.{Producer}
use Rattle.rtrb.specs.declared.consumer.Consumer.{Consumer}
use Rattle.rtrb.specs.Ring.{sent, received}
use Rattle.world_core.specs.World.{World}
use Rattle.machine_core.specs.Reading.{Reader}
use Rattle.machine_core.specs.Machine.{Machine}
use Rattle.link_edge.specs.Links.{Meaning}
use Rattle.link_edge.specs.declared.answers.End.{End}
use Rattle.link_pump.specs.declared.cause.Cause.{Cause}
use Rattle.link_pump.specs.declared.outlet.Outlet.{Outlet}
use Rattle.link_pump.specs.declared.rings.FromLink.{FromLink}
use Rattle.link_pump.specs.declared.rings.ToLink.{ToLink}
use Rattle.link_pump.specs.declared.rings.ToLink.TheVariants.{Begun}
use Rattle.link_pump.specs.Outlets.{Delivered}
use Rattle.link_pump.specs.Rings.{heard_in, cause_in, lines_in, finishes, marked_last}
use Rattle.link_pump.specs.Ends.{meaning_of}
use Rattle.link_pump.specs.Sides.{IsSide, Passes, end_in_two}
use Rattle.link_pump.proofs.Ringing.{heard_nothing, lines_of_begun}
use Rattle.link_pump.proofs.Naming.{told_messages, told_lines}
use Rattle.link_pump.proofs.Joining.{closed_once, broke_once, end_is, end_bye, bye_fed}
use Rattle.duo_run.specs.declared.event.Event.{Event}
use Rattle.duo_run.specs.Journals.{requests_of}
use Rattle.duo_run.specs.Connections.{Carries, Applies}

-- ---- the session's side

module _ (ma mb : Consumer FromLink Global AnyItems) (la lb : Producer ToLink Global AnyItems) (over after : Option Cause) (idles later : ℕ) (shut still : Bool)
    (journal : List Event) (unapplied pushed kept : List (List ℕ)) (end : End)
    (carries : Carries (meaning_of ma la over idles shut) (meaning_of mb lb after later still) journal unapplied pushed kept end) where
  pub side_left : (final : Producer ToLink Global AnyItems) → received ma ≡ [] → sent la ≡ Begun ∷ [] → over ≡ None → cause_in (received mb) ≡ after → lines_in (sent final) ≡ lines_in (sent lb)
      → (finishes (sent final) ≡ true) × (marked_last (sent final) ≡ true) → length unapplied ≤ 1 → IsSide mb final (requests_of journal) unapplied pushed end
  side_left final none begun free marked same last few =
      let told = told_messages ma mb (heard_in (received mb)) (heard_in (received ma) ++ (requests_of journal ++ unapplied)) carries.read in
      let made = told_lines la lb (lines_in (sent lb)) (lines_in (sent la) ++ pushed) carries.sent_is in
      record {
        read = told.rest ∙ ap (λ l. l ++ (requests_of journal ++ unapplied)) (ap heard_in none ∙ heard_nothing);
        few = few;
        all_applied = carries.all_applied;
        ended = last.0;
        once = last.1;
        pushed_are = same ∙ made.rest ∙ ap (λ l. l ++ pushed) (ap lines_in begun ∙ lines_of_begun);
        closed = λ e. marked ∙ closed_once after (rw free at (carries.closed e));
        failed = λ e. marked ∙ broke_once after (rw free at (carries.failed e));
      }

-- ---- both sides

-- what passed through a link by the requests of a journal
pub carried : (start now : Meaning) (journal : List Event) (unapplied sent_lines unsent : List (List ℕ)) (end : End) → Passes start now (requests_of journal) unapplied sent_lines unsent end → Carries start now journal unapplied sent_lines unsent end
carried start now journal unapplied sent_lines unsent end p = record {
  sent_is = p.sent_is;
  all_sent = p.all_sent;
  read = p.read;
  all_applied = p.all_applied;
  closed = p.closed;
  failed = p.failed;
  counts = p.counts;
  shut = p.shut;
}

module _ {L : Type 0} (start next : Meaning) (o : Outlet L) (journal : List Event) (pushed kept : List (List ℕ)) (end : End) (told : Delivered start next o (pushed ++ kept)) where
  pub applied : (read : Reader) (w : World) (m : Machine) → Applies read w m journal pushed kept end → Applies read w m journal o.sent.items o.unsent.items (end_in_two end o.over)
  applied read w m was =
      let d = told in
      record {
        output = (
          d.lines.0 ++ was.output.0,
          was.output.1 ∙ ap (λ l. l ++ was.output.0) d.lines.1 ∙ append_assoc (o.sent.items ++ o.unsent.items) d.lines.0 was.output.0,
          λ fed. let is = end_is end o.over fed in rw (d.lines.2 is.1, was.output.2 (λ e. fed (is.0 ∙ e))) refl,
        );
        bye = λ e. let is = end_is end o.over (λ n. bye_fed (sym e ∙ n)) in was.bye (sym is.0 ∙ e);
        left = λ e. end_bye end o.over (was.left e);
        last = was.last;
        paced = was.paced;
      }
