-- The link's side, step by step.
use Rattle.std.proofs.Common.{◌≡◌, ◌⊎◌, inl, inr, ℕ, true, false, List, [], ◌∷◌, ◌++◌, Option, None, Some, arith, refl, sym, ◌∙◌, ap, append-nil}
use Rattle.std.specs.Prelude.{IfSome, IfNone}
use Rattle.std.specs.declared.alloc.Global.{Global}
use Rattle.io_edge.specs.Taken.{Appends}
use Rattle.io_edge.proofs.Growth.{grown_twice}
use Rattle.rtrb.specs.declared.AnyItems.{AnyItems}
use Rattle.rtrb.specs.declared.producer.Producer.{Producer}
use Rattle.rtrb.specs.declared.consumer.Consumer.{Consumer}
use Rattle.rtrb.specs.Ring.{sent, received}
use Rattle.link_edge.specs.Links.{Meaning, message_in}
use Rattle.link_pump.specs.declared.cause.Cause.{Cause}
use Rattle.link_pump.specs.declared.cause.Cause.TheVariants as cause
use Rattle.link_pump.specs.declared.outlet.Outlet.{Outlet}
use Rattle.link_pump.specs.declared.pump.Pump.{Pump}
use Rattle.link_pump.specs.declared.rings.FromLink.{FromLink}
use Rattle.link_pump.specs.declared.rings.FromLink.TheVariants.{Message, LinkOver}
use Rattle.link_pump.specs.declared.rings.ToLink.{ToLink}
use Rattle.link_pump.specs.declared.rings.ToLink.TheVariants.{Begun, Line, SessionOver, ClientOver}
use Rattle.link_pump.specs.Outlets.{Delivered, Lasts}
use Rattle.link_pump.specs.Rings.{heard_in, as_heard, mark_of, lines_in, begins, client_left}
use Rattle.link_pump.specs.Pumps.{Pumped}
use Rattle.link_pump.proofs.Ringing.{heard_message, heard_mark, heard_nothing, as_heard_more, as_heard_nothing, lines_line, lines_begun, lines_over, lines_left, lines_nothing, begins_line, begins_begun, begins_over, begins_left, left_line, left_begun, left_over, left_left, left_nothing}
use Rattle.link_pump.proofs.Sending.{nothing_grown}

no_mark : (marked : Option Cause) (held : Option (List ℕ)) (t : List ℕ) → held ≡ Some t → ((c : Cause) → marked ≡ Some c → held ≡ None) → mark_of marked ≡ []
no_mark None held t e settled = refl
no_mark (Some c) held t e settled = absurd (let bad : Some t ≡ None = sym e ∙ settled c refl in cc)

not_marked : (marked over : Option Cause) → over ≡ None → ((c : Cause) → marked ≡ Some c → (over ≡ Some c) ⊎ (over ≡ Some cause.NoMemory)) → marked ≡ None
not_marked None over free told = refl
not_marked (Some c) over free told = by (told c refl)
  where
    by : (over ≡ Some c) ⊎ (over ≡ Some cause.NoMemory) → Some c ≡ None
    by (inl e) = absurd (let bad : None ≡ Some c = sym free ∙ e in cc)
    by (inr e) = absurd (let bad : None ≡ Some cause.NoMemory = sym free ∙ e in cc)

pub told_on : (over next : Option Cause) (c : Cause) → Lasts over next → (over ≡ Some c) ⊎ (over ≡ Some cause.NoMemory) → (next ≡ Some c) ⊎ (next ≡ Some cause.NoMemory)
told_on None next c lasts (inl e) = absurd (let bad : None ≡ Some c = e in cc)
told_on None next c lasts (inr e) = absurd (let bad : None ≡ Some cause.NoMemory = e in cc)
told_on (Some x) next c (inl l) (inl e) = inl (l ∙ e)
told_on (Some x) next c (inl l) (inr e) = inr (l ∙ e)
told_on (Some x) next c (inr l) told = inr l

-- the messages of a poll
pub heard_as : (held : Option (List ℕ)) (old new : Option (List (List ℕ))) → IfSome held (λ t. Appends old new (t ∷ [])) → IfNone held (Appends old new []) → Appends old new (message_in held)
heard_as None old new some none = none
heard_as (Some t) old new some none = some

module _ {L : Type 0} where
  pub outlet_fresh : (start : Meaning) (o : Outlet L) → o.sent.items ≡ [] → o.unsent.items ≡ [] → o.over ≡ None → Delivered start start o []
  outlet_fresh start o sent unsent free = record {
    sent_is = rw sent (nothing_grown start.sent);
    lines = ([], rw (sent, unsent) refl, λ over. refl);
    unsent = λ over. unsent;
    counts = record { faults = omega arith; idles = omega arith; ends = omega arith };
    shut = refl;
    closed = λ over. absurd (let bad : None ≡ Some cause.Closed = sym free ∙ over in cc);
    failed = λ over. absurd (let bad : None ≡ Some cause.Failed = sym free ∙ over in cc);
  }

  pub pump_fresh : (start : Meaning) (p : Pump L) → sent p.messages ≡ [] → received p.lines ≡ [] → p.held ≡ None → p.marked ≡ None → p.begun ≡ false → p.left ≡ false
      → Delivered start start p.outlet [] → Pumped start start p
  pump_fresh start p none_pushed none_popped free unmarked idle stays delivered = record {
    read = rw (none_pushed, free, heard_nothing) (nothing_grown start.received);
    delivered = rw (none_popped, lines_nothing) delivered;
    feed = rw (none_pushed, heard_nothing, as_heard_nothing, unmarked) refl;
    told = λ c e. absurd (let bad : None ≡ Some c = sym unmarked ∙ e in cc);
    settled = λ c e. free;
    begun = λ e. absurd (let bad : false ≡ true = sym idle ∙ e in cc);
    untouched = λ e. refl;
    left = rw (none_popped, left_nothing) stays;
  }

  pub held_pushed : (start now : Meaning) (p : Pump L) (ms : Producer FromLink Global AnyItems) (held : Option (List ℕ)) (t : List ℕ) → p.held ≡ Some t → sent ms ≡ sent p.messages ++ Message t ∷ [] → held ≡ None
      → Pumped start now p → Pumped start now (record p { messages = ms; held = held })
  held_pushed start now p ms held t is pushed gone was =
      let unmarked : mark_of p.marked ≡ [] = no_mark p.marked p.held t is was.settled in
      let texts : heard_in (sent ms) ≡ heard_in (sent p.messages) ++ t ∷ [] = ap heard_in pushed ∙ heard_message (sent p.messages) t in
      let fed : sent p.messages ≡ as_heard (heard_in (sent p.messages)) = was.feed ∙ rw (unmarked, append-nil) refl in
      record {
        read = rw (texts, gone, append-nil) (rw is at was.read);
        delivered = was.delivered;
        feed = pushed ∙ ap (λ l. l ++ Message t ∷ []) fed ∙ sym (as_heard_more (heard_in (sent p.messages)) t) ∙ ap as_heard (sym texts) ∙ sym (append-nil (as_heard (heard_in (sent ms)))) ∙ ap (λ m. as_heard (heard_in (sent ms)) ++ m) (sym unmarked);
        told = was.told;
        settled = λ c e. gone;
        begun = was.begun;
        untouched = was.untouched;
        left = was.left;
      }

  pub mark_pushed : (start now : Meaning) (p : Pump L) (ms : Producer FromLink Global AnyItems) (c : Cause) → p.held ≡ None → p.outlet.over ≡ Some c → p.marked ≡ None → sent ms ≡ sent p.messages ++ LinkOver c ∷ []
      → Pumped start now p → Pumped start now (record p { messages = ms; marked = Some c })
  mark_pushed start now p ms c free over unmarked pushed was =
      let texts : heard_in (sent ms) ≡ heard_in (sent p.messages) = ap heard_in pushed ∙ heard_mark (sent p.messages) c in
      let fed : sent p.messages ≡ as_heard (heard_in (sent p.messages)) = was.feed ∙ rw (unmarked, append-nil) refl in
      record {
        read = rw texts was.read;
        delivered = was.delivered;
        feed = pushed ∙ ap (λ l. l ++ LinkOver c ∷ []) (fed ∙ ap as_heard (sym texts));
        told = λ d e. inl (over ∙ e);
        settled = λ d e. free;
        begun = was.begun;
        untouched = was.untouched;
        left = was.left;
      }

  -- nothing was pushed
  pub none_pushed : (start now : Meaning) (p : Pump L) (ms : Producer FromLink Global AnyItems) (held : Option (List ℕ)) → sent ms ≡ sent p.messages → held ≡ p.held → Pumped start now p → Pumped start now (record p { messages = ms; held = held })
  none_pushed start now p ms held same kept was = record {
    read = rw (same, kept) was.read;
    delivered = was.delivered;
    feed = rw same was.feed;
    told = was.told;
    settled = rw kept was.settled;
    begun = was.begun;
    untouched = was.untouched;
    left = was.left;
  }

  pub polled_once : (start now next : Meaning) (p : Pump L) (o : Outlet L) (held : Option (List ℕ)) → p.begun ≡ true → p.outlet.over ≡ None → p.held ≡ None → Appends now.received next.received (message_in held)
      → ((made : List (List ℕ)) → Delivered start now p.outlet made → Delivered start next o made) → Pumped start now p → Pumped start next (record p { outlet = o; held = held })
  polled_once start now next p o held begun over free heard delivers was =
      let unmarked : p.marked ≡ None = not_marked p.marked p.outlet.over over was.told in
      record {
        read = grown_twice start.received now.received next.received (heard_in (sent p.messages)) (message_in held) (rw (free, append-nil) at was.read) heard;
        delivered = delivers (lines_in (received p.lines)) was.delivered;
        feed = was.feed;
        told = λ c e. absurd (let bad : None ≡ Some c = sym unmarked ∙ e in cc);
        settled = λ c e. absurd (let bad : None ≡ Some c = sym unmarked ∙ e in cc);
        begun = was.begun;
        untouched = λ e. absurd (let bad : true ≡ false = sym (was.begun begun) ∙ e in cc);
        left = was.left;
      }

  pub line_taken : (start now next : Meaning) (p : Pump L) (ls : Consumer ToLink Global AnyItems) (o : Outlet L) (t : List ℕ) → received ls ≡ received p.lines ++ Line t ∷ [] → Lasts p.outlet.over o.over → next.received ≡ now.received
      → ((made : List (List ℕ)) → Delivered start now p.outlet made → Delivered start next o (made ++ t ∷ [])) → Pumped start now p → Pumped start next (record p { lines = ls; outlet = o })
  line_taken start now next p ls o t popped lasts same delivers was =
      let begun : begins (received ls) ≡ true = ap begins popped ∙ begins_line (received p.lines) t in
      record {
        read = rw same was.read;
        delivered = rw (popped, lines_line) (delivers (lines_in (received p.lines)) was.delivered);
        feed = was.feed;
        told = λ c e. told_on p.outlet.over o.over c lasts (was.told c e);
        settled = was.settled;
        begun = λ e. begun;
        untouched = λ e. absurd (let bad : true ≡ false = sym begun ∙ e in cc);
        left = was.left ∙ sym (ap client_left popped ∙ left_line (received p.lines) t);
      }

  pub begun_taken : (start now : Meaning) (p : Pump L) (ls : Consumer ToLink Global AnyItems) → received ls ≡ received p.lines ++ Begun ∷ [] → Pumped start now p → Pumped start now (record p { lines = ls; begun = true })
  begun_taken start now p ls popped was =
      let begun : begins (received ls) ≡ true = ap begins popped ∙ begins_begun (received p.lines) in
      record {
        read = was.read;
        delivered = rw (popped, lines_begun) was.delivered;
        feed = was.feed;
        told = was.told;
        settled = was.settled;
        begun = λ e. begun;
        untouched = λ e. absurd (let bad : true ≡ false = sym begun ∙ e in cc);
        left = was.left ∙ sym (ap client_left popped ∙ left_begun (received p.lines));
      }

  pub over_taken : (start now : Meaning) (p : Pump L) (ls : Consumer ToLink Global AnyItems) → received ls ≡ received p.lines ++ SessionOver ∷ [] → Pumped start now p → Pumped start now (record p { lines = ls })
  over_taken start now p ls popped was =
      let same : begins (received ls) ≡ begins (received p.lines) = ap begins popped ∙ begins_over (received p.lines) in
      record {
        read = was.read;
        delivered = rw (popped, lines_over) was.delivered;
        feed = was.feed;
        told = was.told;
        settled = was.settled;
        begun = λ e. same ∙ was.begun e;
        untouched = λ e. was.untouched (sym same ∙ e);
        left = was.left ∙ sym (ap client_left popped ∙ left_over (received p.lines));
      }

  pub client_taken : (start now : Meaning) (p : Pump L) (ls : Consumer ToLink Global AnyItems) → received ls ≡ received p.lines ++ ClientOver ∷ [] → Pumped start now p → Pumped start now (record p { lines = ls; left = true })
  client_taken start now p ls popped was =
      let same : begins (received ls) ≡ begins (received p.lines) = ap begins popped ∙ begins_left (received p.lines) in
      record {
        read = was.read;
        delivered = rw (popped, lines_left) was.delivered;
        feed = was.feed;
        told = was.told;
        settled = was.settled;
        begun = λ e. same ∙ was.begun e;
        untouched = λ e. was.untouched (sym same ∙ e);
        left = sym (ap client_left popped ∙ left_left (received p.lines));
      }

  pub nothing_taken : (start now : Meaning) (p : Pump L) (ls : Consumer ToLink Global AnyItems) → received ls ≡ received p.lines → Pumped start now p → Pumped start now (record p { lines = ls })
  nothing_taken start now p ls same was = record {
    read = was.read;
    delivered = rw same was.delivered;
    feed = was.feed;
    told = was.told;
    settled = was.settled;
    begun = rw same was.begun;
    untouched = rw same was.untouched;
    left = was.left ∙ sym (ap client_left same);
  }
