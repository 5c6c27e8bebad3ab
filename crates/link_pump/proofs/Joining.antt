-- What the two sides have done together, once both ends of each ring are in one thread.
use Rattle.std.proofs.Common.{◌≡◌, ◌≢◌, ◌≤◌, ◌+◌, ◌⊎◌, inl, inr, arith, ℕ, suc, true, false, List, [], ◌∷◌, ◌++◌, length, Option, None, Some, MatchOption, option_to_list, refl, sym, ◌∙◌, ap, subst, append_assoc, append-nil}
use Rattle.std.proofs.lemmas.List.{length-append, nil_from_length}
use Rattle.std.specs.declared.alloc.Global.{Global}
use Rattle.io_edge.specs.Faults.{Rose}
use Rattle.io_edge.specs.Taken.{Appends}
use Rattle.rtrb.specs.declared.AnyItems.{AnyItems}
use Rattle.rtrb.specs.declared.producer.Producer.{Producer}
use Rattle.rtrb.specs.declared.consumer.Consumer.{Consumer}
use Rattle.rtrb.specs.Ring.{sent, received}
use Rattle.link_edge.specs.Links.{Meaning, message_in}
use Rattle.link_edge.specs.declared.answers.End.{End}
use Rattle.link_edge.specs.declared.answers.End.TheVariants as ends
use Rattle.link_pump.specs.declared.cause.Cause.{Cause}
use Rattle.link_pump.specs.declared.cause.Cause.TheVariants as cause
use Rattle.link_pump.specs.declared.outlet.Outlet.{Outlet}
use Rattle.link_pump.specs.declared.pump.Pump.{Pump}
use Rattle.link_pump.specs.declared.rings.FromLink.{FromLink}
use Rattle.link_pump.specs.declared.rings.FromLink.TheVariants.{Message, LinkOver}
use Rattle.link_pump.specs.declared.rings.ToLink.{ToLink}
use Rattle.link_pump.specs.declared.rings.ToLink.TheVariants.{Begun, Line, SessionOver, ClientOver}
use Rattle.link_pump.specs.Outlets.{Delivered, Lasts}
use Rattle.link_pump.specs.Rings.{heard_in, as_heard, cause_in, mark_of, lines_in, begins, finishes, marked_last}
use Rattle.link_pump.specs.Ends.{closes, breaks}
use Rattle.link_pump.specs.Pumps.{Pumped}
use Rattle.link_pump.specs.Sides.{IsSide, Passes, end_in_two}
use Rattle.link_pump.proofs.Ringing.{heard_append, heard_nothing}
use Rattle.link_pump.proofs.Pumping.{told_on}

-- ---- how often it was closed and broke

pub closed_once : (over : Option Cause) → Rose 0 (closes over) → over ≡ Some cause.Closed
closed_once None h = absurd (omega arith)
closed_once (Some cause.Closed) h = refl
closed_once (Some cause.Failed) h = absurd (omega arith)
closed_once (Some cause.NoMemory) h = absurd (omega arith)

pub broke_once : (over : Option Cause) → Rose 0 (breaks over) → over ≡ Some cause.Failed
broke_once None h = absurd (omega arith)
broke_once (Some cause.Closed) h = absurd (omega arith)
broke_once (Some cause.Failed) h = refl
broke_once (Some cause.NoMemory) h = absurd (omega arith)

-- ---- what is left in the rings

-- a side that popped a last mark popped all that was pushed
finishes_whole : (xs ys : List ToLink) → marked_last (xs ++ ys) ≡ true → finishes xs ≡ true → ys ≡ []
unfolding finishes marked_last
finishes_whole [] ys once over = absurd (let bad : false ≡ true = over in cc)
finishes_whole (x ∷ xs) [] once over = refl
finishes_whole (Begun ∷ xs) (y ∷ ys) once over = finishes_whole xs (y ∷ ys) once over
finishes_whole (Line u ∷ xs) (y ∷ ys) once over = finishes_whole xs (y ∷ ys) once over
finishes_whole (SessionOver ∷ []) (y ∷ ys) once over = absurd (let bad : false ≡ true = once in cc)
finishes_whole (SessionOver ∷ x ∷ xs) (y ∷ ys) once over = absurd (let bad : false ≡ true = once in cc)
finishes_whole (ClientOver ∷ []) (y ∷ ys) once over = absurd (let bad : false ≡ true = once in cc)
finishes_whole (ClientOver ∷ x ∷ xs) (y ∷ ys) once over = absurd (let bad : false ≡ true = once in cc)

no_rest : {A : Type 0} (xs ys : List A) → xs ++ ys ≡ [] → ys ≡ []
no_rest [] ys e = e
no_rest (x ∷ xs) ys e = absurd (let bad : x ∷ (xs ++ ys) ≡ [] = e in cc)

-- a side that popped the mark that the link is over popped all that was pushed
cause_whole : (xs known : List FromLink) (ms : List (List ℕ)) (marked : Option Cause) (c : Cause) → xs ++ known ≡ as_heard ms ++ mark_of marked → cause_in xs ≡ Some c → (known ≡ []) × (marked ≡ Some c)
unfolding as_heard cause_in
cause_whole [] known ms marked c e f = absurd (let bad : None ≡ Some c = f in cc)
cause_whole (Message t ∷ xs) known [] None c e f = absurd (let bad : Message t ∷ (xs ++ known) ≡ [] = e in cc)
cause_whole (Message t ∷ xs) known [] (Some d) c e f = absurd (let bad : Message t ≡ LinkOver d = cc in cc)
cause_whole (Message t ∷ xs) known (m ∷ ms) marked c e f = cause_whole xs known ms marked c (let r : xs ++ known ≡ as_heard ms ++ mark_of marked = cc in r) f
cause_whole (LinkOver d ∷ xs) known [] None c e f = absurd (let bad : LinkOver d ∷ (xs ++ known) ≡ [] = e in cc)
cause_whole (LinkOver d ∷ xs) known [] (Some b) c e f =
    let none : xs ++ known ≡ [] = cc in
    let same : Some b ≡ Some d = cc in (no_rest xs known none, same ∙ f)
cause_whole (LinkOver d ∷ xs) known (m ∷ ms) marked c e f = absurd (let bad : LinkOver d ≡ Message m = cc in cc)

never_begun : (xs ys : List ToLink) → xs ++ ys ≡ SessionOver ∷ [] → begins xs ≡ false
unfolding begins
never_begun [] ys e = refl
never_begun (SessionOver ∷ []) ys e = refl
never_begun (SessionOver ∷ x ∷ xs) ys e = absurd (let bad : x ∷ (xs ++ ys) ≡ [] = cc in cc)
never_begun (Line t ∷ xs) ys e = absurd (let bad : Line t ≡ SessionOver = cc in cc)
never_begun (Begun ∷ xs) ys e = absurd (let bad : Begun ≡ SessionOver = cc in cc)
never_begun (ClientOver ∷ xs) ys e = absurd (let bad : ClientOver ≡ SessionOver = cc in cc)

-- a side that was told at once that the session is over left the link as it was
pub unread : {L : Type 0} (start now : Meaning) (back : Pump L) (left all : List ToLink) → received back.lines ++ left ≡ all → all ≡ SessionOver ∷ [] → Pumped start now back → now ≡ start
unread start now back left all joined only pump = pump.untouched (never_begun (received back.lines) left (joined ∙ only))

-- the one of at most one
pub only_one : (old new : List (List ℕ)) (r : Option (List ℕ)) (n m : ℕ) (P : List ℕ → Type 0) → old ≡ new ++ option_to_list r → MatchOption r ((n ≡ 0) × (m ≡ 0)) P → length old ≡ n → length old ≤ 1 → message_in r ≡ old
only_one old new None n m P e none whole few = sym (nil_from_length old (whole ∙ none.0))
only_one old [] (Some x) n m P e some whole few = sym e
only_one old (y ∷ ys) (Some x) n m P e some whole few =
    let long : length old ≡ suc (length ys + 1) = ap length e ∙ ap suc (length-append ys (x ∷ [])) in
    absurd (omega arith)

-- ---- how it ended

pub end_is : (end : End) (over : Option Cause) → end_in_two end over ≢ ends.NoMemory → (end_in_two end over ≡ end) × (over ≢ Some cause.NoMemory)
end_is end None fed = (refl, λ e. let bad : None ≡ Some cause.NoMemory = e in cc)
end_is end (Some cause.Closed) fed = (refl, λ e. let bad : Some cause.Closed ≡ Some cause.NoMemory = e in cc)
end_is end (Some cause.Failed) fed = (refl, λ e. let bad : Some cause.Failed ≡ Some cause.NoMemory = e in cc)
end_is end (Some cause.NoMemory) fed = absurd (fed refl)

end_starved : (end : End) (over : Option Cause) → over ≡ Some cause.NoMemory → end_in_two end over ≡ ends.NoMemory
end_starved end over e = rw e refl

pub end_bye : (end : End) (over : Option Cause) → (end ≡ ends.Bye) ⊎ (end ≡ ends.NoMemory) → (end_in_two end over ≡ ends.Bye) ⊎ (end_in_two end over ≡ ends.NoMemory)
end_bye end None h = h
end_bye end (Some cause.Closed) h = h
end_bye end (Some cause.Failed) h = h
end_bye end (Some cause.NoMemory) h = inr refl

by_mark : (end : End) → end ≢ ends.Bye → end ≢ ends.NoMemory → (end ≡ ends.Closed) ⊎ (end ≡ ends.Failed)
by_mark ends.Bye bye fed = absurd (bye refl)
by_mark ends.Closed bye fed = inl refl
by_mark ends.Failed bye fed = inr refl
by_mark ends.NoMemory bye fed = absurd (fed refl)

not_starved : (over : Option Cause) (c : Cause) → over ≢ Some cause.NoMemory → (over ≡ Some c) ⊎ (over ≡ Some cause.NoMemory) → over ≡ Some c
not_starved over c fed (inl e) = e
not_starved over c fed (inr e) = absurd (fed e)

pub bye_fed : ends.Bye ≢ ends.NoMemory
bye_fed e = cc

closed_fed : ends.Closed ≢ ends.NoMemory
closed_fed e = cc

failed_fed : ends.Failed ≢ ends.NoMemory
failed_fed e = cc

grouped : {A : Type 0} (r u k h : List A) → ((r ++ u) ++ k) ++ h ≡ r ++ ((u ++ k) ++ h)
grouped r u k h = ap (λ l. l ++ h) (append_assoc r u k) ∙ append_assoc r (u ++ k) h

-- ---- both sides

module _ {L : Type 0} (start now next : Meaning) (back : Pump L) (o : Outlet L) (messages : Consumer FromLink Global AnyItems) (lines : Producer ToLink Global AnyItems)
    (asked unapplied pushed kept : List (List ℕ)) (end : End) (known : List FromLink) (left : List ToLink)
    (lines_are : received back.lines ++ left ≡ sent lines) (messages_are : received messages ++ known ≡ sent back.messages) (over : finishes (received back.lines) ≡ true)
    (lasts : Lasts back.outlet.over o.over) (same : next.received ≡ now.received)
    (delivers : (made : List (List ℕ)) → Delivered start now back.outlet made → Delivered start next o (made ++ kept))
    (pump : Pumped start now back) (side : IsSide messages lines asked unapplied pushed end) where
  made_are : lines_in (received back.lines) ≡ pushed
  made_are =
      let none : left ≡ [] = finishes_whole (received back.lines) left (ap marked_last lines_are ∙ side.once) over in
      let whole : received back.lines ≡ sent lines = sym (append-nil (received back.lines)) ∙ ap (λ l. received back.lines ++ l) (sym none) ∙ lines_are in
      ap lines_in whole ∙ side.pushed_are

  pub told : Delivered start next o (pushed ++ kept)
  told = subst (λ l. Delivered start next o (l ++ kept)) made_are (delivers (lines_in (received back.lines)) pump.delivered)

  -- where the mark was popped, nothing is left, and it says why the link is over
  marked_by : (c : Cause) → cause_in (received messages) ≡ Some c → (known ≡ []) × (back.marked ≡ Some c)
  marked_by c e = cause_whole (received messages) known (heard_in (sent back.messages)) back.marked c (messages_are ∙ pump.feed) e

  over_by : (c : Cause) → o.over ≢ Some cause.NoMemory → cause_in (received messages) ≡ Some c → o.over ≡ Some c
  over_by c fed e = not_starved o.over c fed (told_on back.outlet.over o.over c lasts (pump.told c (marked_by c e).1))

  none_left : (c : Cause) → cause_in (received messages) ≡ Some c → unapplied ≡ [] → (unapplied ++ heard_in known) ++ message_in back.held ≡ []
  none_left c e none =
      let w = marked_by c e in
      let free : back.held ≡ None = pump.settled c w.1 in
      rw (none, w.0, free, heard_nothing) refl

  pub passed : Passes start next asked ((unapplied ++ heard_in known) ++ message_in back.held) o.sent.items o.unsent.items (end_in_two end o.over)
  passed =
      let texts : heard_in (sent back.messages) ≡ (asked ++ unapplied) ++ heard_in known =
      ap heard_in (sym messages_are) ∙ heard_append (received messages) known ∙ ap (λ l. l ++ heard_in known) side.read in
      let d = told in
      record {
        sent_is = d.sent_is;
        all_sent = by o.over refl;
        read = rw same (subst (λ l. Appends start.received now.received l) (ap (λ l. l ++ message_in back.held) texts ∙ grouped asked unapplied (heard_in known) (message_in back.held)) pump.read);
        all_applied = λ bye fed.
            let is = end_is end o.over fed in
            let none = side.all_applied (λ e. bye (is.0 ∙ e)) (λ e. fed (is.0 ∙ e)) in
            all_of none (by_mark end (λ e. bye (is.0 ∙ e)) (λ e. fed (is.0 ∙ e)));
        closed = λ e.
            let is = end_is end o.over (λ n. closed_fed (sym e ∙ n)) in d.closed (over_by cause.Closed is.1 (side.closed (sym is.0 ∙ e)));
        failed = λ e.
            let is = end_is end o.over (λ n. failed_fed (sym e ∙ n)) in d.failed (over_by cause.Failed is.1 (side.failed (sym is.0 ∙ e)));
        counts = d.counts;
        shut = d.shut;
      }
    where
      by : (c : Option Cause) → o.over ≡ c → (o.unsent.items ≡ []) ⊎ (Rose start.ends next.ends ⊎ (Rose start.faults next.faults ⊎ (end_in_two end o.over ≡ ends.NoMemory)))
      by None e = let d = told in inl (d.unsent e)
      by (Some cause.Closed) e = let d = told in inr (inl (d.closed e))
      by (Some cause.Failed) e = let d = told in inr (inr (inl (d.failed e)))
      by (Some cause.NoMemory) e = inr (inr (inr (end_starved end o.over e)))

      all_of : unapplied ≡ [] → (end ≡ ends.Closed) ⊎ (end ≡ ends.Failed) → (unapplied ++ heard_in known) ++ message_in back.held ≡ []
      all_of none (inl e) = none_left cause.Closed (side.closed e) none
      all_of none (inr e) = none_left cause.Failed (side.failed e) none
