-- What was sent of the lines made, step by step.
use Rattle.std.proofs.Common.{◌≡◌, ◌≢◌, arith, ℕ, false, List, [], ◌∷◌, ◌++◌, Option, None, Some, refl, sym, ◌∙◌, ap, append_assoc, append-nil, Vec, inl, inr}
use Rattle.io_edge.specs.Faults.{Rose}
use Rattle.io_edge.specs.Taken.{Appends}
use Rattle.io_edge.proofs.Growth.{grown_twice}
use Rattle.link_edge.specs.Links.{Meaning, NoneFell, AfterSend}
use Rattle.link_pump.specs.declared.cause.Cause.{Cause}
use Rattle.link_pump.specs.declared.cause.Cause.TheVariants as cause
use Rattle.link_pump.specs.declared.outlet.Outlet.{Outlet}
use Rattle.link_pump.specs.Outlets.{Delivered, Lasts, opened}

pub none_fell : (a b c : Meaning) → NoneFell a b → NoneFell b c → NoneFell a c
none_fell a b c p q = record { faults = omega (arith, p.faults, q.faults); idles = omega (arith, p.idles, q.idles); ends = omega (arith, p.ends, q.ends) }

pub nothing_grown : {A : Type 0} (old : Option (List A)) → Appends old old []
nothing_grown None = refl
nothing_grown (Some l) = ap Some (sym (append-nil l))

no_starving : (over : Option Cause) → over ≡ None → over ≢ Some cause.NoMemory
no_starving over e f = let bad : None ≡ Some cause.NoMemory = sym e ∙ f in cc

-- a list that grew by nothing
pub still_grown : {A : Type 0} (old mid new : Option (List A)) (xs : List A) → Appends old mid xs → Appends mid new [] → Appends old new xs
still_grown old mid new xs p q = rw (append-nil xs) at (grown_twice old mid new xs [] p q)

-- a link that is not shut is as it was before it is shut
pub opened_same : (a : Meaning) → a.shut ≡ false → opened a ≡ a
opened_same a e = ap (λ b. record a { shut = b }) (sym e)

-- ---- why it is over

pub lasts_same : (over : Option Cause) → Lasts over over
lasts_same None = λ e. let bad : None ≡ Some cause.Closed = e in cc
lasts_same (Some c) = inl refl

pub lasts_on : (a b c : Option Cause) → Lasts a b → Lasts b c → Lasts a c
lasts_on None None c p q = q
lasts_on None (Some cause.Closed) c p q = absurd (p refl)
lasts_on None (Some cause.Failed) c p (inl e) = λ f. let bad : Some cause.Failed ≡ Some cause.Closed = sym e ∙ f in cc
lasts_on None (Some cause.Failed) c p (inr e) = λ f. let bad : Some cause.NoMemory ≡ Some cause.Closed = sym e ∙ f in cc
lasts_on None (Some cause.NoMemory) c p (inl e) = λ f. let bad : Some cause.NoMemory ≡ Some cause.Closed = sym e ∙ f in cc
lasts_on None (Some cause.NoMemory) c p (inr e) = λ f. let bad : Some cause.NoMemory ≡ Some cause.Closed = sym e ∙ f in cc
lasts_on (Some x) b c (inl e) q = rw e at q
lasts_on (Some x) b c (inr e) q = inr (elim (rw e at q) [ inl f ↦ f | inr f ↦ f ])

-- ----

module _ {L : Type 0} where
  -- once memory ran out, all further lines are lost
  pub lost_more : (start now : Meaning) (o : Outlet L) (made more : List (List ℕ)) → o.over ≡ Some cause.NoMemory → Delivered start now o made → Delivered start now o (made ++ more)
  lost_more start now o made more e was = record {
    sent_is = was.sent_is;
    lines = (was.lines.0 ++ more, rw (was.lines.1, append_assoc) refl, λ fed. absurd (fed e));
    unsent = was.unsent;
    counts = was.counts;
    shut = was.shut;
    closed = was.closed;
    failed = was.failed;
  }

  -- room was taken for a line
  pub room_taken : (start now : Meaning) (o : Outlet L) (s : Vec (List ℕ) _) (made : List (List ℕ)) → s.items ≡ o.sent.items → Delivered start now o made → Delivered start now (record o { sent = s }) made
  room_taken start now o s made e was = record {
    sent_is = rw e was.sent_is;
    lines = (was.lines.0, rw e was.lines.1, was.lines.2);
    unsent = was.unsent;
    counts = was.counts;
    shut = was.shut;
    closed = was.closed;
    failed = was.failed;
  }

  pub no_room : (start now : Meaning) (o : Outlet L) (u : Vec (List ℕ) _) (made : List (List ℕ)) → u.items ≡ o.unsent.items → Delivered start now o made → Delivered start now (record o { unsent = u }) made
  no_room start now o u made e was = record {
    sent_is = was.sent_is;
    lines = (was.lines.0, rw e was.lines.1, was.lines.2);
    unsent = λ over. e ∙ was.unsent over;
    counts = was.counts;
    shut = was.shut;
    closed = was.closed;
    failed = was.failed;
  }

  -- a line was not sent over a link in use
  pub not_sent : (start now next : Meaning) (o : Outlet L) (l : L) (s : Vec (List ℕ) _) (made : List (List ℕ)) → o.over ≡ None → s.items ≡ o.sent.items → AfterSend now [] next
      → Delivered start now o made → Delivered start next (record o { link = l; sent = s }) made
  not_sent start now next o l s made free e after was = record {
    sent_is = rw e (still_grown start.sent now.sent next.sent o.sent.items was.sent_is after.sent);
    lines = (was.lines.0, rw e was.lines.1, was.lines.2);
    unsent = was.unsent;
    counts = none_fell start now next was.counts after.counts;
    shut = after.shut ∙ was.shut;
    closed = λ over. absurd (let bad : None ≡ Some cause.Closed = sym free ∙ over in cc);
    failed = λ over. absurd (let bad : None ≡ Some cause.Failed = sym free ∙ over in cc);
  }

  -- and it broke
  pub broken : (start now next : Meaning) (o : Outlet L) (l : L) (s : Vec (List ℕ) _) (made : List (List ℕ)) → o.over ≡ None → s.items ≡ o.sent.items → AfterSend now [] next
      → Rose now.faults next.faults → Delivered start now o made → Delivered start next (record o { link = l; sent = s; over = Some cause.Failed }) made
  broken start now next o l s made free e after rose was =
      let no_lost = was.lines.2 (no_starving o.over free) in
      let none = was.unsent free in
      let counts = was.counts in
      record {
        sent_is = rw e (still_grown start.sent now.sent next.sent o.sent.items was.sent_is after.sent);
        lines = (was.lines.0, rw e was.lines.1, λ over. no_lost);
        unsent = λ over. none;
        counts = none_fell start now next was.counts after.counts;
        shut = after.shut ∙ was.shut;
        closed = λ over. absurd (let bad : Some cause.Failed ≡ Some cause.Closed = over in cc);
        failed = λ over. omega (arith, counts.faults, rose);
      }

  -- a line was kept
  pub kept : (start now : Meaning) (o : Outlet L) (u : Vec (List ℕ) _) (text : List ℕ) (made : List (List ℕ)) → o.over ≢ None → o.over ≢ Some cause.NoMemory → u.items ≡ o.unsent.items ++ text ∷ []
      → Delivered start now o made → Delivered start now (record o { unsent = u }) (made ++ text ∷ [])
  kept start now o u text made over fed e was =
      let none : was.lines.0 ≡ [] = was.lines.2 fed in
      let all : made ≡ o.sent.items ++ o.unsent.items = was.lines.1 ∙ rw (none, append-nil) refl in
      record {
        sent_is = was.sent_is;
        lines = ([], rw (all, e, append-nil, append_assoc) refl, λ over. refl);
        unsent = λ free. absurd (over free);
        counts = was.counts;
        shut = was.shut;
        closed = was.closed;
        failed = was.failed;
      }
