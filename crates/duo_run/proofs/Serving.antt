-- A session that is served in lock step: what holds between its rounds, in the middle of one, and at the end.
use Rattle.std.proofs.Common.{◌≡◌, ◌≢◌, ◌⊎◌, inl, inr, ℕ, Bool, true, false, not, ◌&&◌, ◌||◌, List, [], ◌∷◌, ◌++◌, Option, None, Some, refl, sym, ◌∙◌, ap, ap₂, subst, append_assoc, append-nil, if◌then◌else◌}
use Rattle.std.specs.Prelude.{is_some, Result, Ok, Err, IfOk, OnOk, OnErr}
use Rattle.std.proofs.lemmas.List.{map-append}
use Rattle.io_edge.specs.Faults.{Rose}
use Rattle.symtab.specs.declared.parts.TableParts.{TableParts}
use Rattle.trace_core.specs.Samples.{Samples}
use Rattle.world_core.specs.World.{World}
use Rattle.machine_core.specs.declared.reply.Reply.{Reply}
use Rattle.machine_core.specs.declared.turn.Turned.{Turned}
use Rattle.machine_core.specs.Reading.{Reader, IsReader}
use Rattle.machine_core.specs.Machine.{Machine, Answer, answer_of, Turn, turn_of, is_running}
use Rattle.machine_core.specs.Journal.{Line, Replied, notices_of, closing_lines, closed, is_bye}
use Rattle.req_json.specs.Asked.{asked}
use Rattle.machine_core.specs.declared.request.Asked.{Asked}
use Rattle.text_core.specs.declared.memory.NoMemory.{NoMemory}
use Rattle.link_edge.specs.Links.{Meaning}
use Rattle.link_edge.specs.declared.answers.End.TheVariants as ends
use Rattle.link_pump.specs.declared.cause.Cause.{Cause}
use Rattle.link_pump.specs.declared.cause.Cause.TheVariants as cause
use Rattle.link_pump.specs.declared.outlet.Outlet.{Outlet}
use Rattle.duo_run.specs.declared.desk.Desk.{Desk}
use Rattle.req_json.specs.Texts.{line_text, texts_of}
use Rattle.duo_run.specs.Deeds.{Deed, Asks, Goes, Stage, at_start, answer_to, after_ask, after_go, after_deeds, told_of, lines_of, is_turn_due, is_paced, ends_with_leave}
use Rattle.duo_run.specs.Polls.{Poll, asked_by, after_poll, turn_given, given, after_polls, IsPart, MeetsPolls}
use Rattle.duo_run.specs.Journals.{deeds_of, output_of}
use Rattle.duo_run.specs.Connections.{Carries, Applies, InLockStep}
use Rattle.link_pump.specs.Outlets.{Delivered, polled_without, Lasts}
use Rattle.duo_run.specs.Desks.{Held, NoRequest, none, starved, HasRoom, end_of}
use Rattle.duo_run.proofs.Doing.{after_append, after_snoc, lines_snoc, leave_snoc}
use Rattle.duo_run.proofs.Giving.{given_snoc, after_given, after_asked, given_paced, asked_paced, nothing_paced}
use Rattle.duo_run.proofs.Noting.{requests_are, journal_run}

-- ---- what was done of a session

pub record Did (read : Reader) (w : World) (m : Machine) (deeds : List Deed) (made : List (List ℕ)) (machine : Machine) (left : Bool) : Type 0 where
  pub machine_is : machine ≡ (after_deeds read w (at_start m) deeds).machine
  pub left_is : left ≡ (after_deeds read w (at_start m) deeds).left
  pub made_are : made ≡ texts_of (lines_of read w (at_start m) deeds)
  pub last : ends_with_leave read w (at_start m) deeds ≡ true

module _ (read : Reader) (w : World) (m : Machine) where
  pub did_nothing : Did read w m [] [] m false
  unfolding after_deeds lines_of ends_with_leave
  did_nothing = record { machine_is = refl; left_is = refl; made_are = refl; last = refl }

  more_made : (deeds : List Deed) (made more : List (List ℕ)) (d : Deed) → made ≡ texts_of (lines_of read w (at_start m) deeds) → more ≡ texts_of (told_of read w (after_deeds read w (at_start m) deeds) d)
      → made ++ more ≡ texts_of (lines_of read w (at_start m) (deeds ++ d ∷ []))
  more_made deeds made more d e f =
      ap₂ (λ a b. a ++ b) e f
      ∙ sym (map-append line_text (lines_of read w (at_start m) deeds) (told_of read w (after_deeds read w (at_start m) deeds) d))
      ∙ ap texts_of (sym (lines_snoc read w (at_start m) deeds d))

  pub did_ask : (deeds : List Deed) (made : List (List ℕ)) (machine next : Machine) (left went : Bool) (text : List ℕ) (reply : Reply) → left ≡ false
      → (let answer : Answer = record { after = next; reply = reply } in answer) ≡ answer_of read w machine (asked text) → went ≡ (left || is_bye reply.body)
      → Did read w m deeds made machine left → Did read w m (deeds ++ Asks text ∷ []) (made ++ texts_of (Replied reply ∷ [])) next went
  unfolding answer_to after_ask
  did_ask deeds made machine next left went text reply staying answered going was =
      let s = after_deeds read w (at_start m) deeds in
      let e : (let answer : Answer = record { after = next; reply = reply } in answer) ≡ answer_to read w s.machine text = answered ∙ ap (λ k. answer_of read w k (asked text)) was.machine_is in
      let after : after_deeds read w (at_start m) (deeds ++ Asks text ∷ []) ≡ after_ask read w s text = after_snoc read w (at_start m) deeds (Asks text) in
      record {
        machine_is = ap (λ (a : Answer). a.after) e ∙ sym (ap (λ (t : Stage). t.machine) after);
        left_is = going ∙ ap₂ (λ b (a : Answer). b || is_bye a.reply.body) was.left_is e ∙ sym (ap (λ (t : Stage). t.left) after);
        made_are = more_made deeds made (texts_of (Replied reply ∷ [])) (Asks text) was.made_are (ap (λ (a : Answer). texts_of (Replied a.reply ∷ [])) e);
        last = leave_snoc read w (at_start m) deeds (Asks text) was.last (sym was.left_is ∙ staying);
      }

  pub did_go : (deeds : List Deed) (made : List (List ℕ)) (machine next : Machine) (left : Bool) (turned : Turned) (lines : List Line) → left ≡ false
      → (let turn : Turn = record { after = next; turned = turned } in turn) ≡ turn_of w machine → lines ≡ notices_of w next turned
      → Did read w m deeds made machine left → Did read w m (deeds ++ Goes ∷ []) (made ++ texts_of lines) next left
  unfolding after_go
  did_go deeds made machine next left turned lines staying moved told was =
      let s = after_deeds read w (at_start m) deeds in
      let e : (let turn : Turn = record { after = next; turned = turned } in turn) ≡ turn_of w s.machine = moved ∙ ap (turn_of w) was.machine_is in
      let after : after_deeds read w (at_start m) (deeds ++ Goes ∷ []) ≡ after_go w s = after_snoc read w (at_start m) deeds Goes in
      record {
        machine_is = ap (λ (t : Turn). t.after) e ∙ sym (ap (λ (t : Stage). t.machine) after);
        left_is = was.left_is ∙ sym (ap (λ (t : Stage). t.left) after);
        made_are = more_made deeds made (texts_of lines) Goes was.made_are (ap texts_of (told ∙ ap (λ (t : Turn). notices_of w t.after t.turned) e));
        last = leave_snoc read w (at_start m) deeds Goes was.last (sym was.left_is ∙ staying);
      }

  -- ---- a round

  -- where the session is, once a poll's request was dealt with
  stage_is : (before : List Poll) (last : Poll) (deeds : List Deed) → deeds ≡ given read w (at_start m) before ++ asked_by last
      → after_poll read w (after_polls read w (at_start m) before) last ≡ after_deeds read w (at_start m) deeds
  stage_is before last deeds e =
      sym (ap (after_deeds read w (at_start m)) e
      ∙ after_append read w (at_start m) (given read w (at_start m) before) (asked_by last)
      ∙ ap (λ s. after_deeds read w s (asked_by last)) (after_given read w (at_start m) before)
      ∙ after_asked read w (after_polls read w (at_start m) before) last)

  due_is : (deeds : List Deed) (made : List (List ℕ)) (machine : Machine) (left : Bool) → Did read w m deeds made machine left
      → is_turn_due (after_deeds read w (at_start m) deeds) ≡ (is_running machine.motion && not left)
  due_is deeds made machine left was = ap₂ (λ (k : Machine) b. is_running k.motion && not b) (sym was.machine_is) (sym was.left_is)

  pub round_done : (before : List Poll) (last : Poll) (deeds : List Deed) (made : List (List ℕ)) (machine : Machine) (left : Bool) → deeds ≡ given read w (at_start m) before ++ asked_by last
      → Did read w m deeds made machine left → given read w (at_start m) (before ++ last ∷ []) ≡ deeds ++ (if is_running machine.motion && not left then Goes ∷ [] else [])
  round_done before last deeds made machine left e was =
      given_snoc read w (at_start m) before last
      ∙ ap (λ s. given read w (at_start m) before ++ (asked_by last ++ turn_given s)) (stage_is before last deeds e)
      ∙ ap (λ b. given read w (at_start m) before ++ (asked_by last ++ (if b then Goes ∷ [] else []))) (due_is deeds made machine left was)
      ∙ sym (append_assoc (given read w (at_start m) before) (asked_by last) (if is_running machine.motion && not left then Goes ∷ [] else []))
      ∙ ap (λ ds. ds ++ (if is_running machine.motion && not left then Goes ∷ [] else [])) (sym e)

-- ---- what is missing

pub record Cut (read : Reader) (w : World) (s : Stage) (over : Option Cause) (left : Bool) (polls : List Poll) (deeds : List Deed) : Type 0 where
  pub before : List Poll
  pub last : Poll
  pub done : List Deed
  pub polled : polls ≡ before ++ last ∷ []
  pub deeds_are : deeds ≡ given read w s before ++ done
  pub part : ((done ≡ asked_by last) × ((over ≡ Some cause.Failed) ⊎ (over ≡ Some cause.NoMemory))) ⊎ ((done ≡ []) × (over ≡ Some cause.NoMemory))
  pub staying : left ≡ false

abbrev pub Met : Reader → World → Stage → Option Cause → Bool → List Poll → List Deed → Type 0
Met read w s over left polls deeds = (deeds ≡ given read w s polls) ⊎ Cut read w s over left polls deeds

-- a link in use: nothing is missing
met_whole : (read : Reader) (w : World) (s : Stage) (over : Option Cause) (left : Bool) (polls : List Poll) (deeds : List Deed) → over ≡ None → Met read w s over left polls deeds → deeds ≡ given read w s polls
met_whole read w s over left polls deeds free (inl e) = e
met_whole read w s over left polls deeds free (inr c) = by c.part
  where
    by : ((c.done ≡ asked_by c.last) × ((over ≡ Some cause.Failed) ⊎ (over ≡ Some cause.NoMemory))) ⊎ ((c.done ≡ []) × (over ≡ Some cause.NoMemory)) → deeds ≡ given read w s polls
    by (inl (d, inl e)) = absurd (let bad : None ≡ Some cause.Failed = sym free ∙ e in cc)
    by (inl (d, inr e)) = absurd (let bad : None ≡ Some cause.NoMemory = sym free ∙ e in cc)
    by (inr (d, e)) = absurd (let bad : None ≡ Some cause.NoMemory = sym free ∙ e in cc)

-- why it is over may become that memory ran out
met_on : (read : Reader) (w : World) (s : Stage) (over next : Option Cause) (left : Bool) (polls : List Poll) (deeds : List Deed) → Lasts over next → Met read w s over left polls deeds → Met read w s next left polls deeds
met_on read w s over next left polls deeds lasts (inl e) = inl e
met_on read w s None next left polls deeds lasts (inr c) = inl (met_whole read w s None left polls deeds refl (inr c))
met_on read w s (Some x) next left polls deeds (inl e) (inr c) = inr (rw e c)
met_on read w s (Some x) next left polls deeds (inr e) (inr c) =
    inr (record { before = c.before; last = c.last; done = c.done; polled = c.polled; deeds_are = c.deeds_are; part = by c.part; staying = c.staying })
  where
    by : ((c.done ≡ asked_by c.last) × ((Some x ≡ Some cause.Failed) ⊎ (Some x ≡ Some cause.NoMemory))) ⊎ ((c.done ≡ []) × (Some x ≡ Some cause.NoMemory))
        → ((c.done ≡ asked_by c.last) × ((next ≡ Some cause.Failed) ⊎ (next ≡ Some cause.NoMemory))) ⊎ ((c.done ≡ []) × (next ≡ Some cause.NoMemory))
    by (inl (d, f)) = inl (d, inr e)
    by (inr (d, f)) = inr (d, e)

-- ---- between rounds, and in the middle of one

pub record Going {L : Type 0} (w : World) (m : Machine) (start now : Meaning) (d : Desk L) (machine : Machine) : Type 0 where
  pub polls : List Poll
  pub deeds : List Deed
  pub made : List (List ℕ)
  pub held : Held start now d polls deeds [] made
  pub did : (read : Reader) → IsReader read → Did read w m deeds made machine d.left
  pub met : (read : Reader) → IsReader read → Met read w (at_start m) d.outlet.over d.left polls deeds

pub record InRound {L : Type 0} (w : World) (m : Machine) (start now : Meaning) (d : Desk L) (machine : Machine) : Type 0 where
  pub before : List Poll
  pub last : Poll
  pub deeds : List Deed
  pub made : List (List ℕ)
  pub held : Held start now d (before ++ last ∷ []) deeds [] made
  pub did : (read : Reader) → IsReader read → Did read w m deeds made machine d.left
  pub dealt : (read : Reader) → IsReader read → deeds ≡ given read w (at_start m) before ++ asked_by last
  pub unclosed : d.outlet.over ≢ Some cause.Closed

-- the round's request was dealt with; or the link is over
abbrev pub Middle : {L : Type 0} → World → Machine → Meaning → Meaning → Desk L → Machine → Type 0
Middle w m start now d machine = InRound w m start now d machine ⊎ (Going w m start now d machine × (d.outlet.over ≢ None))

by_cause : (over : Option Cause) → is_some over ≡ true → over ≢ Some cause.Closed → (over ≡ Some cause.Failed) ⊎ (over ≡ Some cause.NoMemory)
by_cause None e f = absurd (let bad : false ≡ true = e in cc)
by_cause (Some cause.Closed) e f = absurd (f refl)
by_cause (Some cause.Failed) e f = inl refl
by_cause (Some cause.NoMemory) e f = inr refl

lasts_starved : (over : Option Cause) → Lasts over (Some cause.NoMemory)
lasts_starved None = λ e. let bad : Some cause.NoMemory ≡ Some cause.Closed = e in cc
lasts_starved (Some x) = inr refl

lasts_still : (over : Option Cause) → over ≢ None → Lasts over over
lasts_still None f = absurd (f refl)
lasts_still (Some x) f = inl refl

-- the same, with what else holds there
abbrev pub AtMiddle : {L : Type 0} → World → Machine → Meaning → Meaning → Desk L → Machine → (table table' : TableParts) → (samples samples' : Samples) → Type 0
AtMiddle w m start now d machine table table' samples samples' =
    (table ≡ table') × (samples ≡ samples') × Middle w m start now d machine × (now.shut ≡ false) × HasRoom d

module _ {L : Type 0} (w : World) (m : Machine) (start : Meaning) where
  pub begins : (now : Meaning) (d : Desk L) → d.left ≡ false → Held start now d [] [] [] [] → Going w m start now d m
  unfolding given
  begins now d staying held = record {
    polls = [];
    deeds = [];
    made = [];
    held = held;
    did = λ read reader. rw staying (did_nothing read w m);
    met = λ read reader. inl refl;
  }

  -- a poll without a request
  pub unasked : (now next : Meaning) (d e : Desk L) (machine : Machine) → d.left ≡ false → d.outlet.over ≡ None → e.left ≡ d.left → (g : Going w m start now d machine)
      → NoRequest start next e g.polls g.deeds g.made → Middle w m start next e machine
  unasked now next d e machine staying free left g (none held) = by e.outlet.over refl
    where
      by : (o : Option Cause) → e.outlet.over ≡ o → Middle w m start next e machine
      by None f = inl (record {
        before = g.polls;
        last = None;
        deeds = g.deeds;
        made = g.made;
        held = subst (λ o. Held start next e (g.polls ++ polled_without o) g.deeds [] g.made) f held;
        did = λ read reader. rw left (g.did read reader);
        dealt = λ read reader. met_whole read w (at_start m) d.outlet.over d.left g.polls g.deeds free (g.met read reader) ∙ sym (append-nil (given read w (at_start m) g.polls));
        unclosed = λ h. let bad : None ≡ Some cause.Closed = sym f ∙ h in cc;
      })
      by (Some x) f = inr (
        record {
          polls = g.polls;
          deeds = g.deeds;
          made = g.made;
          held = subst (λ ps. Held start next e ps g.deeds [] g.made) (append-nil g.polls) (subst (λ o. Held start next e (g.polls ++ polled_without o) g.deeds [] g.made) f held);
          did = λ read reader. rw left (g.did read reader);
          met = λ read reader. inl (met_whole read w (at_start m) d.outlet.over d.left g.polls g.deeds free (g.met read reader));
        },
        λ h. let bad : Some x ≡ None = sym f ∙ h in cc,
      )
  unasked now next d e machine staying free left g (starved text over held) = inr (
    record {
      polls = g.polls ++ Some text ∷ [];
      deeds = g.deeds;
      made = g.made;
      held = held;
      did = λ read reader. rw left (g.did read reader);
      met = λ read reader. inr (record {
        before = g.polls;
        last = Some text;
        done = [];
        polled = refl;
        deeds_are = met_whole read w (at_start m) d.outlet.over d.left g.polls g.deeds free (g.met read reader) ∙ sym (append-nil (given read w (at_start m) g.polls));
        part = inr (refl, over);
        staying = left ∙ staying;
      });
    },
    λ h. let bad : Some cause.NoMemory ≡ None = sym over ∙ h in cc,
  )

  -- a request that was applied
  pub answered : (now next : Meaning) (d e : Desk L) (machine after : Machine) (text : List ℕ) (reply : Reply) → d.left ≡ false → d.outlet.over ≡ None
      → ((read : Reader) → IsReader read → (let answer : Answer = record { after = after; reply = reply } in answer) ≡ answer_of read w machine (asked text))
      → e.left ≡ (d.left || is_bye reply.body) → e.outlet.over ≢ Some cause.Closed → (g : Going w m start now d machine)
      → Held start next e (g.polls ++ Some text ∷ []) (g.deeds ++ Asks text ∷ []) [] (g.made ++ texts_of (Replied reply ∷ [])) → Middle w m start next e after
  answered now next d e machine after text reply staying free is left unclosed g held = inl (record {
    before = g.polls;
    last = Some text;
    deeds = g.deeds ++ Asks text ∷ [];
    made = g.made ++ texts_of (Replied reply ∷ []);
    held = held;
    did = λ read reader. did_ask read w m g.deeds g.made machine after d.left e.left text reply staying (is read reader) left (g.did read reader);
    dealt = λ read reader. ap (λ ds. ds ++ Asks text ∷ []) (met_whole read w (at_start m) d.outlet.over d.left g.polls g.deeds free (g.met read reader));
    unclosed = unclosed;
  })

  -- a request for which memory ran out
  pub unanswered : (now next : Meaning) (d e : Desk L) (machine after : Machine) (text : List ℕ) → d.left ≡ false → d.outlet.over ≡ None → after ≡ machine → e.left ≡ d.left
      → e.outlet.over ≡ Some cause.NoMemory → (g : Going w m start now d machine) → Held start next e (g.polls ++ Some text ∷ []) g.deeds [] g.made → Middle w m start next e after
  unanswered now next d e machine after text staying free same left over g held = inr (
    record {
      polls = g.polls ++ Some text ∷ [];
      deeds = g.deeds;
      made = g.made;
      held = held;
      did = λ read reader. rw (left, same) (g.did read reader);
      met = λ read reader. inr (record {
        before = g.polls;
        last = Some text;
        done = [];
        polled = refl;
        deeds_are = met_whole read w (at_start m) d.outlet.over d.left g.polls g.deeds free (g.met read reader) ∙ sym (append-nil (given read w (at_start m) g.polls));
        part = inr (refl, over);
        staying = left ∙ staying;
      });
    },
    λ h. let bad : Some cause.NoMemory ≡ None = sym over ∙ h in cc,
  )

  -- a round without a turn, as none is due
  undue : (now : Meaning) (d : Desk L) (machine : Machine) → (is_running machine.motion && not d.left) ≡ false → InRound w m start now d machine → Going w m start now d machine
  undue now d machine e r = record {
    polls = r.before ++ r.last ∷ [];
    deeds = r.deeds;
    made = r.made;
    held = r.held;
    did = r.did;
    met = λ read reader.
        inl (sym (append-nil r.deeds) ∙ ap (λ b. r.deeds ++ (if b then Goes ∷ [] else [])) (sym e) ∙ sym (round_done read w m r.before r.last r.deeds r.made machine d.left (r.dealt read reader) (r.did read reader)));
  }

  pub idle : (now : Meaning) (d : Desk L) (machine : Machine) → is_running machine.motion ≡ false → Middle w m start now d machine → Going w m start now d machine
  idle now d machine e (inl r) = undue now d machine (ap (λ b. b && not d.left) e) r
  idle now d machine e (inr g) = g.0

  -- a round whose turn is missing, as the link is over or memory ran out
  turnless : (now : Meaning) (d : Desk L) (machine : Machine) → (d.outlet.over ≡ Some cause.Failed) ⊎ (d.outlet.over ≡ Some cause.NoMemory) → InRound w m start now d machine → Going w m start now d machine
  turnless now d machine why r = by d.left refl
    where
      by : (b : Bool) → d.left ≡ b → Going w m start now d machine
      by true e = undue now d machine (rw e (never (is_running machine.motion))) r
        where
          never : (b : Bool) → (b && false) ≡ false
          never true = refl
          never false = refl
      by false e = record {
        polls = r.before ++ r.last ∷ [];
        deeds = r.deeds;
        made = r.made;
        held = r.held;
        did = r.did;
        met = λ read reader. inr (record { before = r.before; last = r.last; done = asked_by r.last; polled = refl; deeds_are = r.dealt read reader; part = inl (refl, why); staying = e });
      }

  -- nothing more is done
  over_now : (now : Meaning) (d : Desk L) (machine : Machine) → (d.left || is_some d.outlet.over) ≡ true → InRound w m start now d machine → Going w m start now d machine
  over_now now d machine e r = by d.left refl
    where
      by : (b : Bool) → d.left ≡ b → Going w m start now d machine
      by true f = undue now d machine (rw f (never (is_running machine.motion))) r
        where
          never : (b : Bool) → (b && false) ≡ false
          never true = refl
          never false = refl
      by false f = turnless now d machine (by_cause d.outlet.over (rw f at e) r.unclosed) r

  in_round_on : (now next : Meaning) (d e : Desk L) (machine : Machine) → e.left ≡ d.left → e.outlet.over ≢ Some cause.Closed
      → ((polls : List Poll) (deeds : List Deed) (made : List (List ℕ)) → Held start now d polls deeds [] made → Held start next e polls deeds [] made)
      → InRound w m start now d machine → InRound w m start next e machine
  in_round_on now next d e machine left unclosed keeps r = record {
    before = r.before;
    last = r.last;
    deeds = r.deeds;
    made = r.made;
    held = keeps (r.before ++ r.last ∷ []) r.deeds r.made r.held;
    did = λ read reader. rw left (r.did read reader);
    dealt = r.dealt;
    unclosed = unclosed;
  }

  going_on : (now next : Meaning) (d e : Desk L) (machine : Machine) → e.left ≡ d.left → Lasts d.outlet.over e.outlet.over
      → ((polls : List Poll) (deeds : List Deed) (made : List (List ℕ)) → Held start now d polls deeds [] made → Held start next e polls deeds [] made)
      → Going w m start now d machine → Going w m start next e machine
  going_on now next d e machine left lasts keeps g = record {
    polls = g.polls;
    deeds = g.deeds;
    made = g.made;
    held = keeps g.polls g.deeds g.made g.held;
    did = λ read reader. rw left (g.did read reader);
    met = λ read reader. rw left (met_on read w (at_start m) d.outlet.over e.outlet.over d.left g.polls g.deeds lasts (g.met read reader));
  }

  -- no turn can be made
  pub unready : (now next : Meaning) (d e : Desk L) (machine : Machine) → e.left ≡ d.left
      → (((d.left || is_some d.outlet.over) ≡ true) × (e.outlet.over ≡ d.outlet.over)) ⊎ (e.outlet.over ≡ Some cause.NoMemory)
      → ((polls : List Poll) (deeds : List Deed) (made : List (List ℕ)) → Held start now d polls deeds [] made → Held start next e polls deeds [] made)
      → Middle w m start now d machine → Going w m start next e machine
  unready now next d e machine left (inl (over, same)) keeps (inl r) =
      over_now next e machine (rw (left, same) over) (in_round_on now next d e machine left (rw same r.unclosed) keeps r)
  unready now next d e machine left (inl (over, same)) keeps (inr g) = going_on now next d e machine left (rw same (lasts_still d.outlet.over g.1)) keeps g.0
  unready now next d e machine left (inr spent) keeps (inl r) =
      turnless next e machine (inr spent) (in_round_on now next d e machine left (rw spent (λ f. let bad : Some cause.NoMemory ≡ Some cause.Closed = f in cc)) keeps r)
  unready now next d e machine left (inr spent) keeps (inr g) = going_on now next d e machine left (rw spent (lasts_starved d.outlet.over)) keeps g.0

  -- a turn was made
  pub gone : (now next : Meaning) (d e : Desk L) (machine after : Machine) (turned : Turned) (lines : List Line) → d.left ≡ false → d.outlet.over ≡ None → is_running machine.motion ≡ true
      → (let turn : Turn = record { after = after; turned = turned } in turn) ≡ turn_of w machine → lines ≡ notices_of w after turned → e.left ≡ d.left
      → ((polls : List Poll) (deeds : List Deed) (made : List (List ℕ)) → Held start now d polls deeds [] made → Held start next e polls (deeds ++ Goes ∷ []) [] (made ++ texts_of lines))
      → Middle w m start now d machine → Going w m start next e after
  gone now next d e machine after turned lines staying free running moved told left keeps (inr g) = absurd (g.1 free)
  gone now next d e machine after turned lines staying free running moved told left keeps (inl r) =
      let due : (is_running machine.motion && not d.left) ≡ true = rw (running, staying) refl in
      record {
        polls = r.before ++ r.last ∷ [];
        deeds = r.deeds ++ Goes ∷ [];
        made = r.made ++ texts_of lines;
        held = keeps (r.before ++ r.last ∷ []) r.deeds r.made r.held;
        did = λ read reader. rw left (did_go read w m r.deeds r.made machine after d.left turned lines staying moved told (r.did read reader));
        met = λ read reader.
            inl (ap (λ b. r.deeds ++ (if b then Goes ∷ [] else [])) (sym due) ∙ sym (round_done read w m r.before r.last r.deeds r.made machine d.left (r.dealt read reader) (r.did read reader)));
      }

  -- a request and its reply
  pub replied : (v : World) (now mid next : Meaning) (d e f : Desk L) (machine after : Machine) (text : List ℕ) (x : Asked) (reply : Result Reply NoMemory)
      → v ≡ w → d.left ≡ false → d.outlet.over ≡ None → e.left ≡ d.left → x ≡ asked text
      → ((start : Meaning) (polls : List Poll) (deeds : List Deed) (made : List (List ℕ)) → Held start now d polls deeds [] made → Held start mid e (polls ++ Some text ∷ []) deeds (text ∷ []) made)
      → IfOk reply (λ r. (read : Reader) → IsReader read → (let answer : Answer = record { after = after; reply = r } in answer) ≡ answer_of read v machine x)
      → OnErr reply (after ≡ machine)
      → IfOk reply (λ r. (start : Meaning) (polls : List Poll) (deeds : List Deed) (made : List (List ℕ)) → Held start mid e polls deeds (text ∷ []) made → Held start next f polls (deeds ++ Asks text ∷ []) [] (made ++ texts_of (Replied r ∷ [])))
      → IfOk reply (λ r. f.left ≡ (e.left || is_bye r.body))
      → OnErr reply ((start : Meaning) (polls : List Poll) (deeds : List Deed) (made : List (List ℕ)) → Held start mid e polls deeds (text ∷ []) made → Held start next f polls deeds [] made)
      → OnOk reply (f.outlet.over ≢ Some cause.Closed)
      → OnErr reply ((f.outlet.over ≡ Some cause.NoMemory) × (f.left ≡ e.left))
      → Going w m start now d machine → Middle w m start next f after
  replied v now mid next d e f machine after text x (Ok r) same staying free left is heard answer memory ok going err unclosed spent g =
      answered now next d f machine after text r staying free (λ read reader. answer read reader ∙ ap₂ (λ u y. answer_of read u machine y) same is)
      (going ∙ ap (λ b. b || is_bye r.body) left) unclosed g (ok start (g.polls ++ Some text ∷ []) g.deeds g.made (heard start g.polls g.deeds g.made g.held))
  replied v now mid next d e f machine after text x (Err n) same staying free left is heard answer memory ok going err unclosed spent g =
      unanswered now next d f machine after text staying free memory (spent.1 ∙ left) spent.0 g (err start (g.polls ++ Some text ∷ []) g.deeds g.made (heard start g.polls g.deeds g.made g.held))

  -- a turn and its notice
  pub noticed : (v u : World) (now next : Meaning) (d e : Desk L) (machine after last : Machine) (turned : Turned) → v ≡ w → u ≡ w → d.left ≡ false → d.outlet.over ≡ None → is_running machine.motion ≡ true
      → (let turn : Turn = record { after = after; turned = turned } in turn) ≡ turn_of v machine → last ≡ after → e.left ≡ d.left
      → ((polls : List Poll) (deeds : List Deed) (made : List (List ℕ)) → Held start now d polls deeds [] made → Held start next e polls (deeds ++ Goes ∷ []) [] (made ++ texts_of (notices_of u after turned)))
      → Middle w m start now d machine → Going w m start next e last
  noticed v u now next d e machine after last turned same too staying free running moved kept left keeps middle =
      gone now next d e machine last turned (notices_of u after turned) staying free running
      (ap (λ k. let turn : Turn = record { after = k; turned = turned } in turn) kept ∙ moved ∙ ap (λ t. turn_of t machine) same)
      (ap₂ (λ t k. notices_of t k turned) too (sym kept)) left keeps middle

-- ---- the end

over_ends : (left : Bool) (over : Option Cause) → end_of left over ≢ ends.NoMemory → over ≢ Some cause.NoMemory
over_ends left None h e = let bad : None ≡ Some cause.NoMemory = e in cc
over_ends left (Some cause.Closed) h e = let bad : Some cause.Closed ≡ Some cause.NoMemory = e in cc
over_ends left (Some cause.Failed) h e = let bad : Some cause.Failed ≡ Some cause.NoMemory = e in cc
over_ends left (Some cause.NoMemory) h e = h refl

over_fed : (left : Bool) (over : Option Cause) → over ≡ Some cause.NoMemory → end_of left over ≡ ends.NoMemory
over_fed left over e = rw e refl

over_closed : (left : Bool) (over : Option Cause) → end_of left over ≡ ends.Closed → over ≡ Some cause.Closed
over_closed true None e = let bad : ends.Bye ≡ ends.Closed = e in absurd cc
over_closed true (Some cause.Closed) e = refl
over_closed true (Some cause.Failed) e = let bad : ends.Bye ≡ ends.Closed = e in absurd cc
over_closed left (Some cause.NoMemory) e = let bad : ends.NoMemory ≡ ends.Closed = e in absurd cc
over_closed false None e = let bad : ends.Bye ≡ ends.Closed = e in absurd cc
over_closed false (Some cause.Closed) e = refl
over_closed false (Some cause.Failed) e = let bad : ends.Failed ≡ ends.Closed = e in absurd cc

over_failed : (left : Bool) (over : Option Cause) → end_of left over ≡ ends.Failed → over ≡ Some cause.Failed
over_failed true None e = let bad : ends.Bye ≡ ends.Failed = e in absurd cc
over_failed true (Some cause.Closed) e = let bad : ends.Bye ≡ ends.Failed = e in absurd cc
over_failed true (Some cause.Failed) e = refl
over_failed left (Some cause.NoMemory) e = let bad : ends.NoMemory ≡ ends.Failed = e in absurd cc
over_failed false None e = let bad : ends.Bye ≡ ends.Failed = e in absurd cc
over_failed false (Some cause.Closed) e = let bad : ends.Closed ≡ ends.Failed = e in absurd cc
over_failed false (Some cause.Failed) e = refl

-- it was over before the last lines were told
left_bye : (left : Bool) (before over : Option Cause) → (left || is_some before) ≡ true → Lasts before over → end_of left over ≡ ends.Bye → left ≡ true
left_bye true before over o lasts e = refl
left_bye false None over o lasts e = o
left_bye false (Some cause.Closed) over o (inl l) e = let bad : ends.Closed ≡ ends.Bye = rw l at e in absurd cc
left_bye false (Some cause.Failed) over o (inl l) e = let bad : ends.Failed ≡ ends.Bye = rw l at e in absurd cc
left_bye false (Some cause.NoMemory) over o (inl l) e = let bad : ends.NoMemory ≡ ends.Bye = rw l at e in absurd cc
left_bye false (Some x) over o (inr l) e = let bad : ends.NoMemory ≡ ends.Bye = rw l at e in absurd cc

bye_left : (left : Bool) (over : Option Cause) → left ≡ true → (end_of left over ≡ ends.Bye) ⊎ (end_of left over ≡ ends.NoMemory)
bye_left true None e = inl refl
bye_left true (Some cause.Closed) e = inl refl
bye_left true (Some cause.Failed) e = inl refl
bye_left true (Some cause.NoMemory) e = inr refl
bye_left false over e = absurd (let bad : false ≡ true = e in cc)

end_failed : (over : Option Cause) → over ≡ Some cause.Failed → end_of false over ≡ ends.Failed
end_failed over e = rw e refl

-- what is missing, by the end
met_ends : (read : Reader) (w : World) (s : Stage) (over : Option Cause) (left : Bool) (polls : List Poll) (deeds : List Deed) → Met read w s over left polls deeds → MeetsPolls read w s (end_of left over) polls deeds
met_ends read w s over left polls deeds (inl e) = inl e
met_ends read w s over left polls deeds (inr c) = inr (record { before = c.before; last = c.last; done = c.done; polled = c.polled; part = by c.part; deeds_are = c.deeds_are })
  where
    by : ((c.done ≡ asked_by c.last) × ((over ≡ Some cause.Failed) ⊎ (over ≡ Some cause.NoMemory))) ⊎ ((c.done ≡ []) × (over ≡ Some cause.NoMemory)) → IsPart (end_of left over) c.last c.done
    by (inl (d, inl e)) = inl (d, inl (rw (c.staying, e) refl))
    by (inl (d, inr e)) = inl (d, inr (over_fed left over e))
    by (inr (d, e)) = inr (d, over_fed left over e)

-- what is done is paced
met_paced : (read : Reader) (w : World) (s : Stage) (over : Option Cause) (left : Bool) (polls : List Poll) (deeds : List Deed) → Met read w s over left polls deeds → is_paced read w s deeds ≡ true
met_paced read w s over left polls deeds (inl e) = rw (e ∙ sym (append-nil (given read w s polls))) (given_paced read w s polls [] (nothing_paced read w (after_polls read w s polls)))
met_paced read w s over left polls deeds (inr c) = rw c.deeds_are (given_paced read w s c.before c.done (by c.part))
  where
    by : ((c.done ≡ asked_by c.last) × ((over ≡ Some cause.Failed) ⊎ (over ≡ Some cause.NoMemory))) ⊎ ((c.done ≡ []) × (over ≡ Some cause.NoMemory)) → is_paced read w (after_polls read w s c.before) c.done ≡ true
    by (inl (d, why)) = rw d (asked_paced read w (after_polls read w s c.before) c.last)
    by (inr (d, why)) = rw d (nothing_paced read w (after_polls read w s c.before))

module _ {L : Type 0} (w : World) (m : Machine) (start now next : Meaning) (d : Desk L) (machine : Machine) (o : Outlet L) (lines : List Line)
    (lasts : Lasts d.outlet.over o.over)
    (delivers : (made : List (List ℕ)) → Delivered start now d.outlet made → Delivered start next o (made ++ texts_of lines))
    (polls : next.polls ≡ now.polls) (received : next.received ≡ now.received)
    (g : Going w m start now d machine) where
  told : Delivered start next o (g.made ++ texts_of lines)
  told = delivers g.made g.held.delivered

  pub carries : (d.outlet.over ≢ Some cause.NoMemory → d.unapplied.items ≡ []) → Carries start next d.journal.events.items d.unapplied.items o.sent.items o.unsent.items (end_of d.left o.over)
  unfolding told
  carries applied =
      let t = told in
      record {
        sent_is = t.sent_is;
        all_sent = by o.over refl;
        read = rw (received, requests_are, g.held.deeds_are) (rw append-nil at g.held.read);
        all_applied = λ bye fed. applied (unstarved d.outlet.over lasts (over_ends d.left o.over fed));
        closed = λ e. t.closed (over_closed d.left o.over e);
        failed = λ e. t.failed (over_failed d.left o.over e);
        counts = t.counts;
        shut = t.shut;
      }
    where
      by : (c : Option Cause) → o.over ≡ c → (o.unsent.items ≡ []) ⊎ (Rose start.ends next.ends ⊎ (Rose start.faults next.faults ⊎ (end_of d.left o.over ≡ ends.NoMemory)))
      by None e = inl ((delivers g.made g.held.delivered).unsent e)
      by (Some cause.Closed) e = inr (inl ((delivers g.made g.held.delivered).closed e))
      by (Some cause.Failed) e = inr (inr (inl ((delivers g.made g.held.delivered).failed e)))
      by (Some cause.NoMemory) e = inr (inr (inr (over_fed d.left o.over e)))

      unstarved : (before : Option Cause) → Lasts before o.over → o.over ≢ Some cause.NoMemory → before ≢ Some cause.NoMemory
      unstarved None l f e = let bad : None ≡ Some cause.NoMemory = e in cc
      unstarved (Some x) (inl l) f e = f (l ∙ e)
      unstarved (Some x) (inr l) f e = f l

  pub applies : lines ≡ closing_lines machine.heard → (d.left || is_some d.outlet.over) ≡ true → (read : Reader) → IsReader read
      → Applies read w m d.journal.events.items o.sent.items o.unsent.items (end_of d.left o.over)
  unfolding told output_of
  applies closing over read reader =
      let did = g.did read reader in
      let t = told in
      let deeds : deeds_of d.journal.events.items ≡ g.deeds = g.held.deeds_are in
      let all : output_of read w m d.journal.events.items ≡ g.made ++ texts_of lines =
      ap (λ r. texts_of (closed r)) (journal_run read w (at_start m) d.journal.events.items)
      ∙ ap (λ ds. texts_of (lines_of read w (at_start m) ds ++ closing_lines (after_deeds read w (at_start m) ds).machine.heard)) deeds
      ∙ map-append line_text (lines_of read w (at_start m) g.deeds) (closing_lines (after_deeds read w (at_start m) g.deeds).machine.heard)
      ∙ ap₂ (λ a b. a ++ texts_of b) (sym did.made_are) (ap (λ (k : Machine). closing_lines k.heard) (sym did.machine_is) ∙ sym closing) in
      record {
        output = (t.lines.0, all ∙ t.lines.1, λ fed. t.lines.2 (over_ends d.left o.over fed));
        bye = λ e. ap (λ ds. (after_deeds read w (at_start m) ds).left) deeds ∙ sym did.left_is ∙ left_bye d.left d.outlet.over o.over over lasts e;
        left = λ e. bye_left d.left o.over (did.left_is ∙ sym (ap (λ ds. (after_deeds read w (at_start m) ds).left) deeds) ∙ e);
        last = rw deeds did.last;
        paced = rw deeds (met_paced read w (at_start m) d.outlet.over d.left g.polls g.deeds (g.met read reader));
      }

  pub in_lock_step : (read : Reader) → IsReader read → InLockStep read w m start next d.journal.events.items (end_of d.left o.over)
  in_lock_step read reader = record {
    polls = g.polls;
    told = rw polls g.held.polls_are;
    met = rw g.held.deeds_are (met_ends read w (at_start m) o.over d.left g.polls g.deeds (met_on read w (at_start m) d.outlet.over o.over d.left g.polls g.deeds lasts (g.met read reader)));
  }
