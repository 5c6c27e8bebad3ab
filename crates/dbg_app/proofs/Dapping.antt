-- A conversation with an editor: what was conversed is what the files hold, and how it ends.
use Rattle.std.proofs.Common.{◌≡◌, ◌<◌, ◌≤◌, ◌⊎◌, inl, inr, ◌||◌, ◌==◌, ℕ, Bool, List, [], ◌++◌, map, Option, Some, None, refl, sym, ◌∙◌, ap, subst, IfSome, IsTrue, arith, lit<}
use Rattle.io_edge.specs.Taken.{Grows}
use Rattle.io_edge.proofs.Stops.{nothing_more}
use Rattle.project_read.specs.Asking.{AreAllNumbered}
use Rattle.show_net.specs.declared.service.Service.{Service}
use Rattle.show_net.specs.Over.{Over, Shows}
use Rattle.dap_link.specs.Conversation.{last_part}
use Rattle.dap_run.specs.declared.ends.TalkEnd.{TalkEnd}
use Rattle.dap_run.specs.declared.ends.TalkEnd.TheVariants as talk
use Rattle.dap_net.specs.Conversations.{ConversesOver}
use Rattle.std.proofs.lemmas.List.{append-nil}
use Rattle.dbg_app.specs.Command.{Command, file_names, rest_names}
use Rattle.dbg_app.specs.Names.{AsksFrontOf, StopsInsideOf, AsksBehind}
use Rattle.dbg_app.specs.Answers.{Contents, IfAsked}
use Rattle.dbg_app.specs.Judged.{AsksOwn, Judges, HasText, TakesText, TakesTextFront, judged_status}
use Rattle.dbg_app.specs.Outcome.{is_status, halt_status, EndsAsAsked, TakesSome, Completes}
use Rattle.dbg_app.specs.Serving.{IsRefusal, JudgesOffer}
use Rattle.dbg_app.specs.Dap.{dap_of, talk_status, is_refused, is_whole, is_front, is_dap_status, Talked, TalksFront, IsUnheard, CompletesTalk, AsksTalk, AsksByStatus}
use Rattle.dbg_app.specs.declared.halt.Halt.{Halt}
use Rattle.dbg_app.specs.declared.halt.Halt.TheVariants as halts
use Rattle.dbg_app.specs.declared.judge.Judged.{Judged}
use Rattle.dbg_app.specs.declared.shown.Shown.TheVariants as shown
use Rattle.dbg_app.proofs.Asking.{offer_status}
use Rattle.dbg_app.proofs.Statuses.{source_asked, stimulus_asked, all_asked, early_is}
use Rattle.dbg_app.proofs.Ending.{either, same_number, late_status, done_taken, front_taken, written_completes}

-- ---- the classes of ends

pub refused_is : (status : ℕ) → IsTrue (is_refused status) → (status ≡ 2) ⊎ ((status ≡ 3) ⊎ (status ≡ 4))
refused_is status known = elim (either (status == 2 || status == 3) (status == 4) known) [
  | inl first ↦ elim (either (status == 2) (status == 3) first) [
    | inl is ↦ inl (same_number status 2 is)
    | inr is ↦ inr (inl (same_number status 3 is))
  ]
  | inr is ↦ inr (inr (same_number status 4 is))
]

pub whole_is : (status : ℕ) → IsTrue (is_whole status) → (status ≡ 0) ⊎ (status ≡ 10)
whole_is status known = elim (either (status == 0) (status == 10) known) [ inl is ↦ inl (same_number status 0 is) | inr is ↦ inr (same_number status 10 is) ]

pub front_is : (status : ℕ) → IsTrue (is_front status) → (status ≡ 8) ⊎ (status ≡ 9)
front_is status known = elim (either (status == 8) (status == 9) known) [ inl is ↦ inl (same_number status 8 is) | inr is ↦ inr (same_number status 9 is) ]

pub refused_early : (status : ℕ) → IsTrue (is_refused status) → status < 7
refused_early status known = elim (refused_is status known) [ inl e ↦ omega (arith, e) | inr (inl e) ↦ omega (arith, e) | inr (inr e) ↦ omega (arith, e) ]

pub front_late : (status : ℕ) → IsTrue (is_front status) → 7 < status
front_late status known = elim (front_is status known) [ inl e ↦ omega (arith, e) | inr e ↦ omega (arith, e) ]

-- of what was accepted
pub talk_known : (end : TalkEnd) → IsTrue (is_dap_status (talk_status end))
talk_known talk.Bye = refl
talk_known talk.AtEnd = refl
talk_known (talk.Fault k) = refl
talk_known talk.NotRead = refl
talk_known talk.NotTaken = refl
talk_known talk.NoMemory = refl

pub talk_not_refused : (end : TalkEnd) → talk_status end ≡ 2 ⊎ (talk_status end ≡ 3 ⊎ talk_status end ≡ 4) → ⊥
talk_not_refused talk.Bye e = elim e [ inl p ↦ (let bad : 0 ≡ 2 = p in cc) | inr (inl p) ↦ (let bad : 0 ≡ 3 = p in cc) | inr (inr p) ↦ (let bad : 0 ≡ 4 = p in cc) ]
talk_not_refused talk.AtEnd e = elim e [ inl p ↦ (let bad : 0 ≡ 2 = p in cc) | inr (inl p) ↦ (let bad : 0 ≡ 3 = p in cc) | inr (inr p) ↦ (let bad : 0 ≡ 4 = p in cc) ]
talk_not_refused (talk.Fault k) e = elim e [ inl p ↦ (let bad : 10 ≡ 2 = p in cc) | inr (inl p) ↦ (let bad : 10 ≡ 3 = p in cc) | inr (inr p) ↦ (let bad : 10 ≡ 4 = p in cc) ]
talk_not_refused talk.NotRead e = elim e [ inl p ↦ (let bad : 7 ≡ 2 = p in cc) | inr (inl p) ↦ (let bad : 7 ≡ 3 = p in cc) | inr (inr p) ↦ (let bad : 7 ≡ 4 = p in cc) ]
talk_not_refused talk.NotTaken e = elim e [ inl p ↦ (let bad : 8 ≡ 2 = p in cc) | inr (inl p) ↦ (let bad : 8 ≡ 3 = p in cc) | inr (inr p) ↦ (let bad : 8 ≡ 4 = p in cc) ]
talk_not_refused talk.NoMemory e = elim e [ inl p ↦ (let bad : 9 ≡ 2 = p in cc) | inr (inl p) ↦ (let bad : 9 ≡ 3 = p in cc) | inr (inr p) ↦ (let bad : 9 ≡ 4 = p in cc) ]

pub talk_heard : (end : TalkEnd) → IsTrue (is_refused (talk_status end)) → ⊥
talk_heard end known = talk_not_refused end (refused_is (talk_status end) known)

pub talk_unread : (end : TalkEnd) → talk_status end ≡ 7 → end ≡ talk.NotRead
talk_unread talk.Bye e = absurd (let bad : 0 ≡ 7 = e in cc)
talk_unread talk.AtEnd e = absurd (let bad : 0 ≡ 7 = e in cc)
talk_unread (talk.Fault k) e = absurd (let bad : 10 ≡ 7 = e in cc)
talk_unread talk.NotRead e = refl
talk_unread talk.NotTaken e = absurd (let bad : 8 ≡ 7 = e in cc)
talk_unread talk.NoMemory e = absurd (let bad : 9 ≡ 7 = e in cc)

pub talk_untaken : (end : TalkEnd) → talk_status end ≡ 8 → end ≡ talk.NotTaken
talk_untaken talk.Bye e = absurd (let bad : 0 ≡ 8 = e in cc)
talk_untaken talk.AtEnd e = absurd (let bad : 0 ≡ 8 = e in cc)
talk_untaken (talk.Fault k) e = absurd (let bad : 10 ≡ 8 = e in cc)
talk_untaken talk.NotRead e = absurd (let bad : 7 ≡ 8 = e in cc)
talk_untaken talk.NotTaken e = refl
talk_untaken talk.NoMemory e = absurd (let bad : 9 ≡ 8 = e in cc)

-- of what was refused
pub refusal_known : (judged : Judged) (status : ℕ) → IsTrue (is_status status) → (judged_status judged ≡ 2) ⊎ ((judged_status judged ≡ 3) ⊎ (judged_status judged ≡ 4)) → (status < 7 → status ≡ judged_status judged) → (status ≡ 7 → ⊥)
    → IsTrue (is_dap_status status)
refusal_known judged status known refusal is seven = elim (late_status status known) [
  | inl early ↦ elim refusal [ inl e ↦ rw (is early ∙ e) refl | inr (inl e) ↦ rw (is early ∙ e) refl | inr (inr e) ↦ rw (is early ∙ e) refl ]
  | inr (inl e) ↦ absurd (seven e)
  | inr (inr (inl e)) ↦ rw e refl
  | inr (inr (inr e)) ↦ rw e refl
]

pub refusal_not_whole : (judged : Judged) (status : ℕ) → IsTrue (is_status status) → (judged_status judged ≡ 3) ⊎ (judged_status judged ≡ 4) → (status < 7 → status ≡ judged_status judged) → IsTrue (is_whole status) → ⊥
refusal_not_whole judged status known refusal is whole = elim (whole_is status whole) [
  | inl zero ↦
      let same = is (omega (arith, zero)) in
      elim refusal [ inl e ↦ omega (arith, zero, same, e) | inr e ↦ omega (arith, zero, same, e) ]
  | inr ten ↦ elim (late_status status known) [ inl e ↦ omega (arith, ten, e) | inr (inl e) ↦ omega (arith, ten, e) | inr (inr (inl e)) ↦ omega (arith, ten, e) | inr (inr (inr e)) ↦ omega (arith, ten, e) ]
]

pub halt_known : (halt : Halt) → IsTrue (is_dap_status (halt_status halt))
halt_known halts.ReadFault = refl
halt_known halts.WriteFault = refl
halt_known halts.NoMemory = refl

pub halt_not_whole : (halt : Halt) → IsTrue (is_whole (halt_status halt)) → ⊥
halt_not_whole halts.ReadFault e = cc
halt_not_whole halts.WriteFault e = cc
halt_not_whole halts.NoMemory e = cc

pub halt_unread : (halt : Halt) → halt_status halt ≡ 7 → halt ≡ halts.ReadFault
halt_unread halts.ReadFault e = refl
halt_unread halts.WriteFault e = absurd (let bad : 8 ≡ 7 = e in cc)
halt_unread halts.NoMemory e = absurd (let bad : 9 ≡ 7 = e in cc)

-- where a file was not read, or memory ran out before anything was written
pub halt_completes : (told : Option Contents) (command : Command) (halt : Halt) (old new : Option (List ℕ)) (read_rose heard_rose write_rose : Type 0) → (halt ≡ halts.ReadFault → read_rose) → (halt ≡ halts.WriteFault → ⊥)
    → IfSome told (λ files. CompletesTalk files command (halt_status halt) old new read_rose heard_rose write_rose)
halt_completes None command halt old new read_rose heard_rose write_rose read write = tt
halt_completes (Some files) command halts.ReadFault old new read_rose heard_rose write_rose read write = λ answer asks no_read no_heard no_write. absurd (no_read (read refl))
halt_completes (Some files) command halts.WriteFault old new read_rose heard_rose write_rose read write = λ answer asks no_read no_heard no_write. absurd (write refl)
halt_completes (Some files) command halts.NoMemory old new read_rose heard_rose write_rose read write = λ answer asks no_read no_heard no_write. inr (inr refl)

-- ---- what was conversed

if_asked : (told : Option Contents) (command : Command) (P : Contents → Command → Type 0) → IfSome told (λ files. P files command) → IfAsked told (Some command) P
if_asked None command P h = tt
if_asked (Some files) command P h = h

pub asked_is : (told : Option Contents) (words : List (List ℕ)) (command : Command) (P : Contents → Command → Type 0) → Some command ≡ dap_of words → IfSome told (λ files. P files command) → IfAsked told (dap_of words) P
asked_is told words command P e h = subst (λ (o : Option Command). IfAsked told o P) e (if_asked told command P h)

pub none_asked : (told : Option Contents) (words : List (List ℕ)) (P : Contents → Command → Type 0) → None ≡ dap_of words → IfAsked told (dap_of words) P
none_asked told words P e = subst (λ (o : Option Command). IfAsked told o P) e (nothing told)
  where
    nothing : (told : Option Contents) → IfAsked told None P
    nothing None = tt
    nothing (Some files) = tt

module _ (command : Command) (end : TalkEnd) (l0 l1 old new : Option (List ℕ)) (service : Service) (shows : (over : Over) × Shows service over) where
  pub talks : (told : Option Contents) (names : List (List ℕ)) → IfSome told (λ files. JudgesOffer files command (shown.Accepted service)) → IfSome told (λ files. AreAllNumbered files command.source names)
      → ((over : Over) → Shows service over → ConversesOver over (map last_part names) end l0 l1 old new) → IfSome told (λ files. Talked files command (talk_status end) l0 l1 old new)
  talks None names j numbered text = tt
  talks (Some files) names j numbered text = record { end = end; is = refl; over = record { over = shows.0; holds = j shows.0 shows.1; names = names; numbered = numbered; text = text shows.0 shows.1 } }

  module _ (read_rose heard_rose write_rose : Type 0) (files : Contents) (bare : command.requests ≡ None) (j : JudgesOffer files command (shown.Accepted service)) where
    by_end : (end : TalkEnd) → (end ≡ talk.NotRead → heard_rose) → (end ≡ talk.NotTaken → write_rose) → CompletesTalk files command (talk_status end) old new read_rose heard_rose write_rose
    by_end talk.Bye heard write = λ answer asks no_read no_heard no_write. inl (sym (offer_status files command shows.0 bare (j shows.0 shows.1) answer asks), λ other. absurd (other refl))
    by_end talk.AtEnd heard write = λ answer asks no_read no_heard no_write. inl (sym (offer_status files command shows.0 bare (j shows.0 shows.1) answer asks), λ other. absurd (other refl))
    by_end (talk.Fault k) heard write = λ answer asks no_read no_heard no_write. inr (inl (offer_status files command shows.0 bare (j shows.0 shows.1) answer asks, refl))
    by_end talk.NotRead heard write = λ answer asks no_read no_heard no_write. absurd (no_heard (heard refl))
    by_end talk.NotTaken heard write = λ answer asks no_read no_heard no_write. absurd (no_write (write refl))
    by_end talk.NoMemory heard write = λ answer asks no_read no_heard no_write. inr (inr refl)

  pub talk_completes : (read_rose heard_rose write_rose : Type 0) (told : Option Contents) → command.requests ≡ None → IfSome told (λ files. JudgesOffer files command (shown.Accepted service))
      → (end ≡ talk.NotRead → heard_rose) → (end ≡ talk.NotTaken → write_rose) → IfSome told (λ files. CompletesTalk files command (talk_status end) old new read_rose heard_rose write_rose)
  talk_completes read_rose heard_rose write_rose None bare j heard write = tt
  talk_completes read_rose heard_rose write_rose (Some files) bare j heard write = by_end read_rose heard_rose write_rose files bare j end heard write

-- ---- what was refused

module _ (command : Command) (status : ℕ) (old new : Option (List ℕ)) (judged : Judged) where
  as_asked : (told : Option Contents) → IfSome told (λ files. Judges files command judged) → IfAsked told (Some command) (λ files command. Judges files command judged)
  as_asked None h = tt
  as_asked (Some files) h = h

  completes : (read_rose heard_rose write_rose : Type 0) (told : Option Contents) → IfAsked told (Some command) (λ files command. Completes [] files command status old new read_rose write_rose)
      → IfSome told (λ files. CompletesTalk files command status old new read_rose heard_rose write_rose)
  completes read_rose heard_rose write_rose None h = tt
  completes read_rose heard_rose write_rose (Some files) h = λ answer asks no_read no_heard no_write. elim (h answer asks no_read no_write) [
    | inl found ↦ inl (found.0, λ other. found.1)
    | inr starved ↦ inr (inr starved)
  ]

  pub refused_completes : (read_rose heard_rose write_rose : Type 0) (told : Option Contents) → IfSome told (λ files. Judges files command judged) → IsTrue (is_status status) → (status < 7 → status ≡ judged_status judged)
      → (status < 7 → TakesText [] judged old new) → (status ≡ 7 → ⊥) → (status ≡ 8 → write_rose) → IfSome told (λ files. CompletesTalk files command status old new read_rose heard_rose write_rose)
  refused_completes read_rose heard_rose write_rose told j known is early seven write =
      completes read_rose heard_rose write_rose told (written_completes [] told (Some command) judged status old new read_rose write_rose known (as_asked told j) is early seven write)

  ends : (told : Option Contents) → IfAsked told (Some command) (λ files command. EndsAsAsked [] files command status old new) → IfSome told (λ files. EndsAsAsked [] files command status old new)
  ends None h = tt
  ends (Some files) h = h

  pub refused_ends : (told : Option Contents) → IfSome told (λ files. Judges files command judged) → HasText judged → status ≡ judged_status judged → TakesText [] judged old new → IfSome told (λ files. EndsAsAsked [] files command status old new)
  refused_ends told j text is taken = ends told (done_taken [] told (Some command) judged status old new (as_asked told j) text is taken)

  module _ (l0 l1 : Option (List ℕ)) (f0 f1 : ℕ) (unheard : IsUnheard l0 l1 f0 f1) where
    fronts : (told : Option Contents) → IfAsked told (Some command) (λ files command. TakesSome [] files command old new) → IfSome told (λ files. TalksFront files command status l0 l1 f0 f1 old new)
    fronts None h = tt
    fronts (Some files) h = inl (record { unheard = unheard; taken = h })

    pub refused_front : (told : Option Contents) → IfSome told (λ files. Judges files command judged) → HasText judged → TakesTextFront [] judged old new → IfSome told (λ files. TalksFront files command status l0 l1 f0 f1 old new)
    refused_front told j text taken = fronts told (front_taken [] told (Some command) judged old new (as_asked told j) text taken)

-- nothing was written
pub nothing_front : (told : Option Contents) (command : Command) (status : ℕ) (l0 l1 : Option (List ℕ)) (f0 f1 : ℕ) (old new : Option (List ℕ)) → IsUnheard l0 l1 f0 f1 → new ≡ old → IfSome told (λ files. TalksFront files command status l0 l1 f0 f1 old new)
nothing_front None command status l0 l1 f0 f1 old new unheard same = tt
nothing_front (Some files) command status l0 l1 f0 f1 old new unheard same = inl (record { unheard = unheard; taken = inl same })

pub talked_front : (told : Option Contents) (command : Command) (status : ℕ) (l0 l1 : Option (List ℕ)) (f0 f1 : ℕ) (old new : Option (List ℕ)) → IfSome told (λ files. Talked files command status l0 l1 old new)
    → IfSome told (λ files. TalksFront files command status l0 l1 f0 f1 old new)
talked_front None command status l0 l1 f0 f1 old new h = tt
talked_front (Some files) command status l0 l1 f0 f1 old new h = inr h

-- ---- the files that were asked for

pub no_files : (told : Option Contents) (words : List (List ℕ)) (status : ℕ) (asked : Option (List (List ℕ))) → None ≡ dap_of words → AsksByStatus told (dap_of words) status asked asked
no_files told words status asked e = subst (λ (o : Option Command). AsksByStatus told o status asked asked) e (nothing_more asked)

pub no_front : (told : Option Contents) (words : List (List ℕ)) (asked : Option (List (List ℕ))) → None ≡ dap_of words → AsksFrontOf told (dap_of words) asked asked
no_front told words asked e = subst (λ (o : Option Command). AsksFrontOf told o asked asked) e refl

module _ (told : Option Contents) (words : List (List ℕ)) (command : Command) (is_command : Some command ≡ dap_of words) (bare : command.requests ≡ None) where
  with_stimulus : file_names command.stimulus ≡ rest_names command
  with_stimulus = sym (append-nil (file_names command.stimulus)) ∙ ap (λ (n : Option (List ℕ)). file_names command.stimulus ++ file_names n) (sym bare)

  of_command : (status : ℕ) (old new : Option (List (List ℕ))) → AsksTalk told command status old new → AsksByStatus told (dap_of words) status old new
  of_command status old new h = subst (λ (o : Option Command). AsksByStatus told o status old new) is_command h

  pub front_command : (old new : Option (List (List ℕ))) → AsksFrontOf told (Some command) old new → AsksFrontOf told (dap_of words) old new
  front_command old new h = subst (λ (o : Option Command). AsksFrontOf told o old new) is_command h

  pub unread_command : {S : Type 0} (asked : S → Option (List (List ℕ))) (faults : S → ℕ) (old new : S) → StopsInsideOf told (Some command) asked faults old new → StopsInsideOf told (dap_of words) asked faults old new
  unread_command asked faults old new h = subst (λ (o : Option Command). StopsInsideOf told o asked faults old new) is_command h

  -- all were asked for before the conversation
  pub talked_files : (end : TalkEnd) (old new : Option (List (List ℕ))) → AsksBehind told command.source (rest_names command) old new → AsksByStatus told (dap_of words) (talk_status end) old new
  talked_files end old new p = of_command (talk_status end) old new (record {
    source = λ three. absurd (talk_not_refused end (inr (inl three)));
    all = λ late. p;
  })

  -- a refusal was asked for as it is
  pub refused_files : (j : Judged) (status : ℕ) (old new : Option (List (List ℕ))) → IsTrue (is_status status) → AsksOwn told command old new j → (status < 7 → status ≡ judged_status j) → AsksByStatus told (dap_of words) status old new
  refused_files j status old new known own is =
      of_command status old new (record {
        source = λ three. source_asked told command old new j (sym three ∙ is (early_is status 3 (omega arith) three)) own;
        all = λ late. elim late [
          | inl zero ↦ all_asked told command old new j status (inl zero) (is (early_is status 0 (omega arith) zero)) own
          | inr (inl four) ↦ subst (λ (more : List (List ℕ)). AsksBehind told command.source more old new) with_stimulus (stimulus_asked told command old new j (sym four ∙ is (early_is status 4 (omega arith) four)) own)
          | inr (inr ten) ↦ absurd (elim (late_status status known) [ inl e ↦ omega (arith, ten, e) | inr (inl e) ↦ omega (arith, ten, e) | inr (inr (inl e)) ↦ omega (arith, ten, e) | inr (inr (inr e)) ↦ omega (arith, ten, e) ])
        ];
      })

  -- where no file is judged nothing is said of them
  pub halted_files : (halt : Halt) (old new : Option (List (List ℕ))) → AsksByStatus told (dap_of words) (halt_status halt) old new
  halted_files halt old new = of_command (halt_status halt) old new (record {
    source = λ three. absurd (not_three halt three);
    all = λ late. absurd (not_all halt late);
  })
    where
      not_three : (halt : Halt) → halt_status halt ≡ 3 → ⊥
      not_three halts.ReadFault e = let bad : 7 ≡ 3 = e in cc
      not_three halts.WriteFault e = let bad : 8 ≡ 3 = e in cc
      not_three halts.NoMemory e = let bad : 9 ≡ 3 = e in cc

      not_all : (halt : Halt) → (halt_status halt ≡ 0) ⊎ ((halt_status halt ≡ 4) ⊎ (halt_status halt ≡ 10)) → ⊥
      not_all halts.ReadFault e = elim e [ inl p ↦ (let bad : 7 ≡ 0 = p in cc) | inr (inl p) ↦ (let bad : 7 ≡ 4 = p in cc) | inr (inr p) ↦ (let bad : 7 ≡ 10 = p in cc) ]
      not_all halts.WriteFault e = elim e [ inl p ↦ (let bad : 8 ≡ 0 = p in cc) | inr (inl p) ↦ (let bad : 8 ≡ 4 = p in cc) | inr (inr p) ↦ (let bad : 8 ≡ 10 = p in cc) ]
      not_all halts.NoMemory e = elim e [ inl p ↦ (let bad : 9 ≡ 0 = p in cc) | inr (inl p) ↦ (let bad : 9 ≡ 4 = p in cc) | inr (inr p) ↦ (let bad : 9 ≡ 10 = p in cc) ]
