-- Each message of a conversation is answered in order and once, under numbers that rise.
use Rattle.std.proofs.Common.{◌≡◌, ℕ, ◌+◌, ◌*◌, ◌-◌, ◌^◌, ◌<◌, ◌≤◌, ◌&&◌, Bool, true, false, List, [], ◌∷◌, ◌++◌, length, map, Option, Some, None, refl, sym, ap, ap₂, ◌∙◌, subst, arith, length-append}
use Rattle.std.specs.Prelude.{is_some, codes, nat_le, nat_lt, option_and_then, if◌then◌else◌}
use Rattle.std.specs.Option.{option_map_or}
use Rattle.std.proofs.lemmas.List.{map-append}
use Rattle.exec_core.specs.Block.{Name}
use Rattle.serde_json.specs.Data.{Data}
use Rattle.serde_json.specs.Find.{as_str}
use Rattle.symtab_json.specs.Entries.{kept_if, told_count, told_member}
use Rattle.symtab_json.specs.Told.{json_of}
use Rattle.world_core.specs.World.{World}
use Rattle.machine_core.specs.declared.request.Cmd.TheVariants as cmd
use Rattle.machine_core.specs.declared.reply.Body.{Body}
use Rattle.machine_core.specs.Reading.{Reader}
use Rattle.machine_core.specs.Machine.{Machine}
use Rattle.dap_text.specs.declared.message.Message.{Message}
use Rattle.dap_text.specs.declared.message.EditorCmd.{EditorCmd}
use Rattle.dap_text.specs.declared.message.EditorCmd.TheVariants as asks
use Rattle.dap_text.specs.declared.payload.Payload.{Payload}
use Rattle.dap_text.specs.declared.payload.Payload.TheVariants as payload
use Rattle.dap_text.specs.declared.payload.Reason.{Reason}
use Rattle.dap_text.specs.declared.payload.Reason.TheVariants.{Breakpoint, Step}
use Rattle.dap_text.specs.declared.payload.Happening.{Happening}
use Rattle.dap_text.specs.Messages as messages
use Rattle.dap_text.specs.Messages.{message_by, message_of, told_message}
use Rattle.dap_text.specs.Payloads.{failure_in}
use Rattle.dap_text.specs.Texts.{event_text, response_text}
use Rattle.dap_link.specs.Frames.{is_message, is_seq}
use Rattle.dap_link.specs.Conversation.{Conversation, Led, Spoken, asked_so, gens_by, happened_texts, if_named, is_last, looked_by, most_signals, next_written, path_named, reaction_to, refusal_name, run_by, runs_unless, spoken_by, spoken_of, written_then}
use Rattle.dap_link.specs.Talks.{conversed, spoken_then, spoken_unless}
use Rattle.dap_link.specs.Answers.{AnsweredInOrder, Event, FramedAreMessages, InOrder, IsAnswer, OthersSayNothing, Response, Written, answered, AreNumbered, eventful, last, nothing, passed, single, written_text}

-- ---- what is framed is a message

kept_seq : (d : Data) (n : ℕ) (b : Bool) (command : Option (List ℕ)) → nat_lt n (2 ^ 63) ≡ b → is_some (message_by d (kept_if messages.is_seq (Some n)) command) ≡ (b && is_some command)
kept_seq d n true None e = rw e refl
kept_seq d n true (Some command) e = rw e refl
kept_seq d n false command e = rw e refl

by_parts : (d : Data) (seq : Option ℕ) (command : Option (List ℕ)) → is_some (message_by d (kept_if messages.is_seq seq) command) ≡ (is_seq seq && is_some command)
by_parts d None command = refl
by_parts d (Some n) command = kept_seq d n (nat_lt n (2 ^ 63)) command refl

by_data : (found : Option Data) → is_some (option_and_then message_of found) ≡ option_map_or is_message found false
by_data None = refl
by_data (Some d) = by_parts d (told_member told_count (codes "seq") d) (told_member as_str (codes "command") d)

pub framed_are_messages : FramedAreMessages
framed_are_messages body = by_data (json_of body)

pub others_say_nothing : OthersSayNothing
others_say_nothing read w names c body e = ap (spoken_of read w names c) e

-- ---- an event stands behind what did not fail

-- it succeeded, if anything happened
Succeeds : Led → Type 0
Succeeds led = (happened : Happening) → led.happened ≡ Some happened → failure_in led.told ≡ None

-- nothing happened
still : (told : Payload) (m : Machine) → Succeeds (record { after = m; told = told; happened = None })
unfolding Succeeds
still told m = λ h (e : None ≡ Some h). cc

run_succeeds : (w : World) (why : Reason) (told : Payload) (m : Machine) (refusal : Option (List ℕ)) → failure_in told ≡ None → Succeeds (runs_unless w why told m refusal)
unfolding Succeeds
run_succeeds w why told m None e = λ h f. e
run_succeeds w why told m (Some name) e = λ h (f : None ≡ Some h). cc

ran_succeeds : (w : World) (why : Reason) (told : Payload) (a : Machine × Body) → failure_in told ≡ None → Succeeds (run_by w why told a)
ran_succeeds w why told a e = run_succeeds w why told a.0 (refusal_name a.1) e

abilities_succeed : (m : Machine) (happened : Option Happening) → Succeeds (record { after = m; told = payload.Abilities; happened = happened })
unfolding Succeeds
abilities_succeed m happened = λ h f. refl

test_succeeds : (b : Bool) (x y : Led) → Succeeds x → Succeeds y → Succeeds (if b then x else y)
test_succeeds true x y sx sy = sx
test_succeeds false x y sx sy = sy

named_succeeds : (m : Machine) (path : Option Name) (look : Name → Led) → ((p : Name) → Succeeds (look p)) → Succeeds (if_named m path look)
named_succeeds m None look e = still _ m
named_succeeds m (Some path) look e = e path

module _ (read : Reader) (w : World) (names : List (List ℕ)) where
  succeeds : (c : Conversation) (cmd : EditorCmd) → Succeeds (reaction_to read w names c cmd).led
  succeeds c asks.Initialize = abilities_succeed _ _
  succeeds c asks.Launch = still _ _
  succeeds c (asks.SetBreakpoints path lines) = still _ _
  succeeds c asks.ConfigurationDone = ran_succeeds w Breakpoint payload.Empty (asked_so read w c.machine cmd.Continue) refl
  succeeds c asks.Continue = ran_succeeds w Breakpoint payload.Continued (asked_so read w c.machine cmd.Continue) refl
  succeeds c asks.ReverseContinue = ran_succeeds w Breakpoint payload.Empty (asked_so read w c.machine cmd.Reverse) refl
  succeeds c asks.Step = ran_succeeds w Step payload.Empty (asked_so read w c.machine (cmd.Step None)) refl
  succeeds c asks.StepBack = ran_succeeds w Step payload.Empty (asked_so read w c.machine (cmd.Back None)) refl
  succeeds c asks.Pause = still _ _
  succeeds c asks.Threads = still _ _
  succeeds c (asks.StackTrace thread) = still _ _
  succeeds c (asks.Scopes frame) = still _ _
  succeeds c (asks.Variables n) =
      let look = λ (path : Name). looked_by (asked_so read w c.machine (cmd.Values path)) in
      test_succeeds (nat_le n most_signals) (if_named c.machine (path_named w.paths n) look) (gens_by w (n - most_signals) (asked_so read w c.machine cmd.Threads))
      (named_succeeds c.machine (path_named w.paths n) look (λ p. still _ _)) (still _ _)
  succeeds c (asks.Evaluate expression frame) =
      named_succeeds c.machine (path_named w.paths frame) (λ path. looked_by (asked_so read w c.machine (cmd.Eval path expression))) (λ p. still _ _)
  succeeds c asks.Disconnect = still _ _
  succeeds c asks.BadShape = still _ _
  succeeds c asks.UnknownCmd = still _ _

succeeds_so : (read : Reader) (w : World) (names : List (List ℕ)) (c : Conversation) (cmd : EditorCmd) (h : Happening)
    → (reaction_to read w names c cmd).led.happened ≡ Some h → failure_in (reaction_to read w names c cmd).led.told ≡ None
unfolding Succeeds
succeeds_so read w names c cmd h e = succeeds read w names c cmd h e

-- ---- one message

next_is : (n : ℕ) → n + 1 < 2 ^ 64 → next_written n ≡ n + 1
next_is n few = omega arith

-- what one message leads to is an answer to it
record Answered (message : Message) (n : ℕ) (lines : List (List ℕ)) (written : ℕ) : Type 0 where
  all : List Written
  texts : lines ≡ map written_text all
  is : IsAnswer message all
  numbered : AreNumbered n all
  counted : written ≡ n + length all
  two : length all ≤ 2

one_answered : (message : Message) (n : ℕ) (told : Payload) (happened : Option Happening) → n + 2 < 2 ^ 64 → ((h : Happening) → happened ≡ Some h → failure_in told ≡ None)
    → Answered message n (response_text (next_written n) message.seq message.command told ∷ happened_texts (next_written n) happened) (written_then (next_written n) happened)
one_answered message n told None few good =
    let e = next_is n (omega arith) in
    record {
      all = Response (n + 1) message.seq message.command told ∷ [];
      texts = ap (λ k. response_text k message.seq message.command told ∷ []) e;
      is = single;
      numbered = (refl, tt);
      counted = e;
      two = omega arith;
    }
one_answered message n told (Some h) few good =
    let e = next_is n (omega arith) in
    let f : next_written (next_written n) ≡ n + 1 + 1 = ap next_written e ∙ next_is (n + 1) (omega arith) in
    record {
      all = Response (n + 1) message.seq message.command told ∷ Event (n + 1 + 1) h ∷ [];
      texts = ap₂ (λ k j. response_text k message.seq message.command told ∷ event_text j h ∷ []) e f;
      is = eventful (good h refl);
      numbered = (refl, (refl, tt));
      counted = f ∙ omega arith;
      two = omega arith;
    }

-- ---- one after another

numbered_more : (n : ℕ) (first more : List Written) → AreNumbered n first → AreNumbered (n + length first) more → AreNumbered n (first ++ more)
numbered_more n [] more a b = subst (λ k. AreNumbered k more) (omega arith) b
numbered_more n (one ∷ first) more (e, a) b = (e, numbered_more (n + 1) first more a (subst (λ k. AreNumbered k more) (omega arith) b))

last_is : (cmd : EditorCmd) → is_last cmd ≡ true → cmd ≡ asks.Disconnect
last_is asks.Disconnect e = refl
last_is asks.Initialize e = absurd (let bad : false ≡ true = e in cc)
last_is asks.Launch e = absurd (let bad : false ≡ true = e in cc)
last_is (asks.SetBreakpoints path lines) e = absurd (let bad : false ≡ true = e in cc)
last_is asks.ConfigurationDone e = absurd (let bad : false ≡ true = e in cc)
last_is asks.Continue e = absurd (let bad : false ≡ true = e in cc)
last_is asks.ReverseContinue e = absurd (let bad : false ≡ true = e in cc)
last_is asks.Step e = absurd (let bad : false ≡ true = e in cc)
last_is asks.StepBack e = absurd (let bad : false ≡ true = e in cc)
last_is asks.Pause e = absurd (let bad : false ≡ true = e in cc)
last_is asks.Threads e = absurd (let bad : false ≡ true = e in cc)
last_is (asks.StackTrace thread) e = absurd (let bad : false ≡ true = e in cc)
last_is (asks.Scopes frame) e = absurd (let bad : false ≡ true = e in cc)
last_is (asks.Variables n) e = absurd (let bad : false ≡ true = e in cc)
last_is (asks.Evaluate expression frame) e = absurd (let bad : false ≡ true = e in cc)
last_is asks.BadShape e = absurd (let bad : false ≡ true = e in cc)
last_is asks.UnknownCmd e = absurd (let bad : false ≡ true = e in cc)

-- the first message, and then the others, unless it was the last
by_last : (c : Conversation) (body : List ℕ) (bodies : List (List ℕ)) (message : Message) (s rest : Spoken) (b : Bool) → told_message body ≡ Some message
    → Answered message c.written s.lines s.after.written → (b ≡ true → message.cmd ≡ asks.Disconnect) → InOrder s.after bodies rest → InOrder c (body ∷ bodies) (spoken_unless b s rest)
by_last c body bodies message s rest true e a ends r =
    record { all = a.all; lines = a.texts; answers = last e (ends refl) a.is; numbered = a.numbered; written = a.counted }
by_last c body bodies message s rest false e a ends r =
    record {
      all = a.all ++ r.all;
      lines = ap₂ (λ x y. x ++ y) a.texts r.lines ∙ sym (map-append written_text a.all r.all);
      answers = answered e a.is r.answers;
      numbered = numbered_more c.written a.all r.all a.numbered (subst (λ k. AreNumbered k r.all) a.counted r.numbered);
      written = let p = r.written in let q = a.counted in let l = length-append a.all r.all in omega (arith, p, q, l);
    }

module _ (read : Reader) (w : World) (names : List (List ℕ)) where
  one_in_order : (c : Conversation) (body : List ℕ) (bodies : List (List ℕ)) (found : Option Message) → told_message body ≡ found → c.written + 2 * length (body ∷ bodies) < 2 ^ 64
      → ((d : Conversation) → d.written + 2 * length bodies < 2 ^ 64 → InOrder d bodies (conversed read w names d bodies))
      → InOrder c (body ∷ bodies) (spoken_then (spoken_of read w names c found) (conversed read w names (spoken_of read w names c found).after bodies))
  one_in_order c body bodies None e few rest =
      let r = rest c (omega arith) in
      record { all = r.all; lines = r.lines; answers = passed e r.answers; numbered = r.numbered; written = r.written }
  one_in_order c body bodies (Some message) e few rest =
      let reaction = reaction_to read w names c message.cmd in
      let s = spoken_by c message reaction in
      let a = one_answered message c.written reaction.led.told reaction.led.happened (omega arith) (succeeds_so read w names c message.cmd) in
      let counted = a.counted in
      let two = a.two in
      by_last c body bodies message s (conversed read w names s.after bodies) (is_last message.cmd) e a (last_is message.cmd) (rest s.after (omega (arith, counted, two, few)))

  in_order : (c : Conversation) (bodies : List (List ℕ)) → c.written + 2 * length bodies < 2 ^ 64 → InOrder c bodies (conversed read w names c bodies)
  unfolding conversed
  in_order c [] few = record { all = []; lines = refl; answers = nothing; numbered = tt; written = omega arith }
  in_order c (body ∷ bodies) few = one_in_order c body bodies (told_message body) refl few (λ d h. in_order d bodies h)

pub answered_in_order : AnsweredInOrder
answered_in_order read w names c bodies few = in_order read w names c bodies few
