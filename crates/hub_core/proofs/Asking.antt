-- What an asking client does, by the answer to it, and what a turn does.
use Rattle.std.proofs.Common.{◌≡◌, ℕ, Bool, true, false, List, [], ◌∷◌, set, refl, sym, ap, ◌∙◌, if◌then◌else◌, Result, Ok, Err, OnErr}
use Rattle.world_core.specs.World.{World}
use Rattle.machine_core.specs.Reading.{Reader}
use Rattle.machine_core.specs.declared.turn.Turned.{Turned}
use Rattle.machine_core.specs.declared.request.Asked.{Asked}
use Rattle.machine_core.specs.declared.reply.Reply.{Reply}
use Rattle.machine_core.specs.Machine.{Machine, Answer, Turn, answer_of, turn_of}
use Rattle.machine_core.specs.Journal as core
use Rattle.machine_core.specs.Journal.{Replied, is_bye, notices_of}
use Rattle.req_json.specs.Asked.{asked}
use Rattle.req_json.specs.Texts.{line_text}
use Rattle.hub_core.specs.Hubs.{HubState, HubRan, ran_to, line, answer_in, asked_by, told_of_turn, turned}

module _ (read : Reader) (w : World) (s : HubState) (client : ℕ) (text : List ℕ) (a : Answer) (is : a ≡ answer_in read w s.machine text) where
  pub asked_leaving : is_bye a.reply.body ≡ true
      → (let ran : HubRan = record { after = record { machine = a.after; here = set s.here client false }; lines = line client (line_text (Replied a.reply)) ∷ [] } in ran) ≡ asked_by read w s client text
  asked_leaving bye = rw (← is, bye) refl

  pub asked_staying : is_bye a.reply.body ≡ false
      → (let ran : HubRan = record { after = record { machine = a.after; here = s.here }; lines = line client (line_text (Replied a.reply)) ∷ [] } in ran) ≡ asked_by read w s client text
  asked_staying bye = rw (← is, bye) refl

  pub asked_on : (b : Bool) (here : List Bool) → b ≡ is_bye a.reply.body → here ≡ (if b then set s.here client false else s.here)
      → ran_to (record { machine = a.after; here = here }) (line client (line_text (Replied a.reply)) ∷ []) ≡ asked_by read w s client text
  asked_on true here e h = rw h (asked_leaving (sym e))
  asked_on false here e h = rw h (asked_staying (sym e))

-- a turn that came to this
abbrev pub turn_to : Machine → Turned → Turn
turn_to after t = record { after = after; turned = t }

-- what is told of a turn that was made
pub told_turn : (w world : World) (m after : Machine) (t : Turned) (lines : List core.Line) → world ≡ w → turn_to after t ≡ turn_of w m → lines ≡ notices_of world after t → lines ≡ told_of_turn w m
unfolding told_of_turn
told_turn w world m after t lines e turn told = told ∙ ap (λ v. notices_of v after t) e ∙ ap (λ (x : Turn). notices_of w x.after x.turned) turn

-- where it has come to
pub after_turn : (w : World) (s : HubState) (mid last : Machine) (t : Turned) → last ≡ mid → turn_to mid t ≡ turn_of w s.machine
    → (let state : HubState = record { machine = last; here = s.here } in state) ≡ (turned w s).after
after_turn w s mid last t e turn = ap (λ m. (let state : HubState = record { machine = m; here = s.here } in state)) (e ∙ ap (λ (x : Turn). x.after) turn)

pub at_machine : (m n : Machine) (here : List Bool) → m ≡ n → (let state : HubState = record { machine = m; here = here } in state) ≡ record { machine = n; here = here }
at_machine m n here e = ap (λ k. (let state : HubState = record { machine = k; here = here } in state)) e

-- an answer to what was read from a text
pub answer_is : (read : Reader) (w : World) (m : Machine) (text : List ℕ) (x : Asked) (a b : Answer) → x ≡ asked text → a ≡ b → b ≡ answer_of read w m x → a ≡ answer_in read w m text
unfolding answer_in
answer_is read w m text x a b e f g = f ∙ g ∙ ap (answer_of read w m) e

abbrev pub answer_to : Machine → Reply → Answer
answer_to after reply = record { after = after; reply = reply }

pub on_err : {A E : Type 0} (r : Result A E) (P : Type 0) → P → OnErr r P
on_err (Ok x) P p = tt
on_err (Err e) P p = p
