-- What a batch makes of one request.
use Rattle.std.proofs.Common.{◌≡◌, Bool, true, false, List, [], ◌∷◌, ◌++◌, Result, Ok, Err, if◌then◌else◌, refl, sym, ap, ◌∙◌, append-nil, inr}
use Rattle.std.specs.Prelude.{OnErr}
use Rattle.world_core.specs.World.{World}
use Rattle.machine_core.specs.Reading.{Reader}
use Rattle.machine_core.specs.declared.reply.Reply.{Reply}
use Rattle.machine_core.specs.declared.request.Asked.{Asked}
use Rattle.machine_core.specs.Machine.{Machine, Answer, answer_of}
use Rattle.machine_core.specs.Journal.{Line, Replied, Ran, behind, until_idle, is_bye, batch_from, IsLeft}
use Rattle.dbg_core.specs.Answering.{followed}

-- by whether it was the last
by_bye : (a : Answer) (u : Ran) (b last : Bool) → b ≡ last
    → (let ran : Ran = record { after = (if last then a.after else u.after); lines = Replied a.reply ∷ (if last then [] else u.lines) } in ran)
    ≡ behind (Replied a.reply ∷ []) (if b then record { after = a.after; lines = [] } else behind u.lines (record { after = u.after; lines = [] }))
by_bye a u true true e = refl
by_bye a u true false e = cc
by_bye a u false true e = cc
by_bye a u false false e = ap (λ (l : List Line). record { after = u.after; lines = Replied a.reply ∷ l }) (sym (append-nil u.lines))

-- the last reply alone
pub last_of : (w : World) (m : Machine) (reply : Reply) → is_bye reply.body ≡ true → (let ran : Ran = record { after = m; lines = Replied reply ∷ [] } in ran) ≡ followed w reply m
last_of w m reply b = by_bye (record { after = m; reply = reply }) (until_idle w m) (is_bye reply.body) true b

-- any other, and what the turns behind it tell
pub run_of : (w : World) (m : Machine) (reply : Reply) (u : Ran) → is_bye reply.body ≡ false → u ≡ until_idle w m → (let ran : Ran = record { after = u.after; lines = Replied reply ∷ u.lines } in ran) ≡ followed w reply m
run_of w m reply u b turns =
    ap (λ (x : Ran). record { after = x.after; lines = Replied reply ∷ x.lines }) turns ∙ by_bye (record { after = m; reply = reply }) (until_idle w m) (is_bye reply.body) false b

-- where the turns behind it were made, and not told
pub left_of : (w : World) (m : Machine) (reply : Reply) (left : Machine) → is_bye reply.body ≡ false → left ≡ (until_idle w m).after → left ≡ (followed w reply m).after
left_of w m reply left b after = after ∙ ap (λ (r : Ran). r.after) (run_of w m reply (until_idle w m) b refl)

-- a reply that is the machine's, and what follows it, are what a batch makes of the request
pub batch_is : (read : Reader) (w : World) (m : Machine) (asked : Asked) (a : Answer) → a ≡ answer_of read w m asked → followed w a.reply a.after ≡ batch_from read w (asked ∷ []) m
batch_is read w m asked a e = ap (λ (x : Answer). followed w x.reply x.after) e

pub is_left : (read : Reader) (w : World) (m : Machine) (asked : Asked) (a : Answer) (left : Machine) → a ≡ answer_of read w m asked → left ≡ (followed w a.reply a.after).after → IsLeft read w asked m left
is_left read w m asked a left e after = inr (after ∙ ap (λ (r : Ran). r.after) (batch_is read w m asked a e))

-- what holds whatever came of a call holds of an error of it
pub on_each : {X Y : Type 0} (r : Result X Y) (P : Type 0) → P → OnErr r P
on_each (Ok x) P h = tt
on_each (Err e) P h = h
