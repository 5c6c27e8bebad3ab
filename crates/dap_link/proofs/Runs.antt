-- What a run leads to, from what its steps give.
use Rattle.std.proofs.Common.{◌≡◌, ℕ, List, Option, Some, None, sym, ap, ◌∙◌}
use Rattle.world_core.specs.World.{World}
use Rattle.machine_core.specs.declared.reply.Body.{Body}
use Rattle.machine_core.specs.declared.turn.Turned.{Turned}
use Rattle.machine_core.specs.Machine.{Machine, threads_of}
use Rattle.machine_core.specs.Journal.{Ran, notices_of, until_idle}
use Rattle.dap_text.specs.declared.payload.Payload.{Payload}
use Rattle.dap_text.specs.declared.payload.Payload.TheVariants as payload
use Rattle.dap_text.specs.declared.payload.Reason.{Reason}
use Rattle.dap_text.specs.declared.payload.Happening.{Happening}
use Rattle.dap_link.specs.Conversation.{Led, first_id, lines_happening, ran_to, refusal_name, run_by, runs_unless, unheard}

-- turns were made, and it was told where they came to
pub ran_out : (w v : World) (why : Reason) (told : Payload) (ran : Ran) (m n : Machine) (turned : Turned) (happened : Option Happening) →
    v ≡ w → m ≡ unheard ran.after → ran.lines ≡ notices_of w ran.after turned → n ≡ m →
    ((o : Machine) → happened ≡ lines_happening why (first_id (threads_of v m.place)) (notices_of v o turned)) →
    (let led : Led = record { after = n; told = told; happened = happened } in led) ≡ ran_to w why told ran
ran_out w v why told ran m n turned happened world after lines kept happens =
    (λ i. record {
      after = (kept ∙ after) i;
      told = told;
      happened = (happens ran.after
          ∙ (λ j. lines_happening why (first_id (threads_of (world j) (after j).place)) (notices_of (world j) ran.after turned))
          ∙ ap (lines_happening why (first_id (threads_of w ran.after.place))) (sym lines)) i;
    })

-- a run that was refused
pub run_refused : (w : World) (why : Reason) (told : Payload) (m : Machine) (b : Body) (a : Machine × Body) (name : List ℕ) →
    (m, b) ≡ a → Some name ≡ refusal_name b →
    (let led : Led = record { after = m; told = payload.Failed name; happened = None } in led) ≡ run_by w why told a
run_refused w why told m b a name asked named = ap (runs_unless w why told m) named ∙ ap (run_by w why told) asked

-- and one that was granted, over the same world
pub run_granted : (w v : World) (why : Reason) (told : Payload) (m : Machine) (b : Body) (a : Machine × Body) (led : Led) →
    v ≡ w → (m, b) ≡ a → None ≡ refusal_name b → led ≡ ran_to v why told (until_idle v m) → led ≡ run_by w why told a
run_granted w v why told m b a led world asked named ran =
    ran ∙ (λ i. ran_to (world i) why told (until_idle (world i) m)) ∙ ap (runs_unless w why told m) named ∙ ap (run_by w why told) asked
