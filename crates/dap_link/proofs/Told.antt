-- What is told where a session stands, from what it was asked.
use Rattle.std.proofs.Common.{◌≡◌, ℕ, Bool, List, Option, None, ap, ◌∙◌}
use Rattle.std.specs.Prelude.{ℤ, codes, slice_get, unwrap_or}
use Rattle.std.proofs.lemmas.Option.{unwrap_or-slice_get}
use Rattle.exec_core.specs.Block.{Name}
use Rattle.world_core.specs.World.{World}
use Rattle.machine_core.specs.declared.reply.Body.{Body}
use Rattle.machine_core.specs.Machine.{Machine}
use Rattle.dap_text.specs.declared.payload.Payload.{Payload}
use Rattle.dap_text.specs.declared.payload.Payload.TheVariants as payload
use Rattle.dap_link.specs.Conversation.{Led, frame_if, gens_by, gens_if, gens_told, is_thread, path_at, place_told, quietly, stack_by, thread_rows, threads_by}

-- an answer, and what is told of it
pub told_so : (f : Machine × Body → Led) (m n : Machine) (b : Body) (a : Machine × Body) (told : Payload) →
    (m, b) ≡ a → n ≡ m → quietly m told ≡ f (m, b) → quietly n told ≡ f a
told_so f m n b a told asked kept e = (λ i. quietly (kept i) told) ∙ e ∙ ap f asked

-- an instance that there is not
pub no_path : (paths : List Name) (i : ℕ) → None ≡ slice_get paths i → codes "" ≡ path_at paths i
no_path paths i e = ap (λ path. unwrap_or path (codes "")) e ∙ unwrap_or-slice_get paths i (codes "")

-- the threads, once they were asked for
pub rows_told : (w v : World) (m n : Machine) (a : Machine × Body) (rows : List (ℕ × Name)) → v ≡ w → m ≡ a.0 → n ≡ m → rows ≡ thread_rows v m
    → quietly n (payload.Threads rows) ≡ threads_by w a
rows_told w v m n a rows world asked kept e = λ i. quietly ((kept ∙ asked) i) (payload.Threads ((e ∙ (λ j. thread_rows (world j) (asked j))) i))

-- where a thread stands, by what was answered
pub frame_told : (w v : World) (paths : List Name) (names : List (List ℕ)) (n : ℕ) (m k : Machine) (b : Body) (a : Machine × Body) (is : Bool) (at : Option ℕ) (told : Payload)
    → v ≡ w → paths ≡ w.paths → (m, b) ≡ a → k ≡ m → is ≡ is_thread v m n → at ≡ place_told b → told ≡ frame_if paths names n is at
    → quietly k told ≡ stack_by w names n a
frame_told w v paths names n m k b a is at told world same asked kept thread placed e =
    let t = e ∙ (λ i. frame_if (same i) names n ((thread ∙ (λ j. is_thread (world j) (asked j).0 n)) i) ((placed ∙ (λ j. place_told (asked j).1)) i)) in
    (λ i. quietly ((kept ∙ (λ j. (asked j).0)) i) (t i))

-- its generator variables
pub gens_so : (w v : World) (n : ℕ) (m k : Machine) (b : Body) (a : Machine × Body) (is : Bool) (gens : Option (List (Name × ℤ))) (told : Payload)
    → v ≡ w → (m, b) ≡ a → k ≡ m → is ≡ is_thread v m n → gens ≡ gens_told b → told ≡ gens_if is gens → quietly k told ≡ gens_by w n a
gens_so w v n m k b a is gens told world asked kept thread listed e =
    let t = e ∙ (λ i. gens_if ((thread ∙ (λ j. is_thread (world j) (asked j).0 n)) i) ((listed ∙ (λ j. gens_told (asked j).1)) i)) in
    (λ i. quietly ((kept ∙ (λ j. (asked j).0)) i) (t i))
