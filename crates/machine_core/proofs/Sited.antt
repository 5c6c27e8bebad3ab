-- A breakpoint and a watch are armed where the same is found.
use Rattle.std.proofs.Common.{◌≡◌, ℕ, Bool, true, false, List, [], ◌∷◌, Option, Some, None, Result, Ok, Err, refl, ap, ◌∙◌, map, if◌then◌else◌}
use Rattle.exec_core.specs.Block.{Name}
use Rattle.gen_tree.specs.Tree.{Expr}
use Rattle.world_core.specs.World.{World}
use Rattle.machine_core.specs.declared.reply.Body.{Body}
use Rattle.machine_core.specs.declared.reply.Body.TheVariants as body
use Rattle.machine_core.specs.Reading.{Reader, Reading, Condition, NoCondition}
use Rattle.machine_core.specs.Arming.{◌>>=◌, slots_on, slots_with, instance_named, has_one, wanted_spots, unless_refused, first_of, some_slots, instance_with, instance_on, slots_for, condition_at, condition_of, limit_refusal, breakpoint_on, watched_instance, watch_refusal, expression_at, watch_on, fitting_at, fitting_of, Sited, sited_on, breakpoint_at, watch_at, ArmsWatch, finds, refuses}

-- ---- steps that may be refused

then_same : {A B : Type 0} (x : Result A Body) (f g : A → Result B Body) → ((a : A) → f a ≡ g a) → (x >>= f) ≡ (x >>= g)
then_same (Ok a) f g h = h a
then_same (Err refusal) f g h = refl

then_behind : {A B C : Type 0} (x : Result A Body) (f : A → Result B Body) (g : B → Result C Body) → (x >>= λ a. f a >>= g) ≡ (x >>= f >>= g)
then_behind (Ok a) f g = refl
then_behind (Err refusal) f g = refl

-- ---- breakpoints

condition_fits : (read : Reader) (w : World) (spots : List (ℕ × ℕ)) (text : Option (List ℕ)) → condition_of read w spots text ≡ fitting_of read w true spots text
condition_fits read w spots None = refl
condition_fits read w spots (Some text) = by (read text)
  where
    by : (r : Reading) → condition_at w spots r ≡ fitting_at w true spots r
    by (NoCondition offset) = refl
    by (Condition e offsets) = refl

module _ (read : Reader) (w : World) (armed next line : ℕ) (path : Option Name) (text : Option (List ℕ)) where
  found_in : List ℕ → Option ℕ → Option Expr → Result Sited Body
  found_in all named e = Ok (record { slots = slots_for w all named; instance = named; expr = e })

  of_named : (all : List ℕ) (named : Option ℕ)
      → (condition_of read w (wanted_spots w named (slots_for w all named)) text
      >>= λ condition. unless_refused (limit_refusal armed next) (record { number = next; slots = slots_for w all named; instance = named; condition = condition }))
      ≡ (fitting_of read w true (wanted_spots w named (slots_for w all named)) text >>= found_in all named >>= breakpoint_at armed next)
  unfolding found_in
  of_named all named =
      ap (λ x. x >>= λ condition. unless_refused (limit_refusal armed next) (record { number = next; slots = slots_for w all named; instance = named; condition = condition }))
      (condition_fits read w (wanted_spots w named (slots_for w all named)) text)
      ∙ then_behind (fitting_of read w true (wanted_spots w named (slots_for w all named)) text) (found_in all named) (breakpoint_at armed next)

  of_slots : (all : List ℕ)
      → (instance_on w all path
      >>= λ named. condition_of read w (wanted_spots w named (slots_for w all named)) text
      >>= λ condition. unless_refused (limit_refusal armed next) (record { number = next; slots = slots_for w all named; instance = named; condition = condition }))
      ≡ (instance_on w all path >>= (λ named. fitting_of read w true (wanted_spots w named (slots_for w all named)) text >>= found_in all named) >>= breakpoint_at armed next)
  of_slots all =
      then_same (instance_on w all path) _ (λ named. fitting_of read w true (wanted_spots w named (slots_for w all named)) text >>= found_in all named >>= breakpoint_at armed next) (of_named all)
      ∙ then_behind (instance_on w all path) (λ named. fitting_of read w true (wanted_spots w named (slots_for w all named)) text >>= found_in all named) (breakpoint_at armed next)

  -- a breakpoint is armed where its line, path and text stand for something
  pub breakpoint_sited : breakpoint_on read w armed next line path text ≡ (sited_on read w true line path text >>= breakpoint_at armed next)
  unfolding found_in
  breakpoint_sited =
      then_same (some_slots line (slots_on w line)) _ (λ all. instance_on w all path >>= (λ named. fitting_of read w true (wanted_spots w named (slots_for w all named)) text >>= found_in all named) >>= breakpoint_at armed next) of_slots
      ∙ then_behind (some_slots line (slots_on w line)) (λ all. instance_on w all path >>= λ named. fitting_of read w true (wanted_spots w named (slots_for w all named)) text >>= found_in all named) (breakpoint_at armed next)

-- ---- watches

module _ (read : Reader) (w : World) (armed next line : ℕ) (path : Name) (text : List ℕ) where
  of_refusal : (slots : List ℕ) (i : ℕ) (e : Expr) (o : Option Body)
      → ArmsWatch armed next (unless_refused o e >>= watch_at armed next slots i) (unless_refused o (Some e) >>= λ expr. Ok (record { slots = slots; instance = Some i; expr = expr }))
  of_refusal slots i e None = finds slots i e refl
  of_refusal slots i e (Some refusal) = refuses refusal refl

  of_reading : (slots : List ℕ) (i : ℕ) (spots : List (ℕ × ℕ)) (r : Reading)
      → ArmsWatch armed next (expression_at w spots r >>= watch_at armed next slots i) (fitting_at w false spots r >>= λ expr. Ok (record { slots = slots; instance = Some i; expr = expr }))
  of_reading slots i spots (NoCondition offset) = refuses (body.BadCondAt offset) refl
  of_reading slots i spots (Condition e offsets) = of_refusal slots i e (first_of (map (watch_refusal w e offsets) spots))

  of_one : (all : List ℕ) (i : ℕ) (b : Bool)
      → ArmsWatch armed next
      ((let r : Result ℕ Body = if b then Ok i else Err (body.NoInstance path) in r) >>= λ i. expression_at w (wanted_spots w (Some i) (slots_with w all i)) (read text) >>= watch_at armed next (slots_with w all i) i)
      ((let r : Result (Option ℕ) Body = if b then Ok (Some i) else Err (body.NoInstance path) in r)
      >>= λ named. fitting_of read w false (wanted_spots w named (slots_for w all named)) (Some text) >>= λ e. Ok (record { slots = slots_for w all named; instance = named; expr = e }))
  of_one all i true = of_reading (slots_with w all i) i (wanted_spots w (Some i) (slots_with w all i)) (read text)
  of_one all i false = refuses (body.NoInstance path) refl

  of_path : (all : List ℕ) (o : Option ℕ)
      → ArmsWatch armed next
      (watched_instance w all path o >>= λ i. expression_at w (wanted_spots w (Some i) (slots_with w all i)) (read text) >>= watch_at armed next (slots_with w all i) i)
      (instance_with w all path o
      >>= λ named. fitting_of read w false (wanted_spots w named (slots_for w all named)) (Some text) >>= λ e. Ok (record { slots = slots_for w all named; instance = named; expr = e }))
  of_path all None = refuses (body.NoInstance path) refl
  of_path all (Some i) = of_one all i (has_one w all i)

  of_line : (slots : List ℕ)
      → ArmsWatch armed next
      (some_slots line slots >>= λ all. watched_instance w all path (instance_named w path) >>= λ i. expression_at w (wanted_spots w (Some i) (slots_with w all i)) (read text) >>= watch_at armed next (slots_with w all i) i)
      (some_slots line slots >>= λ all. instance_with w all path (instance_named w path)
      >>= λ named. fitting_of read w false (wanted_spots w named (slots_for w all named)) (Some text) >>= λ e. Ok (record { slots = slots_for w all named; instance = named; expr = e }))
  of_line [] = refuses (body.NoSite line) refl
  of_line (k ∷ slots) = of_path (k ∷ slots) (instance_named w path)

  -- and so is a watch
  pub watch_sited : ArmsWatch armed next (watch_on read w armed next line path text) (sited_on read w false line (Some path) (Some text))
  watch_sited = of_line (slots_on w line)
