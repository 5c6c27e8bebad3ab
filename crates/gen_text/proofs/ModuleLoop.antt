-- The loop that reads modules up to the end.
use Rattle.std.proofs.Common.{◌≡◌, ◌<◌, ◌==◌, ℕ, zero, suc, Bool, true, false, cond, List, [], ◌∷◌, ◌++◌, length, Result, Ok, Err, refl, sym, ap, ◌∙◌, arith, append_assoc}
use Rattle.gen_token.specs.Words.{Tok}
use Rattle.gen_tree.specs.Tree.{Module}
use Rattle.gen_text.specs.declared.fault.ReadFault.{ReadFault}
use Rattle.gen_text.specs.declared.fault.ReadFault.TheVariants as faults
use Rattle.gen_text.specs.Faults.{Fails}
use Rattle.gen_text.specs.Reading.{Read, ◌>>=◌, none_left, module_at, modules_by, modules_at}
use Rattle.gen_text.proofs.OnlyModules.{module_shorter}

enough_modules : (n m room : ℕ) (ts : List Tok) → length ts < n → length ts < m → modules_by n room ts ≡ modules_by m room ts
unfolding modules_by
enough_modules zero m room ts a b = absurd (omega arith)
enough_modules (suc n) zero room ts a b = absurd (omega arith)
enough_modules (suc n) (suc m) room ts a b = by (λ t1. enough_modules n m room t1) (module_at room ts) refl
  where
    by : ((t1 : List Tok) → length t1 < n → length t1 < m → modules_by n room t1 ≡ modules_by m room t1) → (o : Read Module) → module_at room ts ≡ o
        → (o >>= λ x. cond (none_left x.1) (Ok (x.0 ∷ [])) (modules_by n room x.1 >>= λ more. Ok (x.0 ∷ more))) ≡ (o >>= λ x. cond (none_left x.1) (Ok (x.0 ∷ [])) (modules_by m room x.1 >>= λ more. Ok (x.0 ∷ more)))
    by same (Err left) e = refl
    by same (Ok x) e =
        let l : length x.1 < length ts = module_shorter x.0 room ts x.1 e in
        rw (same x.1 (omega arith) (omega arith)) refl

-- the modules so far, and those that are still read
abbrev pub closing : ℕ → List Module → List Tok → Result (List Module) ℕ
closing room front ts = cond (length ts == 0) (Ok front) (modules_at room ts >>= λ more. Ok (front ++ more))

none_is : (ts : List Tok) → none_left ts ≡ (length ts == 0)
none_is [] = refl
none_is (t ∷ ts) = grind arith

module_then : (room : ℕ) (ts t1 : List Tok) (m : Module) → module_at room ts ≡ Ok (m, t1) → modules_at room ts ≡ closing room (m ∷ []) t1
unfolding modules_by
module_then room ts t1 m e =
    let l : length t1 < length ts = module_shorter m room ts t1 e in
    rw (e, none_is t1, enough_modules (length ts) (suc (length t1)) room t1 l (omega arith)) refl

pub first_turn : (room : ℕ) (ts t1 : List Tok) (m : Module) → module_at room ts ≡ Ok (m, t1) → closing room (m ∷ []) t1 ≡ modules_at room ts
first_turn room ts t1 m e = sym (module_then room ts t1 m e)

closing_append : (b : Bool) (front : List Module) (m : Module) (o : Result (List Module) ℕ) → (cond b (Ok (m ∷ [])) (o >>= λ more. Ok (m ∷ more)) >>= λ more. Ok (front ++ more)) ≡ cond b (Ok (front ++ m ∷ [])) (o >>= λ more. Ok ((front ++ m ∷ []) ++ more))
closing_append true front m o = refl
closing_append false front m (Ok more) = ap (λ (l : List Module). Ok l) (sym (append_assoc front (m ∷ []) more))
closing_append false front m (Err left) = refl

pub next_module : (room : ℕ) (front : List Module) (ts t1 : List Tok) (m : Module) (whole : Result (List Module) ℕ) → (length ts == 0) ≡ false → module_at room ts ≡ Ok (m, t1) → closing room front ts ≡ whole → closing room (front ++ m ∷ []) t1 ≡ whole
next_module room front ts t1 m whole some e w =
    sym (closing_append (length t1 == 0) front m (modules_at room t1)) ∙ rw (some, module_then room ts t1 m e) at w

pub module_fails : (e : ReadFault) (room : ℕ) (front : List Module) (ts : List Tok) (whole : Result (List Module) ℕ) → (length ts == 0) ≡ false → Fails e (module_at room ts) → closing room front ts ≡ whole → Fails e whole
unfolding modules_by
module_fails faults.NoMemory room front ts whole some f w = tt
module_fails (faults.At left) room front ts whole some f w = sym w ∙ rw (some, f) refl

pub first_fails : (e : ReadFault) (room : ℕ) (ts : List Tok) → Fails e (module_at room ts) → Fails e (modules_at room ts)
unfolding modules_by
first_fails faults.NoMemory room ts f = tt
first_fails (faults.At left) room ts f = rw f refl

pub all_modules : (room : ℕ) (front : List Module) (ts : List Tok) (whole : Result (List Module) ℕ) → (length ts == 0) ≡ true → closing room front ts ≡ whole → whole ≡ Ok front
all_modules room front ts whole none w = sym w ∙ rw none refl
