-- The width that the checks take for a name: that of its signal, and 1 where no signal has it; and some bit below a width.
use Rattle.std.proofs.Common.{◌≡◌, ℕ, zero, suc, ◌<◌, Bool, true, false, ◌||◌, ◌⊎◌, List, [], ◌∷◌, Some, inl, inr, refl, sym, ap, ◌∙◌, subst, if◌then◌else◌, arith}
use Rattle.std.specs.Prelude.{bytes_eq, find, option_map, unwrap_or}
use Rattle.std.specs.List.{list_any}
use Rattle.std.proofs.lemmas.Bool.{or_left, or_right}
use Rattle.exec_core.proofs.Checking.{last_or_below}
use Rattle.exec_core.specs.Block.{Name}
use Rattle.exec_core.specs.Decided.{some_below}
use Rattle.design_core.specs.declared.variant.Signal.{Signal}
use Rattle.design_core.specs.Widths.{bits}
use Rattle.design_exec.specs.Processes.{signal_width}
use Rattle.check_core.specs.Paths.{declared_width}

pub declared_is : (signals : List Signal) (x : Name) → list_any (λ (s : Signal). bytes_eq s.name x) signals ≡ true → declared_width signals x ≡ signal_width signals x
declared_is [] x e = cc
declared_is (s ∷ rest) x e = at_test (declared_is rest x) (bytes_eq s.name x) refl e
  where
    at_test : (list_any (λ (t : Signal). bytes_eq t.name x) rest ≡ true → declared_width rest x ≡ signal_width rest x) → (b : Bool) → bytes_eq s.name x ≡ b → (b || list_any (λ (t : Signal). bytes_eq t.name x) rest) ≡ true
        → unwrap_or (option_map (λ (t : Signal). bits t.width) (if bytes_eq s.name x then Some s else find (λ (t : Signal). bytes_eq t.name x) rest)) 1
        ≡ unwrap_or (option_map (λ (t : Signal). bits t.width) (if bytes_eq s.name x then Some s else find (λ (t : Signal). bytes_eq t.name x) rest)) 0
    at_test deeper true t h =
        ap (λ b. unwrap_or (option_map (λ (t : Signal). bits t.width) (if b then Some s else find (λ (t : Signal). bytes_eq t.name x) rest)) 1) t
        ∙ sym (ap (λ b. unwrap_or (option_map (λ (t : Signal). bits t.width) (if b then Some s else find (λ (t : Signal). bytes_eq t.name x) rest)) 0) t)
    at_test deeper false t h =
        ap (λ b. unwrap_or (option_map (λ (t : Signal). bits t.width) (if b then Some s else find (λ (t : Signal). bytes_eq t.name x) rest)) 1) t ∙ deeper h
        ∙ sym (ap (λ b. unwrap_or (option_map (λ (t : Signal). bits t.width) (if b then Some s else find (λ (t : Signal). bytes_eq t.name x) rest)) 0) t)

pub declared_none : (signals : List Signal) (x : Name) → list_any (λ (s : Signal). bytes_eq s.name x) signals ≡ false → declared_width signals x ≡ 1
declared_none [] x e = refl
declared_none (s ∷ rest) x e = at_test (declared_none rest x) (bytes_eq s.name x) refl e
  where
    at_test : (list_any (λ (t : Signal). bytes_eq t.name x) rest ≡ false → declared_width rest x ≡ 1) → (b : Bool) → bytes_eq s.name x ≡ b → (b || list_any (λ (t : Signal). bytes_eq t.name x) rest) ≡ false
        → unwrap_or (option_map (λ (t : Signal). bits t.width) (if bytes_eq s.name x then Some s else find (λ (t : Signal). bytes_eq t.name x) rest)) 1 ≡ 1
    at_test deeper true t h = cc
    at_test deeper false t h = ap (λ b. unwrap_or (option_map (λ (t : Signal). bits t.width) (if b then Some s else find (λ (t : Signal). bytes_eq t.name x) rest)) 1) t ∙ deeper h

-- a bit below a width that passes a test
pub some_from : (w : ℕ) (test : ℕ → Bool) (i : ℕ) → i < w → test i ≡ true → some_below w test ≡ true
some_from zero test i h e = absurd (omega arith)
some_from (suc w) test i h e = at_place (λ k l f. some_from w test k l f) (last_or_below i w h)
  where
    at_place : ((k : ℕ) → k < w → test k ≡ true → some_below w test ≡ true) → (i ≡ w) ⊎ (i < w) → some_below (suc w) test ≡ true
    at_place more (inl same) = or_left (test w) (some_below w test) (subst (λ n. test n ≡ true) same e)
    at_place more (inr less) = or_right (test w) (some_below w test) (more i less e)
