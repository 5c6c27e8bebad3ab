-- Words that are a demo give a number of cells from 1 to 4,000.
use Rattle.std.proofs.Common.{◌≡◌, ℕ, Bool, true, false, nat_le, List, [], ◌∷◌, Option, Some, None, refl, subst, arith}
use Rattle.std.specs.Prelude.{option_map, option_and_then, bytes_eq, codes, if◌then◌else◌}
use Rattle.std.proofs.lemmas.Bool.{and_parts}
use Rattle.std.proofs.lemmas.Bool.Decides.{nat_tests}
use Rattle.text_core.specs.Digits.{number_of}
use Rattle.world_core.specs.declared.mode.Mode.{Mode}
use Rattle.demo_run.specs.Asked.{Given}
use Rattle.replay_run.specs.Asked.{Names}
use Rattle.chain_laws.specs.Laws.{IsCellCount}
use Rattle.dbg_app.specs.Number.{is_number_to}
use Rattle.dbg_app.specs.Command.{Command, command_of, mode_of}
use Rattle.dbg_app.specs.Call.{ByDesign, ByChain, is_some_word, cells_of, demo_with, demo_by, demo_of, replay_of, call_by}
use Rattle.run_laws.proofs.Words.{let_through}
use Rattle.run_laws.specs.Demos.{CountsCells}

counted : (n : ℕ) → nat_le 1 n ≡ true → nat_le n 4000 ≡ true → IsCellCount n
counted n some few = record { some = grind (arith, nat_tests, some); few = grind (arith, nat_tests, few) }

cells_counted : (digits : List ℕ) (n : ℕ) → cells_of digits ≡ Some n → IsCellCount n
cells_counted digits n e =
    let both = let_through (is_number_to 4000 digits) (number_of 10 digits) n e in
    let most = and_parts _ (nat_le (number_of 10 digits) 4000) both.0 in
    let least = and_parts _ (nat_le 1 (number_of 10 digits)) most.0 in
    subst IsCellCount both.1 (counted (number_of 10 digits) least.1 most.1)

with_counted : (requests : List ℕ) (mode : Mode) (cells : Option ℕ) (given : Given) → ((n : ℕ) → cells ≡ Some n → IsCellCount n) → option_and_then (demo_with requests mode) cells ≡ Some given → IsCellCount given.number
with_counted requests mode None given h e = cc
with_counted requests mode (Some n) given h e =
    let both = let_through (is_some_word requests) (record { mode = mode; number = n; requests = requests }) given e in
    subst (λ (g : Given). IsCellCount g.number) both.1 (h n refl)

by_counted : (cells requests : List ℕ) (mode : Option Mode) (given : Given) → option_and_then (demo_by cells requests) mode ≡ Some given → IsCellCount given.number
by_counted cells requests None given e = cc
by_counted cells requests (Some mode) given e = with_counted requests mode (cells_of cells) given (λ n is. cells_counted cells n is) e

worded : (b : Bool) (cells requests : List ℕ) (mode : Option Mode) (given : Given) → (if b then option_and_then (demo_by cells requests) mode else None) ≡ Some given → IsCellCount given.number
worded true cells requests mode given e = by_counted cells requests mode given e
worded false cells requests mode given e = cc

demo_counted : (words : List (List ℕ)) (given : Given) → demo_of words ≡ Some given → IsCellCount given.number
demo_counted [] given e = cc
demo_counted (a ∷ []) given e = cc
demo_counted (a ∷ b ∷ []) given e = cc
demo_counted (a ∷ b ∷ c ∷ []) given e = cc
demo_counted (word ∷ mode ∷ cells ∷ requests ∷ []) given e = worded (bytes_eq word (codes "demo")) cells requests (mode_of mode) given e
demo_counted (a ∷ b ∷ c ∷ d ∷ f ∷ words) given e = cc

no_command : (words : List (List ℕ)) (command : Option Command) (given : Given) → call_by words None None ≡ Some (ByChain given) → IsCellCount given.number
no_command words command given e = absurd (none (command_of words) e)
  where
    none : (o : Option Command) → option_map ByDesign o ≡ Some (ByChain given) → ⊥
    none None f = cc
    none (Some c) f = cc

called : (words : List (List ℕ)) (trace : Option Names) (chain : Option Given) (given : Given) → ((g : Given) → chain ≡ Some g → IsCellCount g.number) → call_by words trace chain ≡ Some (ByChain given) → IsCellCount given.number
called words (Some names) chain given h e = cc
called words None (Some g) given h e = let same : g ≡ given = cc in subst (λ (x : Given). IsCellCount x.number) same (h g refl)
called words None None given h e = no_command words (command_of words) given e

pub counts_cells : CountsCells
counts_cells words given e = called words (replay_of words) (demo_of words) given (λ g is. demo_counted words g is) e
