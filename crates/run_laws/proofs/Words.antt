-- Words give the top numbers from -2^62 to 2^62.
use Rattle.std.proofs.Common.{◌≡◌, ℕ, ◌+◌, zero, suc, ℤ, pos, negsuc, ◌-ℤ◌, Bool, true, false, nat_le, List, [], ◌∷◌, Option, Some, None, refl, sym, subst, arith}
use Rattle.std.specs.Prelude.{option_map, option_and_then, drop, if◌then◌else◌}
use Rattle.std.specs.List.{filter_map, cons_option}
use Rattle.std.proofs.lemmas.Bool.{and_parts}
use Rattle.std.proofs.lemmas.Bool.Decides.{nat_tests}
use Rattle.std.proofs.lemmas.Int.{ints}
use Rattle.design_core.specs.Design.{Gens, IsInRange, AreInRange}
use Rattle.world_core.specs.declared.mode.Mode.{Mode}
use Rattle.dbg_app.specs.Command.{natural_of, negative, has_minus, whole_of, name_len, argument_of, Task, Command, mode_of, command_with, over_rows, of_design, by_requests, Form, Over, Alone, ByRequests, form_of, command_by, command_of}

same : {A : Type 0} (a b : A) → Some a ≡ Some b → a ≡ b
same a b e = cc

-- what an `if` lets through
pub let_through : {A : Type 0} (b : Bool) (a found : A) → (if b then Some a else None) ≡ Some found → (b ≡ true) × (a ≡ found)
let_through true a found e = (refl, same a found e)
let_through false a found e = cc

minus_is : (m : ℕ) → pos 0 -ℤ pos (suc m) ≡ negsuc m
minus_is m = grind (arith, ints)

negative_small : (m : ℕ) → nat_le m 4611686018427387904 ≡ true → IsInRange (negative m)
negative_small zero h = refl
negative_small (suc m) h = subst IsInRange (sym (minus_is m)) (grind (arith, nat_tests, h))

natural_small : (digits : List ℕ) (m : ℕ) → natural_of digits ≡ Some m → nat_le m 4611686018427387904 ≡ true
natural_small digits m e =
    let both = let_through _ _ m e in
    subst (λ n. nat_le n 4611686018427387904 ≡ true) both.1 (and_parts _ _ both.0).1

mapped : (f : ℕ → ℤ) (o : Option ℕ) (n : ℤ) → ((m : ℕ) → o ≡ Some m → IsInRange (f m)) → option_map f o ≡ Some n → IsInRange n
mapped f None n h e = cc
mapped f (Some m) n h e = subst IsInRange (same (f m) n e) (h m refl)

whole_by : (b : Bool) (digits : List ℕ) (n : ℤ) → (if b then option_map negative (natural_of (drop 1 digits)) else option_map pos (natural_of digits)) ≡ Some n → IsInRange n
whole_by true digits n e = mapped negative (natural_of (drop 1 digits)) n (λ m is. negative_small m (natural_small (drop 1 digits) m is)) e
whole_by false digits n e = mapped pos (natural_of digits) n (λ m is. natural_small digits m is) e

argument_by : (b : Bool) (name : List ℕ) (o : Option ℤ) (g : List ℕ × ℤ) → ((n : ℤ) → o ≡ Some n → IsInRange n) → (if b then option_map (λ number. (name, number)) o else None) ≡ Some g → IsInRange g.1
argument_by true name None g h e = cc
argument_by true name (Some n) g h e = subst (λ (x : List ℕ × ℤ). IsInRange x.1) (same (name, n) g e) (h n refl)
argument_by false name o g h e = cc

argument_in_range : (word : List ℕ) (g : List ℕ × ℤ) → argument_of word ≡ Some g → IsInRange g.1
argument_in_range word g e = argument_by _ _ (whole_of (drop (name_len word + 1) word)) g (λ n is. whole_by (has_minus (drop (name_len word + 1) word)) (drop (name_len word + 1) word) n is) e

one_more : (o : Option (List ℕ × ℤ)) (gens : Gens) → ((g : List ℕ × ℤ) → o ≡ Some g → IsInRange g.1) → AreInRange gens → AreInRange (cons_option o gens)
one_more None gens h rest = rest
one_more (Some g) gens h rest = (h g refl, rest)

given_in_range : (words : List (List ℕ)) → AreInRange (filter_map argument_of words)
given_in_range [] = tt
given_in_range (word ∷ words) = one_more (argument_of word) (filter_map argument_of words) (λ g is. argument_in_range word g is) (given_in_range words)

-- ---- the commands

abbrev InRange : Command → Type 0
InRange command = AreInRange command.top.given

chained : {A : Type 0} (f : A → Option Command) (o : Option A) (command : Command) → ((a : A) → f a ≡ Some command → InRange command) → option_and_then f o ≡ Some command → InRange command
chained f None command h e = cc
chained f (Some a) command h e = h a e

with_in_range : (task : Task) (source : List ℕ) (stimulus requests : Option (List ℕ)) (top : List ℕ) (rest : List (List ℕ)) (mode : Mode) (command : Command) → command_with task source stimulus requests top rest mode ≡ Some command → InRange command
with_in_range task source stimulus requests top rest mode command e = subst InRange (let_through _ _ command e).1 (given_in_range rest)

over_in_range : (task : Task) (words : List (List ℕ)) (command : Command) → over_rows task words ≡ Some command → InRange command
over_in_range task [] command e = cc
over_in_range task (a ∷ []) command e = cc
over_in_range task (a ∷ b ∷ []) command e = cc
over_in_range task (a ∷ b ∷ c ∷ []) command e = cc
over_in_range task (a ∷ b ∷ c ∷ d ∷ []) command e = cc
over_in_range task (word ∷ mode ∷ source ∷ stimulus ∷ top ∷ rest) command e =
    chained (command_with task source (Some stimulus) None top rest) (mode_of mode) command (λ m is. with_in_range task source (Some stimulus) None top rest m command is) e

alone_in_range : (task : Task) (words : List (List ℕ)) (command : Command) → of_design task words ≡ Some command → InRange command
alone_in_range task [] command e = cc
alone_in_range task (a ∷ []) command e = cc
alone_in_range task (a ∷ b ∷ []) command e = cc
alone_in_range task (a ∷ b ∷ c ∷ []) command e = cc
alone_in_range task (word ∷ mode ∷ source ∷ top ∷ rest) command e =
    chained (command_with task source None None top rest) (mode_of mode) command (λ m is. with_in_range task source None None top rest m command is) e

asked_in_range : (words : List (List ℕ)) (command : Command) → by_requests words ≡ Some command → InRange command
asked_in_range [] command e = cc
asked_in_range (a ∷ []) command e = cc
asked_in_range (a ∷ b ∷ []) command e = cc
asked_in_range (a ∷ b ∷ c ∷ []) command e = cc
asked_in_range (a ∷ b ∷ c ∷ d ∷ []) command e = cc
asked_in_range (a ∷ b ∷ c ∷ d ∷ f ∷ []) command e = cc
asked_in_range (word ∷ mode ∷ source ∷ stimulus ∷ requests ∷ top ∷ rest) command e =
    chained (command_with _ source (Some stimulus) (Some requests) top rest) (mode_of mode) command (λ m is. with_in_range _ source (Some stimulus) (Some requests) top rest m command is) e

form_in_range : (words : List (List ℕ)) (form : Form) (command : Command) → command_by words form ≡ Some command → InRange command
form_in_range words (Over task) command e = over_in_range task words command e
form_in_range words (Alone task) command e = alone_in_range task words command e
form_in_range words ByRequests command e = asked_in_range words command e

pub words_in_range : (words : List (List ℕ)) (command : Command) → command_of words ≡ Some command → AreInRange command.top.given
words_in_range [] command e = cc
words_in_range (word ∷ words) command e = chained (command_by (word ∷ words)) (form_of word) command (λ form is. form_in_range (word ∷ words) form command is) e
