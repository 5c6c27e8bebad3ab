-- The literals of the arms of a `case`, one after another.
use Rattle.std.proofs.Common.{◌≡◌, ℕ, ◌+◌, ◌<◌, ◌≤◌, Bool, true, false, ◌&&◌, ◌==◌, List, [], ◌∷◌, ◌++◌, length, drop, get_or, if◌then◌else◌, Ok, Err, refl, sym, ap, ◌∙◌}
use Rattle.std.specs.List.{list_all}
use Rattle.std.proofs.lemmas.List.{drop_more}
use Rattle.std.proofs.Math.ListN.{drop_of_length-le}
use Rattle.design_core.specs.declared.expr.Literal.{Literal}
use Rattle.design_core.specs.declared.statement.Arm as code_arm
use Rattle.design_core.specs.View.{arms_of}
use Rattle.design_core.specs.Widths.{bits}
use Rattle.check_core.specs.declared.fault.Clash.{Clash}
use Rattle.check_core.specs.Widths.{is_literal, arm_literals, literals_width, needed_width, clash}

-- ---- all of them

all_behind : (p : Literal → Bool) (first rest : List Literal) → list_all p (first ++ rest) ≡ (list_all p first && list_all p rest)
all_behind p [] rest = refl
all_behind p (l ∷ first) rest = ap (λ b. p l && b) (all_behind p first rest) ∙ assoc (p l) (list_all p first) (list_all p rest)
  where
    assoc : (a b c : Bool) → (a && (b && c)) ≡ ((a && b) && c)
    assoc true b c = refl
    assoc false b c = refl

all_split : (arms : List code_arm.Arm) (i : ℕ) (a : code_arm.Arm) → i < length arms → a ≡ get_or arms i a
    → list_all is_literal (arm_literals (arms_of (drop i arms))) ≡ (list_all is_literal a.tests.items && list_all is_literal (arm_literals (arms_of (drop (i + 1) arms))))
all_split arms i a inside at =
    ap (λ (k : List code_arm.Arm). list_all is_literal (arm_literals (arms_of k))) (drop_more arms i a inside ∙ ap (λ k. k ∷ drop (i + 1) arms) (sym at))
    ∙ all_behind is_literal a.tests.items (arm_literals (arms_of (drop (i + 1) arms)))

pub all_next : (arms : List code_arm.Arm) (i : ℕ) (a : code_arm.Arm) → i < length arms → a ≡ get_or arms i a → list_all is_literal a.tests.items ≡ true
    → list_all is_literal (arm_literals (arms_of (drop (i + 1) arms))) ≡ list_all is_literal (arm_literals (arms_of (drop i arms)))
all_next arms i a inside at all = sym (all_split arms i a inside at ∙ ap (λ b. b && list_all is_literal (arm_literals (arms_of (drop (i + 1) arms)))) all)

pub all_fails : (arms : List code_arm.Arm) (i : ℕ) (a : code_arm.Arm) → i < length arms → a ≡ get_or arms i a → list_all is_literal a.tests.items ≡ false
    → list_all is_literal (arm_literals (arms_of (drop i arms))) ≡ false
all_fails arms i a inside at none = all_split arms i a inside at ∙ ap (λ b. b && list_all is_literal (arm_literals (arms_of (drop (i + 1) arms)))) none

pub all_end : (arms : List code_arm.Arm) (i : ℕ) → length arms ≤ i → list_all is_literal (arm_literals (arms_of (drop i arms))) ≡ true
all_end arms i past = ap (λ (k : List code_arm.Arm). list_all is_literal (arm_literals (arms_of k))) (drop_of_length-le arms past)

pub ruleset all_steps = (all_next, all_fails, all_end)

-- ---- literals that have to have a width

one_width : (w : ℕ) (l : Literal) (rest : List Literal) (have : ℕ) → needed_width w (bits l.width) ≡ Ok have → literals_width w (l ∷ rest) ≡ literals_width w rest
one_width w l rest have e = by_test (bits l.width == w) e
  where
    by_test : (b : Bool) → (if b then Ok w else clash (bits l.width) w) ≡ Ok have → (if b then literals_width w rest else clash (bits l.width) w) ≡ literals_width w rest
    by_test true d = refl
    by_test false d = cc

other_width : (w : ℕ) (l : Literal) (rest : List Literal) (found : Clash) → needed_width w (bits l.width) ≡ Err found → literals_width w (l ∷ rest) ≡ Err found
other_width w l rest found e = by_test (bits l.width == w) e
  where
    by_test : (b : Bool) → (if b then Ok w else clash (bits l.width) w) ≡ Err found → (if b then literals_width w rest else clash (bits l.width) w) ≡ Err found
    by_test true d = cc
    by_test false d = d

split : (w : ℕ) (all : List Literal) (i : ℕ) (l : Literal) → i < length all → l ≡ get_or all i l → literals_width w (drop i all) ≡ literals_width w (l ∷ drop (i + 1) all)
split w all i l inside at = ap (literals_width w) (drop_more all i l inside ∙ ap (λ k. k ∷ drop (i + 1) all) (sym at))

pub literal_next : (w : ℕ) (all : List Literal) (i : ℕ) (l : Literal) (have : ℕ) → i < length all → l ≡ get_or all i l → needed_width w (bits l.width) ≡ Ok have
    → literals_width w (drop (i + 1) all) ≡ literals_width w (drop i all)
literal_next w all i l have inside at ok = sym (split w all i l inside at ∙ one_width w l (drop (i + 1) all) have ok)

pub literal_other : (w : ℕ) (all : List Literal) (i : ℕ) (l : Literal) (found : Clash) → i < length all → l ≡ get_or all i l → needed_width w (bits l.width) ≡ Err found
    → literals_width w (drop i all) ≡ Err found
literal_other w all i l found inside at other = split w all i l inside at ∙ other_width w l (drop (i + 1) all) found other

pub literal_end : (w : ℕ) (all : List Literal) (i : ℕ) → length all ≤ i → literals_width w (drop i all) ≡ Ok w
literal_end w all i past = ap (literals_width w) (drop_of_length-le all past)

pub ruleset literal_steps = (literal_next, literal_other, literal_end)

-- ---- the same of arms

behind_ok : (w : ℕ) (first rest : List Literal) (have : ℕ) → literals_width w first ≡ Ok have → literals_width w (first ++ rest) ≡ literals_width w rest
behind_ok w [] rest have e = refl
behind_ok w (l ∷ first) rest have e = by_test (bits l.width == w) (λ d. behind_ok w first rest have d) e
  where
    by_test : (b : Bool) → (literals_width w first ≡ Ok have → literals_width w (first ++ rest) ≡ literals_width w rest)
        → (if b then literals_width w first else clash (bits l.width) w) ≡ Ok have → (if b then literals_width w (first ++ rest) else clash (bits l.width) w) ≡ literals_width w rest
    by_test true further d = further d
    by_test false further d = cc

behind_err : (w : ℕ) (first rest : List Literal) (found : Clash) → literals_width w first ≡ Err found → literals_width w (first ++ rest) ≡ Err found
behind_err w [] rest found e = cc
behind_err w (l ∷ first) rest found e = by_test (bits l.width == w) (λ d. behind_err w first rest found d) e
  where
    by_test : (b : Bool) → (literals_width w first ≡ Err found → literals_width w (first ++ rest) ≡ Err found)
        → (if b then literals_width w first else clash (bits l.width) w) ≡ Err found → (if b then literals_width w (first ++ rest) else clash (bits l.width) w) ≡ Err found
    by_test true further d = further d
    by_test false further d = d

arms_split : (w : ℕ) (arms : List code_arm.Arm) (i : ℕ) (a : code_arm.Arm) → i < length arms → a ≡ get_or arms i a
    → literals_width w (arm_literals (arms_of (drop i arms))) ≡ literals_width w (a.tests.items ++ arm_literals (arms_of (drop (i + 1) arms)))
arms_split w arms i a inside at =
    ap (λ (k : List code_arm.Arm). literals_width w (arm_literals (arms_of k))) (drop_more arms i a inside ∙ ap (λ k. k ∷ drop (i + 1) arms) (sym at))

pub arm_next : (w : ℕ) (arms : List code_arm.Arm) (i : ℕ) (a : code_arm.Arm) (have : ℕ) → i < length arms → a ≡ get_or arms i a → literals_width w a.tests.items ≡ Ok have
    → literals_width w (arm_literals (arms_of (drop (i + 1) arms))) ≡ literals_width w (arm_literals (arms_of (drop i arms)))
arm_next w arms i a have inside at ok = sym (arms_split w arms i a inside at ∙ behind_ok w a.tests.items (arm_literals (arms_of (drop (i + 1) arms))) have ok)

pub arm_other : (w : ℕ) (arms : List code_arm.Arm) (i : ℕ) (a : code_arm.Arm) (found : Clash) → i < length arms → a ≡ get_or arms i a → literals_width w a.tests.items ≡ Err found
    → literals_width w (arm_literals (arms_of (drop i arms))) ≡ Err found
arm_other w arms i a found inside at other = arms_split w arms i a inside at ∙ behind_err w a.tests.items (arm_literals (arms_of (drop (i + 1) arms))) found other

pub arm_end : (w : ℕ) (arms : List code_arm.Arm) (i : ℕ) → length arms ≤ i → literals_width w (arm_literals (arms_of (drop i arms))) ≡ Ok w
arm_end w arms i past = ap (λ (k : List code_arm.Arm). literals_width w (arm_literals (arms_of k))) (drop_of_length-le arms past)

pub ruleset arm_steps = (arm_next, arm_other, arm_end)
