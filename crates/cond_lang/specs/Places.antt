-- A form over the places of values: the trees that it stands for there, and how the widths of its parts are judged.
use Rattle.std.specs.Prelude.{◌≡◌, ◌≤◌, ◌-◌, ℕ, ◌+◌, Bool, true, false, List, [], ◌∷◌, length, get_or, Option, Some, None, unwrap_or, Result, Ok, Err}
use Rattle.std.specs.List.{slice_get}
use Rattle.std.specs.Borrow.{Bor}
use Rattle.bv_core.specs.Operators.{width1_of, width2_of}
use Rattle.bv_core.specs.declared.Op1.{Op1}
use Rattle.bv_core.specs.declared.Op1.TheVariants as op1
use Rattle.bv_core.specs.declared.Op2.{Op2}
use Rattle.bv_core.specs.declared.Op2.TheVariants as op2
use Rattle.bv_core.specs.declared.Ref.{Ref}
use Rattle.bv_core.specs.declared.Ref.TheVariants as ref
use Rattle.tree_core.specs.Tree.{Tree, Const, Leaf, One, Two, Mux}
use Rattle.cond_lang.specs.declared.form.Part.{Part}
use Rattle.cond_lang.specs.Judged.{◌>>=◌, fits_one, fits_two, fits_choice, fits_literal}
use Rattle.cond_lang.specs.Bound.{ref_width, IsRef}
use Rattle.cond_lang.specs.Form.{Seat, trees, seats, first_tree, later}

-- ---- trees

-- the place with this number; none has it that is not there
abbrev pub ref_at : List Ref → ℕ → Ref
ref_at refs k = unwrap_or (slice_get refs k) (ref.Const (record { width = 0; value = 0 }))

-- the trees of a form, one after another
abbrev pub trees_at : List Ref → List Part → List (Tree Ref)
trees_at refs parts = trees (λ s. ref_at refs s.place) parts

-- places at which constants are values
abbrev pub AreRefs : List Ref → Type 0
AreRefs [] = Unit {0}
AreRefs (at ∷ refs) = IsRef at × AreRefs refs

-- the tree of a form that is one
abbrev pub tree_at : List Ref → List Part → Tree Ref
tree_at refs parts = first_tree (trees_at refs parts)

-- ---- tokens

-- the tokens before the operand of an operator, and those behind it: `~(e)`, `zext(e, 8)`, `e[7:0]`
abbrev pub before_one : Op1 → ℕ
before_one (op1.Slice high low) = 0
before_one _ = 2

abbrev pub behind_one : Op1 → ℕ
behind_one (op1.Slice high low) = 5
behind_one (op1.Zext to) = 3
behind_one _ = 1

-- the tokens before the first operand: `(e + f)`, `cat(e, f)`
abbrev pub before_two : Op2 → ℕ
before_two op2.Cat = 2
before_two _ = 1

-- how many tokens an expression has
abbrev pub size : Tree Seat → ℕ
size (Const b) = 1
size (Leaf s) = s.tokens
size (One o a) = before_one o + size a + behind_one o
size (Two o a b) = before_two o + size a + 1 + size b + 1
size (Mux c a b) = 2 + size c + 1 + size a + 1 + size b + 1

-- ---- widths

-- a part's width where it fits, else where it begins
abbrev pub fit : Bool → ℕ → ℕ → Result ℕ ℕ
fit true w start = Ok w
fit false w start = Err start

abbrev pub leaf_fit : Option Ref → ℕ → Result ℕ ℕ
leaf_fit (Some at) start = Ok (ref_width at)
leaf_fit None start = Err start

-- an operator's width, of those of its operands, where it begins there
abbrev pub one_fit : Op1 → ℕ → Result ℕ ℕ → Result ℕ ℕ
one_fit o start a = a >>= λ a. fit (fits_one o a) (width1_of o a) start

abbrev pub two_fit : Op2 → ℕ → Result ℕ ℕ → Result ℕ ℕ → Result ℕ ℕ
two_fit o start a b = a >>= λ a. b >>= λ b. fit (fits_two o a b) (width2_of o a b) start

abbrev pub three_fit : ℕ → Result ℕ ℕ → Result ℕ ℕ → Result ℕ ℕ → Result ℕ ℕ
three_fit start c a b = c >>= λ c. a >>= λ a. b >>= λ b. fit (fits_choice c a b) a start

-- the width of an expression whose first token has this number, over these places, where tokens have these offsets; or the offset of
-- the first token of the first part in it that does not fit, operands from left to right before their operator
abbrev pub judged_at : List Ref → List ℕ → Tree Seat → ℕ → Result ℕ ℕ
judged_at refs offsets (Const b) n = fit (fits_literal b) b.width (get_or offsets n 0)
judged_at refs offsets (Leaf s) n = leaf_fit (slice_get refs s.place) (get_or offsets n 0)
judged_at refs offsets (One o a) n = one_fit o (get_or offsets n 0) (judged_at refs offsets a (n + before_one o))
judged_at refs offsets (Two o a b) n =
    two_fit o (get_or offsets n 0) (judged_at refs offsets a (n + before_two o)) (judged_at refs offsets b (n + before_two o + size a + 1))
judged_at refs offsets (Mux c a b) n =
    three_fit (get_or offsets n 0) (judged_at refs offsets c (n + 2)) (judged_at refs offsets a (n + 2 + size c + 1))
    (judged_at refs offsets b (n + 2 + size c + 1 + size a + 1))

-- the first of these trees ends before the token with the number `end`: where it begins; what is behind it; and its width, or where it
-- does not fit, if as many tokens stand before `end` as it has
pub record Judges (refs : List Ref) (offsets : List ℕ) (ts : List (Tree Seat)) (end : ℕ) (width : Result ℕ ℕ) (rest : List (Tree Seat)) (begin : ℕ) : Type 0 where
  pub begins : begin ≡ end - size (first_tree ts)
  pub behind : rest ≡ later ts
  pub fits : size (first_tree ts) ≤ end → width ≡ judged_at refs offsets (first_tree ts) (end - size (first_tree ts))

abbrev pub JudgesFirst : List Ref → List ℕ → List Part → ℕ → Result ℕ ℕ × Bor (List Part) × ℕ → Type 0
JudgesFirst refs offsets parts end found = Judges refs offsets (seats parts) end found.0 (seats found.1.now) found.2

-- an expression whose tokens are all that there are
abbrev pub judged_whole : List Ref → List ℕ → Tree Seat → Result ℕ ℕ
judged_whole refs offsets t = judged_at refs offsets t (length offsets - size t)

-- the tree of a form that is one, with its width; or where it does not fit
abbrev pub with_tree : Tree Ref → Result ℕ ℕ → Result (Tree Ref × ℕ) ℕ
with_tree t (Ok w) = Ok (t, w)
with_tree t (Err offset) = Err offset

abbrev pub bound_at : List Ref → List ℕ → List Part → Result (Tree Ref × ℕ) ℕ
bound_at refs offsets parts = with_tree (tree_at refs parts) (judged_whole refs offsets (first_tree (seats parts)))
