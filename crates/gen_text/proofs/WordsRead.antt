-- One word.
use Rattle.std.proofs.Common.{◌≡◌, ◌≤◌, ℕ, zero, suc, Bool, true, false, List, [], ◌∷◌, ◌++◌, length, Option, Some, None, refl, ap, arith, ◌⊎◌, inl, inr}
use denote.Enum.Bare.{same_true, true_same}
use Rattle.gen_token.specs.contracts.Keyword as keyword_enum
use Rattle.gen_token.specs.contracts.Mark as mark_enum
use Rattle.gen_token.specs.declared.Keyword.{Keyword}
use Rattle.gen_token.specs.declared.Mark.{Mark}
use Rattle.gen_token.specs.Words.{Word, Name, Number, Literal, Reserved, Sign, Tok}
use Rattle.gen_tree.specs.declared.Dialect.{Dialect}
use Rattle.gen_tree.specs.Brackets.{opens, side, room_by}
use Rattle.gen_tree.specs.Grammar.{Single, Sym}
use Rattle.gen_text.specs.Forms.{is_mark, is_keyword, name_form}
use Rattle.gen_text.specs.Reading.{Read, ◌>>=◌, behind, open_at, some_at, name_at}
use Rattle.gen_text.proofs.Machine.{Fixed, key, sign, fixed_word, is_fixed, Symbol, need, need_name, run}
use Rattle.gen_text.proofs.Moves.{shifted, halted, full, ended, Stops, Reads, ReadsOn, then_word, done, begins as takes_first, refuses, refuses_end}

pub is_mark_is : (m : Mark) (w : Word) → is_mark m w ≡ true → w ≡ Sign m
is_mark_is m (Name x) e = absurd cc
is_mark_is m (Number n) e = absurd cc
is_mark_is m (Literal w v) e = absurd cc
is_mark_is m (Reserved k) e = absurd cc
is_mark_is m (Sign found) e = ap Sign (same_true mark_enum.the_type tt found m e)

pub is_keyword_is : (k : Keyword) (w : Word) → is_keyword k w ≡ true → w ≡ Reserved k
is_keyword_is k (Name x) e = absurd cc
is_keyword_is k (Number n) e = absurd cc
is_keyword_is k (Literal w v) e = absurd cc
is_keyword_is k (Reserved found) e = ap Reserved (same_true keyword_enum.the_type tt found k e)
is_keyword_is k (Sign found) e = absurd cc

pub is_fixed_is : (f : Fixed) (w : Word) → is_fixed f w ≡ true → w ≡ fixed_word f
is_fixed_is (key k) w e = is_keyword_is k w e
is_fixed_is (sign m) w e = is_mark_is m w e

pub is_itself : (f : Fixed) → is_fixed f (fixed_word f) ≡ true
is_itself (key k) = true_same keyword_enum.the_type k k refl
is_itself (sign m) = true_same mark_enum.the_type m m refl

pub test : (b : Bool) → (b ≡ true) ⊎ (b ≡ false)
test true = inl refl
test false = inr refl

pub word_reads : {m : Dialect} (f : Fixed) (room room2 : ℕ) (ts : List Tok) → room_by (side (fixed_word f)) room ≡ Some room2
    → ReadsOn m room (need f ∷ []) ts room2 (Single (fixed_word f) ts) (behind (is_fixed f) ts)
word_reads {m = m} f room room2 [] h = record { reads = record { stops = λ stack. ended m room (need f) stack refl } }
word_reads {m = m} f room room2 (t ∷ ts) h = elim (test (is_fixed f t.word)) [
  | inl e ↦
      let is : t.word ≡ fixed_word f = is_fixed_is f t.word e in
      let moved : (stack : List Symbol) → run m room (need f ∷ stack) (t ∷ ts) ≡ run m room2 stack ts = λ stack. shifted m room room2 (need f) stack [] t ts (rw e refl) (rw is h) in
      rw e (record { reads = (record { comes = moved }, (is, refl), omega arith) })
  | inr e ↦ rw e (record { reads = record { stops = λ stack. halted m room (need f) stack t ts (rw e refl) } })
]

-- a bracket where there is no room
open_full : (m : Dialect) (k : Mark) (ts : List Tok) → side (Sign k) ≡ opens → Stops m zero (need (sign k) ∷ []) ts (length ts)
open_full m k [] h = record { stops = λ stack. ended m zero (need (sign k)) stack refl }
open_full m k (t ∷ ts) h = elim (test (is_mark k t.word)) [
  | inl e ↦
      let is : t.word ≡ Sign k = is_mark_is k t.word e in
      record { stops = λ stack. full m zero (need (sign k)) stack [] t ts (rw e refl) (rw (is, h) refl) }
  | inr e ↦ record { stops = λ stack. halted m zero (need (sign k)) stack t ts (rw e refl) }
]

-- an opening bracket, and what stands behind it, which is read only where there is room
pub then_open : {B : Type 0} {m : Dialect} (k : Mark) (room : ℕ) (ts : List Tok) {more : List Symbol} {room3 : ℕ} {Q : B → List Tok → Type 0} (f : List Tok → Read B)
    → side (Sign k) ≡ opens → ((room2 : ℕ) → room ≡ suc room2 → (rest : List Tok) → Sym k ts rest → length rest ≤ length ts → Reads m room2 more rest room3 Q (f rest))
    → Reads m room (need (sign k) ∷ more) ts room3 Q (open_at k room ts >>= f)
then_open {m = m} k zero ts {more = more} f h next = record { reads = record { stops = λ stack. (open_full m k ts h).stops (more ++ stack) } }
then_open k (suc room) ts f h next = then_word f (word_reads (sign k) (suc room) room ts (rw h refl)) (next room refl)

-- ---- a name

abbrev pub NameIs : Option (List ℕ) → Word → Type 0
NameIs None w = Unit {0}
NameIs (Some x) w = w ≡ Name x

pub name_is : (w : Word) → NameIs (name_form w) w
name_is (Name x) = refl
name_is (Number n) = tt
name_is (Literal w v) = tt
name_is (Reserved k) = tt
name_is (Sign m) = tt

name_reads_by : {m : Dialect} (f : Option (List ℕ)) (room : ℕ) (t : Tok) (ts : List Tok) → name_form t.word ≡ f → NameIs f t.word
    → Reads m room (need_name ∷ []) (t ∷ ts) room (λ x. Single (Name x) (t ∷ ts)) (some_at f ts)
name_reads_by None room t ts e h = refuses (rw e refl)
name_reads_by (Some x) room t ts e h = takes_first (rw e refl) (rw h refl) (done (h, refl))

pub name_reads : {m : Dialect} (room : ℕ) (ts : List Tok) → Reads m room (need_name ∷ []) ts room (λ x. Single (Name x) ts) (name_at ts)
name_reads room [] = refuses_end refl
name_reads room (t ∷ ts) = name_reads_by (name_form t.word) room t ts refl (name_is t.word)
