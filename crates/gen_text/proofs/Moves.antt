-- How the machine goes over one token, and over what a reader reads.
use Rattle.std.proofs.Common.{◌≡◌, ◌≤◌, le_trans, ℕ, suc, true, false, List, [], ◌∷◌, ◌++◌, length, Some, None, Result, Ok, Err, refl, ◌∙◌, arith, append_assoc}
use Rattle.gen_token.specs.Words.{Tok}
use Rattle.gen_tree.specs.declared.Dialect.{Dialect}
use Rattle.gen_tree.specs.Brackets.{room_after}
use Rattle.gen_text.specs.Reading.{Read, ◌>>=◌, seen}
use Rattle.gen_text.proofs.Machine.{Symbol, shift, skip, stuck, step, may_end, settle, run, at_end, stopped}

pub shifted : (m : Dialect) (room room2 : ℕ) (symbol : Symbol) (stack more : List Symbol) (t : Tok) (ts : List Tok) → step m symbol t.word ≡ shift more → room_after room t.word ≡ Some room2
    → run m room (symbol ∷ stack) (t ∷ ts) ≡ run m room2 (more ++ stack) ts
unfolding run settle
shifted m room room2 symbol stack more t ts e h = rw (e, h) refl

pub skipped : (m : Dialect) (room : ℕ) (symbol : Symbol) (stack : List Symbol) (t : Tok) (ts : List Tok) → step m symbol t.word ≡ skip
    → run m room (symbol ∷ stack) (t ∷ ts) ≡ run m room stack (t ∷ ts)
unfolding run settle
skipped m room symbol stack t ts e = rw e refl

pub halted : (m : Dialect) (room : ℕ) (symbol : Symbol) (stack : List Symbol) (t : Tok) (ts : List Tok) → step m symbol t.word ≡ stuck
    → run m room (symbol ∷ stack) (t ∷ ts) ≡ stopped (suc (length ts))
unfolding run settle
halted m room symbol stack t ts e = rw e refl

pub full : (m : Dialect) (room : ℕ) (symbol : Symbol) (stack more : List Symbol) (t : Tok) (ts : List Tok) → step m symbol t.word ≡ shift more → room_after room t.word ≡ None
    → run m room (symbol ∷ stack) (t ∷ ts) ≡ stopped (suc (length ts))
unfolding run settle
full m room symbol stack more t ts e h = rw (e, h) refl

pub ended : (m : Dialect) (room : ℕ) (symbol : Symbol) (stack : List Symbol) → may_end symbol ≡ false → run m room (symbol ∷ stack) [] ≡ stopped 0
unfolding run at_end
ended m room symbol stack e = rw e refl

pub ended_skips : (m : Dialect) (room : ℕ) (symbol : Symbol) (stack : List Symbol) → may_end symbol ≡ true → run m room (symbol ∷ stack) [] ≡ run m room stack []
unfolding run at_end
ended_skips m room symbol stack e = rw e refl

-- Above the stack whatever it is, the machine comes from these symbols before these tokens to those.
pub record Comes (m : Dialect) (room : ℕ) (more : List Symbol) (ts : List Tok) (room2 : ℕ) (more2 : List Symbol) (rest : List Tok) : Type 0 where
  pub comes : (stack : List Symbol) → run m room (more ++ stack) ts ≡ run m room2 (more2 ++ stack) rest

pub record Stops (m : Dialect) (room : ℕ) (more : List Symbol) (ts : List Tok) (left : ℕ) : Type 0 where
  pub stops : (stack : List Symbol) → run m room (more ++ stack) ts ≡ stopped left

-- What was read is right, and the machine takes the symbols as the reader does.
abbrev ReadsBy : {A : Type 0} → Dialect → ℕ → List Symbol → List Tok → ℕ → (A → List Tok → Type 0) → Read A → Type 0
ReadsBy m room more ts room2 R (Ok p) = Comes m room more ts room2 [] p.1 × R p.0 p.1 × (length p.1 ≤ length ts)
ReadsBy m room more ts room2 R (Err left) = Stops m room more ts left

pub record Reads {A : Type 0} (m : Dialect) (room : ℕ) (more : List Symbol) (ts : List Tok) (room2 : ℕ) (R : A → List Tok → Type 0) (o : Read A) : Type 0 where
  pub reads : ReadsBy m room more ts room2 R o

abbrev ReadsOnBy : Dialect → ℕ → List Symbol → List Tok → ℕ → (List Tok → Type 0) → Result (List Tok) ℕ → Type 0
ReadsOnBy m room more ts room2 R (Ok rest) = Comes m room more ts room2 [] rest × R rest × (length rest ≤ length ts)
ReadsOnBy m room more ts room2 R (Err left) = Stops m room more ts left

pub record ReadsOn (m : Dialect) (room : ℕ) (more : List Symbol) (ts : List Tok) (room2 : ℕ) (R : List Tok → Type 0) (o : Result (List Tok) ℕ) : Type 0 where
  pub reads : ReadsOnBy m room more ts room2 R o

pub after : {A : Type 0} {m : Dialect} {room : ℕ} {more : List Symbol} {ts : List Tok} {room2 : ℕ} {more2 : List Symbol} {ts2 : List Tok} {room3 : ℕ} {R : A → List Tok → Type 0} {o : Read A}
    → length ts2 ≤ length ts → Comes m room more ts room2 more2 ts2 → Reads m room2 more2 ts2 room3 R o → Reads m room more ts room3 R o
after {o = Ok p} l c g = record { reads = (record { comes = λ stack. c.comes stack ∙ g.reads.0.comes stack }, g.reads.1, le_trans g.reads.2 l) }
after {o = Err left} l c g = record { reads = record { stops = λ stack. c.comes stack ∙ g.reads.stops stack } }

-- one reader after another
pub then_read : {A B : Type 0} {m : Dialect} {room : ℕ} {symbol : Symbol} {more : List Symbol} {ts : List Tok} {room2 room3 : ℕ} {R : A → List Tok → Type 0} {Q : B → List Tok → Type 0} {o : Read A} (f : A × List Tok → Read B)
    → Reads m room (symbol ∷ []) ts room2 R o → ((x : A) (rest : List Tok) → R x rest → length rest ≤ length ts → Reads m room2 more rest room3 Q (f (x, rest))) → Reads m room (symbol ∷ more) ts room3 Q (o >>= f)
then_read {more = more} {o = Ok p} f g k = after g.reads.2 (record { comes = λ stack. g.reads.0.comes (more ++ stack) }) (k p.0 p.1 g.reads.1 g.reads.2)
then_read {more = more} {o = Err left} f g k = record { reads = record { stops = λ stack. g.reads.stops (more ++ stack) } }

pub then_word : {B : Type 0} {m : Dialect} {room : ℕ} {symbol : Symbol} {more : List Symbol} {ts : List Tok} {room2 room3 : ℕ} {R : List Tok → Type 0} {Q : B → List Tok → Type 0} {o : Result (List Tok) ℕ} (f : List Tok → Read B)
    → ReadsOn m room (symbol ∷ []) ts room2 R o → ((rest : List Tok) → R rest → length rest ≤ length ts → Reads m room2 more rest room3 Q (f rest)) → Reads m room (symbol ∷ more) ts room3 Q (o >>= f)
then_word {more = more} {o = Ok rest} f g k = after g.reads.2 (record { comes = λ stack. g.reads.0.comes (more ++ stack) }) (k rest g.reads.1 g.reads.2)
then_word {more = more} {o = Err left} f g k = record { reads = record { stops = λ stack. g.reads.stops (more ++ stack) } }

pub done : {A : Type 0} {m : Dialect} {room : ℕ} {ts : List Tok} {Q : A → List Tok → Type 0} {x : A} → Q x ts → Reads m room [] ts room Q (Ok (x, ts))
done {ts = ts} h = record { reads = (record { comes = λ stack. refl }, h, omega arith) }

-- a symbol whose first token is t
pub begins : {A : Type 0} {m : Dialect} {room room2 room3 : ℕ} {symbol : Symbol} {more : List Symbol} {t : Tok} {ts : List Tok} {R : A → List Tok → Type 0} {o : Read A}
    → step m symbol t.word ≡ shift more → room_after room t.word ≡ Some room2 → Reads m room2 more ts room3 R o → Reads m room (symbol ∷ []) (t ∷ ts) room3 R o
begins {m = m} {room = room} {room2 = room2} {symbol = symbol} {more = more} {t = t} {ts = ts} e h g =
    after (omega arith) (record { comes = λ stack. shifted m room room2 symbol stack more t ts e h }) g

-- a symbol that is nothing before t
pub passes : {A : Type 0} {m : Dialect} {room : ℕ} {symbol : Symbol} {t : Tok} {ts : List Tok} {R : A → List Tok → Type 0} {x : A}
    → step m symbol t.word ≡ skip → R x (t ∷ ts) → Reads m room (symbol ∷ []) (t ∷ ts) room R (Ok (x, t ∷ ts))
passes {m = m} {room = room} {symbol = symbol} {t = t} {ts = ts} e h = record { reads = (record { comes = λ stack. skipped m room symbol stack t ts e }, h, omega arith) }

pub passes_end : {A : Type 0} {m : Dialect} {room : ℕ} {symbol : Symbol} {R : A → List Tok → Type 0} {x : A}
    → may_end symbol ≡ true → R x [] → Reads m room (symbol ∷ []) [] room R (Ok (x, []))
passes_end {m = m} {room = room} {symbol = symbol} e h = record { reads = (record { comes = λ stack. ended_skips m room symbol stack e }, h, omega arith) }

-- where the machine is stuck, at the end, and without room
pub refuses : {A : Type 0} {m : Dialect} {room room3 : ℕ} {symbol : Symbol} {t : Tok} {ts : List Tok} {R : A → List Tok → Type 0} → step m symbol t.word ≡ stuck → Reads m room (symbol ∷ []) (t ∷ ts) room3 R (Err (suc (length ts)))
refuses {m = m} {room = room} {symbol = symbol} {t = t} {ts = ts} e = record { reads = record { stops = λ stack. halted m room symbol stack t ts e } }

pub refuses_end : {A : Type 0} {m : Dialect} {room room3 : ℕ} {symbol : Symbol} {R : A → List Tok → Type 0} → may_end symbol ≡ false → Reads m room (symbol ∷ []) [] room3 R (Err 0)
refuses_end {m = m} {room = room} {symbol = symbol} e = record { reads = record { stops = λ stack. ended m room symbol stack e } }

pub refuses_full : {A : Type 0} {m : Dialect} {room room3 : ℕ} {symbol : Symbol} (more : List Symbol) {t : Tok} {ts : List Tok} {R : A → List Tok → Type 0} → step m symbol t.word ≡ shift more → room_after room t.word ≡ None → Reads m room (symbol ∷ []) (t ∷ ts) room3 R (Err (suc (length ts)))
refuses_full {m = m} {room = room} {symbol = symbol} more {t = t} {ts = ts} e h = record { reads = record { stops = λ stack. full m room symbol stack more t ts e h } }

-- what was read, seen otherwise
pub then_seen : {A B : Type 0} {m : Dialect} {room : ℕ} {more : List Symbol} {ts : List Tok} {room2 : ℕ} {R : A → List Tok → Type 0} {Q : B → List Tok → Type 0} {o : Read A} (f : A → B)
    → Reads m room more ts room2 R o → ((x : A) (rest : List Tok) → R x rest → length rest ≤ length ts → Q (f x) rest) → Reads m room more ts room2 Q (seen f o)
then_seen {o = Ok p} f g h = record { reads = (g.reads.0, h p.0 p.1 g.reads.1 g.reads.2, g.reads.2) }
then_seen {o = Err left} f g h = record { reads = record { stops = g.reads.stops } }

-- symbols that one reader takes together
pub then_front : {A B : Type 0} (front : List Symbol) {more : List Symbol} {m : Dialect} {room : ℕ} {ts : List Tok} {room2 room3 : ℕ} {R : A → List Tok → Type 0} {Q : B → List Tok → Type 0} {o : Read A} (f : A × List Tok → Read B)
    → Reads m room front ts room2 R o → ((x : A) (rest : List Tok) → R x rest → length rest ≤ length ts → Reads m room2 more rest room3 Q (f (x, rest))) → Reads m room (front ++ more) ts room3 Q (o >>= f)
then_front front {more = more} {m = m} {o = Ok p} f g k = after g.reads.2 (record { comes = λ stack. rw append_assoc (g.reads.0.comes (more ++ stack)) }) (k p.0 p.1 g.reads.1 g.reads.2)
then_front front {more = more} {o = Err left} f g k = record { reads = record { stops = λ stack. rw append_assoc (g.reads.stops (more ++ stack)) } }

pub maps : {A : Type 0} {m : Dialect} {room : ℕ} {more : List Symbol} {ts : List Tok} {room2 : ℕ} {R Q : A → List Tok → Type 0} {o : Read A} → ((x : A) (rest : List Tok) → R x rest → Q x rest) → Reads m room more ts room2 R o → Reads m room more ts room2 Q o
maps {o = Ok p} h g = record { reads = (g.reads.0, h p.0 p.1 g.reads.1, g.reads.2) }
maps {o = Err left} h g = record { reads = g.reads }

-- what is left is no longer
pub measured : {A : Type 0} {m : Dialect} {room : ℕ} {more : List Symbol} {ts : List Tok} {room2 : ℕ} {R : A → List Tok → Type 0} {o : Read A} → Reads m room more ts room2 R o → Reads m room more ts room2 (λ x rest. R x rest × (length rest ≤ length ts)) o
measured {o = Ok p} g = record { reads = (g.reads.0, (g.reads.1, g.reads.2), g.reads.2) }
measured {o = Err left} g = record { reads = g.reads }
