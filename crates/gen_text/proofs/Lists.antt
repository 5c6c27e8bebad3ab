-- Lists: as long as a member begins, or up to a closing brace; bodies in braces, and behind `else`.
use Rattle.std.proofs.Common.{◌≡◌, ◌≤◌, ◌<◌, ℕ, zero, suc, Bool, true, false, cond, List, [], ◌∷◌, ◌++◌, length, Option, Some, None, Ok, Err, refl, sym, ap, subst, ◌∙◌, arith, append-nil, append_assoc, inl, inr}
use Rattle.gen_token.specs.declared.Keyword.{Keyword}
use Rattle.gen_token.specs.declared.Mark.TheVariants as mark
use Rattle.gen_token.specs.Words.{Word, Reserved, Sign, Tok}
use Rattle.gen_tree.specs.declared.Dialect.{Dialect}
use Rattle.gen_tree.specs.declared.Dialect.TheVariants as dialect
use Rattle.gen_tree.specs.Grammar.{Span, ◌⨾◌, Sym, Key, Each, Braces}
use Rattle.gen_text.specs.Forms.{is_mark, is_keyword}
use Rattle.gen_text.specs.Reading.{Read, ◌>>=◌, begins, rest_of, until_by, each_by, body_by, else_by}
use Rattle.gen_text.proofs.Machine.{Symbol, shift, skip, step, lead, until_step, body_symbols, may_end, settle, run, at_end}
use Rattle.gen_text.proofs.Moves.{Comes, Stops, Reads, after, then_read, then_seen, maps, done, begins as takes_first, passes, passes_end}
use Rattle.gen_text.proofs.WordsRead.{test, is_mark_is, is_keyword_is, then_open}

-- A list was read, and the symbol that it stands under is still to come, before a token that begins no other.
abbrev EachReadsBy : {A : Type 0} → Dialect → ℕ → Symbol → (List Tok → Bool) → (A → Span) → List Tok → Read (List A) → Type 0
EachReadsBy m room symbol goes S ts (Ok p) = Comes m room (symbol ∷ []) ts room (symbol ∷ []) p.1 × Each S p.0 ts p.1 × (length p.1 ≤ length ts) × (goes p.1 ≡ false)
EachReadsBy m room symbol goes S ts (Err left) = Stops m room (symbol ∷ []) ts left

pub record EachReads {A : Type 0} (m : Dialect) (room : ℕ) (symbol : Symbol) (goes : List Tok → Bool) (S : A → Span) (ts : List Tok) (o : Read (List A)) : Type 0 where
  pub reads : EachReadsBy m room symbol goes S ts o

-- what one form of the list has to meet
pub record OneOf {A : Type 0} (m : Dialect) (room : ℕ) (symbol single : Symbol) (goes : List Tok → Bool) (S : A → Span) (one : List Tok → Read A) : Type 0 where
  pub opens : (ts : List Tok) → goes ts ≡ true → Comes m room (symbol ∷ []) ts room (single ∷ symbol ∷ []) ts
  pub reads : (ts : List Tok) → Reads m room (single ∷ []) ts room (λ x rest. S x ts rest × (length rest < length ts)) (one ts)

pub each_reads : {A : Type 0} (m : Dialect) (n room : ℕ) (symbol single : Symbol) (goes : List Tok → Bool) (S : A → Span) (one : List Tok → Read A) (ts : List Tok) → OneOf m room symbol single goes S one → length ts < n
    → EachReads m room symbol goes S ts (each_by goes one n ts)
unfolding each_by
each_reads m zero room symbol single goes S one ts h lt = absurd (omega arith)
each_reads {A = A} m (suc n) room symbol single goes S one ts h lt = elim (test (goes ts)) [
  | inr e ↦ rw e (record { reads = (record { comes = λ stack. refl }, refl, omega arith, e) })
  | inl e ↦ rw e (first (λ t1 l. each_reads m n room symbol single goes S one t1 h (omega arith)) (h.opens ts e) (one ts) (h.reads ts))
]
  where
    second : (x : A) (t1 : List Tok) → Comes m room (symbol ∷ []) ts room (symbol ∷ []) t1 → S x ts t1 → length t1 < length ts → (o : Read (List A)) → EachReads m room symbol goes S t1 o
        → EachReads m room symbol goes S ts (o >>= λ more. Ok (x ∷ more.0, more.1))
    second x t1 c s l (Ok p) g = record { reads = (record { comes = λ stack. c.comes stack ∙ g.reads.0.comes stack }, (t1, s, g.reads.1), omega (arith, g.reads.2), g.reads.3) }
    second x t1 c s l (Err left) g = record { reads = record { stops = λ stack. c.comes stack ∙ g.reads.stops stack } }

    first : ((t1 : List Tok) → length t1 < length ts → EachReads m room symbol goes S t1 (each_by goes one n t1)) → Comes m room (symbol ∷ []) ts room (single ∷ symbol ∷ []) ts
        → (o : Read A) → Reads m room (single ∷ []) ts room (λ x rest. S x ts rest × (length rest < length ts)) o
        → EachReads m room symbol goes S ts (o >>= λ x. each_by goes one n x.1 >>= λ more. Ok (x.0 ∷ more.0, more.1))
    first more c (Ok p) g = second p.0 p.1 (record { comes = λ stack. c.comes stack ∙ g.reads.0.comes (symbol ∷ stack) }) g.reads.1.0 g.reads.1.1 (each_by goes one n p.1) (more p.1 g.reads.1.1)
    first more c (Err left) g = record { reads = record { stops = λ stack. c.comes stack ∙ g.reads.stops (symbol ∷ stack) } }

-- what the list spells is read
pub each_only : {A : Type 0} (xs : List A) (n : ℕ) (goes : List Tok → Bool) (S : A → Span) (one : List Tok → Read A) (ts rest : List Tok)
    → ((x : A) (ts rest : List Tok) → S x ts rest → (goes ts ≡ true) × (one ts ≡ Ok (x, rest)) × (length rest < length ts)) → goes rest ≡ false → length ts < n → Each S xs ts rest
    → each_by goes one n ts ≡ Ok (xs, rest)
unfolding each_by
each_only xs zero goes S one ts rest h e lt s = absurd (omega arith)
each_only [] (suc n) goes S one ts rest h e lt s = rw (s, e) refl
each_only (x ∷ xs) (suc n) goes S one ts rest h e lt (t1, s, more) =
    let a = h x ts t1 s in
    let l : length t1 < length ts = a.2 in
    rw (a.0, a.1, each_only xs n goes S one t1 rest h e (omega arith) more) refl

-- a list, and then what stands behind it
pub then_each : {A B : Type 0} {m : Dialect} {room : ℕ} {symbol : Symbol} {next more : List Symbol} {goes : List Tok → Bool} {S : A → Span} {ts : List Tok} {room3 : ℕ} {Q : B → List Tok → Type 0} {o : Read (List A)} (f : List A × List Tok → Read B)
    → EachReads m room symbol goes S ts o → ((rest : List Tok) → goes rest ≡ false → Comes m room (symbol ∷ []) rest room next rest)
    → ((xs : List A) (rest : List Tok) → Each S xs ts rest → length rest ≤ length ts → Reads m room (next ++ more) rest room3 Q (f (xs, rest))) → Reads m room (symbol ∷ more) ts room3 Q (o >>= f)
then_each {next = next} {more = more} {o = Ok p} f g c k = after g.reads.2 (record { comes = λ stack. rw append_assoc (g.reads.0.comes (more ++ stack) ∙ (c p.1 g.reads.3).comes (more ++ stack)) }) (k p.0 p.1 g.reads.1 g.reads.2)
then_each {more = more} {o = Err left} f g c k = record { reads = record { stops = λ stack. g.reads.stops (more ++ stack) } }

-- ---- up to a closing brace

-- what one member of the list, and the symbol of the list, have to meet
pub record UntilOf {A : Type 0} (m : Dialect) (room : ℕ) (ends single : Symbol) (S : A → Span) (member : List Tok → Read A) : Type 0 where
  pub closes : (w : Word) → is_mark mark.RightBrace w ≡ true → step m ends w ≡ shift []
  pub opens : (ts : List Tok) → begins (is_mark mark.RightBrace) ts ≡ false → Comes m room (ends ∷ []) ts room (single ∷ ends ∷ []) ts
  pub reads : (ts : List Tok) → Reads m room (single ∷ []) ts room (λ x rest. S x ts rest × (length rest < length ts)) (member ts)

pub until_reads : {A : Type 0} (m : Dialect) (n room : ℕ) (ends single : Symbol) (S : A → Span) (member : List Tok → Read A) (ts : List Tok) → UntilOf m room ends single S member → length ts < n
    → Reads m room (ends ∷ []) ts (suc room) (λ xs. (Each S xs ⨾ Sym mark.RightBrace) ts) (until_by member n ts)
unfolding until_by
until_reads m zero room ends single S member ts h lt = absurd (omega arith)
until_reads m (suc n) room ends single S member [] h lt =
    after (omega arith) (h.opens [] refl) (
    then_read _ (h.reads []) (λ x t1 gx lx.
    then_read _ (until_reads m n room ends single S member t1 h (omega (arith, gx.1))) (λ more rest gm lm.
    done (gm.0, (t1, gx.0, gm.1), gm.2))))
until_reads m (suc n) room ends single S member (t ∷ ts) h lt = elim (test (is_mark mark.RightBrace t.word)) [
  | inl eq ↦
      let is : t.word ≡ Sign mark.RightBrace = is_mark_is mark.RightBrace t.word eq in
      rw eq (takes_first (h.closes t.word eq) (rw is refl) (done (t ∷ ts, refl, (is, refl))))
  | inr eq ↦
      rw eq (after (omega arith) (h.opens (t ∷ ts) eq) (
      then_read _ (h.reads (t ∷ ts)) (λ x t1 gx lx.
      then_read _ (until_reads m n room ends single S member t1 h (omega (arith, gx.1))) (λ more rest gm lm.
      done (gm.0, (t1, gx.0, gm.1), gm.2)))))
]

-- a list whose symbol goes where a member's symbol goes
settle_until : (m : Dialect) (ends single : Symbol) (f : Option (List Symbol)) (stack : List Symbol) (w : Word) → step m ends w ≡ until_step w f ends → step m single w ≡ lead f [] → is_mark mark.RightBrace w ≡ false
    → settle m (ends ∷ stack) w ≡ settle m (single ∷ ends ∷ stack) w
unfolding settle
settle_until m ends single None stack w e1 e2 ne = rw (e1, e2, ne) refl
settle_until m ends single (Some more) stack w e1 e2 ne = rw (e1, e2, ne, append_assoc, append-nil) refl

pub opens_until : (m : Dialect) (room : ℕ) (ends single : Symbol) (leads : Word → Option (List Symbol)) → ((w : Word) → step m ends w ≡ until_step w (leads w) ends) → ((w : Word) → step m single w ≡ lead (leads w) [])
    → may_end ends ≡ false → may_end single ≡ false → (ts : List Tok) → begins (is_mark mark.RightBrace) ts ≡ false → Comes m room (ends ∷ []) ts room (single ∷ ends ∷ []) ts
unfolding run at_end
opens_until m room ends single leads h1 h2 e1 e2 [] ne = record { comes = λ stack. rw (e1, e2) refl }
opens_until m room ends single leads h1 h2 e1 e2 (t ∷ ts) ne = record { comes = λ stack. rw (settle_until m ends single (leads t.word) stack t.word (h1 t.word) (h2 t.word) ne) refl }

-- what the list spells is read
pub until_only : {A : Type 0} (xs : List A) (n : ℕ) (S : A → Span) (member : List Tok → Read A) (ts mid rest : List Tok)
    → ((x : A) (ts rest : List Tok) → S x ts rest → member ts ≡ Ok (x, rest) → (begins (is_mark mark.RightBrace) ts ≡ false) × (length rest < length ts))
    → Each (λ x ts rest. S x ts rest × (member ts ≡ Ok (x, rest))) xs ts mid → (begins (is_mark mark.RightBrace) mid ≡ true) × (rest_of mid ≡ rest) → length ts < n
    → until_by member n ts ≡ Ok (xs, rest)
unfolding until_by
until_only xs zero S member ts mid rest h s w lt = absurd (omega arith)
until_only [] (suc n) S member ts mid rest h s w lt = rw (s, w.0, w.1) refl
until_only (x ∷ xs) (suc n) S member ts mid rest h (t1, s, more) w lt =
    let a = h x ts t1 s.0 s.1 in
    let l : length t1 < length ts = a.1 in
    rw (a.0, s.1, until_only xs n S member t1 mid rest h more w (omega arith)) refl

-- ---- bodies

-- what is read behind an opening brace, where there is room for it
abbrev pub InsideBody : {A : Type 0} → Symbol → (A → Span) → ℕ → (List Tok → Read A) → Type 0
InsideBody ends S zero inner = Unit {0}
InsideBody ends S (suc room) inner = (ts : List Tok) → Reads dialect.Source room (ends ∷ []) ts (suc room) (λ b. (S b ⨾ Sym mark.RightBrace) ts) (inner ts)

pub body_reads : {A : Type 0} (ends : Symbol) (S : A → Span) (room : ℕ) (inner : List Tok → Read A) (ts : List Tok) → InsideBody ends S room inner
    → Reads dialect.Source room (body_symbols ends) ts room (λ b. Braces (S b) ts) (body_by room inner ts)
body_reads {A = A} ends S room inner ts h =
    then_open mark.LeftBrace room ts _ refl (λ room2 room-is t1 g1 l1.
    let reads2 : InsideBody ends S (suc room2) inner = subst (λ (r : ℕ). InsideBody ends S r inner) room-is h in
    let whole : Reads dialect.Source room2 (ends ∷ []) t1 room (λ b. (S b ⨾ Sym mark.RightBrace) t1) (inner t1) = subst (λ (r : ℕ). Reads dialect.Source room2 (ends ∷ []) t1 r (λ b. (S b ⨾ Sym mark.RightBrace) t1) (inner t1)) (sym room-is) (reads2 t1) in
    maps (λ b rest gb. (t1, g1, gb)) whole)

-- what the symbol of an `else` or a `default`, and what it spells, have to meet
pub record ElseOf {A B : Type 0} (k : Keyword) (symbol ends : Symbol) (S : A → Span) (T : B → Span) (none : B) (some : A → B) : Type 0 where
  pub steps : (w : Word) → step dialect.Source symbol w ≡ cond (is_keyword k w) (shift (body_symbols ends)) skip
  pub ends_so : may_end symbol ≡ true
  pub nothing : (ts : List Tok) → T none ts ts
  pub something : (b : A) (ts rest : List Tok) → (Key k ⨾ Braces (S b)) ts rest → T (some b) ts rest

pub else_reads : {A B : Type 0} (k : Keyword) (symbol ends : Symbol) (S : A → Span) (T : B → Span) (none : B) (some : A → B) (room : ℕ) (inner : List Tok → Read A) (ts : List Tok) → ElseOf k symbol ends S T none some → InsideBody ends S room inner
    → Reads dialect.Source room (symbol ∷ []) ts room (λ b. T b ts) (else_by k none some room inner ts)
else_reads k symbol ends S T none some room inner [] e h = passes_end e.ends_so (e.nothing [])
else_reads k symbol ends S T none some room inner (t ∷ ts) e h = elim (test (is_keyword k t.word)) [
  | inl eq ↦
      let is : t.word ≡ Reserved k = is_keyword_is k t.word eq in
      rw eq (takes_first (e.steps t.word ∙ rw eq refl) (rw is refl) (
      then_seen _ (body_reads ends S room inner ts h) (λ b rest gb lb.
      e.something b (t ∷ ts) rest (ts, (is, refl), gb))))
  | inr eq ↦ rw eq (passes (e.steps t.word ∙ rw eq refl) (e.nothing (t ∷ ts)))
]

-- what a reader of a member takes is shorter
pub takes : {A : Type 0} (m : Dialect) (room : ℕ) (more : List Symbol) (S : A → Span) (ts : List Tok) (x : A) (rest : List Tok) (o : Read A) → Reads m room more ts room (λ x rest. S x ts rest × (length rest < length ts)) o → o ≡ Ok (x, rest) → length rest < length ts
takes {A = A} m room more S ts x rest (Ok p) g e = let same : p.1 ≡ rest = ap (rest_or rest) e in rw (← same) g.reads.1.1
  where
    rest_or : List Tok → Read A → List Tok
    rest_or d (Ok p) = p.1
    rest_or d (Err left) = d
takes m room more S ts x rest (Err left) g e = absurd cc
