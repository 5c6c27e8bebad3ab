-- An integer, and a name with an index, are read as they are spelled.
use Rattle.std.proofs.Common.{◌≡◌, ◌-◌, ℕ, zero, suc, List, [], ◌∷◌, Option, Some, None, Err, refl, arith, inl, inr}
use Rattle.gen_token.specs.declared.Mark.TheVariants as mark
use Rattle.gen_token.specs.Words.{Word, Name, Number, Literal, Reserved, Sign, Tok}
use Rattle.gen_tree.specs.declared.IntOp.{IntOp}
use Rattle.gen_tree.specs.declared.IntOp.TheVariants as int_op
use Rattle.gen_tree.specs.declared.Cmp.{Cmp}
use Rattle.gen_tree.specs.declared.Cmp.TheVariants as cmp
use Rattle.gen_tree.specs.declared.Dialect.{Dialect}
use Rattle.gen_tree.specs.declared.Dialect.TheVariants as dialect
use Rattle.gen_tree.specs.Brackets.{room_after}
use Rattle.gen_tree.specs.Tree.{Int}
use Rattle.gen_tree.specs.Grammar.{Sym, Single, SpellsInt, SpellsIndex, SpellsFam, int_op_mark, cmp_mark}
use Rattle.gen_text.specs.Forms.{is_mark, IntForm, a_number, a_variable, a_group, no_int, int_form, int_op_form, cmp_form}
use Rattle.gen_text.specs.Reading.{Read, some_at, int_at, int_step, int_by, group_at, int_op_at, cmp_at, inner_int, index_at, fam_rest_at, fam_at}
use Rattle.gen_text.proofs.Machine.{sign, need, an_int, an_int_op, a_cmp, an_index, fam_symbols}
use Rattle.gen_text.proofs.Moves.{Reads, then_read, then_word, then_seen, done, begins as takes_first, passes, passes_end, refuses, refuses_end, refuses_full}
use Rattle.gen_text.proofs.WordsRead.{is_mark_is, test, word_reads, name_reads}

-- what the form says of the word
abbrev pub IntIs : Dialect → IntForm → Word → Type 0
IntIs m (a_number n) w = w ≡ Number n
IntIs m (a_variable x) w = (w ≡ Name x) × (m ≡ dialect.Source)
IntIs m a_group w = (w ≡ Sign mark.LeftParen) × (m ≡ dialect.Source)
IntIs m no_int w = Unit {0}

pub int_is : (m : Dialect) (w : Word) → IntIs m (int_form m w) w
int_is m (Number n) = refl
int_is dialect.Source (Name x) = (refl, refl)
int_is dialect.Condition (Name x) = tt
int_is m (Literal w v) = tt
int_is m (Reserved k) = tt
int_is dialect.Source (Sign mark.LeftParen) = (refl, refl)
int_is dialect.Condition (Sign mark.LeftParen) = tt
int_is m (Sign _) = tt

abbrev IntOpIs : Option IntOp → Word → Type 0
IntOpIs None w = Unit {0}
IntOpIs (Some o) w = w ≡ Sign (int_op_mark o)

int_op_is : (w : Word) → IntOpIs (int_op_form w) w
int_op_is (Name x) = tt
int_op_is (Number n) = tt
int_op_is (Literal w v) = tt
int_op_is (Reserved k) = tt
int_op_is (Sign mark.Plus) = refl
int_op_is (Sign mark.Minus) = refl
int_op_is (Sign mark.Star) = refl
int_op_is (Sign _) = tt

int_op_side : (o : IntOp) (room : ℕ) → room_after room (Sign (int_op_mark o)) ≡ Some room
int_op_side int_op.Add room = refl
int_op_side int_op.Sub room = refl
int_op_side int_op.Mul room = refl

int_op_by : {m : Dialect} (f : Option IntOp) (room : ℕ) (t : Tok) (ts : List Tok) → int_op_form t.word ≡ f → IntOpIs f t.word
    → Reads m room (an_int_op ∷ []) (t ∷ ts) room (λ o. Sym (int_op_mark o) (t ∷ ts)) (some_at f ts)
int_op_by None room t ts e h = refuses (rw e refl)
int_op_by (Some o) room t ts e h = takes_first (rw e refl) (rw h (int_op_side o room)) (done (h, refl))

int_op_reads : {m : Dialect} (room : ℕ) (ts : List Tok) → Reads m room (an_int_op ∷ []) ts room (λ o. Sym (int_op_mark o) ts) (int_op_at ts)
int_op_reads room [] = refuses_end refl
int_op_reads room (t ∷ ts) = int_op_by (int_op_form t.word) room t ts refl (int_op_is t.word)

abbrev CmpIs : Option Cmp → Word → Type 0
CmpIs None w = Unit {0}
CmpIs (Some c) w = w ≡ Sign (cmp_mark c)

cmp_is : (w : Word) → CmpIs (cmp_form w) w
cmp_is (Name x) = tt
cmp_is (Number n) = tt
cmp_is (Literal w v) = tt
cmp_is (Reserved k) = tt
cmp_is (Sign mark.EqualsEquals) = refl
cmp_is (Sign mark.NotEquals) = refl
cmp_is (Sign mark.Less) = refl
cmp_is (Sign mark.LessEquals) = refl
cmp_is (Sign _) = tt

cmp_side : (c : Cmp) (room : ℕ) → room_after room (Sign (cmp_mark c)) ≡ Some room
cmp_side cmp.Eq room = refl
cmp_side cmp.Ne room = refl
cmp_side cmp.Lt room = refl
cmp_side cmp.Le room = refl

cmp_by : {m : Dialect} (f : Option Cmp) (room : ℕ) (t : Tok) (ts : List Tok) → cmp_form t.word ≡ f → CmpIs f t.word
    → Reads m room (a_cmp ∷ []) (t ∷ ts) room (λ c. Sym (cmp_mark c) (t ∷ ts)) (some_at f ts)
cmp_by None room t ts e h = refuses (rw e refl)
cmp_by (Some c) room t ts e h = takes_first (rw e refl) (rw h (cmp_side c room)) (done (h, refl))

pub cmp_reads : {m : Dialect} (room : ℕ) (ts : List Tok) → Reads m room (a_cmp ∷ []) ts room (λ c. Sym (cmp_mark c) ts) (cmp_at ts)
cmp_reads room [] = refuses_end refl
cmp_reads room (t ∷ ts) = cmp_by (cmp_form t.word) room t ts refl (cmp_is t.word)

-- ---- integers

abbrev pub IntReads : Dialect → ℕ → (List Tok → Read Int) → Type 0
IntReads m room inner = (ts : List Tok) → Reads m room (an_int ∷ []) ts room (λ x. SpellsInt m x ts) (inner ts)

-- behind the opening bracket
group_reads : (room : ℕ) (inner : List Tok → Read Int) (t : Tok) (ts : List Tok) → IntReads dialect.Source room inner → t.word ≡ Sign mark.LeftParen
    → Reads dialect.Source room (an_int ∷ an_int_op ∷ an_int ∷ need (sign mark.RightParen) ∷ []) ts (suc room) (λ x. SpellsInt dialect.Source x (t ∷ ts)) (group_at inner ts)
group_reads room inner t ts inner_reads is =
    then_read _ (inner_reads ts) (λ a t1 ga la.
    then_read _ (int_op_reads room t1) (λ o t2 go lo.
    then_read _ (inner_reads t2) (λ b t3 gb lb.
    then_word _ (word_reads (sign mark.RightParen) room (suc room) t3 refl) (λ rest gr lr.
    done (ts, (is, refl), (t1, ga, (t2, go, (t3, gb, gr))))))))

-- what a reader inside the brackets reads, where there is room for brackets
abbrev InsideReads : Dialect → ℕ → (List Tok → Read Int) → Type 0
InsideReads m zero inner = Unit {0}
InsideReads m (suc room) inner = IntReads m room inner

int_by_reads : (m : Dialect) (f : IntForm) (room : ℕ) (inner : List Tok → Read Int) (t : Tok) (ts : List Tok) → InsideReads m room inner → int_form m t.word ≡ f → IntIs m f t.word
    → Reads m room (an_int ∷ []) (t ∷ ts) room (λ x. SpellsInt m x (t ∷ ts)) (int_by room inner f ts)
int_by_reads m (a_number n) room inner t ts h e is = takes_first (rw e refl) (rw is refl) (done (is, refl))
int_by_reads dialect.Source (a_variable x) room inner t ts h e is = takes_first (rw e refl) (rw is.0 refl) (done (is.0, refl))
int_by_reads dialect.Condition (a_variable x) room inner t ts h e is = absurd (let no : dialect.Condition ≡ dialect.Source = is.1 in cc)
int_by_reads dialect.Condition a_group room inner t ts h e is = absurd (let no : dialect.Condition ≡ dialect.Source = is.1 in cc)
int_by_reads dialect.Source a_group zero inner t ts h e is = refuses_full (an_int ∷ an_int_op ∷ an_int ∷ need (sign mark.RightParen) ∷ []) (rw e refl) (rw is.0 refl)
int_by_reads dialect.Source a_group (suc room) inner t ts h e is = takes_first (rw e refl) (rw is.0 refl) (group_reads room inner t ts h is.0)
int_by_reads m no_int room inner t ts h e is = refuses (rw e refl)

int_step_reads : (m : Dialect) (room : ℕ) (inner : List Tok → Read Int) (ts : List Tok) → InsideReads m room inner → Reads m room (an_int ∷ []) ts room (λ x. SpellsInt m x ts) (int_step m room inner ts)
int_step_reads m room inner [] h = refuses_end refl
int_step_reads m room inner (t ∷ ts) h = int_by_reads m (int_form m t.word) room inner t ts h refl (int_is m t.word)

pub int_reads : (m : Dialect) (room : ℕ) → IntReads m room (int_at m room)
unfolding int_at
int_reads m zero ts = int_step_reads m zero (λ ts. Err 0) ts tt
int_reads m (suc room) ts = int_step_reads m (suc room) (int_at m room) ts (int_reads m room)

pub int_opened : (m : Dialect) (room : ℕ) (ts : List Tok) → int_at m room ts ≡ int_step m room (inner_int m room) ts
unfolding int_at
int_opened m zero ts = refl
int_opened m (suc room) ts = refl

-- behind a bracket the room is one less
pub inner_reads : (m : Dialect) (room room2 : ℕ) (ts : List Tok) → room ≡ suc room2 → Reads m room2 (an_int ∷ []) ts room2 (λ x. SpellsInt m x ts) (int_at m (room - 1) ts)
inner_reads m room room2 ts is = let same : room - 1 ≡ room2 = omega arith in rw same (int_reads m room2 ts)

-- ---- names with an index

pub index_reads : (m : Dialect) (room : ℕ) (ts : List Tok) → Reads m room (an_index ∷ []) ts room (λ i. SpellsIndex m i ts) (index_at m room ts)
index_reads m room [] = passes_end refl refl
index_reads m room (t ∷ ts) = elim (test (is_mark mark.Hash t.word)) [
  | inl e ↦
      let is : t.word ≡ Sign mark.Hash = is_mark_is mark.Hash t.word e in
      rw e (takes_first (rw e refl) (rw is refl) (then_seen _ (int_reads m room ts) (λ i rest gi li. (ts, (is, refl), gi))))
  | inr e ↦ rw e (passes (rw e refl) refl)
]

pub fam_rest_reads : (m : Dialect) (room : ℕ) (x : List ℕ) (from ts : List Tok) → Single (Name x) from ts
    → Reads m room (an_index ∷ []) ts room (λ f. SpellsFam m f from) (fam_rest_at m room x ts)
fam_rest_reads m room x from ts gx = then_seen _ (index_reads m room ts) (λ i rest gi li. (ts, gx, gi))

pub fam_reads : (room : ℕ) (ts : List Tok) → Reads dialect.Source room fam_symbols ts room (λ f. SpellsFam dialect.Source f ts) (fam_at room ts)
fam_reads room ts =
    then_read _ (name_reads room ts) (λ x t1 gx lx.
    fam_rest_reads dialect.Source room x ts t1 gx)
