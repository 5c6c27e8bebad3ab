-- The place that is told is the least of those that there are.
use Rattle.std.proofs.Common.{◌≡◌, ◌≤◌, ◌-◌, ◌+◌, ℕ, Bool, true, false, List, [], ◌∷◌, ◌++◌, length, get_or, length-append, Option, Some, None, Ok, Err, refl, sym, ap, subst, ◌∙◌, arith, inl, inr, if◌then◌else◌, nat_eq, ◌==◌, ◌&&◌, ◌||◌, append-nil, not, is_none}
use Rattle.std.specs.Prelude.{take, min, position, IsSomeAnd}
use Rattle.std.proofs.lemmas.Bool.{cases_lt}
use Rattle.gen_token.specs.Bytes.{is_text_byte, is_blank, begins}
use Rattle.gen_token.specs.Spelling.{IsTokenOf}
use Rattle.gen_token.specs.Tokens.{skip, token_at, TokensFrom}
use Rattle.gen_token.specs.Words.{Word, Tok}
use Rattle.gen_token.proofs.OneList.{same}
use Rattle.gen_token.proofs.ReadToken.{exact}
use Rattle.gen_tree.specs.declared.Dialect.TheVariants as dialect
use Rattle.gen_tree.specs.Grammar.{SpellsExpr}
use Rattle.gen_tree.specs.Places.{FaultAt}
use Rattle.gen_tree.specs.Brackets.{Within}
use Rattle.gen_tree.specs.Tree.{Expr}
use Rattle.gen_text.proofs.Law.{none_in_whole, one_fault}
use Rattle.gen_text.proofs.Answers.{all_text}
use Rattle.cond_lang.specs.declared.fault.CondFault.{CondFault}
use Rattle.cond_lang.specs.declared.fault.CondFault.TheVariants as cond_faults
use Rattle.cond_lang.specs.Faults.{IsCause, IsFormCause, or_other}
use Rattle.cond_lang.specs.Laws.{HasOneAnswer}
use Rattle.cond_lang.specs.Form.{seated}
use Rattle.cond_lang.specs.Places.{size}
use Rattle.cond_lang.specs.Reader.{cond_at, word_before, tokens_by, expr_or_nought, read_as}
use Rattle.cond_lang.specs.Reading.{start, rest_of, next, behind, offset_behind, offsets_from, offset_of, IsCondition, Reads, ReadsForm, IsBadToken, IsBadForm, IsPlace, other_byte, bad_token, bad_form, IsFirstPlace, IsFirstForm, AreTaken}
use Rattle.cond_lang.proofs.Conditions.{one_tree, read_found, read_fault, read_only}
use Rattle.cond_lang.proofs.Offsets.{behind_more}
use Rattle.cond_lang.proofs.Sizes.{spelled_long}

-- ---- what stands behind more tokens stands no earlier

skip_shorter : (comment : Bool) (line : ℕ) (text : List ℕ) → length (skip comment line text).1 ≤ length text
unfolding skip
skip_shorter comment line [] = omega arith
skip_shorter comment line (byte ∷ bytes) = by (byte == 10) (comment || is_blank byte) (byte == 47 && begins (λ next. next == 47) bytes) (skip_shorter false (line + 1) bytes) (skip_shorter comment line bytes) (skip_shorter true line bytes)
  where
    by : (b c d : Bool) → length (skip false (line + 1) bytes).1 ≤ length bytes → length (skip comment line bytes).1 ≤ length bytes → length (skip true line bytes).1 ≤ length bytes
        → length (if b then skip false (line + 1) bytes else if c then skip comment line bytes else if d then skip true line bytes else (line, byte ∷ bytes)).1 ≤ length (byte ∷ bytes)
    by true c d p q r = omega (arith, p)
    by false true d p q r = omega (arith, q)
    by false false true p q r = omega (arith, r)
    by false false false p q r = omega arith

rest_shorter : (text : List ℕ) (o : Option (Word × List ℕ)) → token_at text ≡ o → length (rest_of o) ≤ length text
rest_shorter text None e = omega arith
rest_shorter text (Some (word, rest)) e =
    let t : IsTokenOf text word rest = (exact text word rest).0 e in
    omega (arith, simp length-append at (ap length t.longest.split))

behind_shorter : (ts : List Tok) (at : ℕ × List ℕ) → length (behind at ts).1 ≤ length at.1
behind_shorter [] at = omega arith
behind_shorter (t ∷ ts) at = omega (arith, behind_shorter ts (next at), skip_shorter false at.0 (rest_of (token_at at.1)), rest_shorter at.1 (token_at at.1) refl)

-- what stands behind a front of the tokens stands no later than what stands behind all
no_later : (text : List ℕ) (ts good bad : List Tok) → ts ≡ good ++ bad → offset_behind text good ≤ offset_behind text ts
no_later text ts good bad e =
    let all : length (behind (start text) ts).1 ≡ length (behind (behind (start text) good) bad).1 = ap (λ (at : ℕ × List ℕ). length at.1) (ap (behind (start text)) e ∙ behind_more good bad (start text)) in
    omega (arith, all, behind_shorter bad (behind (start text) good))

-- ---- the tokens that were taken are all that there are

record OnlyTokens (text : List ℕ) (ts : List Tok) (end : Option ℕ) : Type 0 where
  only : (other : List Tok) (stop : Option ℕ) → TokensFrom (start text) other stop → (other ≡ ts) × (stop ≡ end)

only_tokens : (text : List ℕ) (ts : List Tok) (end : Option ℕ) → TokensFrom (start text) ts end → OnlyTokens text ts end
only_tokens text ts end t = record { only = λ other stop o. same (start text) other ts stop end o t }

good_one : (ts : List Tok) (left other : ℕ) (f : FaultAt IsCondition 64 ts left) (g : FaultAt IsCondition 64 ts other) → f.good ≡ g.good
good_one ts left other f g =
    let count : left ≡ other = one_fault IsCondition 64 ts left other f g in
    let parts : f.good ++ f.bad ≡ g.good ++ g.bad = sym f.parts ∙ g.parts in
    let size : length f.good ≡ length g.good = omega (arith, count, f.count, g.count, simp length-append at (ap length parts)) in
    sym (take_front f.good f.bad) ∙ ap (take (length f.good)) parts ∙ ap (λ (n : ℕ). take n (g.good ++ g.bad)) size ∙ take_front g.good g.bad
  where
    take_front : (a b : List Tok) → take (length a) (a ++ b) ≡ a
    take_front [] b = refl
    take_front (t ∷ a) b = ap (λ (ts : List Tok). t ∷ ts) (take_front a b)

-- ---- the least place of the tokens

fault_first : (text : List ℕ) (ts : List Tok) (end : Option ℕ) (left : ℕ) → TokensFrom (start text) ts end → (f : FaultAt IsCondition 64 ts left) → IsFirstForm text (offset_behind text f.good)
fault_first text ts end left t f = record {
  place = bad_form (record { tokens = ts; end = end; are = t; left = left; fault = f; place = refl });
  no_token = λ other b. no_token other b;
  no_form = λ other b. no_form other b;
}
  where
    no_token : (other : ℕ) → IsBadToken text other → offset_behind text f.good ≤ other
    no_token other b =
        let is : b.tokens ≡ ts = ((only_tokens text ts end t).only b.tokens (Some b.line) b.stops).0 in
        omega (arith, b.place, ap (offset_behind text) is, no_later text ts f.good f.bad f.parts)

    no_form : (other : ℕ) → IsBadForm text other → offset_behind text f.good ≤ other
    no_form other b =
        let is : b.tokens ≡ ts = ((only_tokens text ts end t).only b.tokens b.end b.are).0 in
        let goods : (g : FaultAt IsCondition 64 b.tokens b.left) → other ≡ offset_behind text g.good → offset_behind text f.good ≤ other =
        subst (λ (us : List Tok). (g : FaultAt IsCondition 64 us b.left) → other ≡ offset_behind text g.good → offset_behind text f.good ≤ other) (sym is)
        (λ g e. omega (arith, e, ap (offset_behind text) (good_one ts left b.left f g))) in
        goods b.fault b.place

-- tokens that are a condition have no fault
whole_form : (text : List ℕ) (ts : List Tok) (end : Option ℕ) (e : Expr) (other : ℕ) → TokensFrom (start text) ts end → SpellsExpr dialect.Condition e ts [] → Within 64 ts → IsBadForm text other → ⊥
whole_form text ts end e other t s w b =
    let is : b.tokens ≡ ts = ((only_tokens text ts end t).only b.tokens b.end b.are).0 in
    none_in_whole IsCondition 64 ts b.left (e, s) w (subst (λ (us : List Tok). FaultAt IsCondition 64 us b.left) is b.fault)

token_first : (text : List ℕ) (ts : List Tok) (line : ℕ) (e : Expr) → TokensFrom (start text) ts (Some line) → SpellsExpr dialect.Condition e ts [] → Within 64 ts → IsFirstForm text (offset_behind text ts)
token_first text ts line e t s w = record {
  place = bad_token (record { tokens = ts; line = line; stops = t; place = refl });
  no_token = λ other b. omega (arith, b.place, ap (offset_behind text) ((only_tokens text ts (Some line) t).only b.tokens (Some b.line) b.stops).0);
  no_form = λ other b. absurd (whole_form text ts (Some line) e other t s w b);
}

-- ---- what the tokens answer

pub form_found : (text : List ℕ) (ts : List Tok) (offsets : List ℕ) (end : ℕ) (e : Expr) → AreTaken text ts offsets end true → cond_at 64 ts ≡ Ok e → ReadsForm text e offsets
form_found text ts offsets end e t h = let r = read_found 64 ts e h in record { tokens = ts; are = t.are; spelled = r.0; within = r.1; places = t.places }

pub form_token : (text : List ℕ) (ts : List Tok) (offsets : List ℕ) (end : ℕ) (e : Expr) → AreTaken text ts offsets end false → cond_at 64 ts ≡ Ok e → IsFirstForm text end
form_token text ts offsets end e t h = let r = read_found 64 ts e h in subst (λ (o : ℕ). IsFirstForm text o) (sym t.place) (token_first text ts t.line e t.are r.0 r.1)

-- the offset of the token behind a front
nth : (size : ℕ) (good bad : List Tok) (b : Tok) (at : ℕ × List ℕ) → get_or (offsets_from size at (good ++ b ∷ bad)) (length good) 0 ≡ size - length (behind at good).1
nth size [] bad b at = refl
nth size (t ∷ good) bad b at = nth size good bad b (next at)

offsets_length : (size : ℕ) (ts : List Tok) (at : ℕ × List ℕ) → length (offsets_from size at ts) ≡ length ts
offsets_length size [] at = refl
offsets_length size (t ∷ ts) at = omega (arith, offsets_length size ts (next at))

told_is : (text : List ℕ) (ts : List Tok) (offsets : List ℕ) (end left : ℕ) → offsets ≡ offsets_from (length text) (start text) ts → end ≡ offset_behind text ts → (f : FaultAt IsCondition 64 ts left) → offset_of offsets end left ≡ offset_behind text f.good
told_is text ts offsets end left o p f = by f.bad f.parts f.count
  where
    by : (bad : List Tok) → ts ≡ f.good ++ bad → length bad ≡ left → offset_of offsets end left ≡ offset_behind text f.good
    by [] parts count = rw (← count) (p ∙ ap (offset_behind text) (parts ∙ append-nil f.good))
    by (b ∷ bad) parts count =
        let size : length offsets - left ≡ length f.good = omega (arith, count, ap length o, offsets_length (length text) ts (start text), simp length-append at (ap length parts)) in
        let some : nat_eq left 0 ≡ false = grind (arith, count) in
        rw (some, size, o, parts) (nth (length text) f.good bad b (start text))

pub form_fault : (text : List ℕ) (ts : List Tok) (offsets : List ℕ) (end left : ℕ) (whole : Bool) → AreTaken text ts offsets end whole → cond_at 64 ts ≡ Err left → IsFirstForm text (offset_of offsets end left)
form_fault text ts offsets end left whole t h =
    let f : FaultAt IsCondition 64 ts left = read_fault 64 ts left h in
    subst (λ (o : ℕ). IsFirstForm text o) (sym (told_is text ts offsets end left t.places t.place f)) (fault_first text ts (if whole then None else Some t.line) left t.are f)

pub left_fits : (text : List ℕ) (ts : List Tok) (offsets : List ℕ) (end left : ℕ) (whole : Bool) → AreTaken text ts offsets end whole → cond_at 64 ts ≡ Err left → left ≤ length offsets
left_fits text ts offsets end left whole t h =
    let f : FaultAt IsCondition 64 ts left = read_fault 64 ts left h in
    omega (arith, f.count, ap length t.places, offsets_length (length text) ts (start text), simp length-append at (ap length f.parts))

-- ---- with the bytes that no source holds

abbrev other_place : List ℕ → Option ℕ
other_place text = position (λ byte. not (is_text_byte byte)) text

pub cause_so : (text : List ℕ) (fault : CondFault) (other : Option ℕ) → other ≡ other_place text → IsFormCause text fault → IsCause text (or_other fault other)
cause_so text (cond_faults.At offset) None is f = record { place = f.place; least = least }
  where
    least : (o : ℕ) → IsPlace text o → offset ≤ o
    least o (other_byte e) = absurd (let no : None ≡ Some o = is ∙ e in cc)
    least o (bad_token b) = f.no_token o b
    least o (bad_form b) = f.no_form o b
cause_so text (cond_faults.At offset) (Some x) is f = elim (cases_lt x offset) [
  | inl lt ↦
      let here : min offset x ≡ x = omega (arith, lt) in
      rw here (record { place = other_byte (sym is); least = λ o p. least x o p (omega (arith, lt)) (omega arith) })
  | inr le ↦
      let here : min offset x ≡ offset = omega (arith, le) in
      rw here (record { place = f.place; least = λ o p. least offset o p (omega arith) (omega (arith, le)) })
]
  where
    least : (m o : ℕ) → IsPlace text o → m ≤ offset → m ≤ x → m ≤ o
    least m o (other_byte e) a b = (let both : Some x ≡ Some o = is ∙ e in let same_place : x ≡ o = cc in omega (arith, b, same_place))
    least m o (bad_token b) a c = omega (arith, a, f.no_token o b)
    least m o (bad_form b) a c = omega (arith, a, f.no_form o b)
cause_so text cond_faults.NoMemory other is f = tt

-- tokens that are a condition have no place but that of another byte
only_byte : (text : List ℕ) (e : Expr) (offsets : List ℕ) (x o : ℕ) → ReadsForm text e offsets → other_place text ≡ Some x → IsPlace text o → x ≤ o
only_byte text e offsets x o r is (other_byte found) = (let both : Some x ≡ Some o = sym is ∙ found in let same_place : x ≡ o = cc in omega (arith, same_place))
only_byte text e offsets x o r is (bad_token b) = absurd (let end : Some b.line ≡ None = ((only_tokens text r.tokens None r.are).only b.tokens (Some b.line) b.stops).1 in cc)
only_byte text e offsets x o r is (bad_form b) = absurd (whole_form text r.tokens None e o r.are r.spelled r.within b)

pub byte_so : (text : List ℕ) (e : Expr) (offsets : List ℕ) (x : ℕ) → ReadsForm text e offsets → Some x ≡ other_place text → IsFirstPlace text x
byte_so text e offsets x r is = record { place = other_byte (sym is); least = λ o p. only_byte text e offsets x o r (sym is) p }

pub reads_so : (text : List ℕ) (e : Expr) (offsets : List ℕ) → ReadsForm text e offsets → None ≡ other_place text → Reads text e offsets
reads_so text e offsets r none = record { bytes = sym (all_text text) ∙ ap is_none (sym none); tokens = r.tokens; are = r.are; spelled = r.spelled; within = r.within; places = r.places }

-- a condition has no place
pub no_place : (text : List ℕ) (e : Expr) (offsets : List ℕ) (o : ℕ) → Reads text e offsets → IsPlace text o → ⊥
no_place text e offsets o r (other_byte found) = let bad : is_none (Some o) ≡ true = ap is_none (sym found) ∙ all_text text ∙ r.bytes in absurd cc
no_place text e offsets o r (bad_token b) = let end : Some b.line ≡ None = ((only_tokens text r.tokens None r.are).only b.tokens (Some b.line) b.stops).1 in absurd cc
no_place text e offsets o r (bad_form b) = whole_form text r.tokens None e o r.are r.spelled r.within b

one_reading : (text : List ℕ) (first second : Expr) (offsets others : List ℕ) → Reads text first offsets → Reads text second others → (first ≡ second) × (offsets ≡ others)
one_reading text first second offsets others r q =
    let is : q.tokens ≡ r.tokens = ((only_tokens text r.tokens None r.are).only q.tokens None q.are).0 in
    (one_tree first second r.tokens r.spelled (subst (λ (ts : List Tok). SpellsExpr dialect.Condition second ts []) is q.spelled), r.places ∙ ap (offsets_from (length text) (start text)) (sym is) ∙ sym q.places)

-- ---- what a text is read as, by its bytes

tokens_are : (ts : List Tok) (at : ℕ × List ℕ) (end : Option ℕ) → TokensFrom at ts end → tokens_by (length ts) at ≡ ts
tokens_are [] at end h = refl
tokens_are (t ∷ ts) at end h = by (token_at at.1) h.1 (λ found k. tokens_are ts (skip false at.0 found.1) end k)
  where
    by : (o : Option (Word × List ℕ)) → IsSomeAnd o (λ found. (found.0 ≡ t.word) × TokensFrom (skip false at.0 found.1) ts end)
        → ((found : Word × List ℕ) → TokensFrom (skip false at.0 found.1) ts end → tokens_by (length ts) (skip false at.0 found.1) ≡ ts)
        → word_before at.0 o (tokens_by (length ts) (skip false at.0 (rest_of o))) ≡ t ∷ ts
    by (Some found) k more = (λ i. record { line = sym h.0 i; word = k.0 i } ∷ more found k.1 i)
    by None k more = absurd k

-- as many tokens as an expression has are read as this expression
pub reads_as : (text : List ℕ) (e : Expr) (offsets : List ℕ) → ReadsForm text e offsets → read_as (length offsets) text ≡ e
unfolding read_as
reads_as text e offsets r =
    let count : length offsets ≡ length r.tokens = ap length r.places ∙ offsets_length (length text) r.tokens (start text) in
    ap (λ (n : ℕ). expr_or_nought (cond_at 64 (tokens_by n (start text)))) count
    ∙ ap (λ (ts : List Tok). expr_or_nought (cond_at 64 ts)) (tokens_are r.tokens (start text) None r.are)
    ∙ ap expr_or_nought (read_only 64 r.tokens e r.spelled r.within)

pub reads_long : (text : List ℕ) (e : Expr) (offsets : List ℕ) → ReadsForm text e offsets → length offsets ≡ size (seated [] e)
reads_long text e offsets r = omega (arith, spelled_long e [] r.tokens [] r.spelled, ap length r.places, offsets_length (length text) r.tokens (start text))

pub one_answer : (text : List ℕ) → HasOneAnswer text
one_answer text = record { one_reading = one_reading text; no_place = no_place text }
