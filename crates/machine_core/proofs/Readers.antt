-- Each text is read in one way.
use Rattle.std.proofs.Common.{◌≡◌, ℕ, zero, suc, ◌+◌, ◌<◌, ◌≤◌, ◌==◌, ◌&&◌, ◌||◌, Bool, true, false, not, List, [], ◌∷◌, length, length-append, append-nil, Option, Some, None, Result, Ok, Err, refl, sym, ap, ap₂, arith, if◌then◌else◌}
use Rattle.std.specs.Prelude.{min, position}
use Rattle.gen_token.specs.Bytes.{is_text_byte, is_blank, begins}
use Rattle.gen_token.specs.Spelling.{IsTokenOf}
use Rattle.gen_token.specs.Tokens.{skip, token_at, TokensFrom}
use Rattle.gen_token.specs.Words.{Word, Tok}
use Rattle.gen_token.proofs.Beginnings.{text_begins}
use Rattle.gen_token.proofs.ReadToken.{exact}
use Rattle.gen_tree.specs.Tree.{Expr}
use Rattle.cond_lang.specs.declared.fault.CondFault.TheVariants as cond_faults
use Rattle.cond_lang.specs.Reader.{cond_at}
use Rattle.cond_lang.specs.Reading.{start, offset_behind, offsets_from, offset_of, ReadsForm, IsFirstForm, AreTaken}
use Rattle.cond_lang.proofs.FirstPlace as first
use Rattle.machine_core.specs.Reading.{Reading, Condition, NoCondition, IsReading, Reader, IsReader}

-- ---- the tokens of any text

some_bytes : (p : ℕ → Bool) (bytes : List ℕ) → begins p bytes ≡ true → 0 < length bytes
some_bytes p [] e = absurd cc
some_bytes p (byte ∷ bytes) e = omega arith

-- a token takes a byte or more
rest_less : (text : List ℕ) (word : Word) (rest : List ℕ) → token_at text ≡ Some (word, rest) → length rest < length text
rest_less text word rest e =
    let t : IsTokenOf text word rest = (exact text word rest).0 e in
    let some : 0 < length t.longest.lexeme = some_bytes _ t.longest.lexeme (text_begins word t.longest.lexeme t.longest.lexeme [] (sym (append-nil t.longest.lexeme)) t.longest.spelled) in
    omega (arith, some, simp length-append at (ap length t.longest.split))

-- blanks and comments take none that are not there
skipped_fit : (comment : Bool) (line : ℕ) (text : List ℕ) → length (skip comment line text).1 ≤ length text
unfolding skip
skipped_fit comment line [] = omega arith
skipped_fit comment line (byte ∷ bytes) =
    by (byte == 10) (comment || is_blank byte) (byte == 47 && begins (λ next. next == 47) bytes) (skipped_fit false (line + 1) bytes) (skipped_fit comment line bytes) (skipped_fit true line bytes)
  where
    by : (b c d : Bool) → length (skip false (line + 1) bytes).1 ≤ length bytes → length (skip comment line bytes).1 ≤ length bytes → length (skip true line bytes).1 ≤ length bytes
        → length (if b then skip false (line + 1) bytes else if c then skip comment line bytes else if d then skip true line bytes else (line, byte ∷ bytes)).1 ≤ length (byte ∷ bytes)
    by true c d p q r = omega (arith, p)
    by false true d p q r = omega (arith, q)
    by false false true p q r = omega (arith, r)
    by false false false p q r = omega arith

record Taken (at : ℕ × List ℕ) : Type 0 where
  tokens : List Tok
  end : Option ℕ
  are : TokensFrom at tokens end

taken_by : (n line : ℕ) (text : List ℕ) → 0 < length text → length text < suc n → ((at : ℕ × List ℕ) → length at.1 < n → Taken at) → (o : Option (Word × List ℕ)) → token_at text ≡ o → Taken (line, text)
taken_by n line text some h more None e = record { tokens = []; end = Some line; are = (refl, some, e) }
taken_by n line text some h more (Some (word, rest)) e =
    let next : Taken (skip false line rest) = more (skip false line rest) (omega (arith, h, skipped_fit false line rest, rest_less text word rest e)) in
    record { tokens = record { line = line; word = word } ∷ next.tokens; end = next.end; are = (refl, rw e (refl, next.are)) }

taken : (n : ℕ) (at : ℕ × List ℕ) → length at.1 < n → Taken at
taken zero at h = absurd (omega (arith, h))
taken (suc n) (line, []) h = record { tokens = []; end = None; are = refl }
taken (suc n) (line, byte ∷ bytes) h = taken_by n line (byte ∷ bytes) (omega arith) h (taken n) (token_at (byte ∷ bytes)) refl

-- ---- the reading of any text

abbrev Read : List ℕ → Type 0
Read text = (r : Reading) × IsReading text r

-- the least place that the tokens have, or that of an earlier byte
by_form : (text : List ℕ) (offset : ℕ) → IsFirstForm text offset → (other : Option ℕ) → position (λ byte. not (is_text_byte byte)) text ≡ other → Read text
by_form text offset f None e = (NoCondition offset, first.cause_so text (cond_faults.At offset) None (sym e) f)
by_form text offset f (Some x) e = (NoCondition (min offset x), first.cause_so text (cond_faults.At offset) (Some x) (sym e) f)

by_whole : (text : List ℕ) (e : Expr) (offsets : List ℕ) → ReadsForm text e offsets → (other : Option ℕ) → position (λ byte. not (is_text_byte byte)) text ≡ other → Read text
by_whole text e offsets r None is = (Condition e offsets, first.reads_so text e offsets r (sym is))
by_whole text e offsets r (Some x) is = (NoCondition x, first.byte_so text e offsets x r (sym is))

by_tokens : (text : List ℕ) (ts : List Tok) (offsets : List ℕ) (end : ℕ) (whole : Bool) → AreTaken text ts offsets end whole → (o : Result Expr ℕ) → cond_at 64 ts ≡ o → Read text
by_tokens text ts offsets end true t (Ok e) h = by_whole text e offsets (first.form_found text ts offsets end e t h) _ refl
by_tokens text ts offsets end false t (Ok e) h = by_form text end (first.form_token text ts offsets end e t h) _ refl
by_tokens text ts offsets end whole t (Err left) h = by_form text (offset_of offsets end left) (first.form_fault text ts offsets end left whole t h) _ refl

by_end : (text : List ℕ) (ts : List Tok) (end : Option ℕ) → TokensFrom (start text) ts end → Read text
by_end text ts None are =
    by_tokens text ts (offsets_from (length text) (start text) ts) (offset_behind text ts) true (record { line = 0; are = are; places = refl; place = refl }) _ refl
by_end text ts (Some line) are =
    by_tokens text ts (offsets_from (length text) (start text) ts) (offset_behind text ts) false (record { line = line; are = are; places = refl; place = refl }) _ refl

read : (text : List ℕ) → Read text
read text = let t : Taken (start text) = taken (suc (length (start text).1)) (start text) (omega arith) in by_end text t.tokens t.end t.are

pub some_reader : (reader : Reader) × IsReader reader
some_reader = (λ text. (read text).0, λ text. (read text).1)

-- ---- there is no other

pub one_reading : (text : List ℕ) (r s : Reading) → IsReading text r → IsReading text s → r ≡ s
one_reading text (Condition e offsets) (Condition f others) r s =
    let same = (first.one_answer text).one_reading e f offsets others r s in ap₂ Condition same.0 same.1
one_reading text (Condition e offsets) (NoCondition o) r s = absurd ((first.one_answer text).no_place e offsets o r s.place)
one_reading text (NoCondition o) (Condition e offsets) r s = absurd ((first.one_answer text).no_place e offsets o s r.place)
one_reading text (NoCondition o) (NoCondition p) r s = ap NoCondition (omega (arith, r.least p s.place, s.least o r.place))
