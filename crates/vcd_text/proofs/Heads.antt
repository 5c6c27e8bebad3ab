-- The head is read as it was written.
use Rattle.std.proofs.Common.{◌≡◌, ℕ, suc, ◌+◌, ◌-◌, ◌^◌, ◌<◌, ◌≤◌, Bool, true, false, true≢false, cond, List, [], ◌∷◌, ◌++◌, length, take, Ok, refl, sym, ap, ap₂, ◌∙◌, subst, arith, append_assoc, append-nil, length-append}
use Rattle.std.specs.Prelude.{nat_le, not, ◌&&◌, ◌==◌, codes}
use Rattle.std.specs.List.{list_all, position_or_len}
use Rattle.std.specs.Fmt.{decimal}
use Rattle.std.proofs.Math.Seq.{take-length}
use Rattle.std.proofs.lemmas.List.Folds.{list_all-append}
use Rattle.std.proofs.lemmas.Bool.Decides.{nat_tests}
use Rattle.text_core.specs.Digits.{is_digit_of, number_of}
use Rattle.list_core.specs.Lists.{EachOf}
use Rattle.vcd_read.specs.Words.{is_end, has_bytes}
use Rattle.vcd_read.specs.Head.{Head, Code, Var, no_head, name_of, without_backslash, is_size}
use Rattle.vcd_read.specs.Meaning.{State, InHead, ScopeType, ScopeName, CommandEnd, VarType, VarSize, VarCode, VarReference, PassedCommand, HeadEnd, InChanges, step}
use Rattle.vcd_text.specs.Dump.{Variable, code_text, kind_text, variable_words, line_text, variables_text, time_text, head_text, middle_text, front_text}
use Rattle.vcd_text.specs.Told.{is_plain_byte, is_plain, IsVariable, told_var, told_vars}
use Rattle.vcd_text.proofs.Words.{IsWord, Goes, solid, both, and_left, and_right, not_true, none_goes, then_goes, word_goes}
use Rattle.vcd_text.proofs.Codes.{code_word, code_bytes}
use Rattle.vcd_text.proofs.Digits.{decimal_is, decimal_word, decimal_tens, decimal_some}
use Rattle.vcd_text.proofs.Known.{codes_from, codes_more, vars_more, codes_count, not_known}
use Rattle.vcd_text.proofs.Values.{state_of, time_is}

-- ---- names

plain_solid : (byte : ℕ) → is_plain_byte byte ≡ true → solid byte ≡ true
plain_solid byte h = and_left (solid byte) (not (byte == 36) && (not (byte == 91) && not (byte == 92))) h

no_dollar : (byte : ℕ) → is_plain_byte byte ≡ true → (byte == 36) ≡ false
no_dollar byte h = not_true (byte == 36) (and_left (not (byte == 36)) (not (byte == 91) && not (byte == 92)) (and_right (solid byte) (not (byte == 36) && (not (byte == 91) && not (byte == 92))) h))

no_brackets : (byte : ℕ) → is_plain_byte byte ≡ true → (not (byte == 91) && not (byte == 92)) ≡ true
no_brackets byte h = and_right (not (byte == 36)) (not (byte == 91) && not (byte == 92)) (and_right (solid byte) (not (byte == 36) && (not (byte == 91) && not (byte == 92))) h)

all_solid : (bytes : List ℕ) → list_all is_plain_byte bytes ≡ true → list_all solid bytes ≡ true
all_solid [] h = refl
all_solid (byte ∷ bytes) h = both (solid byte) (list_all solid bytes) (plain_solid byte (and_left (is_plain_byte byte) (list_all is_plain_byte bytes) h)) (all_solid bytes (and_right (is_plain_byte byte) (list_all is_plain_byte bytes) h))

pub plain_word : (name : List ℕ) → is_plain name ≡ true → IsWord name
plain_word name h = record { some = and_left (has_bytes name) (list_all is_plain_byte name) h; all = all_solid name (and_right (has_bytes name) (list_all is_plain_byte name) h) }

plain_no_end : (name : List ℕ) (at : ℕ) → is_plain name ≡ true → is_end (record { at = at; bytes = name }) ≡ false
plain_no_end [] at h = absurd (true≢false (sym h))
plain_no_end (byte ∷ bytes) at h = rw (no_dollar byte (and_left (is_plain_byte byte) (list_all is_plain_byte bytes) h)) refl

no_bracket : (bytes : List ℕ) → list_all is_plain_byte bytes ≡ true → position_or_len (λ byte. byte == 91) bytes ≡ length bytes
no_bracket [] h = refl
no_bracket (byte ∷ bytes) h =
    ap (λ b. cond b (1 + position_or_len (λ byte. byte == 91) bytes) 0) (and_left (not (byte == 91)) (not (byte == 92)) (no_brackets byte (and_left (is_plain_byte byte) (list_all is_plain_byte bytes) h)))
    ∙ ap (λ n. 1 + n) (no_bracket bytes (and_right (is_plain_byte byte) (list_all is_plain_byte bytes) h))
    ∙ (let e : 1 + length bytes ≡ suc (length bytes) = omega arith in e)

no_backslash : (bytes : List ℕ) → list_all is_plain_byte bytes ≡ true → without_backslash bytes ≡ bytes
no_backslash [] h = refl
no_backslash (byte ∷ bytes) h =
    rw (not_true (byte == 92) (and_right (not (byte == 91)) (not (byte == 92)) (no_brackets byte (and_left (is_plain_byte byte) (list_all is_plain_byte bytes) h)))) refl

plain_name : (name : List ℕ) → is_plain name ≡ true → name_of name ≡ name
plain_name name h =
    let all = and_right (has_bytes name) (list_all is_plain_byte name) h in
    ap without_backslash (ap (λ n. take n name) (no_bracket name all) ∙ take-length name) ∙ no_backslash name all

-- ---- lines of the head

-- what is told once the scope and these variables are
abbrev pub head_of : List ℕ → List Variable → Head
head_of scope vars = record { nest = scope ∷ []; scopes = scope ∷ []; vars = told_vars scope 0 vars; codes = codes_from 0 vars }

abbrev start : State
start = state_of no_head 0 []

abbrev told_head : List ℕ → List Variable → State
told_head scope vars = state_of (head_of scope vars) 0 []

size_is : (bytes : List ℕ) (n : ℕ) → list_all (is_digit_of 10) bytes ≡ true → number_of 10 bytes ≡ n → 1 ≤ n → n ≤ 128 → is_size bytes ≡ true
size_is bytes n tens is some most = rw (tens, is) (both (nat_le 1 n) (nat_le n (2 ^ 32 - 1)) (grind (arith, nat_tests)) (grind (arith, nat_tests)))

module _ (scope : List ℕ) (scope_plain : is_plain scope ≡ true) where
  head_goes : Goes InHead start (head_text scope) InHead (told_head scope [])
  head_goes =
      then_goes InHead InHead InHead start start (told_head scope []) (line_text (codes "$timescale" ∷ codes "1ns" ∷ codes "$end" ∷ [])) (line_text (codes "$scope" ∷ codes "module" ∷ scope ∷ codes "$end" ∷ []))
      (word_goes InHead InHead (λ at. PassedCommand) start start start (codes "$timescale") _ 32 (record { some = refl; all = refl }) refl (λ at. refl)
      (λ at. word_goes PassedCommand InHead (λ n. PassedCommand) start start start (codes "1ns") _ 32 (record { some = refl; all = refl }) refl (λ n. refl)
      (λ n. word_goes PassedCommand InHead (λ m. InHead) start start start (codes "$end") _ 10 (record { some = refl; all = refl }) refl (λ m. refl) (λ m. none_goes InHead start))))
      (word_goes InHead InHead (λ at. ScopeType) start start (told_head scope []) (codes "$scope") _ 32 (record { some = refl; all = refl }) refl (λ at. refl)
      (λ at. word_goes ScopeType InHead (λ n. ScopeName) start start (told_head scope []) (codes "module") _ 32 (record { some = refl; all = refl }) refl (λ n. refl)
      (λ n. word_goes ScopeName InHead (λ m. CommandEnd) start (told_head scope []) (told_head scope []) scope _ 32 (plain_word scope scope_plain) refl (λ m. rw (plain_no_end scope m scope_plain) refl)
      (λ m. word_goes CommandEnd InHead (λ k. InHead) (told_head scope []) (told_head scope []) (told_head scope []) (codes "$end") _ 10 (record { some = refl; all = refl }) refl (λ k. refl) (λ k. none_goes InHead (told_head scope []))))))

  module _ (vars : List Variable) (var : Variable) (is : IsVariable var) where
    abbrev coded : State
    coded = state_of (record { nest = scope ∷ []; scopes = scope ∷ []; vars = told_vars scope 0 vars; codes = codes_from 0 vars ++ (code_text (length vars), var.size) ∷ [] }) 0 []

    abbrev declared : State
    declared =
        state_of
        (record { nest = scope ∷ []; scopes = scope ∷ []; vars = told_vars scope 0 vars ++ told_var scope (length vars) var ∷ []; codes = codes_from 0 vars ++ (code_text (length vars), var.size) ∷ [] }) 0 []

    declared_is : declared ≡ told_head scope (vars ++ var ∷ [])
    declared_is =
        let none : 0 + length vars ≡ length vars = omega arith in
        let v : told_vars scope 0 vars ++ told_var scope (length vars) var ∷ [] ≡ told_vars scope 0 (vars ++ var ∷ []) = sym (vars_more scope 0 vars var ∙ ap (λ n. told_vars scope 0 vars ++ told_var scope n var ∷ []) none) in
        let c : codes_from 0 vars ++ (code_text (length vars), var.size) ∷ [] ≡ codes_from 0 (vars ++ var ∷ []) = sym (codes_more 0 vars var ∙ ap (λ n. codes_from 0 vars ++ (code_text n, var.size) ∷ []) none) in
        ap₂ (λ (v : List Var) (c : List Code). state_of (record { nest = scope ∷ []; scopes = scope ∷ []; vars = v; codes = c }) 0 []) v c

    kind_word : (register : Bool) → IsWord (kind_text register)
    kind_word true = record { some = refl; all = refl }
    kind_word false = record { some = refl; all = refl }

    kind_step : (register : Bool) (at : ℕ) → step VarType (told_head scope vars) (record { at = at; bytes = kind_text register }) ≡ Ok (VarSize true, told_head scope vars)
    kind_step true at = refl
    kind_step false at = refl

    small : var.size < 2 ^ 64
    small = omega (arith, is.most)

    size_step : (at : ℕ) → step (VarSize true) (told_head scope vars) (record { at = at; bytes = decimal var.size }) ≡ Ok (VarCode true var.size, told_head scope vars)
    size_step at =
        let number = decimal_is var.size small in
        let fits = size_is (decimal var.size) var.size (decimal_tens var.size small) number is.some is.most in
        rw (fits, number) refl

    code_step : (at : ℕ) → step (VarCode true var.size) (told_head scope vars) (record { at = at; bytes = code_text (length vars) }) ≡ Ok (VarReference true var.size (length vars), coded)
    code_step at = rw (code_bytes (length vars), not_known vars, codes_count 0 vars) refl

    name_step : (at : ℕ) → step (VarReference true var.size (length vars)) coded (record { at = at; bytes = var.name }) ≡ Ok (PassedCommand, declared)
    name_step at = rw (plain_no_end var.name at is.name, plain_name var.name is.name) refl

    end_goes : Goes PassedCommand declared (line_text (codes "$end" ∷ [])) InHead declared
    end_goes = word_goes PassedCommand InHead (λ n. InHead) declared declared declared (codes "$end") [] 10 (record { some = refl; all = refl }) refl (λ n. refl) (λ n. none_goes InHead declared)

    range_all : list_all solid (codes "[" ++ decimal (var.size - 1) ++ codes ":0]") ≡ true
    range_all =
        let d = decimal_word (var.size - 1) (omega (arith, is.most)) in
        list_all-append solid (codes "[" ++ decimal (var.size - 1)) (codes ":0]") ∙ both (list_all solid (codes "[" ++ decimal (var.size - 1))) true (both true (list_all solid (decimal (var.size - 1))) refl d.all) refl

    range_goes : (b : Bool) → Goes PassedCommand declared (line_text ((cond b [] ((codes "[" ++ decimal (var.size - 1) ++ codes ":0]") ∷ [])) ++ codes "$end" ∷ [])) InHead declared
    range_goes true = end_goes
    range_goes false =
        word_goes PassedCommand InHead (λ n. PassedCommand) declared declared declared (codes "[" ++ decimal (var.size - 1) ++ codes ":0]") _ 32 (record { some = refl; all = range_all }) refl (λ n. refl) (λ n. end_goes)

    name_goes : (b : Bool) → Goes (VarReference true var.size (length vars)) coded (line_text (var.name ∷ ((cond b [] ((codes "[" ++ decimal (var.size - 1) ++ codes ":0]") ∷ [])) ++ codes "$end" ∷ []))) InHead declared
    name_goes true = word_goes _ InHead (λ n. PassedCommand) coded declared declared var.name _ 32 (plain_word var.name is.name) refl name_step (λ n. range_goes true)
    name_goes false = word_goes _ InHead (λ n. PassedCommand) coded declared declared var.name _ 32 (plain_word var.name is.name) refl name_step (λ n. range_goes false)

    variable_goes : Goes InHead (told_head scope vars) (line_text (variable_words (length vars) var)) InHead (told_head scope (vars ++ var ∷ []))
    variable_goes =
        subst (λ (t : State). Goes InHead (told_head scope vars) (line_text (variable_words (length vars) var)) InHead t) declared_is
        (word_goes InHead InHead (λ n. VarType) (told_head scope vars) (told_head scope vars) declared (codes "$var") _ 32 (record { some = refl; all = refl }) refl (λ n. refl)
        (λ n. word_goes VarType InHead (λ m. VarSize true) (told_head scope vars) (told_head scope vars) declared (kind_text var.register) _ 32 (kind_word var.register) refl (kind_step var.register)
        (λ m. word_goes (VarSize true) InHead (λ k. VarCode true var.size) (told_head scope vars) (told_head scope vars) declared (decimal var.size) _ 32 (decimal_word var.size small) refl size_step
        (λ k. word_goes (VarCode true var.size) InHead (λ j. VarReference true var.size (length vars)) (told_head scope vars) coded declared (code_text (length vars)) _ 32 (code_word (length vars)) refl code_step
        (λ j. name_goes (var.size == 1))))))

  variables_go : (vars rest : List Variable) → EachOf IsVariable rest → Goes InHead (told_head scope vars) (variables_text (length vars) rest) InHead (told_head scope (vars ++ rest))
  variables_go vars [] are = subst (λ (l : List Variable). Goes InHead (told_head scope vars) [] InHead (told_head scope l)) (sym (append-nil vars)) (none_goes InHead (told_head scope vars))
  variables_go vars (var ∷ rest) are =
      let next : length (vars ++ var ∷ []) ≡ length vars + 1 = length-append vars (var ∷ []) in
      let more = variables_go (vars ++ var ∷ []) rest are.1 in
      let more_text = subst (λ (n : ℕ). Goes InHead (told_head scope (vars ++ var ∷ [])) (variables_text n rest) InHead (told_head scope ((vars ++ var ∷ []) ++ rest))) next more in
      let same : (vars ++ var ∷ []) ++ rest ≡ vars ++ var ∷ rest = append_assoc vars (var ∷ []) rest in
      subst (λ (l : List Variable). Goes InHead (told_head scope vars) (variables_text (length vars) (var ∷ rest)) InHead (told_head scope l)) same
      (then_goes InHead InHead InHead (told_head scope vars) (told_head scope (vars ++ var ∷ [])) (told_head scope ((vars ++ var ∷ []) ++ rest)) (line_text (variable_words (length vars) var)) (variables_text (length vars + 1) rest)
      (variable_goes vars var are.0) more_text)

  -- the scope that is closed is no longer open
  abbrev pub closed : List Variable → Head
  closed vars = record { nest = []; scopes = scope ∷ []; vars = told_vars scope 0 vars; codes = codes_from 0 vars }

  middle_goes : (vars : List Variable) → Goes InHead (told_head scope vars) middle_text InChanges (state_of (closed vars) 0 [])
  middle_goes vars =
      let s = told_head scope vars in
      let t = state_of (closed vars) 0 [] in
      let word : IsWord (codes "$end") = record { some = refl; all = refl } in
      word_goes InHead InChanges (λ n. CommandEnd) s t t (codes "$upscope") _ 32 (record { some = refl; all = refl }) refl (λ n. refl)
      (λ n. word_goes CommandEnd InChanges (λ m. InHead) t t t (codes "$end") _ 10 word refl (λ m. refl)
      (λ m. word_goes InHead InChanges (λ k. HeadEnd) t t t (codes "$enddefinitions") _ 32 (record { some = refl; all = refl }) refl (λ k. refl)
      (λ k. word_goes HeadEnd InChanges (λ j. InChanges) t t t (codes "$end") _ 10 word refl (λ j. refl)
      (λ j. then_goes InChanges InChanges InChanges t t t (time_text 0) (line_text (codes "$dumpvars" ∷ []))
      (word_goes InChanges InChanges (λ i. InChanges) t t t (35 ∷ decimal 0) [] 10 (record { some = refl; all = zero_solid }) refl zero_step (λ i. none_goes InChanges t))
      (word_goes InChanges InChanges (λ i. InChanges) t t t (codes "$dumpvars") [] 10 (record { some = refl; all = refl }) refl (λ i. refl) (λ i. none_goes InChanges t))))))
    where
      zero_solid : list_all solid (35 ∷ decimal 0) ≡ true
      zero_solid = both true (list_all solid (decimal 0)) refl (decimal_word 0 (omega arith)).all

      zero_step : (at : ℕ) → step InChanges (state_of (closed vars) 0 []) (record { at = at; bytes = 35 ∷ decimal 0 }) ≡ Ok (InChanges, state_of (closed vars) 0 [])
      zero_step at = rw (time_is (decimal 0) 0 (decimal_some 0 (omega arith)) (decimal_tens 0 (omega arith)) (decimal_is 0 (omega arith)) (omega arith), decimal_is 0 (omega arith)) refl

  pub front_goes : (vars : List Variable) → EachOf IsVariable vars → Goes InHead start (front_text scope vars) InChanges (state_of (closed vars) 0 [])
  front_goes vars are =
      then_goes InHead InHead InChanges start (told_head scope []) (state_of (closed vars) 0 []) (head_text scope) (variables_text 0 vars ++ middle_text) head_goes
      (then_goes InHead InHead InChanges (told_head scope []) (told_head scope vars) (state_of (closed vars) 0 []) (variables_text 0 vars) middle_text (variables_go [] vars are) (middle_goes vars))
