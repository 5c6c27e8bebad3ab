-- The widths of a form are judged as those of the expression, and what fits has a tree whose widths fit.
use Rattle.std.proofs.Common.{◌≡◌, ◌≤◌, ℕ, ◌+◌, ◌-◌, Bool, true, false, List, [], ◌∷◌, length, drop, get_or, map, Option, Some, None, unwrap_or, Result, Ok, Err, refl, sym, ap, ap₂, subst, ◌∙◌, arith}
use Rattle.std.proofs.lemmas.List.{drop-drop, get_or-drop}
use Rattle.std.specs.Prelude.{slice_get}
use Rattle.bv_core.specs.Value.{Bits, IsBits}
use Rattle.bv_core.specs.Operators.{Fits1, Fits2, width1_of, width2_of}
use Rattle.bv_core.specs.declared.Op1.{Op1}
use Rattle.bv_core.specs.declared.Op1.TheVariants as op1
use Rattle.bv_core.specs.declared.Op2.{Op2}
use Rattle.bv_core.specs.declared.Ref.{Ref}
use Rattle.bv_core.specs.declared.Ref.TheVariants as ref
use Rattle.names.specs.Known.{Begins}
use Rattle.tree_core.specs.Tree.{Tree, Const, Leaf, One, Two, Mux}
use Rattle.tree_core.specs.Width.{width_of}
use Rattle.gen_tree.specs.declared.Op.{Op}
use Rattle.gen_tree.specs.declared.Op.TheVariants as op
use Rattle.gen_tree.specs.Tree.{Expr, read, out, value, unary, binary, mux, zext, slice}
use Rattle.cond_lang.specs.declared.form.Part.{Part}
use Rattle.cond_lang.specs.Names.{Name, number, fam_name, output_name}
use Rattle.cond_lang.specs.Meaning.{literal, unary_of, binary_of, tree_of}
use Rattle.cond_lang.specs.Judged.{Judged, ◌>>=◌, fits_one, fits_two, fits_choice, fits_literal, fitting, first, fam_tokens, tokens_before, width_in}
use Rattle.cond_lang.specs.Bound.{ref_width, mapped, IsRef, IsBound}
use Rattle.cond_lang.specs.Form.{Seat, place_in, names_in, first_tree, seats, seated}
use Rattle.cond_lang.specs.Places.{ref_at, AreRefs, tree_at, before_one, behind_one, before_two, size, fit, leaf_fit, one_fit, two_fit, three_fit, judged_at, Judges}
use Rattle.cond_lang.proofs.Names.{found_at, begins_first}
use Rattle.cond_lang.proofs.Forms.{tree_mapped, ref_is}
use Rattle.cond_lang.proofs.Sizes.{plain_before, plain_behind}
use Rattle.cond_lang.proofs.Tests.{one_true, two_true, choice_true}

before_is : (o : Op) → tokens_before o ≡ before_two (binary_of o)
before_is op.Add = refl
before_is op.Sub = refl
before_is op.Mul = refl
before_is op.And = refl
before_is op.Or = refl
before_is op.Xor = refl
before_is op.Eq = refl
before_is op.Ne = refl
before_is op.Lt = refl
before_is op.Le = refl
before_is op.Shl = refl
before_is op.Shr = refl
before_is op.Cat = refl

-- what is judged of a part, with the offsets behind it
abbrev pub with_left : Result ℕ ℕ → List ℕ → Judged
with_left (Ok w) rest = Ok (w, rest)
with_left (Err offset) rest = Err offset

-- ---- from offset to offset

module _ (offsets : List ℕ) where
  abbrev from : ℕ → List ℕ
  from n = drop n offsets

  drops : (k n m : ℕ) → n + k ≡ m → drop k (from n) ≡ from m
  drops k n m e = drop-drop k n offsets ∙ ap from e

  first_from : (n : ℕ) → first (from n) ≡ get_or offsets n 0
  first_from n = by (from n) ∙ get_or-drop n offsets 0 0 ∙ ap (λ (k : ℕ). get_or offsets k 0) (let e : n + 0 ≡ n = omega arith in e)
    where
      by : (l : List ℕ) → first l ≡ get_or l 0 0
      by [] = refl
      by (x ∷ l) = refl

  fit_left : (b : Bool) (w n : ℕ) (rest : List ℕ) → fitting b w (from n) rest ≡ with_left (fit b w (get_or offsets n 0)) rest
  fit_left true w n rest = refl
  fit_left false w n rest = ap Err (first_from n)

  last_left : (f : ℕ → Bool) (g : ℕ → ℕ) (n m k end : ℕ) (j : Result ℕ ℕ) → m + k ≡ end
      → (with_left j (from m) >>= λ a. fitting (f a.0) (g a.0) (from n) (drop k a.1)) ≡ with_left (j >>= λ a. fit (f a) (g a) (get_or offsets n 0)) (from end)
  last_left f g n m k end (Ok w) e = fit_left (f w) (g w) n (drop k (from m)) ∙ ap (with_left (fit (f w) (g w) (get_or offsets n 0))) (drops k m end e)
  last_left f g n m k end (Err offset) e = refl

  then_left : (m end : ℕ) (j : Result ℕ ℕ) (next : ℕ × List ℕ → Judged) (inner : ℕ → Result ℕ ℕ) → ((w : ℕ) → next (w, from m) ≡ with_left (inner w) (from end)) → (with_left j (from m) >>= next) ≡ with_left (j >>= inner) (from end)
  then_left m end (Ok w) next inner h = h w
  then_left m end (Err offset) next inner h = refl

  module _ (r : Name → Ref) (all : List Name) where
    abbrev named : Expr → List ℕ → Judged
    named e l = width_in (λ x. ref_width (r x)) e l

    abbrev at : Tree Seat → ℕ → Result ℕ ℕ
    at t n = judged_at (map r all) offsets t n

    -- what is judged of an expression from its first token on
    abbrev Told : List Name → Expr → ℕ → Type 0
    Told names e n = named e (from n) ≡ with_left (at (seated names e) n) (from (n + size (seated names e)))

    leaf_told : (names : List Name) (x : Name) (n tokens : ℕ) → Begins (names_in names (Leaf x)) all
        → Ok (ref_width (r x), drop tokens (from n)) ≡ with_left (leaf_fit (slice_get (map r all) (place_in names x)) (get_or offsets n 0)) (from (n + tokens))
    leaf_told names x n tokens h =
        ap (λ (l : List ℕ). Ok (ref_width (r x), l)) (drops tokens n (n + tokens) refl)
        ∙ ap (λ (o : Option Ref). with_left (leaf_fit o (get_or offsets n 0)) (from (n + tokens))) (sym (found_at r names all x h))

    one_told : (o : Op1) (names : List Name) (e : Expr) (n b k : ℕ) → b ≡ before_one o → k ≡ behind_one o → ((s : ℕ) → Told names e s)
        → (named e (drop b (from n)) >>= λ a. fitting (fits_one o a.0) (width1_of o a.0) (from n) (drop k a.1)) ≡ with_left (at (One o (seated names e)) n) (from (n + size (One o (seated names e))))
    one_told o names e n b k before behind told =
        let t = seated names e in
        let s = n + before_one o in
        let rest : ℕ × List ℕ → Judged = λ a. fitting (fits_one o a.0) (width1_of o a.0) (from n) (drop k a.1) in
        ap (λ (l : List ℕ). named e l >>= rest) (drops b n s (omega (arith, before)))
        ∙ ap (λ (j : Judged). j >>= rest) (told s)
        ∙ last_left (fits_one o) (width1_of o) n (s + size t) k (n + size (One o t)) (at t s) (omega (arith, behind))

    pub told : (names : List Name) (e : Expr) (n : ℕ) → Begins (names_in names (tree_of e)) all → Told names e n
    told names (read f) n h = leaf_told names (fam_name f) n (fam_tokens f) h
    told names (out f q) n h = leaf_told names (output_name f q) n (fam_tokens f + 2) h
    told names (value l) n h =
        fit_left (fits_literal (literal l)) (literal l).width n (drop 1 (from n))
        ∙ ap (with_left (fit (fits_literal (literal l)) (literal l).width (get_or offsets n 0))) (drops 1 n (n + 1) refl)
    told names (unary o e) n h = one_told (unary_of o) names e n 2 1 (sym (plain_before o)) (sym (plain_behind o)) (λ s. told names e s h)
    told names (binary o e f) n h =
        let mid = names_in names (tree_of e) in
        let x = seated names e in
        let y = seated mid f in
        let s = n + before_two (binary_of o) in
        let late = s + size x + 1 in
        let end = n + size (seated names (binary o e f)) in
        let last : ℕ → ℕ × List ℕ → Judged = λ v b. fitting (fits_two (binary_of o) v b.0) (width2_of (binary_of o) v b.0) (from n) (drop 1 b.1) in
        let second : ℕ × List ℕ → Judged = λ a. named f (drop 1 a.1) >>= last a.0 in
        ap (λ (l : List ℕ). named e l >>= second) (drops (tokens_before o) n s (omega (arith, before_is o)))
        ∙ ap (λ (j : Judged). j >>= second) (told names e s (begins_first mid all (tree_of f) h))
        ∙ then_left (s + size x) end (at x s) second (λ v. at y late >>= λ w. fit (fits_two (binary_of o) v w) (width2_of (binary_of o) v w) (get_or offsets n 0))
        (λ v. ap (λ (l : List ℕ). named f l >>= last v) (drops 1 (s + size x) late refl)
        ∙ ap (λ (j : Judged). j >>= last v) (told mid f late h)
        ∙ last_left (fits_two (binary_of o) v) (width2_of (binary_of o) v) n (late + size y) 1 end (at y late) (omega arith))
    told names (mux e f g) n h =
        let mid = names_in names (tree_of e) in
        let high = names_in mid (tree_of f) in
        let x = seated names e in
        let y = seated mid f in
        let z = seated high g in
        let s = n + 2 in
        let late = s + size x + 1 in
        let later = late + size y + 1 in
        let end = n + size (seated names (mux e f g)) in
        let last : ℕ → ℕ → ℕ × List ℕ → Judged = λ u v b. fitting (fits_choice u v b.0) v (from n) (drop 1 b.1) in
        let third : ℕ → ℕ × List ℕ → Judged = λ u a. named g (drop 1 a.1) >>= last u a.0 in
        let second : ℕ × List ℕ → Judged = λ c. named f (drop 1 c.1) >>= third c.0 in
        ap (λ (l : List ℕ). named e l >>= second) (drops 2 n s refl)
        ∙ ap (λ (j : Judged). j >>= second) (told names e s (begins_first mid all (tree_of f) (begins_first high all (tree_of g) h)))
        ∙ then_left (s + size x) end (at x s) second (λ u. at y late >>= λ v. at z later >>= λ w. fit (fits_choice u v w) v (get_or offsets n 0))
        (λ u. ap (λ (l : List ℕ). named f l >>= third u) (drops 1 (s + size x) late refl)
        ∙ ap (λ (j : Judged). j >>= third u) (told mid f late (begins_first high all (tree_of g) h))
        ∙ then_left (late + size y) end (at y late) (third u) (λ v. at z later >>= λ w. fit (fits_choice u v w) v (get_or offsets n 0))
        (λ v. ap (λ (l : List ℕ). named g l >>= last u v) (drops 1 (late + size y) later refl)
        ∙ ap (λ (j : Judged). j >>= last u v) (told high g later h)
        ∙ last_left (fits_choice u v) (λ w. v) n (later + size z) 1 end (at z later) (omega arith)))
    told names (zext e w) n h = one_told (op1.Zext (number w)) names e n 2 3 refl refl (λ s. told names e s h)
    told names (slice e hi lo) n h = one_told (op1.Slice (number hi) (number lo)) names e n 0 5 refl refl (λ s. told names e s h)

-- a whole expression
pub told_whole : (offsets : List ℕ) (r : Name → Ref) (all : List Name) (e : Expr) → Begins (names_in [] (tree_of e)) all
    → width_in (λ x. ref_width (r x)) e offsets ≡ with_left (judged_at (map r all) offsets (seated [] e) 0) (drop (size (seated [] e)) offsets)
told_whole offsets r all e h =
    let size_is : 0 + size (seated [] e) ≡ size (seated [] e) = omega arith in
    told offsets r all [] e 0 h ∙ ap (λ (n : ℕ). with_left (judged_at (map r all) offsets (seated [] e) 0) (drop n offsets)) size_is

-- ---- what fits

fit_told : (b : Bool) (w start v : ℕ) → fit b w start ≡ Ok v → (b ≡ true) × (w ≡ v)
fit_told true w start v e = (refl, cc)
fit_told false w start v e = absurd cc

literal_true : (b : Bits) → fits_literal b ≡ true → IsBits b
literal_true b e = record { some = grind arith; most = grind arith; fits = grind arith }

module _ (refs : List Ref) (good : (n : ℕ) (at : Ref) → slice_get refs n ≡ Some at → IsRef at) (offsets : List ℕ) where
  abbrev tree : Tree Seat → Tree Ref
  tree t = mapped (λ s. ref_at refs s.place) t

  leaf_bound : (k start w : ℕ) → leaf_fit (slice_get refs k) start ≡ Ok w → IsBound (Leaf (ref_at refs k)) w
  leaf_bound k start w e = by (slice_get refs k) (good k) e
    where
      by : (o : Option Ref) → ((at : Ref) → o ≡ Some at → IsRef at) → leaf_fit o start ≡ Ok w → IsBound (Leaf (unwrap_or o (ref.Const (record { width = 0; value = 0 })))) w
      by (Some at) is e = record { fits = is at refl; has = cc }
      by None is e = absurd cc

  one_bound : (o : Op1) (t : Tree Ref) (start w : ℕ) (j : Result ℕ ℕ) → ((v : ℕ) → j ≡ Ok v → IsBound t v) → one_fit o start j ≡ Ok w → IsBound (One o t) w
  one_bound o t start w (Ok v) h e =
      let a = h v refl in
      let f = fit_told (fits_one o v) (width1_of o v) start w e in
      record { fits = (a.fits, subst (Fits1 o) (sym a.has) (one_true o v f.0)); has = ap (width1_of o) a.has ∙ f.1 }
  one_bound o t start w (Err offset) h e = absurd cc

  two_bound : (o : Op2) (s t : Tree Ref) (start w : ℕ) (i j : Result ℕ ℕ) → ((v : ℕ) → i ≡ Ok v → IsBound s v) → ((v : ℕ) → j ≡ Ok v → IsBound t v) → two_fit o start i j ≡ Ok w → IsBound (Two o s t) w
  two_bound o s t start w (Ok u) (Ok v) g h e =
      let a = g u refl in
      let b = h v refl in
      let f = fit_told (fits_two o u v) (width2_of o u v) start w e in
      record {
        fits = (a.fits, b.fits, subst (λ n. Fits2 o n (width_of ref_width t)) (sym a.has) (subst (Fits2 o u) (sym b.has) (two_true o u v f.0)));
        has = ap₂ (width2_of o) a.has b.has ∙ f.1;
      }
  two_bound o s t start w (Ok u) (Err offset) g h e = absurd cc
  two_bound o s t start w (Err offset) j g h e = absurd cc

  three_bound : (q s t : Tree Ref) (start w : ℕ) (c i j : Result ℕ ℕ) → ((v : ℕ) → c ≡ Ok v → IsBound q v) → ((v : ℕ) → i ≡ Ok v → IsBound s v) → ((v : ℕ) → j ≡ Ok v → IsBound t v) → three_fit start c i j ≡ Ok w → IsBound (Mux q s t) w
  three_bound q s t start w (Ok x) (Ok u) (Ok v) p g h e =
      let z = p x refl in
      let a = g u refl in
      let b = h v refl in
      let f = fit_told (fits_choice x u v) u start w e in
      let k = choice_true x u v f.0 in
      record { fits = (z.fits, a.fits, b.fits, (z.has ∙ k.0, a.has ∙ k.1 ∙ sym b.has)); has = a.has ∙ f.1 }
  three_bound q s t start w (Ok x) (Ok u) (Err offset) p g h e = absurd cc
  three_bound q s t start w (Ok x) (Err offset) j p g h e = absurd cc
  three_bound q s t start w (Err offset) i j p g h e = absurd cc

  tree_bound : (t : Tree Seat) (n w : ℕ) → judged_at refs offsets t n ≡ Ok w → IsBound (tree t) w
  tree_bound (Const b) n w e = let f = fit_told (fits_literal b) b.width (get_or offsets n 0) w e in record { fits = literal_true b f.0; has = f.1 }
  tree_bound (Leaf s) n w e = leaf_bound s.place (get_or offsets n 0) w e
  tree_bound (One o a) n w e = one_bound o (tree a) (get_or offsets n 0) w (judged_at refs offsets a (n + before_one o)) (tree_bound a (n + before_one o)) e
  tree_bound (Two o a b) n w e =
      two_bound o (tree a) (tree b) (get_or offsets n 0) w (judged_at refs offsets a (n + before_two o)) (judged_at refs offsets b (n + before_two o + size a + 1))
      (tree_bound a (n + before_two o)) (tree_bound b (n + before_two o + size a + 1)) e
  tree_bound (Mux c a b) n w e =
      three_bound (tree c) (tree a) (tree b) (get_or offsets n 0) w (judged_at refs offsets c (n + 2)) (judged_at refs offsets a (n + 2 + size c + 1)) (judged_at refs offsets b (n + 2 + size c + 1 + size a + 1))
      (tree_bound c (n + 2)) (tree_bound a (n + 2 + size c + 1)) (tree_bound b (n + 2 + size c + 1 + size a + 1)) e

-- a form that fits at places is bound there
pub bound_is : (refs : List Ref) (offsets : List ℕ) (parts : List Part) (n w : ℕ) → AreRefs refs → judged_at refs offsets (first_tree (seats parts)) n ≡ Ok w → IsBound (tree_at refs parts) w
bound_is refs offsets parts n w all e = subst (λ (t : Tree Ref). IsBound t w) (sym (tree_mapped refs parts)) (tree_bound refs (ref_is refs all) offsets (first_tree (seats parts)) n w e)

-- a text's form whose tokens are all that there are
pub whole_bound : (refs : List Ref) (offsets : List ℕ) (parts : List Part) (t : Tree Seat) (end w begin : ℕ) (found : Result ℕ ℕ) (rest : List (Tree Seat)) → AreRefs refs → seats parts ≡ t ∷ [] → length offsets ≡ size t → end ≡ length offsets
    → Judges refs offsets (seats parts) end found rest begin → found ≡ Ok w → IsBound (tree_at refs parts) w
whole_bound refs offsets parts t end w begin found rest all formed sized end_is judges is =
    let long : size (first_tree (seats parts)) ≤ end = omega (arith, ap (λ (ts : List (Tree Seat)). size (first_tree ts)) formed, sized, end_is) in
    bound_is refs offsets parts (end - size (first_tree (seats parts))) w all (sym (judges.fits long) ∙ is)
