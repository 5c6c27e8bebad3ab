-- An expression is judged to have a width exactly where it has one by the rules, and else the first part is told that has none.
use Rattle.std.proofs.Common.{◌≡◌, ℕ, ◌+◌, Bool, true, false, List, [], ◌∷◌, ◌++◌, drop, get_or, append_assoc, Option, Some, None, Result, Ok, Err, refl, sym, ap, ap₂, subst, ◌∙◌, arith}
use Rattle.std.proofs.lemmas.List.{drop-drop, get_or-drop}
use Rattle.std.proofs.lemmas.Bool.Decides.{nat_tests}
use Rattle.bv_core.specs.Value.{Bits, IsBits}
use Rattle.bv_core.specs.Operators.{Fits1, Fits2, width1_of, width2_of}
use Rattle.bv_core.specs.declared.Op1.{Op1}
use Rattle.bv_core.specs.declared.Op1.TheVariants as op1
use Rattle.list_core.specs.Lists.{EachOf}
use Rattle.list_core.proofs.Lists.{each_append}
use Rattle.gen_tree.specs.declared.UnOp.{UnOp}
use Rattle.gen_tree.specs.declared.UnOp.TheVariants as un_op
use Rattle.gen_tree.specs.declared.Op.{Op}
use Rattle.gen_tree.specs.declared.Op.TheVariants as op
use Rattle.gen_tree.specs.Tree.{Expr, read, out, value, unary, binary, mux, zext, slice}
use Rattle.cond_lang.specs.Names.{Name, number}
use Rattle.cond_lang.specs.Meaning.{literal, unary_of, binary_of, tree_of, leaves}
use Rattle.cond_lang.specs.Judged.{Status, shown, unset, removed, Scope, Refusal, misfit, Judged, ◌>>=◌, fits_one, fits_two, fits_choice, fits_literal, fitting, first, fam_tokens, tokens_before, width_in, refused_name, or_else, first_refused, width_or_misfit, unless_refused, judged}
use Rattle.cond_lang.specs.Typed.{UnaryGives, BinaryGives, HasWidth, Fits, tokens_of, parts_from, IsFirstMisfit}
use Rattle.cond_lang.specs.Laws.{HasValue, width_by, HasToldWidth}
use Rattle.cond_lang.proofs.Tests.{one_true, true_one, two_true, true_two, choice_true, true_choice}

-- ---- the operators

unary_so : (o : UnOp) (u w : ℕ) → w ≡ width1_of (unary_of o) u → UnaryGives o u w
unary_so un_op.Not u w e = e
unary_so un_op.All u w e = e
unary_so un_op.Any u w e = e
unary_so un_op.Parity u w e = e

unary_told : (o : UnOp) (u w : ℕ) → UnaryGives o u w → w ≡ width1_of (unary_of o) u
unary_told un_op.Not u w e = e
unary_told un_op.All u w e = e
unary_told un_op.Any u w e = e
unary_told un_op.Parity u w e = e

unary_fits : (o : UnOp) (u : ℕ) → fits_one (unary_of o) u ≡ true
unary_fits un_op.Not u = refl
unary_fits un_op.All u = refl
unary_fits un_op.Any u = refl
unary_fits un_op.Parity u = refl

binary_so : (o : Op) (u v w : ℕ) → Fits2 (binary_of o) u v → w ≡ width2_of (binary_of o) u v → BinaryGives o u v w
binary_so op.Add u v w f e = (f, e)
binary_so op.Sub u v w f e = (f, e)
binary_so op.Mul u v w f e = (f, e)
binary_so op.And u v w f e = (f, e)
binary_so op.Or u v w f e = (f, e)
binary_so op.Xor u v w f e = (f, e)
binary_so op.Eq u v w f e = (f, e)
binary_so op.Ne u v w f e = (f, e)
binary_so op.Lt u v w f e = (f, e)
binary_so op.Le u v w f e = (f, e)
binary_so op.Shl u v w f e = e
binary_so op.Shr u v w f e = e
binary_so op.Cat u v w f e = (e, omega (arith, f, e))

binary_told : (o : Op) (u v w : ℕ) → BinaryGives o u v w → Fits2 (binary_of o) u v × (w ≡ width2_of (binary_of o) u v)
binary_told op.Add u v w h = h
binary_told op.Sub u v w h = h
binary_told op.Mul u v w h = h
binary_told op.And u v w h = h
binary_told op.Or u v w h = h
binary_told op.Xor u v w h = h
binary_told op.Eq u v w h = h
binary_told op.Ne u v w h = h
binary_told op.Lt u v w h = h
binary_told op.Le u v w h = h
binary_told op.Shl u v w h = (tt, h)
binary_told op.Shr u v w h = (tt, h)
binary_told op.Cat u v w h = (omega (arith, h.0, h.1), h.0)

literal_true : (b : Bits) → fits_literal b ≡ true → IsBits b
literal_true b e = record { some = grind arith; most = grind arith; fits = grind arith }

true_literal : (b : Bits) → IsBits b → fits_literal b ≡ true
true_literal b h = let some = h.some in let most = h.most in let fits = h.fits in grind (arith, nat_tests, some, most, fits)

refuted : {P : Type 0} (b : Bool) → b ≡ false → b ≡ true → P
refuted b e f = absurd (let bad : true ≡ false = sym f ∙ e in cc)

-- ---- widths

module _ (widths : Name → ℕ) where
  abbrev Has : Expr → ℕ → Type 0
  Has e w = HasWidth widths e w

  -- an expression has one width at most
  one_width : (e : Expr) (w x : ℕ) → Has e w → Has e x → w ≡ x
  one_width (read f) w x h k = h ∙ sym k
  one_width (out f q) w x h k = h ∙ sym k
  one_width (value l) w x h k = h.1 ∙ sym k.1
  one_width (unary o e) w x (u, (p, g)) (v, (q, h)) = unary_told o u w g ∙ ap (width1_of (unary_of o)) (one_width e u v p q) ∙ sym (unary_told o v x h)
  one_width (binary o a b) w x (u, v, (p, (q, g))) (s, t, (r, (y, h))) =
      (binary_told o u v w g).1 ∙ ap₂ (width2_of (binary_of o)) (one_width a u s p r) (one_width b v t q y) ∙ sym (binary_told o s t x h).1
  one_width (mux c a b) w x h k = one_width a w x h.1.0 k.1.0
  one_width (zext e n) w x (u, (p, g)) (v, (q, h)) = g.0 ∙ sym h.0
  one_width (slice e i j) w x (u, (p, g)) (v, (q, h)) = g.1.1 ∙ sym h.1.1

  abbrev Fit : List (ℕ × Expr) → Type 0
  Fit ps = EachOf (λ p. Fits widths p.1) ps

  -- the parts of what has a width have one
  parts_fit : (n : ℕ) (e : Expr) (w : ℕ) → Has e w → Fit (parts_from n e)
  parts_fit n (read f) w h = ((w, h), tt)
  parts_fit n (out f q) w h = ((w, h), tt)
  parts_fit n (value l) w h = ((w, h), tt)
  parts_fit n (unary o e) w (u, (p, g)) = each_append _ (parts_from (n + 2) e) _ (parts_fit (n + 2) e u p) ((w, (u, (p, g))), tt)
  parts_fit n (binary o a b) w (u, v, (p, (q, g))) =
      let s = n + tokens_before o in
      let late = s + tokens_of a + 1 in
      each_append _ (parts_from s a) _ (parts_fit s a u p) (each_append _ (parts_from late b) _ (parts_fit late b v q) ((w, (u, v, (p, (q, g)))), tt))
  parts_fit n (mux c a b) w (p, (q, r)) =
      let s = n + 2 in
      let late = s + tokens_of c + 1 in
      let last = late + tokens_of a + 1 in
      each_append _ (parts_from s c) _ (parts_fit s c 1 p) (each_append _ (parts_from late a) _ (parts_fit late a w q)
      (each_append _ (parts_from last b) _ (parts_fit last b w r) ((w, (p, (q, r))), tt)))
  parts_fit n (zext e m) w (u, (p, g)) = each_append _ (parts_from (n + 2) e) _ (parts_fit (n + 2) e u p) ((w, (u, (p, g))), tt)
  parts_fit n (slice e i j) w (u, (p, g)) = each_append _ (parts_from n e) _ (parts_fit n e u p) ((w, (u, (p, g))), tt)

  module _ (offsets : List ℕ) where
    -- what is judged of an expression from a token on: its width, and the offsets behind it; or the first part that has none
    abbrev Answer : ℕ → Expr → Judged → Type 0
    Answer n e (Ok found) = Has e found.0 × (found.1 ≡ drop (n + tokens_of e) offsets)
    Answer n e (Err offset) = (k : ℕ) × (IsFirstMisfit widths (parts_from n e) k × (offset ≡ get_or offsets k 0))

    first_from : (n : ℕ) → first (drop n offsets) ≡ get_or offsets n 0
    first_from n = by (drop n offsets) ∙ get_or-drop n offsets 0 0 ∙ ap (λ (k : ℕ). get_or offsets k 0) (let e : n + 0 ≡ n = omega arith in e)
      where
        by : (l : List ℕ) → first l ≡ get_or l 0 0
        by [] = refl
        by (x ∷ l) = refl

    drops : (k n m : ℕ) → n + k ≡ m → drop k (drop n offsets) ≡ drop m offsets
    drops k n m e = drop-drop k n offsets ∙ ap (λ (i : ℕ). drop i offsets) e

    -- an operand is judged, and then what is behind it
    goes : (e : Expr) (s : ℕ) (whole : Expr) (n : ℕ) (before after : List (ℕ × Expr)) (j : Judged) (next : ℕ × List ℕ → Judged)
        → parts_from n whole ≡ before ++ (parts_from s e ++ after) → Fit before → Answer s e j
        → ((w : ℕ) → Has e w → Answer n whole (next (w, drop (s + tokens_of e) offsets))) → Answer n whole (j >>= next)
    goes e s whole n before after (Ok (w, l)) next split fit h more = subst (λ (l : List ℕ). Answer n whole (next (w, l))) (sym h.1) (more w h.0)
    goes e s whole n before after (Err offset) next split fit (k, (m, is)) more = (
      k,
      (
        record {
          before = before ++ m.before;
          part = m.part;
          behind = m.behind ++ after;
          split = split ∙ ap (λ (ps : List (ℕ × Expr)). before ++ (ps ++ after)) m.split
              ∙ ap (λ (ps : List (ℕ × Expr)). before ++ ps) (append_assoc m.before ((k, m.part) ∷ m.behind) after)
              ∙ sym (append_assoc before m.before ((k, m.part) ∷ (m.behind ++ after)));
          fit = each_append _ before m.before fit m.fit;
          misfit = m.misfit;
        },
        is,
      ),
    )

    -- all operands have a width, and the operator takes them or not
    ends : (whole : Expr) (n : ℕ) (before : List (ℕ × Expr)) (b : Bool) (w : ℕ) (rest : List ℕ)
        → parts_from n whole ≡ before ++ (n, whole) ∷ [] → Fit before → rest ≡ drop (n + tokens_of whole) offsets
        → (b ≡ true → Has whole w) → (b ≡ false → Fits widths whole → ⊥) → Answer n whole (fitting b w (drop n offsets) rest)
    ends whole n before true w rest split fit is some none = (some refl, is)
    ends whole n before false w rest split fit is some none =
        (n, (record { before = before; part = whole; behind = []; split = split; fit = fit; misfit = none refl }, first_from n))

    -- an operator with one operand
    one_operand : (whole e : Expr) (o : Op1) (n s t k : ℕ) → n + t ≡ s → s + tokens_of e + k ≡ n + tokens_of whole → parts_from n whole ≡ parts_from s e ++ (n, whole) ∷ []
        → ((u : ℕ) → Has e u → Fits1 o u → Has whole (width1_of o u)) → ((u : ℕ) → Has e u → Fits widths whole → Fits1 o u)
        → Answer s e (width_in widths e (drop s offsets))
        → Answer n whole (width_in widths e (drop t (drop n offsets)) >>= λ a. fitting (fits_one o a.0) (width1_of o a.0) (drop n offsets) (drop k a.1))
    one_operand whole e o n s t k at end split some needs h =
        let next : ℕ × List ℕ → Judged = λ a. fitting (fits_one o a.0) (width1_of o a.0) (drop n offsets) (drop k a.1) in
        subst (λ (l : List ℕ). Answer n whole (width_in widths e l >>= next)) (sym (drops t n s at))
        (goes e s whole n [] ((n, whole) ∷ []) (width_in widths e (drop s offsets)) next split tt h
        (λ u hu. ends whole n (parts_from s e) (fits_one o u) (width1_of o u) (drop k (drop (s + tokens_of e) offsets)) split (parts_fit s e u hu) (drops k (s + tokens_of e) (n + tokens_of whole) end)
        (λ f. some u hu (one_true o u f)) (λ f fits. refuted (fits_one o u) f (true_one o u (needs u hu fits)))))

    answer : (n : ℕ) (e : Expr) → Answer n e (width_in widths e (drop n offsets))
    answer n (read f) = (refl, drops (fam_tokens f) n (n + fam_tokens f) refl)
    answer n (out f q) = (refl, drops (fam_tokens f + 2) n (n + (fam_tokens f + 2)) refl)
    answer n (value l) =
        ends (value l) n [] (fits_literal (literal l)) (literal l).width (drop 1 (drop n offsets)) refl tt (drops 1 n (n + 1) refl)
        (λ f. (literal_true (literal l) f, refl)) (λ f fits. refuted (fits_literal (literal l)) f (true_literal (literal l) fits.1.0))
    answer n (unary o e) =
        one_operand (unary o e) e (unary_of o) n (n + 2) 2 1 refl (omega arith) refl (λ u hu f. (u, (hu, unary_so o u (width1_of (unary_of o) u) refl)))
        (λ u hu fits. one_true (unary_of o) u (unary_fits o u)) (answer (n + 2) e)
    answer n (binary o a b) =
        let whole = binary o a b in
        let s = n + tokens_before o in
        let late = s + tokens_of a + 1 in
        let p = binary_of o in
        let last : ℕ → ℕ × List ℕ → Judged = λ u v. fitting (fits_two p u v.0) (width2_of p u v.0) (drop n offsets) (drop 1 v.1) in
        let second : ℕ × List ℕ → Judged = λ u. width_in widths b (drop 1 u.1) >>= last u.0 in
        subst (λ (l : List ℕ). Answer n whole (width_in widths a l >>= second)) (sym (drops (tokens_before o) n s refl))
        (goes a s whole n [] (parts_from late b ++ (n, whole) ∷ []) (width_in widths a (drop s offsets)) second refl tt (answer s a)
        (λ u hu. subst (λ (l : List ℕ). Answer n whole (width_in widths b l >>= last u)) (sym (drops 1 (s + tokens_of a) late refl))
        (goes b late whole n (parts_from s a) ((n, whole) ∷ []) (width_in widths b (drop late offsets)) (last u) refl (parts_fit s a u hu) (answer late b)
        (λ v hv. ends whole n (parts_from s a ++ parts_from late b) (fits_two p u v) (width2_of p u v) (drop 1 (drop (late + tokens_of b) offsets))
        (sym (append_assoc (parts_from s a) (parts_from late b) ((n, whole) ∷ []))) (each_append _ (parts_from s a) (parts_from late b) (parts_fit s a u hu) (parts_fit late b v hv))
        (drops 1 (late + tokens_of b) (n + tokens_of whole) (omega arith))
        (λ f. (u, v, (hu, (hv, binary_so o u v (width2_of p u v) (two_true p u v f) refl))))
        (λ f fits. refuted (fits_two p u v) f (true_two p u v (needs u v hu hv fits)))))))
      where
        needs : (u v : ℕ) → Has a u → Has b v → Fits widths (binary o a b) → Fits2 (binary_of o) u v
        needs u v hu hv (w, (x, y, (hx, (hy, g)))) =
            subst (λ (k : ℕ). Fits2 (binary_of o) k v) (one_width a x u hx hu) (subst (Fits2 (binary_of o) x) (one_width b y v hy hv) (binary_told o x y w g).0)
    answer n (mux c a b) =
        let whole = mux c a b in
        let s = n + 2 in
        let late = s + tokens_of c + 1 in
        let end = late + tokens_of a + 1 in
        let last : ℕ → ℕ → ℕ × List ℕ → Judged = λ t u v. fitting (fits_choice t u v.0) u (drop n offsets) (drop 1 v.1) in
        let third : ℕ → ℕ × List ℕ → Judged = λ t u. width_in widths b (drop 1 u.1) >>= last t u.0 in
        let second : ℕ × List ℕ → Judged = λ t. width_in widths a (drop 1 t.1) >>= third t.0 in
        subst (λ (l : List ℕ). Answer n whole (width_in widths c l >>= second)) (sym (drops 2 n s refl))
        (goes c s whole n [] (parts_from late a ++ (parts_from end b ++ (n, whole) ∷ [])) (width_in widths c (drop s offsets)) second refl tt (answer s c)
        (λ t ht. subst (λ (l : List ℕ). Answer n whole (width_in widths a l >>= third t)) (sym (drops 1 (s + tokens_of c) late refl))
        (goes a late whole n (parts_from s c) (parts_from end b ++ (n, whole) ∷ []) (width_in widths a (drop late offsets)) (third t) refl (parts_fit s c t ht) (answer late a)
        (λ u hu. subst (λ (l : List ℕ). Answer n whole (width_in widths b l >>= last t u)) (sym (drops 1 (late + tokens_of a) end refl))
        (goes b end whole n (parts_from s c ++ parts_from late a) ((n, whole) ∷ []) (width_in widths b (drop end offsets)) (last t u)
        (sym (append_assoc (parts_from s c) (parts_from late a) (parts_from end b ++ (n, whole) ∷ [])))
        (each_append _ (parts_from s c) (parts_from late a) (parts_fit s c t ht) (parts_fit late a u hu)) (answer end b)
        (λ v hv. ends whole n ((parts_from s c ++ parts_from late a) ++ parts_from end b) (fits_choice t u v) u (drop 1 (drop (end + tokens_of b) offsets))
        (sym (append_assoc (parts_from s c) (parts_from late a) (parts_from end b ++ (n, whole) ∷ [])) ∙ sym (append_assoc (parts_from s c ++ parts_from late a) (parts_from end b) ((n, whole) ∷ [])))
        (each_append _ (parts_from s c ++ parts_from late a) (parts_from end b)
        (each_append _ (parts_from s c) (parts_from late a) (parts_fit s c t ht) (parts_fit late a u hu)) (parts_fit end b v hv))
        (drops 1 (end + tokens_of b) (n + tokens_of whole) (omega arith))
        (λ f. some t u v ht hu hv (choice_true t u v f)) (λ f fits. refuted (fits_choice t u v) f (needs t u v ht hu hv fits))))))))
      where
        some : (t u v : ℕ) → Has c t → Has a u → Has b v → (t ≡ 1) × (u ≡ v) → Has (mux c a b) u
        some t u v ht hu hv f = (subst (Has c) f.0 ht, (hu, subst (Has b) (sym f.1) hv))

        needs : (t u v : ℕ) → Has c t → Has a u → Has b v → Fits widths (mux c a b) → fits_choice t u v ≡ true
        needs t u v ht hu hv (w, (p, (q, r))) = true_choice t u v (one_width c t 1 ht p, one_width a u w hu q ∙ one_width b w v r hv)
    answer n (zext e m) =
        one_operand (zext e m) e (op1.Zext (number m)) n (n + 2) 2 3 refl (omega arith) refl (λ u hu f. (u, (hu, (refl, f))))
        (λ u hu fits. needs u hu fits) (answer (n + 2) e)
      where
        needs : (u : ℕ) → Has e u → Fits widths (zext e m) → Fits1 (op1.Zext (number m)) u
        needs u hu (w, (v, (hv, (is, f)))) = subst (λ (k : ℕ). Fits1 (op1.Zext (number m)) k) (one_width e v u hv hu) (subst (λ (k : ℕ). Fits1 (op1.Zext k) v) is f)
    answer n (slice e h l) =
        one_operand (slice e h l) e (op1.Slice (number h) (number l)) n n 0 5 (omega arith) (omega arith) refl (λ u hu f. (u, (hu, (f.0, (f.1, refl)))))
        (λ u hu fits. needs u hu fits) (answer n e)
      where
        needs : (u : ℕ) → Has e u → Fits widths (slice e h l) → Fits1 (op1.Slice (number h) (number l)) u
        needs u hu (w, (v, (hv, (low, (high, is))))) = subst (Fits1 (op1.Slice (number h) (number l))) (one_width e v u hv hu) (low, high)

-- ---- names and widths

one_shown : (scope : Scope) (x : Name) (xs : List Name) → (first_refused scope xs ≡ None → EachOf (HasValue scope) xs) → (o : Option Status) → scope x ≡ o
    → or_else (refused_name x o) (first_refused scope xs) ≡ None → EachOf (HasValue scope) (x ∷ xs)
one_shown scope x xs more None is f = absurd cc
one_shown scope x xs more (Some (shown w)) is f = ((w, is), more f)
one_shown scope x xs more (Some unset) is f = absurd cc
one_shown scope x xs more (Some removed) is f = absurd cc

all_shown : (scope : Scope) (xs : List Name) → first_refused scope xs ≡ None → EachOf (HasValue scope) xs
all_shown scope [] e = tt
all_shown scope (x ∷ xs) e = one_shown scope x xs (all_shown scope xs) (scope x) refl e

-- no name is refused for a width
one_misfit : (scope : Scope) (x : Name) (xs : List Name) (offset : ℕ) → (first_refused scope xs ≡ Some (misfit offset) → ⊥) → (o : Option Status)
    → or_else (refused_name x o) (first_refused scope xs) ≡ Some (misfit offset) → ⊥
one_misfit scope x xs offset more None is = cc
one_misfit scope x xs offset more (Some (shown w)) is = more is
one_misfit scope x xs offset more (Some unset) is = cc
one_misfit scope x xs offset more (Some removed) is = cc

no_misfit : (scope : Scope) (xs : List Name) (offset : ℕ) → first_refused scope xs ≡ Some (misfit offset) → ⊥
no_misfit scope [] offset is = cc
no_misfit scope (x ∷ xs) offset is = one_misfit scope x xs offset (no_misfit scope xs offset) (scope x) is

part_fits : (widths : Name → ℕ) (before : List (ℕ × Expr)) (k : ℕ) (part : Expr) (behind : List (ℕ × Expr)) → Fit widths (before ++ (k, part) ∷ behind) → Fits widths part
part_fits widths [] k part behind f = f.0
part_fits widths (p ∷ ps) k part behind f = part_fits widths ps k part behind f.1

none_refused : (scope : Scope) (xs : List Name) → EachOf (HasValue scope) xs → first_refused scope xs ≡ None
none_refused scope [] h = refl
none_refused scope (x ∷ xs) h = ap (λ (o : Option Status). or_else (refused_name x o) (first_refused scope xs)) h.0.1 ∙ none_refused scope xs h.1

-- what is judged where no name, or this one, is refused
abbrev Judges : (scope : Scope) → Expr → List ℕ → Option Refusal → Result ℕ Refusal → Type 0
Judges scope e offsets o j = unless_refused o (width_or_misfit (width_in (width_by scope) e offsets)) ≡ j

module _ (scope : Scope) (e : Expr) (offsets : List ℕ) where
  all_judged : Answer (width_by scope) offsets 0 e (width_in (width_by scope) e offsets)
  all_judged = answer (width_by scope) offsets 0 e

  typed_by : (w : ℕ) → HasWidth (width_by scope) e w → (j : Judged) → Answer (width_by scope) offsets 0 e j → width_or_misfit j ≡ Ok w
  typed_by w h (Ok found) a = ap Ok (one_width (width_by scope) e found.0 w a.0 h)
  typed_by w h (Err offset) (k, (m, is)) =
      absurd (m.misfit (part_fits (width_by scope) m.before k m.part m.behind (subst (Fit (width_by scope)) m.split (parts_fit (width_by scope) 0 e w h))))

  typed_told : (w : ℕ) → EachOf (HasValue scope) (leaves (tree_of e)) → HasWidth (width_by scope) e w → judged scope e offsets ≡ Ok w
  typed_told w names h =
      ap (λ (o : Option Refusal). unless_refused o (width_or_misfit (width_in (width_by scope) e offsets))) (none_refused scope (leaves (tree_of e)) names)
      ∙ typed_by w h (width_in (width_by scope) e offsets) all_judged

  width_told : (w : ℕ) (j : Judged) → Answer (width_by scope) offsets 0 e j → width_or_misfit j ≡ Ok w → HasWidth (width_by scope) e w
  width_told w (Ok found) a is = let same : found.0 ≡ w = cc in subst (HasWidth (width_by scope) e) same a.0
  width_told w (Err offset) a is = absurd cc

  fits_told : (w : ℕ) → judged scope e offsets ≡ Ok w → EachOf (HasValue scope) (leaves (tree_of e)) × HasWidth (width_by scope) e w
  fits_told w h = by (first_refused scope (leaves (tree_of e))) refl h
    where
      by : (o : Option Refusal) → first_refused scope (leaves (tree_of e)) ≡ o → Judges scope e offsets o (Ok w) → EachOf (HasValue scope) (leaves (tree_of e)) × HasWidth (width_by scope) e w
      by None none is = (all_shown scope (leaves (tree_of e)) none, width_told w (width_in (width_by scope) e offsets) all_judged is)
      by (Some refusal) none is = absurd cc

  abbrev IsTold : ℕ → Type 0
  IsTold offset = (begin : ℕ) × (IsFirstMisfit (width_by scope) (parts_from 0 e) begin × (offset ≡ get_or offsets begin 0))

  misfit_told : (offset : ℕ) (j : Judged) → Answer (width_by scope) offsets 0 e j → width_or_misfit j ≡ Err (misfit offset) → IsTold offset
  misfit_told offset (Ok found) a is = absurd cc
  misfit_told offset (Err other) a is = let same : other ≡ offset = cc in subst IsTold same a

  misfits_told : (offset : ℕ) → judged scope e offsets ≡ Err (misfit offset) → EachOf (HasValue scope) (leaves (tree_of e)) × IsTold offset
  misfits_told offset h = by (first_refused scope (leaves (tree_of e))) refl h
    where
      by : (o : Option Refusal) → first_refused scope (leaves (tree_of e)) ≡ o → Judges scope e offsets o (Err (misfit offset)) → EachOf (HasValue scope) (leaves (tree_of e)) × IsTold offset
      by None none is = (all_shown scope (leaves (tree_of e)) none, misfit_told offset (width_in (width_by scope) e offsets) all_judged is)
      by (Some refusal) none is = absurd (no_misfit scope (leaves (tree_of e)) offset (none ∙ (let same : refusal ≡ misfit offset = cc in ap (λ (r : Refusal). Some r) same)))

pub widths_told : (scope : Scope) (e : Expr) (offsets : List ℕ) → HasToldWidth scope e offsets
widths_told scope e offsets = record { typed = typed_told scope e offsets; fits = fits_told scope e offsets; misfits = misfits_told scope e offsets }
