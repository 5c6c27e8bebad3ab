-- Names that are found one after another are all found, or the first is refused; and a form at their places is the expression's tree over
-- them, of the width that is judged.
use Rattle.std.proofs.Common.{◌≡◌, ◌+◌, ◌<◌, ◌-◌, arith, length, get_or, drop, drop-cons, suc, ℕ, List, [], ◌∷◌, ◌++◌, Option, Some, None, Ok, Err, map, refl, sym, ap, subst, ◌∙◌, append_assoc, append-nil}
use Rattle.std.specs.Prelude.{option_map, Result, IfOk, IfErr}
use Rattle.bv_core.specs.declared.Ref.{Ref}
use Rattle.bv_core.specs.declared.Binding.{Binding}
use Rattle.bv_core.specs.declared.Binding.TheVariants as binding
use Rattle.tree_core.specs.Tree.{Tree}
use Rattle.gen_tree.specs.Tree.{Expr}
use Rattle.cond_lang.specs.declared.fault.BindEnd.{BindEnd}
use Rattle.cond_lang.specs.declared.fault.BindEnd.TheVariants as ends
use Rattle.cond_lang.specs.declared.form.Part.{Part}
use Rattle.cond_lang.specs.Names.{Name}
use Rattle.cond_lang.specs.Meaning.{tree_of, leaves}
use Rattle.cond_lang.specs.Faults.{Refuses, MisfitAt, Makes}
use Rattle.cond_lang.specs.Judged.{Refusal, not_in_scope, was_removed, is_unset, misfit, Judged, width_in, refused_name, or_else, first_refused, status_width, width_or_misfit, unless_refused, judged}
use Rattle.cond_lang.specs.Bound.{ref_width, mapped, status_of, scope_of, ref_or_nought, bound_by}
use Rattle.cond_lang.specs.Form.{Seat, names_in, first_tree, seats, seated}
use Rattle.cond_lang.specs.Found.{name_ref, and_then, found_after}
use Rattle.cond_lang.specs.Places.{size, ref_at, tree_at, judged_at, with_tree, bound_at}
use Rattle.cond_lang.proofs.Forms.{tree_mapped, seated_is}
use Rattle.cond_lang.proofs.Judging.{with_left, told_whole}
use Rattle.cond_lang.proofs.Names.{begins_itself, refused_same}

-- ---- names

abbrev at_name : (Name → Option Binding) → Name → Ref
at_name places x = ref_or_nought (places x)

one_found : (places : Name → Option Binding) (x : Name) (xs : List Name) (refs : List Ref)
    → ((more : List Ref) → found_after places more xs ≡ unless_refused (first_refused (scope_of places) xs) (Ok (more ++ map (at_name places) xs)))
    → (o : Option Binding)
    → and_then (name_ref x o) (λ at. found_after places (refs ++ at ∷ []) xs) ≡ unless_refused (or_else (refused_name x (option_map status_of o)) (first_refused (scope_of places) xs)) (Ok (refs ++ ref_or_nought o ∷ map (at_name places) xs))
one_found places x xs refs rest None = refl
one_found places x xs refs rest (Some (binding.Value at)) = rest (refs ++ at ∷ []) ∙ ap (λ (all : List Ref). unless_refused (first_refused (scope_of places) xs) (Ok all)) (append_assoc refs (at ∷ []) (map (at_name places) xs))
one_found places x xs refs rest (Some binding.Unset) = refl
one_found places x xs refs rest (Some binding.Removed) = refl

found_is : (places : Name → Option Binding) (names : List Name) (refs : List Ref) → found_after places refs names ≡ unless_refused (first_refused (scope_of places) names) (Ok (refs ++ map (at_name places) names))
found_is places [] refs = ap Ok (sym (append-nil refs))
found_is places (x ∷ xs) refs = one_found places x xs refs (λ more. found_is places xs more) (places x)

widths_same : (places : Name → Option Binding) → ◌≡◌ {A = Name → ℕ} (λ x. status_width (scope_of places x)) (λ x. ref_width (at_name places x))
widths_same places = λ i x. by (places x) i
  where
    by : (o : Option Binding) → status_width (option_map status_of o) ≡ ref_width (ref_or_nought o)
    by None = refl
    by (Some (binding.Value at)) = refl
    by (Some binding.Unset) = refl
    by (Some binding.Removed) = refl

-- one more name is found
pub next_found : (places : Name → Option Binding) (names : List Name) (i : ℕ) (refs more : List Ref) (x y : Name) (o : Option Binding) (at : Ref)
    → i < length names → x ≡ get_or names i x → y ≡ x → o ≡ places y → name_ref y o ≡ Ok at → more ≡ refs ++ at ∷ []
    → found_after places more (drop (i + 1) names) ≡ found_after places refs (drop i names)
next_found places names i refs more x y o at h is same found told more_is =
    let first : drop i names ≡ x ∷ drop (suc i) names = drop-cons names i x h ∙ ap (λ (z : Name). z ∷ drop (suc i) names) (sym is) in
    let here : name_ref x (places x) ≡ Ok at = ap (λ (z : Name). name_ref z (places z)) (sym same) ∙ ap (name_ref y) (sym found) ∙ told in
    let step : i + 1 ≡ suc i = omega arith in
    ap (λ (n : ℕ). found_after places more (drop n names)) step
    ∙ ap (λ (l : List Ref). found_after places l (drop (suc i) names)) more_is
    ∙ ap (λ (r : Result Ref Refusal). and_then r (λ at. found_after places (refs ++ at ∷ []) (drop (suc i) names))) (sym here)
    ∙ ap (found_after places refs) (sym first)

-- what is refused at once is refused whatever follows
refused_then : (end : BindEnd) (r : Result Ref Refusal) (f : Ref → Result (List Ref) Refusal) → Refuses end r → Refuses end (and_then r f)
refused_then (ends.Unknown x) (Ok at) f h = absurd cc
refused_then (ends.Unknown x) (Err refusal) f h = let same : refusal ≡ not_in_scope x = cc in ap Err same
refused_then (ends.Removed x) (Ok at) f h = absurd cc
refused_then (ends.Removed x) (Err refusal) f h = let same : refusal ≡ was_removed x = cc in ap Err same
refused_then (ends.Unset x) (Ok at) f h = absurd cc
refused_then (ends.Unset x) (Err refusal) f h = let same : refusal ≡ is_unset x = cc in ap Err same
refused_then (ends.Width offset) (Ok at) f h = absurd cc
refused_then (ends.Width offset) (Err refusal) f h = let same : refusal ≡ misfit offset = cc in ap Err same
refused_then ends.NoMemory r f h = tt

-- the next name is refused
pub next_refused : (places : Name → Option Binding) (names : List Name) (i : ℕ) (refs : List Ref) (x y : Name) (o : Option Binding) (end : BindEnd)
    → i < length names → x ≡ get_or names i x → y ≡ x → o ≡ places y → Refuses end (name_ref y o) → Refuses end (found_after places refs (drop i names))
next_refused places names i refs x y o end h is same found told =
    let first : drop i names ≡ x ∷ drop (suc i) names = drop-cons names i x h ∙ ap (λ (z : Name). z ∷ drop (suc i) names) (sym is) in
    let here : name_ref y o ≡ name_ref x (places x) = ap (name_ref y) found ∙ ap (λ (z : Name). name_ref z (places z)) same in
    subst (λ (l : List Name). Refuses end (found_after places refs l)) (sym first)
    (refused_then end (name_ref x (places x)) (λ at. found_after places (refs ++ at ∷ []) (drop (suc i) names)) (subst (Refuses end) here told))

-- ---- all of it

abbrev pub names_of : Expr → List Name
names_of e = names_in [] (tree_of e)

-- the names of a text are refused as its leaves are
told : (places : Name → Option Binding) (e : Expr) (o : Result (List Ref) Refusal) → found_after places [] (names_of e) ≡ o
    → unless_refused (first_refused (scope_of places) (leaves (tree_of e))) (Ok (map (at_name places) (names_of e))) ≡ o
told places e o h =
    ap (λ (o : Option Refusal). unless_refused o (Ok (map (at_name places) (names_of e)))) (sym (refused_same (scope_of places) (tree_of e)))
    ∙ sym (found_is places (names_of e) []) ∙ h

pub refused_so : (places : Name → Option Binding) (e : Expr) (offsets : List ℕ) (refusal : Refusal) → found_after places [] (names_of e) ≡ Err refusal → judged (scope_of places) e offsets ≡ Err refusal
refused_so places e offsets refusal h = by (first_refused (scope_of places) (leaves (tree_of e))) (told places e (Err refusal) h)
  where
    by : (o : Option Refusal) → unless_refused o (Ok (map (at_name places) (names_of e))) ≡ Err refusal
        → unless_refused o (width_or_misfit (width_in (λ x. status_width (scope_of places x)) e offsets)) ≡ Err refusal
    by None e = absurd cc
    by (Some other) e = let is : other ≡ refusal = cc in ap Err is

-- what a text is at its places, by what is judged
abbrev as_bound : (Name → Option Binding) → Expr → Judged → Result (Tree Ref × ℕ) ℕ
as_bound places e (Ok found) = Ok (bound_by places e, found.0)
as_bound places e (Err offset) = Err offset

-- where all names are found, the places are those of the names, and the text is judged by its widths
record IsAt (places : Name → Option Binding) (e : Expr) (offsets : List ℕ) (parts : List Part) (refs : List Ref) (j : Judged) : Type 0 where
  judged_as : judged (scope_of places) e offsets ≡ width_or_misfit j
  bound : bound_at refs offsets parts ≡ as_bound places e j

-- the form of an expression whose tokens have these offsets
pub record IsForm (e : Expr) (offsets : List ℕ) (parts : List Part) : Type 0 where
  pub formed : seats parts ≡ seated [] e ∷ []
  pub sized : length offsets ≡ size (seated [] e)

bound_as : (places : Name → Option Binding) (e : Expr) (offsets : List ℕ) (parts : List Part) → IsForm e offsets parts
    → bound_at (map (at_name places) (names_of e)) offsets parts ≡ as_bound places e (width_in (λ x. ref_width (at_name places x)) e offsets)
bound_as places e offsets parts h =
    let refs = map (at_name places) (names_of e) in
    let tree : tree_at refs parts ≡ bound_by places e =
    tree_mapped refs parts ∙ ap (λ (ts : List (Tree Seat)). mapped (λ s. ref_at refs s.place) (first_tree ts)) h.formed
    ∙ seated_is (at_name places) (names_of e) [] e (begins_itself (names_of e)) in
    let whole : length offsets - size (first_tree (seats parts)) ≡ 0 = omega (arith, h.sized, ap (λ (ts : List (Tree Seat)). size (first_tree ts)) h.formed) in
    (λ i. with_tree (tree i) (judged_at refs offsets (first_tree (h.formed i)) (length offsets - size (first_tree (seats parts)))))
    ∙ ap (λ (n : ℕ). with_tree (bound_by places e) (judged_at refs offsets (seated [] e) n)) whole
    ∙ by (judged_at refs offsets (seated [] e) 0) (drop (size (seated [] e)) offsets)
    ∙ ap (as_bound places e) (sym (told_whole offsets (at_name places) (names_of e) e (begins_itself (names_of e))))
  where
    by : (j : Result ℕ ℕ) (rest : List ℕ) → with_tree (bound_by places e) j ≡ as_bound places e (with_left j rest)
    by (Ok w) rest = refl
    by (Err offset) rest = refl

is_at : (places : Name → Option Binding) (e : Expr) (offsets : List ℕ) (parts : List Part) (refs : List Ref) → IsForm e offsets parts → found_after places [] (names_of e) ≡ Ok refs → IsAt places e offsets parts refs (width_in (λ x. ref_width (at_name places x)) e offsets)
is_at places e offsets parts refs form h = by (first_refused (scope_of places) (leaves (tree_of e))) refl (told places e (Ok refs) h)
  where
    by : (o : Option Refusal) → first_refused (scope_of places) (leaves (tree_of e)) ≡ o → unless_refused o (Ok (map (at_name places) (names_of e))) ≡ Ok refs
        → IsAt places e offsets parts refs (width_in (λ x. ref_width (at_name places x)) e offsets)
    by None none same =
        let are : map (at_name places) (names_of e) ≡ refs = cc in
        record {
          judged_as = (λ i. unless_refused (none i) (width_or_misfit (width_in (widths_same places i) e offsets)));
          bound = ap (λ (refs : List Ref). bound_at refs offsets parts) (sym are) ∙ bound_as places e offsets parts form;
        }
    by (Some refusal) none same = absurd cc

pub bound_so : (places : Name → Option Binding) (e : Expr) (offsets : List ℕ) (parts : List Part) (refs : List Ref) (t : Tree Ref) (w : ℕ) → IsForm e offsets parts → found_after places [] (names_of e) ≡ Ok refs → bound_at refs offsets parts ≡ Ok (t, w)
    → (judged (scope_of places) e offsets ≡ Ok w) × (t ≡ bound_by places e)
bound_so places e offsets parts refs t w form h made = by (width_in (λ x. ref_width (at_name places x)) e offsets) (is_at places e offsets parts refs form h)
  where
    by : (j : Judged) → IsAt places e offsets parts refs j → (judged (scope_of places) e offsets ≡ Ok w) × (t ≡ bound_by places e)
    by (Ok found) b =
        let both : ◌≡◌ {A = Result (Tree Ref × ℕ) ℕ} (Ok (t, w)) (Ok (bound_by places e, found.0)) = sym made ∙ b.bound in
        let pair : ◌≡◌ {A = Tree Ref × ℕ} (t, w) (bound_by places e, found.0) = cc in
        (b.judged_as ∙ ap Ok (sym (ap (λ (p : Tree Ref × ℕ). p.1) pair)), ap (λ (p : Tree Ref × ℕ). p.0) pair)
    by (Err offset) b = absurd (let bad : Ok (t, w) ≡ Err offset = sym made ∙ b.bound in cc)

pub misfit_so : (places : Name → Option Binding) (e : Expr) (offsets : List ℕ) (parts : List Part) (refs : List Ref) (offset : ℕ) → IsForm e offsets parts → found_after places [] (names_of e) ≡ Ok refs → bound_at refs offsets parts ≡ Err offset → judged (scope_of places) e offsets ≡ Err (misfit offset)
misfit_so places e offsets parts refs offset form h made = by (width_in (λ x. ref_width (at_name places x)) e offsets) (is_at places e offsets parts refs form h)
  where
    by : (j : Judged) → IsAt places e offsets parts refs j → judged (scope_of places) e offsets ≡ Err (misfit offset)
    by (Ok found) b = absurd (let bad : Err offset ≡ Ok (bound_by places e, found.0) = sym made ∙ b.bound in cc)
    by (Err other) b = let both : Err offset ≡ Err other = sym made ∙ b.bound in let is : offset ≡ other = cc in b.judged_as ∙ ap (λ (o : ℕ). Err (misfit o)) (sym is)

-- ---- what `bind` answers

pub refuses_so : (places : Name → Option Binding) (e : Expr) (offsets : List ℕ) (names : List Name) (end : BindEnd) → names ≡ names_of e → Refuses end (found_after places [] names) → Refuses end (judged (scope_of places) e offsets)
refuses_so places e offsets names (ends.Unknown x) are h = refused_so places e offsets (not_in_scope x) (ap (found_after places []) (sym are) ∙ h)
refuses_so places e offsets names (ends.Removed x) are h = refused_so places e offsets (was_removed x) (ap (found_after places []) (sym are) ∙ h)
refuses_so places e offsets names (ends.Unset x) are h = refused_so places e offsets (is_unset x) (ap (found_after places []) (sym are) ∙ h)
refuses_so places e offsets names (ends.Width offset) are h = refused_so places e offsets (misfit offset) (ap (found_after places []) (sym are) ∙ h)
refuses_so places e offsets names ends.NoMemory are h = tt

-- where the names of a text are found at these places, and this is its form
pub record Reads (places : Name → Option Binding) (e : Expr) (offsets : List ℕ) (refs : List Ref) (parts : List Part) : Type 0 where
  pub names : List Name
  pub are : names ≡ names_of e
  pub found : found_after places [] names ≡ Ok refs
  pub form : IsForm e offsets parts

pub misfits_so : (places : Name → Option Binding) (e : Expr) (offsets : List ℕ) (refs : List Ref) (parts : List Part) (end : BindEnd) → Reads places e offsets refs parts → MisfitAt end (bound_at refs offsets parts) → Refuses end (judged (scope_of places) e offsets)
misfits_so places e offsets refs parts (ends.Unknown x) r m = absurd m
misfits_so places e offsets refs parts (ends.Removed x) r m = absurd m
misfits_so places e offsets refs parts (ends.Unset x) r m = absurd m
misfits_so places e offsets refs parts (ends.Width offset) r m = misfit_so places e offsets parts refs offset r.form (ap (found_after places []) (sym r.are) ∙ r.found) m
misfits_so places e offsets refs parts ends.NoMemory r m = tt

pub binds_so : (places : Name → Option Binding) (e : Expr) (offsets : List ℕ) (refs : List Ref) (parts : List Part) (t : Tree Ref) (w : ℕ) → Reads places e offsets refs parts → bound_at refs offsets parts ≡ Ok (t, w)
    → (judged (scope_of places) e offsets ≡ Ok w) × (t ≡ bound_by places e)
binds_so places e offsets refs parts t w r made = bound_so places e offsets parts refs t w r.form (ap (found_after places []) (sym r.are) ∙ r.found) made

-- what is made of the places says what the text is there
module _ {X : Type 0} (tree : X → Tree Ref) (width : X → ℕ) (places : Name → Option Binding) (e : Expr) (offsets : List ℕ) (refs : List Ref) (parts : List Part) (r : Reads places e offsets refs parts) where
  abbrev Made : Result X BindEnd → Type 0
  Made o = Makes (λ x. (tree x, width x)) o (bound_at refs offsets parts)

  pub width_told : (o : Result X BindEnd) → Made o → IfOk o (λ x. judged (scope_of places) e offsets ≡ Ok (width x))
  width_told (Ok x) m = (binds_so places e offsets refs parts (tree x) (width x) r m).0
  width_told (Err end) m = tt

  pub tree_told : (o : Result X BindEnd) → Made o → IfOk o (λ x. tree x ≡ bound_by places e)
  tree_told (Ok x) m = (binds_so places e offsets refs parts (tree x) (width x) r m).1
  tree_told (Err end) m = tt

  pub end_told : (o : Result X BindEnd) → Made o → IfErr o (λ end. Refuses end (judged (scope_of places) e offsets))
  end_told (Ok x) m = tt
  end_told (Err end) m = misfits_so places e offsets refs parts end r m
