-- The first variable of each name in a scope.
use Rattle.std.proofs.Common.{◌≡◌, ℕ, zero, suc, ◌+◌, ◌<◌, ◌≤◌, ◌&&◌, Bool, true, false, cond, List, [], ◌∷◌, ◌++◌, length, get_or, take, Option, Some, None, Contains, IsTrue, ◌↔◌, refl, sym, ap, ap₂, ◌∙◌, subst, arith}
use Rattle.std.specs.Prelude.{bytes_eq}
use Rattle.std.specs.List.{slice_get, find, filter, list_any}
use Rattle.std.specs.Option.{option_map, option_or}
use Rattle.std.proofs.lemmas.Bool.Decides.{same_from_decides}
use Rattle.std.proofs.lemmas.Slice.Eq.{bytes_eq-Decides}
use Rattle.std.proofs.lemmas.List.{take_more}
use Rattle.std.proofs.lemmas.List.Folds.{find-append, list_any_at, Any-from_list_any}
use Rattle.std.proofs.lemmas.Option.{get_or_from_slice_get, slice_get-get_or, slice_get_within}
use Rattle.names.specs.Maps.{put_value}
use Rattle.vcd_read.specs.Head.{Var}
use Rattle.vcd_read.specs.Meaning.{Meaning}
use Rattle.vcd_read.specs.Scopes.{places_from}
use Rattle.vcd_samples.specs.Samples.{is_var}
use Rattle.vcd_trace.specs.declared.found.Found.{Found}
use Rattle.vcd_trace.specs.Kept.{found_of}
use Rattle.vcd_trace.specs.Bound.{Finds, is_of_name, found_if, found_named}

-- ---- one name

turned : (x y : List ℕ) → bytes_eq x y ≡ bytes_eq y x
turned x y = same_from_decides (bytes_eq x y) (bytes_eq y x) (bytes_eq-Decides x y) ((λ e. sym ((bytes_eq-Decides y x).0 e)), (λ e. (bytes_eq-Decides y x).1 (sym e)))

or_none : (o : Option Found) → o ≡ option_or o None
or_none None = refl
or_none (Some f) = refl

-- a name that is there stays as it is
pub stays : (finds : Finds) (name : List ℕ) (found had : Found) → finds name ≡ Some had → (x : List ℕ) → finds x ≡ option_or (finds x) (cond (bytes_eq name x) (Some found) None)
stays finds name found had there x = by (bytes_eq name x) refl
  where
    by : (b : Bool) → bytes_eq name x ≡ b → finds x ≡ option_or (finds x) (cond b (Some found) None)
    by true e =
        let same : name ≡ x = (bytes_eq-Decides name x).0 e in
        let own : finds x ≡ Some had = ap finds (sym same) ∙ there in
        own ∙ sym (ap (λ (o : Option Found). option_or o (Some found)) own)
    by false e = or_none (finds x)

-- a name that is not there is put in
pub added : (finds after : Finds) (name : List ℕ) (found : Found) → finds name ≡ None → after ≡ put_value name found finds → (x : List ℕ) → after x ≡ option_or (finds x) (cond (bytes_eq name x) (Some found) None)
added finds after name found none are x = ap (λ (f : Finds). f x) are ∙ ap (λ (b : Bool). cond b (Some found) (finds x)) (turned x name) ∙ by (bytes_eq name x) refl
  where
    by : (b : Bool) → bytes_eq name x ≡ b → cond b (Some found) (finds x) ≡ option_or (finds x) (cond b (Some found) None)
    by true e =
        let same : name ≡ x = (bytes_eq-Decides name x).0 e in
        sym (ap (λ (o : Option Found). option_or o (Some found)) (ap finds (sym same) ∙ none))
    by false e = or_none (finds x)

-- ---- a scope

-- the elements at places are those that pass
placed_by : {X : Type 0} (here : Bool) (at : ℕ → Option X) (first : ℕ) (x : X) (rest : List ℕ) (xs : List X) → at first ≡ Some x
    → ((k : ℕ) → k < length rest → at (get_or rest k 0) ≡ slice_get xs k) → (k : ℕ) → k < length (cond here (first ∷ rest) rest) → at (get_or (cond here (first ∷ rest) rest) k 0) ≡ slice_get (cond here (x ∷ xs) xs) k
placed_by true at first x rest xs e h zero l = e
placed_by true at first x rest xs e h (suc k) l = h k (omega arith)
placed_by false at first x rest xs e h k l = h k l

placed : {X : Type 0} (test : X → Bool) (at : ℕ → Option X) (first : ℕ) (xs : List X) → ((k : ℕ) → k < length xs → at (first + k) ≡ slice_get xs k)
    → (k : ℕ) → k < length (places_from first test xs) → at (get_or (places_from first test xs) k 0) ≡ slice_get (filter test xs) k
placed test at first [] h = λ k l. absurd (omega arith)
placed test at first (x ∷ xs) h =
    placed_by (test x) at first x (places_from (first + 1) test xs) (filter test xs) (ap at (let z : first ≡ first + 0 = omega arith in z) ∙ h 0 (omega arith))
    (placed test at (first + 1) xs (λ k l. ap at (let z : first + 1 + k ≡ first + suc k = omega arith in z) ∙ h (suc k) (omega arith)))

count_by : {X : Type 0} (here : Bool) (first : ℕ) (x : X) (rest : List ℕ) (xs : List X) → length rest ≡ length xs → length (cond here (first ∷ rest) rest) ≡ length (cond here (x ∷ xs) xs)
count_by true first x rest xs e = ap suc e
count_by false first x rest xs e = e

pub as_many : {X : Type 0} (test : X → Bool) (first : ℕ) (xs : List X) → length (places_from first test xs) ≡ length (filter test xs)
as_many test first [] = refl
as_many test first (x ∷ xs) = count_by (test x) first x (places_from (first + 1) test xs) (filter test xs) (as_many test (first + 1) xs)

-- those of a scope
abbrev pub in_scope : Meaning → List ℕ → List Var
in_scope m scope = filter (λ (var : Var). bytes_eq var.scope scope) m.vars

pub var_at : (m : Meaning) (scope : List ℕ) (places : List ℕ) (k : ℕ) → places ≡ places_from 0 (λ (var : Var). bytes_eq var.scope scope) m.vars → k < length places
    → slice_get m.vars (get_or places k 0) ≡ slice_get (in_scope m scope) k
var_at m scope places k are l =
    ap (λ (ps : List ℕ). slice_get m.vars (get_or ps k 0)) are
    ∙ placed (λ (var : Var). bytes_eq var.scope scope) (slice_get m.vars) 0 m.vars (λ i b. ap (slice_get m.vars) (let z : 0 + i ≡ i = omega arith in z)) k (subst (λ (ps : List ℕ). k < length ps) are l)

found_by : (here own : Bool) (name scope : List ℕ) (var : Var) (xs ys : List Var) → (here ≡ bytes_eq var.scope scope) → own ≡ is_of_name name var → find (is_of_name name) xs ≡ find (is_var scope name) ys
    → find (is_of_name name) (cond here (var ∷ xs) xs) ≡ find (is_var scope name) (var ∷ ys)
found_by true own name scope var xs ys e o h =
    ap₂ (λ (b : Bool) (rest : Option Var). cond b (Some var) rest) (by var.counted) h
  where
    by : (c : Bool) → (c && bytes_eq var.name name) ≡ (c && (bytes_eq var.scope scope && bytes_eq var.name name))
    by true = ap (λ (b : Bool). b && bytes_eq var.name name) e
    by false = refl
found_by false own name scope var xs ys e o h = h ∙ sym (ap (λ (b : Bool). cond b (Some var) (find (is_var scope name) ys)) (by var.counted))
  where
    by : (c : Bool) → (c && (bytes_eq var.scope scope && bytes_eq var.name name)) ≡ false
    by true = ap (λ (b : Bool). b && bytes_eq var.name name) (sym e)
    by false = refl

found_there : (name scope : List ℕ) (vars : List Var) → find (is_of_name name) (filter (λ (var : Var). bytes_eq var.scope scope) vars) ≡ find (is_var scope name) vars
found_there name scope [] = refl
found_there name scope (var ∷ vars) =
    found_by (bytes_eq var.scope scope) (is_of_name name var) name scope var (filter (λ (v : Var). bytes_eq v.scope scope) vars) vars refl refl (found_there name scope vars)

-- the first of a name among the variables of a scope
pub first_of : (m : Meaning) (scope name : List ℕ) → option_map found_of (find (is_of_name name) (in_scope m scope)) ≡ found_named m scope name
first_of m scope name = ap (option_map found_of) (found_there name scope m.vars)

one_of : (name : List ℕ) (var : Var) (o : Option Var) → option_map found_of (option_or o (cond (is_of_name name var) (Some var) None)) ≡ option_or (option_map found_of o) (found_if name var)
one_of name var (Some v) = refl
one_of name var None = by (is_of_name name var)
  where
    by : (b : Bool) → option_map found_of (cond b (Some var) None) ≡ cond b (Some (found_of var)) None
    by true = refl
    by false = refl

-- one variable more
pub first_more : (vars : List Var) (name : List ℕ) (k : ℕ) (var : Var) → k < length vars → slice_get vars k ≡ Some var
    → option_map found_of (find (is_of_name name) (take (k + 1) vars)) ≡ option_or (option_map found_of (find (is_of_name name) (take k vars))) (found_if name var)
first_more vars name k var l there =
    ap (λ (vs : List Var). option_map found_of (find (is_of_name name) vs)) (take_more vars k var l ∙ ap (λ (v : Var). take k vars ++ v ∷ []) (get_or_from_slice_get vars k var var there))
    ∙ ap (option_map found_of) (find-append (is_of_name name) (take k vars) (var ∷ [])) ∙ one_of name var (find (is_of_name name) (take k vars))

-- ---- the loop over a scope

module _ (m : Meaning) (scope : List ℕ) (places : List ℕ) (are : places ≡ places_from 0 (λ (var : Var). bytes_eq var.scope scope) m.vars) where
  count_is : length places ≡ length (in_scope m scope)
  count_is = ap length are ∙ as_many (λ (var : Var). bytes_eq var.scope scope) 0 m.vars

  pub there : (k : ℕ) → k < length places → (var : Var) × (slice_get m.vars (get_or places k 0) ≡ Some var) × (slice_get (in_scope m scope) k ≡ Some var)
  there k l =
      let found = some_at (in_scope m scope) k (omega (arith, count_is)) in
      (found.0, var_at m scope places k are l ∙ found.1, found.1)
    where
      some_at : (vars : List Var) (i : ℕ) → i < length vars → (var : Var) × (slice_get vars i ≡ Some var)
      some_at [] i b = absurd (omega arith)
      some_at (var ∷ vars) zero b = (var, refl)
      some_at (var ∷ vars) (suc i) b = (get_or vars i var, slice_get-get_or vars i var (omega arith))

  pub within : (k : ℕ) → k < length places → get_or places k 0 < length m.vars
  within k l = let found = there k l in slice_get_within m.vars (get_or places k 0) found.0 found.1

  pub next : (finds after : Finds) (k : ℕ) → k < length places
      → ((x : List ℕ) (var : Var) → slice_get m.vars (get_or places k 0) ≡ Some var → after x ≡ option_or (finds x) (found_if x var))
      → ((x : List ℕ) → finds x ≡ option_map found_of (find (is_of_name x) (take k (in_scope m scope))))
      → (x : List ℕ) → after x ≡ option_map found_of (find (is_of_name x) (take (k + 1) (in_scope m scope)))
  next finds after k l put before x =
      let found = there k l in
      put x found.0 found.1 ∙ ap (λ (o : Option Found). option_or o (found_if x found.0)) (before x)
      ∙ sym (first_more (in_scope m scope) x k found.0 (omega (arith, count_is)) found.2)

  pub done : (finds : Finds) (k : ℕ) → length places ≤ k → ((x : List ℕ) → finds x ≡ option_map found_of (find (is_of_name x) (take k (in_scope m scope)))) → (x : List ℕ) → finds x ≡ found_named m scope x
  done finds k l before x =
      before x ∙ ap (λ (vars : List Var). option_map found_of (find (is_of_name x) vars)) (take_whole k (in_scope m scope) (omega (arith, count_is))) ∙ first_of m scope x
    where
      take_whole : (i : ℕ) (vars : List Var) → length vars ≤ i → take i vars ≡ vars
      take_whole zero [] b = refl
      take_whole (suc i) [] b = refl
      take_whole zero (var ∷ vars) b = absurd (omega arith)
      take_whole (suc i) (var ∷ vars) b = ap (λ (rest : List Var). var ∷ rest) (take_whole i vars (omega arith))

-- ---- the scope is there

pub scope_is : (b : Bool) (scopes : List (List ℕ)) (scope : List ℕ) → (IsTrue b ↔ Contains scopes scope) → b ≡ list_any (bytes_eq scope) scopes
scope_is b scopes scope h =
    same_from_decides b (list_any (bytes_eq scope) scopes) (h.0, h.1) (
      (λ e. let some = Any-from_list_any (bytes_eq scope) scopes e in (some.0, some.2, some_is some.0 some.1 some.2 some.3 some.4)),
      (λ c. list_any_at (bytes_eq scope) scopes c.0 scope c.1 ((bytes_eq-Decides scope (get_or scopes c.0 scope)).1 (sym c.2))),
    )
  where
    some_is : (k : ℕ) (x : List ℕ) → k < length scopes → get_or scopes k x ≡ x → bytes_eq scope x ≡ true → get_or scopes k scope ≡ scope
    some_is k x l e t =
        let same : scope ≡ x = (bytes_eq-Decides scope x).0 t in
        ap (get_or scopes k) same ∙ e ∙ sym same
