-- The steps of arguments and defaults.
use Rattle.std.proofs.Common.{◌≡◌, ℕ, ◌+◌, ◌<◌, ◌≤◌, ℤ, Bool, true, false, not, ◌&&◌, ◌||◌, if◌then◌else◌, List, [], ◌∷◌, ◌++◌, map, length, get_or, take, drop, Option, Some, None, is_some, bytes_eq, refl, sym, ap, ap₂, ◌∙◌}
use Rattle.std.specs.List.{list_any}
use Rattle.std.proofs.Math.ListN.{drop_of_length-le}
use Rattle.std.proofs.lemmas.List.{take_more, take_all, map-append}
use Rattle.gen_tree.specs.Tree.{Param, Module}
use Rattle.gen_tree.specs.declared.Param as source_param
use Rattle.gen_tree.specs.View.{int_of, param_of}
use Rattle.exec_core.specs.Block.{Name}
use Rattle.design_core.specs.Design.{Gens}
use Rattle.elab_core.specs.Walk.{Walk, Gives, Faulty, Fault, UnknownParameter, and_then}
use Rattle.elab_core.specs.Numbers.{find, number}
use Rattle.elab_core.specs.Elab.{has_name, distinct, is_free, arguments, given_or, parameters, values, top_arguments, top_values}
use Rattle.gen_scope.proofs.Names.{same_name}
use Rattle.elab_base.proofs.Steps.{gives_then, faulty_then}
use Rattle.elab_body.proofs.StmtLoops.{next_of}
use Rattle.elab_walk.specs.Values.{names_of, is_open, arguments_by, top_arguments_by}

-- ---- names

pub has_name_any : (x : Name) (ps : List Param) → has_name x ps ≡ list_any (bytes_eq x) (names_of ps)
has_name_any x [] = refl
has_name_any x (p ∷ ps) = ap (λ b. b || has_name x ps) (same_name p.name x) ∙ ap (λ b. bytes_eq x p.name || b) (has_name_any x ps)

open_is_free : (params : List Param) (given_so : Gens) (x : Name) → is_free params given_so x ≡ is_open (names_of params) given_so x
open_is_free params given_so x = ap (λ b. b && not (is_some (find given_so x))) (has_name_any x params)

-- a name that is open was not given
pub open_none : (names : List Name) (given_so : Gens) (x : Name) → is_open names given_so x ≡ true → find given_so x ≡ None
open_none names given_so x e = by (list_any (bytes_eq x) names) (find given_so x) e
  where
    by : (b : Bool) (r : Option ℤ) → b && not (is_some r) ≡ true → r ≡ None
    by b None e = refl
    by true (Some n) e = absurd cc
    by false (Some n) e = absurd cc

pub find_none : (gens : Gens) (x : Name) → list_any (bytes_eq x) (map (λ g. g.0) gens) ≡ false → find gens x ≡ None
find_none [] x e = refl
find_none (g ∷ gens) x e = by (bytes_eq x g.0) refl e (find_none gens x)
  where
    by : (b : Bool) → bytes_eq x g.0 ≡ b → b || list_any (bytes_eq x) (map (λ g. g.0) gens) ≡ false → (list_any (bytes_eq x) (map (λ g. g.0) gens) ≡ false → find gens x ≡ None) →
        (if bytes_eq g.0 x then Some g.1 else find gens x) ≡ None
    by true p e ih = absurd cc
    by false p e ih = ap (λ b. if b then Some g.1 else find gens x) (same_name g.0 x ∙ p) ∙ ih e

-- ---- the arguments, by the names of the parameters

arguments_are : (line : ℕ) (gens : Gens) (params args : List Param) (given_so : Gens) → arguments line gens params args given_so ≡ arguments_by line gens (names_of params) args given_so
unfolding arguments arguments_by
arguments_are line gens params [] given_so = refl
arguments_are line gens params (a ∷ args) given_so =
    ap (λ b. if b then and_then (number line gens a.value) (λ n. arguments line gens params args (given_so ++ (a.name, n) ∷ [])) else Faulty (UnknownParameter line a.name)) (open_is_free params given_so a.name)
    ∙ (λ i. if is_open (names_of params) given_so a.name then and_then (number line gens a.value) (λ n. arguments_are line gens params args (given_so ++ (a.name, n) ∷ []) i) else Faulty (UnknownParameter line a.name))

top_arguments_are : (params : List Param) (rest given_so : Gens) → top_arguments params rest given_so ≡ top_arguments_by (names_of params) rest given_so
unfolding top_arguments top_arguments_by
top_arguments_are params [] given_so = refl
top_arguments_are params (g ∷ rest) given_so =
    ap (λ b. if b then top_arguments params rest (given_so ++ g ∷ []) else Faulty (UnknownParameter 0 g.0)) (open_is_free params given_so g.0)
    ∙ ap (λ w. if is_open (names_of params) given_so g.0 then w else Faulty (UnknownParameter 0 g.0)) (top_arguments_are params rest (given_so ++ g ∷ []))

argument_more : (line : ℕ) (gens : Gens) (names : List Name) (a : Param) (args : List Param) (given_so : Gens) (n : ℤ) → is_open names given_so a.name ≡ true → number line gens a.value ≡ Gives n →
    arguments_by line gens names (a ∷ args) given_so ≡ arguments_by line gens names args (given_so ++ (a.name, n) ∷ [])
unfolding arguments_by
argument_more line gens names a args given_so n p q = rw p (gives_then (number line gens a.value) (λ m. arguments_by line gens names args (given_so ++ (a.name, m) ∷ [])) n q)

argument_wrong : (line : ℕ) (gens : Gens) (names : List Name) (a : Param) (args : List Param) (given_so : Gens) (x : Fault) → is_open names given_so a.name ≡ true → number line gens a.value ≡ Faulty x →
    arguments_by line gens names (a ∷ args) given_so ≡ Faulty x
unfolding arguments_by
argument_wrong line gens names a args given_so x p q = rw p (faulty_then (number line gens a.value) (λ m. arguments_by line gens names args (given_so ++ (a.name, m) ∷ [])) x q)

argument_closed : (line : ℕ) (gens : Gens) (names : List Name) (a : Param) (args : List Param) (given_so : Gens) → is_open names given_so a.name ≡ false →
    arguments_by line gens names (a ∷ args) given_so ≡ Faulty (UnknownParameter line a.name)
unfolding arguments_by
argument_closed line gens names a args given_so p = rw p refl

argument_none : (line : ℕ) (gens : Gens) (names : List Name) (given_so : Gens) → arguments_by line gens names [] given_so ≡ Gives given_so
unfolding arguments_by
argument_none line gens names given_so = refl

pub argument_taken : (line : ℕ) (gens : Gens) (names : List Name) (args : List source_param.Param) (i : ℕ) (x : source_param.Param) (given_so : Gens) (n : ℤ) → i < length args → x ≡ get_or args i x → is_open names given_so x.name ≡ true → number line gens (int_of x.value) ≡ Gives n →
    arguments_by line gens names (map param_of (drop i args)) given_so ≡ arguments_by line gens names (map param_of (drop (i + 1) args)) (given_so ++ (x.name, n) ∷ [])
argument_taken line gens names args i x given_so n h e p q = ap (λ xs. arguments_by line gens names (map param_of xs) given_so) (next_of args i x h e) ∙ argument_more line gens names (param_of x) (map param_of (drop (i + 1) args)) given_so n p q

pub argument_fault : (line : ℕ) (gens : Gens) (names : List Name) (args : List source_param.Param) (i : ℕ) (x : source_param.Param) (given_so : Gens) (f : Fault) → i < length args → x ≡ get_or args i x → is_open names given_so x.name ≡ true → number line gens (int_of x.value) ≡ Faulty f →
    arguments_by line gens names (map param_of (drop i args)) given_so ≡ Faulty f
argument_fault line gens names args i x given_so f h e p q = ap (λ xs. arguments_by line gens names (map param_of xs) given_so) (next_of args i x h e) ∙ argument_wrong line gens names (param_of x) (map param_of (drop (i + 1) args)) given_so f p q

pub argument_unknown : (line : ℕ) (gens : Gens) (names : List Name) (args : List source_param.Param) (i : ℕ) (x : source_param.Param) (given_so : Gens) → i < length args → x ≡ get_or args i x → is_open names given_so x.name ≡ false →
    arguments_by line gens names (map param_of (drop i args)) given_so ≡ Faulty (UnknownParameter line x.name)
argument_unknown line gens names args i x given_so h e p = ap (λ xs. arguments_by line gens names (map param_of xs) given_so) (next_of args i x h e) ∙ argument_closed line gens names (param_of x) (map param_of (drop (i + 1) args)) given_so p

pub argument_end : (line : ℕ) (gens : Gens) (names : List Name) (args : List source_param.Param) (i : ℕ) (given_so : Gens) → length args ≤ i → arguments_by line gens names (map param_of (drop i args)) given_so ≡ Gives given_so
argument_end line gens names args i given_so h = ap (λ xs. arguments_by line gens names (map param_of xs) given_so) (drop_of_length-le args h) ∙ argument_none line gens names given_so

pub ruleset argument_steps = (open_none, argument_taken, argument_fault, argument_unknown, argument_end)

-- ---- the parameters of the top

top_more : (names : List Name) (g : Name × ℤ) (rest given_so : Gens) → is_open names given_so g.0 ≡ true → top_arguments_by names (g ∷ rest) given_so ≡ top_arguments_by names rest (given_so ++ g ∷ [])
unfolding top_arguments_by
top_more names g rest given_so p = rw p refl

top_closed : (names : List Name) (g : Name × ℤ) (rest given_so : Gens) → is_open names given_so g.0 ≡ false → top_arguments_by names (g ∷ rest) given_so ≡ Faulty (UnknownParameter 0 g.0)
unfolding top_arguments_by
top_closed names g rest given_so p = rw p refl

top_none : (names : List Name) (given_so : Gens) → top_arguments_by names [] given_so ≡ Gives given_so
unfolding top_arguments_by
top_none names given_so = refl

pub top_taken : (names : List Name) (all : Gens) (i : ℕ) (x : Name) (n : ℤ) (given_so : Gens) → i < length all → (x, n) ≡ get_or all i (x, n) → is_open names given_so x ≡ true →
    top_arguments_by names (drop i all) given_so ≡ top_arguments_by names (drop (i + 1) all) (given_so ++ (x, n) ∷ [])
top_taken names all i x n given_so h e p = ap (λ xs. top_arguments_by names xs given_so) (next_of all i (x, n) h e) ∙ top_more names (x, n) (drop (i + 1) all) given_so p

pub top_unknown : (names : List Name) (all : Gens) (i : ℕ) (x : Name) (n : ℤ) (given_so : Gens) → i < length all → (x, n) ≡ get_or all i (x, n) → is_open names given_so x ≡ false →
    top_arguments_by names (drop i all) given_so ≡ Faulty (UnknownParameter 0 x)
top_unknown names all i x n given_so h e p = ap (λ xs. top_arguments_by names xs given_so) (next_of all i (x, n) h e) ∙ top_closed names (x, n) (drop (i + 1) all) given_so p

pub top_end : (names : List Name) (all : Gens) (i : ℕ) (given_so : Gens) → length all ≤ i → top_arguments_by names (drop i all) given_so ≡ Gives given_so
top_end names all i given_so h = ap (λ xs. top_arguments_by names xs given_so) (drop_of_length-le all h) ∙ top_none names given_so

pub ruleset top_steps = (open_none, top_taken, top_unknown, top_end)

-- ---- distinct names

pub record DistinctSo (line : ℕ) (xs : List source_param.Param) (i : ℕ) (names : List Name) : Type 0 where
  pub left : distinct line (map param_of (take i xs)) (map param_of (drop i xs)) ≡ distinct line [] (map param_of xs)
  pub names_are : names ≡ names_of (map param_of (take i xs))

params_taken : (xs : List source_param.Param) (i : ℕ) (x : source_param.Param) → i < length xs → x ≡ get_or xs i x → map param_of (take (i + 1) xs) ≡ map param_of (take i xs) ++ param_of x ∷ []
params_taken xs i x h e = ap (map param_of) (take_more xs i x h) ∙ map-append param_of (take i xs) (get_or xs i x ∷ []) ∙ ap (λ (y : source_param.Param). map param_of (take i xs) ++ param_of y ∷ []) (sym e)

names_taken : (xs : List source_param.Param) (i : ℕ) (x : source_param.Param) → i < length xs → x ≡ get_or xs i x → names_of (map param_of (take (i + 1) xs)) ≡ names_of (map param_of (take i xs)) ++ x.name ∷ []
names_taken xs i x h e = ap names_of (params_taken xs i x h e) ∙ map-append (λ p. p.name) (map param_of (take i xs)) (param_of x ∷ [])

distinct_step : (line : ℕ) (before ps : List Param) (p : Param) (b : Bool) → has_name p.name before ≡ b → distinct line before (p ∷ ps) ≡ (if b then Faulty (UnknownParameter line p.name) else distinct line (before ++ p ∷ []) ps)
unfolding distinct
distinct_step line before ps p b e = ap (λ c. if c then Faulty (UnknownParameter line p.name) else distinct line (before ++ p ∷ []) ps) e

distinct_none : (line : ℕ) (before : List Param) → distinct line before [] ≡ Gives tt
unfolding distinct
distinct_none line before = refl

-- the names before an item tell whether its name is new
distinct_here : (line : ℕ) (xs : List source_param.Param) (i : ℕ) (x : source_param.Param) (b : Bool) → i < length xs → x ≡ get_or xs i x → list_any (bytes_eq x.name) (names_of (map param_of (take i xs))) ≡ b →
    distinct line (map param_of (take i xs)) (map param_of (drop i xs)) ≡ (if b then Faulty (UnknownParameter line x.name) else distinct line (map param_of (take (i + 1) xs)) (map param_of (drop (i + 1) xs)))
distinct_here line xs i x b h e p =
    ap (λ ys. distinct line (map param_of (take i xs)) (map param_of ys)) (next_of xs i x h e)
    ∙ distinct_step line (map param_of (take i xs)) (map param_of (drop (i + 1) xs)) (param_of x) b (has_name_any x.name (map param_of (take i xs)) ∙ p)
    ∙ ap (λ ys. if b then Faulty (UnknownParameter line x.name) else distinct line ys (map param_of (drop (i + 1) xs))) (sym (params_taken xs i x h e))

not_is : (a b : Bool) → b ≡ not a → a ≡ not b
not_is true b e = ap not (sym e)
not_is false b e = ap not (sym e)

pub so_none : (line : ℕ) (xs : List source_param.Param) (names : List Name) → names ≡ [] → DistinctSo line xs 0 names
so_none line xs names e = record { left = refl; names_are = e }

pub so_more : (line : ℕ) (xs : List source_param.Param) (i : ℕ) (x : source_param.Param) (names new : List Name) (name : Name) (added : Bool) → i < length xs → x ≡ get_or xs i x → name ≡ x.name → DistinctSo line xs i names →
    added ≡ not (list_any (bytes_eq name) names) → new ≡ (if added then names ++ name ∷ [] else names) → added ≡ true → DistinctSo line xs (i + 1) new
so_more line xs i x names new name added h e called so told put was =
    let fresh : list_any (bytes_eq x.name) (names_of (map param_of (take i xs))) ≡ false =
    ap₂ (λ y ys. list_any (bytes_eq y) ys) (sym called) (sym so.names_are) ∙ not_is (list_any (bytes_eq name) names) added told ∙ ap not was in
    record {
      left = sym (distinct_here line xs i x false h e fresh) ∙ so.left;
      names_are = put ∙ ap (λ b. if b then names ++ name ∷ [] else names) was ∙ ap₂ (λ (ys : List Name) (y : Name). ys ++ y ∷ []) so.names_are called ∙ sym (names_taken xs i x h e);
    }

pub so_again : (line : ℕ) (xs : List source_param.Param) (i : ℕ) (x : source_param.Param) (names : List Name) (name : Name) (added : Bool) → i < length xs → x ≡ get_or xs i x → name ≡ x.name → DistinctSo line xs i names →
    added ≡ not (list_any (bytes_eq name) names) → added ≡ false → distinct line [] (map param_of xs) ≡ Faulty (UnknownParameter line x.name)
so_again line xs i x names name added h e called so told was =
    let again : list_any (bytes_eq x.name) (names_of (map param_of (take i xs))) ≡ true =
    ap₂ (λ y ys. list_any (bytes_eq y) ys) (sym called) (sym so.names_are) ∙ not_is (list_any (bytes_eq name) names) added told ∙ ap not was in
    sym so.left ∙ distinct_here line xs i x true h e again

pub so_end : (line : ℕ) (xs : List source_param.Param) (i : ℕ) (names : List Name) → length xs ≤ i → DistinctSo line xs i names → distinct line [] (map param_of xs) ≡ Gives tt
so_end line xs i names h so = sym so.left ∙ ap (λ ys. distinct line (map param_of (take i xs)) (map param_of ys)) (drop_of_length-le xs h) ∙ distinct_none line (map param_of (take i xs))

pub so_names : (line : ℕ) (xs : List source_param.Param) (i : ℕ) (names : List Name) → length xs ≤ i → DistinctSo line xs i names → names ≡ names_of (map param_of xs)
so_names line xs i names h so = so.names_are ∙ ap (λ ys. names_of (map param_of ys)) (take_all i xs h)

-- ---- defaults

pub record DoneSo (line : ℕ) (xs : List source_param.Param) (given_so : Gens) (i : ℕ) (done : Gens) : Type 0 where
  pub left : parameters line (map param_of (drop i xs)) given_so done ≡ parameters line (map param_of xs) given_so []
  pub apart : distinct line (map param_of (take i xs)) (map param_of (drop i xs)) ≡ Gives tt
  pub names_are : map (λ g. g.0) done ≡ names_of (map param_of (take i xs))

pub done_none : (line : ℕ) (xs : List source_param.Param) (given_so done : Gens) → distinct line [] (map param_of xs) ≡ Gives tt → done ≡ [] → DoneSo line xs given_so 0 done
done_none line xs given_so done d e = record { left = ap (parameters line (map param_of xs) given_so) e; apart = d; names_are = ap (map (λ g. g.0)) e }

-- the next name is new
next_new : (line : ℕ) (xs : List source_param.Param) (given_so : Gens) (i : ℕ) (x : source_param.Param) (done : Gens) → i < length xs → x ≡ get_or xs i x → DoneSo line xs given_so i done →
    list_any (bytes_eq x.name) (names_of (map param_of (take i xs))) ≡ false
next_new line xs given_so i x done h e so = by (list_any (bytes_eq x.name) (names_of (map param_of (take i xs)))) refl
  where
    by : (b : Bool) → list_any (bytes_eq x.name) (names_of (map param_of (take i xs))) ≡ b → b ≡ false
    by true p = absurd (let wrong : Faulty (UnknownParameter line x.name) ≡ Gives tt = sym (distinct_here line xs i x true h e p) ∙ so.apart in cc)
    by false p = refl

pub done_new : (line : ℕ) (xs : List source_param.Param) (given_so : Gens) (i : ℕ) (x : source_param.Param) (done : Gens) → i < length xs → x ≡ get_or xs i x → DoneSo line xs given_so i done → find done x.name ≡ None
done_new line xs given_so i x done h e so = find_none done x.name (ap (list_any (bytes_eq x.name)) so.names_are ∙ next_new line xs given_so i x done h e so)

parameters_step : (line : ℕ) (p : Param) (ps : List Param) (given_so done : Gens) (n : ℤ) → given_or (find given_so p.name) (number line done p.value) ≡ Gives n → parameters line (p ∷ ps) given_so done ≡ parameters line ps given_so (done ++ (p.name, n) ∷ [])
unfolding parameters
parameters_step line p ps given_so done n e = gives_then (given_or (find given_so p.name) (number line done p.value)) (λ m. parameters line ps given_so (done ++ (p.name, m) ∷ [])) n e

parameters_wrong : (line : ℕ) (p : Param) (ps : List Param) (given_so done : Gens) (x : Fault) → given_or (find given_so p.name) (number line done p.value) ≡ Faulty x → parameters line (p ∷ ps) given_so done ≡ Faulty x
unfolding parameters
parameters_wrong line p ps given_so done x e = faulty_then (given_or (find given_so p.name) (number line done p.value)) (λ m. parameters line ps given_so (done ++ (p.name, m) ∷ [])) x e

parameters_none : (line : ℕ) (given_so done : Gens) → parameters line [] given_so done ≡ Gives done
unfolding parameters
parameters_none line given_so done = refl

pub done_more : (line : ℕ) (xs : List source_param.Param) (given_so : Gens) (i : ℕ) (x : source_param.Param) (done new : Gens) (n : ℤ) → i < length xs → x ≡ get_or xs i x → DoneSo line xs given_so i done →
    given_or (find given_so x.name) (number line done (int_of x.value)) ≡ Gives n → new ≡ done ++ (x.name, n) ∷ [] → DoneSo line xs given_so (i + 1) new
done_more line xs given_so i x done new n h e so p put = record {
  left = ap (parameters line (map param_of (drop (i + 1) xs)) given_so) put
      ∙ sym (ap (λ ys. parameters line (map param_of ys) given_so done) (next_of xs i x h e) ∙ parameters_step line (param_of x) (map param_of (drop (i + 1) xs)) given_so done n p)
      ∙ so.left;
  apart = sym (distinct_here line xs i x false h e (next_new line xs given_so i x done h e so)) ∙ so.apart;
  names_are = ap (map (λ g. g.0)) put ∙ map-append (λ g. g.0) done ((x.name, n) ∷ []) ∙ ap (λ (ys : List Name). ys ++ x.name ∷ []) so.names_are ∙ sym (names_taken xs i x h e);
}

pub done_fault : (line : ℕ) (xs : List source_param.Param) (given_so : Gens) (i : ℕ) (x : source_param.Param) (done : Gens) (f : Fault) → i < length xs → x ≡ get_or xs i x → DoneSo line xs given_so i done →
    given_or (find given_so x.name) (number line done (int_of x.value)) ≡ Faulty f → parameters line (map param_of xs) given_so [] ≡ Faulty f
done_fault line xs given_so i x done f h e so p =
    sym so.left ∙ ap (λ ys. parameters line (map param_of ys) given_so done) (next_of xs i x h e) ∙ parameters_wrong line (param_of x) (map param_of (drop (i + 1) xs)) given_so done f p

pub done_end : (line : ℕ) (xs : List source_param.Param) (given_so : Gens) (i : ℕ) (done : Gens) → length xs ≤ i → DoneSo line xs given_so i done → parameters line (map param_of xs) given_so [] ≡ Gives done
done_end line xs given_so i done h so = sym so.left ∙ ap (λ ys. parameters line (map param_of ys) given_so done) (drop_of_length-le xs h) ∙ parameters_none line given_so done

-- ---- all parameters

module _ (line : ℕ) (gens : Gens) (m : Module) (args : List Param) where
  pub values_twice : (x : Fault) → distinct m.line [] m.params ≡ Faulty x → values line gens m args ≡ Faulty x
  unfolding values
  values_twice x p = faulty_then (distinct m.line [] m.params) (λ u. and_then (arguments line gens m.params args []) (λ g. parameters m.line m.params g [])) x p

  pub values_wrong : (names : List Name) (x : Fault) → distinct m.line [] m.params ≡ Gives tt → names ≡ names_of m.params → arguments_by line gens names args [] ≡ Faulty x → values line gens m args ≡ Faulty x
  unfolding values
  values_wrong names x p n q =
      gives_then (distinct m.line [] m.params) (λ u. and_then (arguments line gens m.params args []) (λ g. parameters m.line m.params g [])) tt p
      ∙ faulty_then (arguments line gens m.params args []) (λ g. parameters m.line m.params g []) x (arguments_are line gens m.params args [] ∙ ap (λ ns. arguments_by line gens ns args []) (sym n) ∙ q)

  pub values_by : (names : List Name) (g : Gens) (r : Walk Gens) → distinct m.line [] m.params ≡ Gives tt → names ≡ names_of m.params → arguments_by line gens names args [] ≡ Gives g → parameters m.line m.params g [] ≡ r → values line gens m args ≡ r
  unfolding values
  values_by names g r p n q e =
      gives_then (distinct m.line [] m.params) (λ u. and_then (arguments line gens m.params args []) (λ g. parameters m.line m.params g [])) tt p
      ∙ gives_then (arguments line gens m.params args []) (λ g. parameters m.line m.params g []) g (arguments_are line gens m.params args [] ∙ ap (λ ns. arguments_by line gens ns args []) (sym n) ∙ q) ∙ e

  pub values_fault : (names : List Name) (g : Gens) (x : Fault) → distinct m.line [] m.params ≡ Gives tt → names ≡ names_of m.params → arguments_by line gens names args [] ≡ Gives g → parameters m.line m.params g [] ≡ Faulty x → values line gens m args ≡ Faulty x
  values_fault names g x p n q e = values_by names g (Faulty x) p n q e

  pub values_done : (names : List Name) (g params : Gens) → distinct m.line [] m.params ≡ Gives tt → names ≡ names_of m.params → arguments_by line gens names args [] ≡ Gives g → parameters m.line m.params g [] ≡ Gives params → values line gens m args ≡ Gives params
  values_done names g params p n q e = values_by names g (Gives params) p n q e

pub ruleset values_steps = (values_twice, values_wrong, values_fault, values_done)

module _ (m : Module) (rest : Gens) where
  pub top_twice : (x : Fault) → distinct m.line [] m.params ≡ Faulty x → top_values m rest ≡ Faulty x
  unfolding top_values
  top_twice x p = faulty_then (distinct m.line [] m.params) (λ u. and_then (top_arguments m.params rest []) (λ g. parameters m.line m.params g [])) x p

  pub top_wrong : (names : List Name) (x : Fault) → distinct m.line [] m.params ≡ Gives tt → names ≡ names_of m.params → top_arguments_by names rest [] ≡ Faulty x → top_values m rest ≡ Faulty x
  unfolding top_values
  top_wrong names x p n q =
      gives_then (distinct m.line [] m.params) (λ u. and_then (top_arguments m.params rest []) (λ g. parameters m.line m.params g [])) tt p
      ∙ faulty_then (top_arguments m.params rest []) (λ g. parameters m.line m.params g []) x (top_arguments_are m.params rest [] ∙ ap (λ ns. top_arguments_by ns rest []) (sym n) ∙ q)

  pub top_by : (names : List Name) (g : Gens) (r : Walk Gens) → distinct m.line [] m.params ≡ Gives tt → names ≡ names_of m.params → top_arguments_by names rest [] ≡ Gives g → parameters m.line m.params g [] ≡ r → top_values m rest ≡ r
  unfolding top_values
  top_by names g r p n q e =
      gives_then (distinct m.line [] m.params) (λ u. and_then (top_arguments m.params rest []) (λ g. parameters m.line m.params g [])) tt p
      ∙ gives_then (top_arguments m.params rest []) (λ g. parameters m.line m.params g []) g (top_arguments_are m.params rest [] ∙ ap (λ ns. top_arguments_by ns rest []) (sym n) ∙ q) ∙ e

  pub top_fault : (names : List Name) (g : Gens) (x : Fault) → distinct m.line [] m.params ≡ Gives tt → names ≡ names_of m.params → top_arguments_by names rest [] ≡ Gives g → parameters m.line m.params g [] ≡ Faulty x → top_values m rest ≡ Faulty x
  top_fault names g x p n q e = top_by names g (Faulty x) p n q e

  pub top_done : (names : List Name) (g params : Gens) → distinct m.line [] m.params ≡ Gives tt → names ≡ names_of m.params → top_arguments_by names rest [] ≡ Gives g → parameters m.line m.params g [] ≡ Gives params → top_values m rest ≡ Gives params
  top_done names g params p n q e = top_by names g (Gives params) p n q e

pub ruleset top_values_steps = (top_twice, top_wrong, top_fault, top_done)
