-- Modules and their places.
use Rattle.std.proofs.Common.{◌≡◌, ℕ, suc, ◌+◌, ◌<◌, Bool, true, false, cond, if◌then◌else◌, List, [], ◌∷◌, ◌++◌, length, take, get_or, Option, Some, None, Vec, Global, bytes_eq, refl, sym, ap, ◌∙◌, arith}
use Rattle.std.specs.Borrow.{Bor}
use Rattle.std.specs.Map.{lookup}
use Rattle.std.proofs.lemmas.Slice.Eq.{bytes_eq-Decides}
use Rattle.std.proofs.lemmas.List.{take_more, map-append, length-map, length-take}
use Rattle.indexmap.specs.IndexMap.{insert_entry}
use Rattle.gen_tree.specs.Tree.{Module}
use Rattle.gen_tree.specs.declared.Module as source_module
use Rattle.gen_tree.specs.View.{module_of, lent_of}
use Rattle.exec_core.specs.Block.{Name}
use Rattle.elab_core.specs.Walk.{Gives, Faulty, UnknownModule}
use Rattle.elab_core.specs.Elab.{places, only, module_named}
use Rattle.gen_scope.proofs.Names.{same_name}
use Rattle.elab_walk.specs.Modules.{sole, LeadsTo}

abbrev pub Entry : Type 0
Entry = Vec ℕ Global × Option ℕ

abbrev pub same_key : Vec ℕ Global → Vec ℕ Global → Bool
same_key x y = bytes_eq x.items y.items

-- a name that was put into a map is found there, and every other name as before
pub lookup_inserted : (x : Name) (entries : List Entry) (k : Vec ℕ Global) (v : Option ℕ) →
    lookup (λ k. bytes_eq x k.items) (insert_entry same_key entries k v) ≡ (if bytes_eq x k.items then Some v else lookup (λ k. bytes_eq x k.items) entries)
lookup_inserted x [] k v = refl
lookup_inserted x (e ∷ entries) k v = by (bytes_eq k.items e.0.items) refl (lookup_inserted x entries k v)
  where
    rest : Option (Option ℕ)
    rest = lookup (λ k. bytes_eq x k.items) entries

    both : (b c : Bool) → bytes_eq x k.items ≡ b → bytes_eq x e.0.items ≡ c → bytes_eq k.items e.0.items ≡ false →
        cond c (Some e.1) (if b then Some v else rest) ≡ (if b then Some v else cond c (Some e.1) rest)
    both true true p q r =
        let no : true ≡ false = sym ((bytes_eq-Decides k.items e.0.items).1 (sym ((bytes_eq-Decides x k.items).0 p) ∙ (bytes_eq-Decides x e.0.items).0 q)) ∙ r in absurd cc
    both true false p q r = refl
    both false true p q r = refl
    both false false p q r = refl

    by : (b : Bool) → bytes_eq k.items e.0.items ≡ b →
        lookup (λ k. bytes_eq x k.items) (insert_entry same_key entries k v) ≡ (if bytes_eq x k.items then Some v else rest) →
        lookup (λ k. bytes_eq x k.items) (if b then (e.0, v) ∷ entries else e ∷ insert_entry same_key entries k v) ≡ (if bytes_eq x k.items then Some v else cond (bytes_eq x e.0.items) (Some e.1) rest)
    by true p ih =
        let same : bytes_eq x e.0.items ≡ bytes_eq x k.items = ap (bytes_eq x) (sym ((bytes_eq-Decides k.items e.0.items).0 p)) in
        ap (λ b. cond b (Some v) rest) same ∙ one (bytes_eq x k.items) ∙ ap (λ b. if bytes_eq x k.items then Some v else cond b (Some e.1) rest) (sym same)
      where
        one : (b : Bool) → cond b (Some v) rest ≡ (if b then Some v else cond b (Some e.1) rest)
        one true = refl
        one false = refl
    by false p ih = ap (λ r. cond (bytes_eq x e.0.items) (Some e.1) r) ih ∙ both (bytes_eq x k.items) (bytes_eq x e.0.items) refl refl p

-- one module more
pub places_behind : (x : Name) (at : ℕ) (ms : List Module) (m : Module) → places x at (ms ++ m ∷ []) ≡ places x at ms ++ (if bytes_eq m.name x then (at + length ms, m) ∷ [] else [])
places_behind x at [] m = ap (λ (k : ℕ). more k) (omega arith)
  where
    more : ℕ → List (ℕ × Module)
    more k = if bytes_eq m.name x then (k, m) ∷ [] else []
places_behind x at (n ∷ ms) m = by (bytes_eq n.name x) (places_behind x (at + 1) ms m ∙ ap (λ (k : ℕ). places x (at + 1) ms ++ more k) moved)
  where
    more : ℕ → List (ℕ × Module)
    more k = if bytes_eq m.name x then (k, m) ∷ [] else []

    moved : at + 1 + length ms ≡ at + length (n ∷ ms)
    moved = omega arith

    by : (b : Bool) → places x (at + 1) (ms ++ m ∷ []) ≡ places x (at + 1) ms ++ more (at + length (n ∷ ms)) →
        (if b then (at, n) ∷ places x (at + 1) (ms ++ m ∷ []) else places x (at + 1) (ms ++ m ∷ []))
        ≡ (if b then (at, n) ∷ places x (at + 1) ms else places x (at + 1) ms) ++ more (at + length (n ∷ ms))
    by true ih = ap (λ all. (at, n) ∷ all) ih
    by false ih = ih

none_more : (all : List (ℕ × Module)) → sole (all ++ []) ≡ sole all
none_more [] = refl
none_more (a ∷ []) = refl
none_more (a ∷ (b ∷ more)) = refl

one_more : (all : List (ℕ × Module)) (f : ℕ × Module) (known : Option (Option ℕ)) (v : Option ℕ) → known ≡ sole all → v ≡ (elim known [ None ↦ Some f.0 | Some _ ↦ None ]) → Some v ≡ sole (all ++ f ∷ [])
one_more [] f known v p q = ap (λ w. Some w) (q ∙ ap (λ r. elim r [ None ↦ Some f.0 | Some _ ↦ None ]) p)
one_more (a ∷ []) f known v p q = ap (λ w. Some w) (q ∙ ap (λ r. elim r [ None ↦ Some f.0 | Some _ ↦ None ]) p)
one_more (a ∷ (b ∷ more)) f known v p q = ap (λ w. Some w) (q ∙ ap (λ r. elim r [ None ↦ Some f.0 | Some _ ↦ None ]) p)

-- what a map leads to after one module more
pub leads_more : (entries new : List Entry) (ms : List Module) (m : Module) (k : Vec ℕ Global) (v : Option ℕ) → LeadsTo entries ms → k.items ≡ m.name →
    v ≡ (elim (lookup (λ k. bytes_eq m.name k.items) entries) [ None ↦ Some (length ms) | Some _ ↦ None ]) → new ≡ insert_entry same_key entries k v → LeadsTo new (ms ++ m ∷ [])
leads_more entries new ms m k v known named found put x =
    ap (lookup (λ k. bytes_eq x k.items)) put ∙ lookup_inserted x entries k v
    ∙ ap (λ y. if bytes_eq x y then Some v else lookup (λ k. bytes_eq x k.items) entries) named
    ∙ by (bytes_eq x m.name) refl
    ∙ sym (ap sole (places_behind x 0 ms m))
  where
    by : (b : Bool) → bytes_eq x m.name ≡ b → (if b then Some v else lookup (λ k. bytes_eq x k.items) entries) ≡ sole (places x 0 ms ++ (if bytes_eq m.name x then (0 + length ms, m) ∷ [] else []))
    by true e =
        let same : m.name ≡ x = sym ((bytes_eq-Decides x m.name).0 e) in
        let at : 0 + length ms ≡ length ms = omega arith in
        let test : bytes_eq m.name x ≡ true = same_name m.name x ∙ e in
        one_more (places x 0 ms) (length ms, m) (lookup (λ k. bytes_eq x k.items) entries) v (known x) (found ∙ ap (λ y. elim (lookup (λ k. bytes_eq y k.items) entries) [ None ↦ Some (length ms) | Some _ ↦ None ]) same)
        ∙ sym (ap (λ b. sole (places x 0 ms ++ (if b then (0 + length ms, m) ∷ [] else []))) test ∙ ap (λ (n : ℕ). sole (places x 0 ms ++ (n, m) ∷ [])) at)
    by false e = known x ∙ sym (ap (λ b. sole (places x 0 ms ++ (if b then (0 + length ms, m) ∷ [] else []))) (same_name m.name x ∙ e) ∙ none_more (places x 0 ms))

-- the first of the places of a name is that of a module
places_at : (x : Name) (at : ℕ) (all : List (Bor source_module.Module)) (d : Bor source_module.Module) (f : ℕ × Module) (rest : List (ℕ × Module)) → places x at (lent_of all) ≡ f ∷ rest →
    (k : ℕ) × (f.0 ≡ at + k) × (k < length all) × (f.1 ≡ module_of (get_or all k d).now)
places_at x at [] d f rest e = absurd cc
places_at x at (n ∷ all) d f rest e = by (bytes_eq n.now.name x) e (places_at x (at + 1) all d f rest)
  where
    by : (b : Bool) → (if b then (at, module_of n.now) ∷ places x (at + 1) (lent_of all) else places x (at + 1) (lent_of all)) ≡ f ∷ rest →
        (places x (at + 1) (lent_of all) ≡ f ∷ rest → (k : ℕ) × (f.0 ≡ (at + 1) + k) × (k < length all) × (f.1 ≡ module_of (get_or all k d).now)) →
        (k : ℕ) × (f.0 ≡ at + k) × (k < length (n ∷ all)) × (f.1 ≡ module_of (get_or (n ∷ all) k d).now)
    by true e ih =
        let first : (at, module_of n.now) ≡ f = cc in
        let moved : at + 0 ≡ at = omega arith in
        (0, sym (ap (λ g. g.0) first) ∙ sym moved, omega arith, sym (ap (λ g. g.1) first))
    by false e ih =
        let found = ih e in
        let moved : (at + 1) + found.0 ≡ at + suc found.0 = omega arith in
        (suc found.0, found.1 ∙ moved, omega (arith, found.2), found.3)

-- the place that a name leads to is that of the one module of this name
pub named_at : (line : ℕ) (x : Name) (all : List (Bor source_module.Module)) (d : Bor source_module.Module) (place : ℕ) → sole (places x 0 (lent_of all)) ≡ Some (Some place) →
    (place < length all) × (module_named (lent_of all) line x ≡ Gives (place, module_of (get_or all place d).now))
named_at line x all d place e = by (places x 0 (lent_of all)) refl e
  where
    by : (found : List (ℕ × Module)) → places x 0 (lent_of all) ≡ found → sole found ≡ Some (Some place) →
        (place < length all) × (module_named (lent_of all) line x ≡ Gives (place, module_of (get_or all place d).now))
    by [] p e = absurd cc
    by (f ∷ []) p e =
        let at = places_at x 0 all d f [] p in
        let here : f.0 ≡ place = cc in
        let same : at.0 ≡ place = omega (arith, at.1, here) in
        (omega (arith, at.2, same), ap (only line x) p ∙ (λ i. Gives (here i, at.3 i)) ∙ ap (λ (k : ℕ). Gives (place, module_of (get_or all k d).now)) same)
    by (f ∷ (g ∷ more)) p e = absurd cc

pub named_within : (x : Name) (all : List (Bor source_module.Module)) (place : ℕ) → sole (places x 0 (lent_of all)) ≡ Some (Some place) → place < length all
named_within x [] place e = absurd cc
named_within x (n ∷ all) place e = (named_at 0 x (n ∷ all) n place e).0

-- the modules up to one, and this one
pub modules_taken : (all : List (Bor source_module.Module)) (i : ℕ) (m : Bor source_module.Module) → i < length all → m ≡ get_or all i m → lent_of (take (i + 1) all) ≡ lent_of (take i all) ++ module_of m.now ∷ []
modules_taken all i m h e = ap lent_of (take_more all i m h) ∙ map-append (λ (m : Bor source_module.Module). module_of m.now) (take i all) (get_or all i m ∷ []) ∙ ap (λ (n : Bor source_module.Module). lent_of (take i all) ++ module_of n.now ∷ []) (sym e)

pub modules_count : (all : List (Bor source_module.Module)) (i : ℕ) → i < length all → i ≡ length (lent_of (take i all))
modules_count all i h = sym (length-map (take i all) (λ (m : Bor source_module.Module). module_of m.now) ∙ (omega (arith, length-take i all)))

-- a name that leads to no place is not that of one module
pub not_named : (line : ℕ) (x : Name) (ms : List Module) (r : Option (Option ℕ)) → r ≡ sole (places x 0 ms) → ((place : ℕ) → r ≡ Some (Some place) → ⊥) → module_named ms line x ≡ Faulty (UnknownModule line x)
not_named line x ms r e never = by (places x 0 ms) refl
  where
    by : (found : List (ℕ × Module)) → places x 0 ms ≡ found → module_named ms line x ≡ Faulty (UnknownModule line x)
    by [] p = ap (only line x) p
    by (f ∷ []) p = absurd (never f.0 (e ∙ ap sole p))
    by (f ∷ (g ∷ more)) p = ap (only line x) p
