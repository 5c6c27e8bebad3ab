-- Values of names in maps.
use Rattle.std.proofs.Common.{◌≡◌, Bool, true, false, true≢false, bytes_eq, List, [], ◌∷◌, map, Option, Some, if◌then◌else◌, cond, refl, sym, ap, ◌∙◌}
use Rattle.std.proofs.lemmas.Slice.Eq.{bytes_eq-Decides}
use Rattle.indexmap.specs.IndexMap.{insert_entry}
use Rattle.std.specs.Map.{lookup}
use Rattle.names.specs.Known.{Name}
use Rattle.names.specs.Maps.{value_of, put_value}

-- the entries of a map, by name
abbrev pub named_entry : {K V : Type 0} → (K → Name) → K × V → Name × V
named_entry name e = (name e.0, e.1)

same_pick : {V : Type 0} (y k x : Name) (v w : V) (rest : Option V) (b : Bool) → bytes_eq k x ≡ true → bytes_eq y k ≡ b
    → (if bytes_eq y x then Some v else rest) ≡ (if b then Some v else (if bytes_eq y x then Some w else rest))
same_pick y k x v w rest true e f = ap (λ b. if b then Some v else rest) (ap (λ (n : Name). bytes_eq y n) (sym ((bytes_eq-Decides k x).0 e)) ∙ f)
same_pick y k x v w rest false e f =
    let off : bytes_eq y x ≡ false = ap (λ (n : Name). bytes_eq y n) (sym ((bytes_eq-Decides k x).0 e)) ∙ f in
    ap (λ b. if b then Some v else rest) off ∙ sym (ap (λ b. if b then Some w else rest) off)

other_pick : {V : Type 0} (y k x : Name) (v w : V) (rest : Option V) (a b : Bool) → bytes_eq k x ≡ false → bytes_eq y x ≡ a → bytes_eq y k ≡ b
    → (if a then Some w else (if b then Some v else rest)) ≡ (if b then Some v else (if a then Some w else rest))
other_pick y k x v w rest true true e f g =
    absurd (true≢false (sym ((bytes_eq-Decides k x).1 (sym ((bytes_eq-Decides y k).0 g) ∙ (bytes_eq-Decides y x).0 f)) ∙ e))
other_pick y k x v w rest true false e f g = refl
other_pick y k x v w rest false true e f g = refl
other_pick y k x v w rest false false e f g = refl

-- what is found after an entry is put in
pub put_found : {K V : Type 0} (name : K → Name) (entries : List (K × V)) (k : K) (v : V)
    → value_of (map (named_entry name) (insert_entry (λ a b. bytes_eq (name a) (name b)) entries k v)) ≡ put_value (name k) v (value_of (map (named_entry name) entries))
put_found {K} {V} name entries k v = λ i y. at entries y i
  where
    by_test : (e : K × V) (es : List (K × V)) (y : Name) (b : Bool) → bytes_eq (name k) (name e.0) ≡ b
        → value_of (map (named_entry name) (insert_entry (λ a b'. bytes_eq (name a) (name b')) es k v)) y ≡ put_value (name k) v (value_of (map (named_entry name) es)) y
        → value_of (map (named_entry name) (if b then (e.0, v) ∷ es else e ∷ insert_entry (λ a b'. bytes_eq (name a) (name b')) es k v)) y ≡ put_value (name k) v (value_of (map (named_entry name) (e ∷ es))) y
    by_test e es y true same rest = same_pick y (name k) (name e.0) v e.1 (value_of (map (named_entry name) es) y) (bytes_eq y (name k)) same refl
    by_test e es y false other rest =
        ap (λ o. if bytes_eq y (name e.0) then Some e.1 else o) rest
        ∙ other_pick y (name k) (name e.0) v e.1 (value_of (map (named_entry name) es) y) (bytes_eq y (name e.0)) (bytes_eq y (name k)) other refl refl

    at : (es : List (K × V)) (y : Name) → value_of (map (named_entry name) (insert_entry (λ a b. bytes_eq (name a) (name b)) es k v)) y ≡ put_value (name k) v (value_of (map (named_entry name) es)) y
    at [] y = refl
    at (e ∷ es) y = by_test e es y (bytes_eq (name k) (name e.0)) refl (at es y)

-- what is found
pub value_found : {K V : Type 0} (name : K → Name) (x : Name) (entries : List (K × V)) → lookup (λ k. bytes_eq x (name k)) entries ≡ value_of (map (named_entry name) entries) x
value_found name x [] = refl
value_found name x (e ∷ es) = by_test (bytes_eq x (name e.0)) (value_found name x es)
  where
    by_test : (b : Bool) → lookup (λ k. bytes_eq x (name k)) es ≡ value_of (map (named_entry name) es) x
        → cond b (Some e.1) (lookup (λ k. bytes_eq x (name k)) es) ≡ (if b then Some e.1 else value_of (map (named_entry name) es) x)
    by_test true rest = refl
    by_test false rest = rest
