-- Names that have numbers, hidden and found.
use Rattle.std.proofs.Common.{◌≡◌, ℕ, ℤ, Bool, true, false, if◌then◌else◌, List, [], ◌∷◌, ◌++◌, map, Some, None, Vec, Global, bytes_eq, refl, sym, ap, ◌∙◌}
use Rattle.std.specs.Map.{lookup}
use Rattle.std.proofs.lemmas.Slice.Eq.{bytes_eq-Decides}
use Rattle.gen_scope.specs.Gens.{Gens, find, without, bound}

true_or_false : (b : Bool) → (b ≡ true → ⊥) → b ≡ false
true_or_false true h = absurd (h refl)
true_or_false false h = refl

-- two names are the same whichever stands first
pub same_name : (x y : List ℕ) → bytes_eq x y ≡ bytes_eq y x
same_name x y = by (bytes_eq x y) refl
  where
    by : (b : Bool) → bytes_eq x y ≡ b → bytes_eq x y ≡ bytes_eq y x
    by true e = e ∙ sym ((bytes_eq-Decides y x).1 (sym ((bytes_eq-Decides x y).0 e)))
    by false e = e ∙ sym (true_or_false (bytes_eq y x) (λ t. absurd (let no : true ≡ false = sym ((bytes_eq-Decides x y).1 (sym ((bytes_eq-Decides y x).0 t))) ∙ e in cc)))

find_behind : (gens : Gens) (x y : List ℕ) (n : ℤ) → bytes_eq x y ≡ false → find (gens ++ (x, n) ∷ []) y ≡ find gens y
find_behind [] x y n h = ap (λ b. if b then Some n else None) h
find_behind (g ∷ gens) x y n h = ap (λ r. if bytes_eq g.0 y then Some g.1 else r) (find_behind gens x y n h)

find_last : (gens : Gens) (x y : List ℕ) (n : ℤ) → bytes_eq x y ≡ true → find (without x gens ++ (x, n) ∷ []) y ≡ Some n
find_last [] x y n h = ap (λ b. if b then Some n else None) h
find_last (g ∷ gens) x y n h = by (bytes_eq g.0 x) refl (find_last gens x y n h)
  where
    by : (b : Bool) → bytes_eq g.0 x ≡ b → find (without x gens ++ (x, n) ∷ []) y ≡ Some n → find ((if b then without x gens else g ∷ without x gens) ++ (x, n) ∷ []) y ≡ Some n
    by true e rest = rest
    by false e rest =
        let other : bytes_eq g.0 y ≡ false = ap (bytes_eq g.0) (sym ((bytes_eq-Decides x y).0 h)) ∙ e in
        ap (λ b. if b then Some g.1 else find (without x gens ++ (x, n) ∷ []) y) other ∙ rest

find_without : (gens : Gens) (x y : List ℕ) → bytes_eq x y ≡ false → find (without x gens) y ≡ find gens y
find_without [] x y h = refl
find_without (g ∷ gens) x y h = by (bytes_eq g.0 x) refl (find_without gens x y h)
  where
    by : (b : Bool) → bytes_eq g.0 x ≡ b → find (without x gens) y ≡ find gens y → find (if b then without x gens else g ∷ without x gens) y ≡ (if bytes_eq g.0 y then Some g.1 else find gens y)
    by true e rest =
        let other : bytes_eq g.0 y ≡ false = ap (λ z. bytes_eq z y) ((bytes_eq-Decides g.0 x).0 e) ∙ h in
        rest ∙ sym (ap (λ b. if b then Some g.1 else find gens y) other)
    by false e rest = ap (λ r. if bytes_eq g.0 y then Some g.1 else r) rest

-- the inner variable is found first
pub find_inner : (gens : Gens) (x y : List ℕ) (n : ℤ) → bytes_eq x y ≡ true → find (bound x n gens) y ≡ Some n
find_inner gens x y n h = find_last gens x y n h

pub find_outer : (gens : Gens) (x y : List ℕ) (n : ℤ) → bytes_eq x y ≡ false → find (bound x n gens) y ≡ find gens y
find_outer gens x y n h = find_behind (without x gens) x y n h ∙ find_without gens x y h

pub ruleset find_steps = (find_inner, find_outer)

-- a name with no number hides none
pub without_none : (gens : Gens) (x : List ℕ) → find gens x ≡ None → without x gens ≡ gens
without_none [] x h = refl
without_none (g ∷ gens) x h = by (bytes_eq g.0 x) refl (without_none gens x)
  where
    by : (b : Bool) → bytes_eq g.0 x ≡ b → (find gens x ≡ None → without x gens ≡ gens) → (if b then without x gens else g ∷ without x gens) ≡ g ∷ gens
    by true e rest = absurd (let no : Some g.1 ≡ None = sym (ap (λ b. if b then Some g.1 else find gens x) e) ∙ h in cc)
    by false e rest = ap (λ r. g ∷ r) (rest (sym (ap (λ b. if b then Some g.1 else find gens x) e) ∙ h))

-- an entry of a map as a name with its number
abbrev pub entry_of : Vec ℕ Global × ℤ → List ℕ × ℤ
entry_of e = (e.0.items, e.1)

-- a map looks a name up as a list does
pub find_looks : (x : List ℕ) (entries : List (Vec ℕ Global × ℤ)) → lookup (λ k. bytes_eq x k.items) entries ≡ find (map entry_of entries) x
find_looks x [] = refl
find_looks x (g ∷ entries) = ap (λ b. if b then Some g.1 else lookup (λ k. bytes_eq x k.items) entries) (same_name x g.0.items) ∙ ap (λ r. if bytes_eq g.0.items x then Some g.1 else r) (find_looks x entries)

pub entries_pushed : (entries : List (Vec ℕ Global × ℤ)) (k : Vec ℕ Global) (n : ℤ) → map entry_of (entries ++ (k, n) ∷ []) ≡ map entry_of entries ++ (k.items, n) ∷ []
entries_pushed [] k n = refl
entries_pushed (g ∷ entries) k n = ap (λ rest. entry_of g ∷ rest) (entries_pushed entries k n)
