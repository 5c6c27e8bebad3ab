-- Bits of names in frames.
use Rattle.std.proofs.Common.{◌≡◌, ℕ, ◌+◌, ◌<◌, ◌≤◌, Bool, true, false, ◌||◌, ◌&&◌, bytes_eq, List, [], ◌∷◌, ◌++◌, map, length, drop, get_or, Option, Some, None, Vec, Global, if◌then◌else◌, refl, sym, ap, ap₂, ◌∙◌}
use Rattle.std.proofs.lemmas.Slice.Eq.{bytes_eq-Decides}
use Rattle.std.proofs.lemmas.List.{drop_more}
use Rattle.std.proofs.Math.ListN.{drop_of_length-le}
use Rattle.bit_sets.specs.declared.bit_set.BitSet.{BitSet}
use Rattle.bit_sets.specs.BitSets.{set_of, no_bits, joined}
use Rattle.names.specs.Known.{Name, has}
use Rattle.names.specs.Maps.{value_of, put_value}
use Rattle.check_core.specs.Paths.{Bits}
use Rattle.check_paths.specs.Frames.{held, bits_of, bits_at, with_bits, either, both, nothing, seen, all_bits}

or_or : (a b c : Bool) → ((a || b) || c) ≡ (a || (b || c))
or_or true b c = refl
or_or false b c = refl

or_none : (a : Bool) → (a || false) ≡ a
or_none true = refl
or_none false = refl

turn : (a b : Bool) → (a || b) ≡ (b || a)
turn true true = refl
turn true false = refl
turn false true = refl
turn false false = refl

-- ---- one name

pub none_bits : (entries : List (Name × BitSet)) (x : Name) (set : ℕ → Bool) → set ≡ no_bits → value_of entries x ≡ None → set ≡ bits_at (bits_of entries) x
none_bits entries x set is none = is ∙ (λ j i. ap (λ (o : Option BitSet). held o i) (sym none) j)

pub some_bits : (entries : List (Name × BitSet)) (x : Name) (set : BitSet) → value_of entries x ≡ Some set → set_of set ≡ bits_at (bits_of entries) x
some_bits entries x set some = λ j i. ap (λ (o : Option BitSet). held o i) (sym some) j

pub frame_joined : (old new : List (Name × BitSet)) (x : Name) (set was all : BitSet) → set_of was ≡ bits_at (bits_of old) x → set_of all ≡ joined (set_of was) (set_of set) → value_of new ≡ put_value x all (value_of old)
    → bits_of new ≡ with_bits x (set_of set) (bits_of old)
frame_joined old new x set was all before made put = λ j y i. (ap (λ (f : Name → Option BitSet). held (f y) i) put ∙ by_test y i (bytes_eq y x) refl) j
  where
    by_test : (y : Name) (i : ℕ) (b : Bool) → bytes_eq y x ≡ b → held (if b then Some all else value_of old y) i ≡ ((b && set_of set i) || bits_of old y i)
    by_test y i true same =
        ap (λ f. f i) (made ∙ ap (λ f. joined f (set_of set)) before) ∙ ap (λ z. bits_of old z i || set_of set i) (sym ((bytes_eq-Decides y x).0 same)) ∙ turn (bits_of old y i) (set_of set i)
    by_test y i false other = refl

-- ---- what two frames have both, name by name

names_in : List (Name × BitSet) → List Name
names_in entries = map (λ e. e.0) entries

common_step : (o b c d r s : Bool) → (b ≡ true → c ≡ d) → (((b && c) || o) || (r && d)) ≡ (o || ((b || r) && d))
common_step true b c d r s h = ap (λ x. x || (r && d)) (turn (b && c) true)
common_step false true c d r s h = ap (λ x. (x || false) || (r && d)) (h refl) ∙ off d r
  where
    off : (d r : Bool) → ((d || false) || (r && d)) ≡ d
    off true r = refl
    off false true = refl
    off false false = refl
common_step false false c d r s h = refl

-- the bits C of a name more
pub common_next : (all : Bits) (old new : Bits) (x : Name) (rest : List Name) → new ≡ with_bits x (bits_at all x) old → either new (λ y i. has rest y && all y i) ≡ either old (λ y i. has (x ∷ rest) y && all y i)
common_next all old new x rest is =
    ap (λ f. either f (λ y i. has rest y && all y i)) is
    ∙ (λ j y i. common_step (old y i) (bytes_eq y x) (all x i) (all y i) (has rest y) false (λ same. ap (λ z. all z i) (sym ((bytes_eq-Decides y x).0 same))) j)

pub common_end : (all old : Bits) → either old (λ y i. has [] y && all y i) ≡ old
common_end all old = λ j y i. or_none (old y i) j

pub names_are : (entries : List (Vec ℕ Global × BitSet)) → map (λ (e : Vec ℕ Global × BitSet). e.0.items) entries ≡ map (λ (e : Name × BitSet). e.0) (map (λ (e : Vec ℕ Global × BitSet). (e.0.items, e.1)) entries)
names_are [] = refl
names_are (e ∷ entries) = ap (λ l. e.0.items ∷ l) (names_are entries)

-- a name that no entry has holds no bit
pub only_named : (entries : List (Name × BitSet)) (other : Bits) → (λ y i. has (map (λ e. e.0) entries) y && both (bits_of entries) other y i) ≡ both (bits_of entries) other
only_named entries other = λ j y i. at entries y i j
  where
    by_test : (e : Name × BitSet) (rest : List (Name × BitSet)) (y : Name) (i : ℕ) (b : Bool) → (has (map (λ e. e.0) rest) y && (held (value_of rest y) i && other y i)) ≡ (held (value_of rest y) i && other y i)
        → ((b || has (map (λ e. e.0) rest) y) && (held (if b then Some e.1 else value_of rest y) i && other y i)) ≡ (held (if b then Some e.1 else value_of rest y) i && other y i)
    by_test e rest y i true h = refl
    by_test e rest y i false h = h

    at : (entries : List (Name × BitSet)) (y : Name) (i : ℕ) → (has (map (λ e. e.0) entries) y && (held (value_of entries y) i && other y i)) ≡ (held (value_of entries y) i && other y i)
    at [] y i = refl
    at (e ∷ rest) y i = by_test e rest y i (bytes_eq y e.0) (at rest y i)

-- ---- frames inside each other

Frame : Type 0
Frame = List (Name × BitSet)

seen_append : (outer : List (List (Name × BitSet))) (inner : List (Name × BitSet)) → seen (outer ++ inner ∷ []) ≡ either (seen outer) (bits_of inner)
seen_append [] inner = λ j y i. or_none (bits_of inner y i) j
seen_append (frame ∷ rest) inner =
    let grow : Bits → Bits = λ f y i. bits_of frame y i || f y i in
    ap grow (seen_append rest inner)
    ∙ (λ j y i. sym (or_or (bits_of frame y i) (seen rest y i) (bits_of inner y i)) j)

pub seen_opened : (outer now : List (List (Name × BitSet))) (own begun : List (Name × BitSet)) → now ≡ outer ++ own ∷ [] → bits_of begun ≡ nothing → all_bits (now, begun) ≡ all_bits (outer, own)
seen_opened outer now own begun is none =
    ap₂ either (ap seen is ∙ seen_append outer own) none ∙ (λ j y i. or_none (seen outer y i || bits_of own y i) j)

pub frame_next : (outer : List (List (Name × BitSet))) (k : ℕ) (frame : List (Name × BitSet)) (name : Name) (set own new : ℕ → Bool) → k < length outer → frame ≡ get_or outer k frame
    → own ≡ bits_at (bits_of frame) name → new ≡ joined set own → joined new (bits_at (seen (drop (k + 1) outer)) name) ≡ joined set (bits_at (seen (drop k outer)) name)
frame_next outer k frame name set own new inside at is made =
    ap (λ f. joined f (bits_at (seen (drop (k + 1) outer)) name)) (made ∙ ap (joined set) is)
    ∙ (λ j i. or_or (set i) (bits_of frame name i) (seen (drop (k + 1) outer) name i) j)
    ∙ ap (λ (l : List (List (Name × BitSet))). joined set (bits_at (seen l) name)) (sym (drop_more outer k frame inside ∙ ap (λ x. x ∷ drop (k + 1) outer) (sym at)))

pub frame_end : (outer : List (List (Name × BitSet))) (k : ℕ) (name : Name) (set : ℕ → Bool) → length outer ≤ k → joined set (bits_at (seen (drop k outer)) name) ≡ set
frame_end outer k name set past = ap (λ (l : List (List (Name × BitSet))). joined set (bits_at (seen l) name)) (drop_of_length-le outer past) ∙ (λ j i. or_none (set i) j)

pub frame_first : (outer : List (List (Name × BitSet))) (name : Name) (begun : ℕ → Bool) → begun ≡ no_bits → joined begun (bits_at (seen outer) name) ≡ bits_at (seen outer) name
frame_first outer name begun is = ap (λ f. joined f (bits_at (seen outer) name)) is

pub frames_joined : (frames : List (List (Name × BitSet)) × List (Name × BitSet)) (name : Name) (first second all : ℕ → Bool) → first ≡ bits_at (seen frames.0) name → second ≡ bits_at (bits_of frames.1) name → all ≡ joined first second
    → all ≡ bits_at (all_bits frames) name
frames_joined frames name first second all e f is = is ∙ ap₂ joined e f

-- two lists with one element more
pub ends_same : {A : Type 0} (xs ys : List A) (x y : A) → xs ++ x ∷ [] ≡ ys ++ y ∷ [] → (xs ≡ ys) × (x ≡ y)
ends_same [] [] x y e = (refl, cc)
ends_same [] (z ∷ ys) x y e = absurd (longer ys y (ap (λ l. drop 1 l) e))
  where
    longer : {A : Type 0} (ys : List A) (y : A) → [] ≡ ys ++ y ∷ [] → ⊥
    longer [] y e = cc
    longer (z ∷ ys) y e = cc
ends_same (z ∷ xs) [] x y e = absurd (longer xs x (ap (λ l. drop 1 l) e))
  where
    longer : {A : Type 0} (xs : List A) (x : A) → xs ++ x ∷ [] ≡ [] → ⊥
    longer [] x e = cc
    longer (z ∷ xs) x e = cc
ends_same (z ∷ xs) (w ∷ ys) x y e =
    let rest = ends_same xs ys x y (ap (λ l. drop 1 l) e) in
    let first : z ≡ w = cc in
    (ap₂ (λ a l. a ∷ l) first rest.0, rest.1)

pub ruleset bits_steps = (none_bits, some_bits)

pub ruleset frames_steps = (frame_next, frame_end, frame_first)

-- nothing more, as nothing is in common
pub none_joined : (bits : Bits) → bits ≡ either bits nothing
none_joined bits = λ j y i. sym (or_none (bits y i)) j
