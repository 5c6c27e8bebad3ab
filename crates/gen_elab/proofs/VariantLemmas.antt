-- Variants are found in the order of their first instances.
use Rattle.std.proofs.Common.{◌≡◌, ℕ, zero, suc, ◌+◌, ◌<◌, ◌≤◌, Bool, true, false, not, cond, ◌==◌, List, [], ◌∷◌, ◌++◌, map, length, length-append, take, drop, get_or, if◌then◌else◌, nat_lt, refl, sym, ap, ap₂, ◌∙◌, arith}
use Rattle.std.proofs.lemmas.Bool.{ltb-true, ltb-false, eq-eqb}
use Rattle.std.proofs.lemmas.List.Sums.{prefix_len-le-length}
use Rattle.std.proofs.lemmas.List.{length-map, map-append, take_more, drop_more, length-drop, get_or-map}
use Rattle.design_core.specs.Design.{Gens}
use Rattle.design_core.specs.declared.Instance as design_instance
use Rattle.elab_core.specs.declared.Instance as code_instance
use Rattle.elab_core.specs.View.{instance_of}
use Rattle.elab_core.specs.Elaborated.{Instance}
use Rattle.elab_core.specs.Design.{is_of, variant_of, firsts, variants_of, instance_in}
use Rattle.elab_laws.proofs.Variants.{search_last, with_one, firsts_behind, number_in, Found, EachFound, is_its_own, stays, grown, all_grown, each_found, variants_within}
use Rattle.gen_elab.specs.Keys.{Key, key_place, key_of, numbers_of, kept}

-- a variant's number is the place of its key
pub number_as : (place : ℕ) (params : Gens) (variants : List Instance) → key_place (place, params) (map key_of variants) ≡ variant_of place params variants
number_as place params [] = refl
number_as place params (v ∷ variants) = ap (λ n. cond (not (is_of place params v)) (1 + n) 0) (number_as place params variants)

-- ---- the numbers of instances

numbers_stay : (variants more instances : List Instance) → EachFound variants instances → map (number_in (variants ++ more)) instances ≡ map (number_in variants) instances
numbers_stay variants more [] h = refl
numbers_stay variants more (i ∷ instances) h = ap₂ (λ n ns. n ∷ ns) (stays variants more i h.0) (numbers_stay variants more instances h.1)

-- the numbers with one more instance
pub numbers_behind : (instances : List Instance) (i : Instance) → numbers_of (instances ++ i ∷ []) ≡ numbers_of instances ++ number_in (variants_of instances) i ∷ []
numbers_behind instances i =
    let before = variants_of instances in
    let more = grown before i in
    let now : variants_of (instances ++ i ∷ []) ≡ before ++ more.0 = firsts_behind [] instances i ∙ more.1 in
    ap (λ (v : List Instance). map (number_in v) (instances ++ i ∷ [])) now
    ∙ map-append (number_in (before ++ more.0)) instances (i ∷ [])
    ∙ ap₂ (λ (ns : List ℕ) (n : ℕ). ns ++ n ∷ []) (numbers_stay before more.0 instances (each_found [] instances)) (ap (λ (v : List Instance). number_in v i) (sym more.1) ∙ its_number (nat_lt (number_in before i) (length before)))
  where
    its_number : (b : Bool) → number_in (if b then variants_of instances else variants_of instances ++ i ∷ []) i ≡ number_in (variants_of instances) i
    its_number true = refl
    its_number false = search_last (is_of i.place i.params) (variants_of instances) i (is_its_own i)

pub ruleset variant_steps = (number_as, firsts_behind, numbers_behind)

-- the keys with one more instance
pub keys_behind : (instances : List Instance) (i : Instance) (keys now : List Key) (at : ℕ) → keys ≡ map key_of (variants_of instances) → at ≡ key_place (key_of i) keys
    → now ≡ (if nat_lt at (length keys) then keys else keys ++ key_of i ∷ []) → now ≡ map key_of (variants_of (instances ++ i ∷ []))
keys_behind instances i keys now at is found grown =
    let before = variants_of instances in
    let place : at ≡ number_in before i = found ∙ ap (key_place (key_of i)) is ∙ number_as i.place i.params before in
    let long : length keys ≡ length before = ap length is ∙ length-map before key_of in
    grown ∙ ap₂ (λ b (k : List Key). if b then k else k ++ key_of i ∷ []) (ap₂ nat_lt place long) is
    ∙ by_test (nat_lt (number_in before i) (length before))
    ∙ ap (map key_of) (sym (firsts_behind [] instances i))
  where
    by_test : (b : Bool) → (if b then map key_of (variants_of instances) else map key_of (variants_of instances) ++ key_of i ∷ []) ≡ map key_of (if b then variants_of instances else variants_of instances ++ i ∷ [])
    by_test true = refl
    by_test false = sym (map-append key_of (variants_of instances) (i ∷ []))

-- the number of one more instance
pub number_behind : (instances : List Instance) (i : Instance) (keys : List Key) (at : ℕ) (before now : List ℕ) → keys ≡ map key_of (variants_of instances) → at ≡ key_place (key_of i) keys
    → before ≡ numbers_of instances → now ≡ before ++ at ∷ [] → now ≡ numbers_of (instances ++ i ∷ [])
number_behind instances i keys at before now is found old grown =
    let place : at ≡ number_in (variants_of instances) i = found ∙ ap (key_place (key_of i)) is ∙ number_as i.place i.params (variants_of instances) in
    grown ∙ ap₂ (λ (ns : List ℕ) n. ns ++ n ∷ []) old place ∙ sym (numbers_behind instances i)

pub code_key : (x : code_instance.Instance) → key_of (instance_of x) ≡ (x.place, x.params)
unfolding instance_of
code_key x = refl

-- the instances with one more
pub one_more : (xs : List code_instance.Instance) (i : ℕ) (x d : code_instance.Instance) → i < length xs → x ≡ get_or xs i d → map instance_of (take (i + 1) xs) ≡ map instance_of (take i xs) ++ instance_of x ∷ []
one_more xs i x d below at =
    ap (map instance_of) (take_more xs i d below) ∙ map-append instance_of (take i xs) (get_or xs i d ∷ []) ∙ ap (λ (y : code_instance.Instance). map instance_of (take i xs) ++ instance_of y ∷ []) (sym at)

found_at : (variants instances : List Instance) (k n d : ℕ) → EachFound variants instances → k < length instances → n ≡ get_or (map (number_in variants) instances) k d → n < length variants
found_at variants [] k n d h l e = absurd (omega (arith, l))
found_at variants (i ∷ instances) zero n d h l e = omega (arith, h.0, e)
found_at variants (i ∷ instances) (suc k) n d h l e = found_at variants instances k n d h.1 (omega (arith, l)) e

-- so their numbers are small
pub few_variants : (instances : List code_instance.Instance) (numbers : List ℕ) (k n d : ℕ) → numbers ≡ numbers_of (map instance_of instances) → length instances < 4294967296 → k < length instances
    → n ≡ get_or numbers k d → n < 4294967296
few_variants instances numbers k n d is few below at =
    let all = map instance_of instances in
    let long : length all ≡ length instances = length-map instances instance_of in
    let small : n < length (variants_of all) = found_at (variants_of all) all k n d (each_found [] all) (omega (arith, long, below)) (at ∙ ap (λ (l : List ℕ). get_or l k d) is) in
    omega (arith, small, variants_within [] all, long, few)

pub map_pushed : (xs : List code_instance.Instance) (x : code_instance.Instance) → map instance_of (xs ++ x ∷ []) ≡ map instance_of xs ++ instance_of x ∷ []
map_pushed xs x = map-append instance_of xs (x ∷ [])

-- an instance is first exactly where its number is how many are before
pub first_step : (before rest variants : List Instance) (i : Instance) (n : ℕ) → firsts before (i ∷ rest) ≡ variants → n ≡ number_in variants i → firsts (kept before i n) rest ≡ variants
first_step before rest variants i n is number = by_test (nat_lt (number_in before i) (length before)) refl is
  where
    by_test : (b : Bool) → nat_lt (number_in before i) (length before) ≡ b → (if b then firsts before rest else firsts (before ++ i ∷ []) rest) ≡ variants → firsts (kept before i n) rest ≡ variants
    by_test true e all =
        let more = all_grown before rest in
        let found : Found before i = ltb-true (number_in before i) (length before) e in
        let same : number_in variants i ≡ number_in before i = ap (λ (v : List Instance). number_in v i) (sym all ∙ more.1) ∙ stays before more.0 i found in
        let other : (n == length before) ≡ false = grind (arith, number, same, found) in
        ap (λ b. firsts (if b then before ++ i ∷ [] else before) rest) other ∙ all
    by_test false e all =
        let more = all_grown (before ++ i ∷ []) rest in
        let past : length before ≤ number_in before i = ltb-false (number_in before i) (length before) e in
        let last : number_in (before ++ i ∷ []) i ≡ number_in before i = search_last (is_of i.place i.params) before i (is_its_own i) in
        let within : number_in before i ≤ length before = prefix_len-le-length (λ v. not (is_of i.place i.params v)) before in
        let found : Found (before ++ i ∷ []) i = omega (arith, last, within, length-append before (i ∷ [])) in
        let same : number_in variants i ≡ number_in (before ++ i ∷ []) i = ap (λ (v : List Instance). number_in v i) (sym all ∙ more.1) ∙ stays (before ++ i ∷ []) more.0 i found in
        let here : (n == length before) ≡ true = eq-eqb n (length before) (omega (arith, number, same, last, past, within)) in
        ap (λ b. firsts (if b then before ++ i ∷ [] else before) rest) here ∙ all

abbrev head_or : ℕ → List ℕ → ℕ
head_or d [] = d
head_or d (x ∷ xs) = x

-- one turn of the loop
pub kept_turn : (all left rest firsts_now firsts_then : List code_instance.Instance) (numbers : List ℕ) (k n d : ℕ) (x : code_instance.Instance)
    → left ≡ x ∷ rest → firsts (map instance_of firsts_now) (map instance_of left) ≡ variants_of (map instance_of all)
    → drop k numbers ≡ map (number_in (variants_of (map instance_of all))) (map instance_of left) → n ≡ get_or numbers k d
    → map instance_of firsts_then ≡ kept (map instance_of firsts_now) (instance_of x) n
    → (firsts (map instance_of firsts_then) (map instance_of rest) ≡ variants_of (map instance_of all)) × (drop (k + 1) numbers ≡ map (number_in (variants_of (map instance_of all))) (map instance_of rest))
kept_turn all left rest firsts_now firsts_then numbers k n d x is first numbered at next =
    let variants = variants_of (map instance_of all) in
    let some : length (drop k numbers) ≡ length (map instance_of rest) + 1 =
    ap length numbered ∙ length-map (map instance_of left) (number_in variants) ∙ ap (λ (l : List code_instance.Instance). length (map instance_of l)) is ∙ omega arith in
    let within : k < length numbers = omega (arith, some, length-drop k numbers) in
    let front : get_or numbers k d ∷ drop (k + 1) numbers ≡ number_in variants (instance_of x) ∷ map (number_in variants) (map instance_of rest) =
    sym (drop_more numbers k d within) ∙ numbered ∙ ap (λ (l : List code_instance.Instance). map (number_in variants) (map instance_of l)) is in
    let number : n ≡ number_in variants (instance_of x) = at ∙ ap (head_or 0) front in (
      ap (λ (l : List Instance). firsts l (map instance_of rest)) next
          ∙ first_step (map instance_of firsts_now) (map instance_of rest) variants (instance_of x) n (ap (λ (l : List code_instance.Instance). firsts (map instance_of firsts_now) (map instance_of l)) (sym is) ∙ first) number,
      ap (drop 1) front,
    )

mapped_twice : (f : Instance → ℕ) (xs : List code_instance.Instance) → map f (map instance_of xs) ≡ map (λ y. f (instance_of y)) xs
mapped_twice f [] = refl
mapped_twice f (x ∷ xs) = ap (λ (l : List ℕ). f (instance_of x) ∷ l) (mapped_twice f xs)

the_number : (all : List code_instance.Instance) (numbers : List ℕ) (k n d : ℕ) (x c : code_instance.Instance) → numbers ≡ numbers_of (map instance_of all) → k < length all → x ≡ get_or all k c
    → n ≡ get_or numbers k d → n ≡ number_in (variants_of (map instance_of all)) (instance_of x)
the_number all numbers k n d x c is below at found =
    let f = λ (y : code_instance.Instance). number_in (variants_of (map instance_of all)) (instance_of y) in
    found ∙ ap (λ (l : List ℕ). get_or l k d) (is ∙ mapped_twice (number_in (variants_of (map instance_of all))) all)
    ∙ get_or-map f all k c d below ∙ ap f (sym at)

-- one turn of the loop over the design's instances
pub instance_turn : (all : List code_instance.Instance) (numbers : List ℕ) (k n d : ℕ) (x c : code_instance.Instance) (path : List ℕ) (before after : List design_instance.Instance)
    → numbers ≡ numbers_of (map instance_of all) → k < length all → x ≡ get_or all k c → n ≡ get_or numbers k d → path ≡ x.path
    → before ≡ map (instance_in (variants_of (map instance_of all))) (map instance_of (take k all))
    → after ≡ before ++ record { path = path; variant = n; parent = x.parent } ∷ []
    → after ≡ map (instance_in (variants_of (map instance_of all))) (map instance_of (take (k + 1) all))
unfolding instance_of
instance_turn all numbers k n d x c path before after is below at found same old new =
    let variants = variants_of (map instance_of all) in
    let number : n ≡ variant_of x.place x.params variants = the_number all numbers k n d x c is below at found in
    new
    ∙ ap₂ (λ (l : List design_instance.Instance) (i : design_instance.Instance). l ++ i ∷ []) old (ap₂ (λ (p : List ℕ) m. record { path = p; variant = m; parent = x.parent }) same number)
    ∙ sym (map-append (instance_in variants) (map instance_of (take k all)) (instance_of x ∷ []))
    ∙ ap (map (instance_in variants)) (sym (one_more all k x c below at))
