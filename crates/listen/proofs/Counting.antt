-- What a look-up in a map says of `counted`.
use Rattle.std.proofs.Common.{◌≡◌, ℕ, suc, ◌+◌, ◌≤◌, true≢false, Bool, true, false, cond, not, nat_eq, nat_lt, List, [], ◌∷◌, ◌++◌, length, slice_get, position, refl, sym, ap, ◌∙◌, Some, None, Option, is_some, if◌then◌else◌, min, unwrap_or, ◌||◌, subst, arith}
use Rattle.std.specs.List.{position_or_len, list_any}
use Rattle.std.specs.Map.{keys_of, values_of, lookup}
use Rattle.indexmap.specs.Layout.{set_value_at, length-set_value_at}
use Rattle.indexmap.specs.IndexMap.{insert_entry}
use Rattle.indexmap.proofs.MapLemmas.{Found-position, absent_from_lookup, insert_entry-absent}
use Rattle.listen.specs.Pairs.{most_hits, most_keys, one_more, counted}

any_step : (b : Bool) (v : ℕ) (any : Bool) (found : Option ℕ) → any ≡ is_some found → (b || any) ≡ is_some (cond b (Some v) found)
any_step true v any found h = refl
any_step false v any found h = h

-- a key is there exactly where a look-up finds it
any_is_found : (key : ℕ) (es : List (ℕ × ℕ)) → list_any (λ pair. nat_eq key pair.0) es ≡ is_some (lookup (nat_eq key) es)
any_is_found key [] = refl
any_is_found key (e ∷ es) = any_step (nat_eq key e.0) e.1 _ _ (any_is_found key es)

more_step : (b : Bool) (e : ℕ × ℕ) (es : List (ℕ × ℕ)) (v place next : ℕ) (more : List (ℕ × ℕ)) → next ≡ suc place → (slice_get (values_of es) place ≡ Some v → set_value_at es place (min (v + 1) most_hits) ≡ more)
    → slice_get (values_of (e ∷ es)) (cond (not b) next 0) ≡ Some v → set_value_at (e ∷ es) (cond (not b) next 0) (min (v + 1) most_hits) ≡ (if b then (e.0, min (e.1 + 1) most_hits) ∷ es else e ∷ more)
more_step true e es v place next more is rest h = ap (λ n. (e.0, min (unwrap_or n 0 + 1) most_hits) ∷ es) (sym h)
more_step false e es v place next more is rest h = rw is (ap (λ l. e ∷ l) (rest (subst (λ n. slice_get (values_of (e ∷ es)) n ≡ Some v) is h)))

-- one more at the first place of the key is `one_more`
replaced : (key v : ℕ) (es : List (ℕ × ℕ)) → slice_get (values_of es) (position_or_len (nat_eq key) (keys_of es)) ≡ Some v → set_value_at es (position_or_len (nat_eq key) (keys_of es)) (min (v + 1) most_hits) ≡ one_more key es
replaced key v [] h = refl
replaced key v (e ∷ es) h = more_step (nat_eq key e.0) e es v _ _ _ (omega arith) (replaced key v es) h

pub counted_present : (key v i : ℕ) (es : List (ℕ × ℕ)) → position (nat_eq key) (keys_of es) ≡ Some i → is_some (lookup (nat_eq key) es) ≡ true → slice_get (values_of es) i ≡ Some v → set_value_at es i (min (v + 1) most_hits) ≡ counted key es
counted_present key v i es at there value =
    let place = (Found-position (nat_eq key) es i at).or_len in
    rw (any_is_found key es ∙ there, ← place) (replaced key v es (ap (slice_get (values_of es)) place ∙ value))

pub counted_absent : (key : ℕ) (es : List (ℕ × ℕ)) → is_some (lookup (nat_eq key) es) ≡ false → counted key es ≡ (if nat_lt (length es) most_keys then es ++ (key, 1) ∷ [] else es)
counted_absent key es none = rw (any_is_found key es ∙ none) refl

none_is : (found : Option ℕ) → is_some found ≡ false → found ≡ None
none_is None h = refl
none_is (Some v) h = absurd (true≢false h)

pub inserted : (key : ℕ) (es : List (ℕ × ℕ)) → is_some (lookup (nat_eq key) es) ≡ false → nat_lt (length es) most_keys ≡ true → insert_entry nat_eq es key 1 ≡ counted key es
inserted key es none room = rw (any_is_found key es ∙ none, room) (insert_entry-absent nat_eq key 1 es (absent_from_lookup (nat_eq key) es (none_is _ none)))

pub same_room : (es : List (ℕ × ℕ)) (i w spare : ℕ) → 1024 ≤ length es + spare → 1024 ≤ length (set_value_at es i w) + spare
same_room es i w spare h = rw (length-set_value_at es i w) h
