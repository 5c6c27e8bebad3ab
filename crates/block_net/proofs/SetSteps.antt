-- Sets of keys.
use Rattle.std.proofs.Common.{◌≡◌, ℕ, ◌+◌, ◌<◌, ◌≤◌, Bool, true, false, not, ◌||◌, bytes_eq, List, [], ◌∷◌, ◌++◌, length, take, get_or, append_assoc, append-nil, refl, sym, ap, ◌∙◌}
use Rattle.std.proofs.lemmas.List.{take_more, take_all}
use Rattle.exec_core.specs.Block.{Name, Key, Now, Next, same_key}
use Rattle.names.specs.Known.{Known, has, none, with}
use Rattle.block_net.specs.declared.key.Key as code_key
use Rattle.block_net.specs.declared.key.Key.TheVariants as keys
use Rattle.block_net.specs.declared.key_set.KeySet.{KeySet}
use Rattle.block_net.specs.Logs.{key_of}
use Rattle.block_net.specs.Walks.{among, either}
use Rattle.block_net.specs.Sets.{IsKept, KeysMore, seen}
use Rattle.block_net.proofs.WalkSteps.{bytes_eq_flip, same_key-sound}
use Rattle.block_net.proofs.BindSteps.{among_append}

or_flip : (a b : Bool) → (a || b) ≡ (b || a)
or_flip true true = refl
or_flip true false = refl
or_flip false true = refl
or_flip false false = refl

or_apart : (a b c : Bool) → ((a || b) || c) ≡ (a || (b || c))
or_apart true b c = refl
or_apart false b c = refl

or_false : (a : Bool) → (a || false) ≡ a
or_false true = refl
or_false false = refl

with_seen : (x y : Name) (known : Known) → with y known x ≡ (known x || bytes_eq y x)
with_seen x y known = or_flip (bytes_eq x y) (known x) ∙ ap (λ b. known x || b) (sym (bytes_eq_flip y x (bytes_eq x y) refl))

pub note_now : (old new : KeySet) (key : code_key.Key) (x y : Name) → key ≡ keys.Now x → y ≡ x → has new.now ≡ with y (has old.now) → new.next ≡ old.next → seen new ≡ either (seen old) (same_key (key_of key))
note_now old new key x y is same grown kept = (λ j z. at z j) ∙ ap (λ k. either (seen old) (same_key (key_of k))) (sym is)
  where
    at : (z : Key) → seen new z ≡ either (seen old) (same_key (Now x)) z
    at (Now z) = ap (λ (f : Known). f z) grown ∙ with_seen z y (has old.now) ∙ ap (λ n. has old.now z || bytes_eq n z) same
    at (Next z) = ap (λ l. has l z) kept ∙ sym (or_false (has old.next z))

pub note_next : (old new : KeySet) (key : code_key.Key) (x y : Name) → key ≡ keys.Next x → y ≡ x → has new.next ≡ with y (has old.next) → new.now ≡ old.now → seen new ≡ either (seen old) (same_key (key_of key))
note_next old new key x y is same grown kept = (λ j z. at z j) ∙ ap (λ k. either (seen old) (same_key (key_of k))) (sym is)
  where
    at : (z : Key) → seen new z ≡ either (seen old) (same_key (Next x)) z
    at (Now z) = ap (λ l. has l z) kept ∙ sym (or_false (has old.now z))
    at (Next z) = ap (λ (f : Known). f z) grown ∙ with_seen z y (has old.next) ∙ ap (λ n. has old.next z || bytes_eq n z) same

pub new_now : (old : KeySet) (key : code_key.Key) (x y : Name) (new : Bool) → key ≡ keys.Now x → y ≡ x → new ≡ not (has old.now y) → new ≡ not (seen old (key_of key))
new_now old key x y new is same told = told ∙ ap (λ z. not (has old.now z)) same ∙ ap (λ k. not (seen old (key_of k))) (sym is)

pub new_next : (old : KeySet) (key : code_key.Key) (x y : Name) (new : Bool) → key ≡ keys.Next x → y ≡ x → new ≡ not (has old.next y) → new ≡ not (seen old (key_of key))
new_next old key x y new is same told = told ∙ ap (λ z. not (has old.next z)) same ∙ ap (λ k. not (seen old (key_of k))) (sym is)

-- one that was there
not_not : (b : Bool) → not b ≡ false → b ≡ true
not_not true e = refl
not_not false e = sym e

pub there_already : (old mid : KeySet) (key : Key) (new : Bool) → IsKept old → new ≡ not (seen old key) → new ≡ false → mid.keys ≡ old.keys → among mid.keys.items ≡ either (among old.keys.items) (same_key key)
there_already old mid key new kept told off same = ap (λ v. among v.items) same ∙ (λ j y. at y (same_key key y) refl j)
  where
    known : among old.keys.items key ≡ true
    known = sym (ap (λ (f : Key → Bool). f key) kept) ∙ not_not (seen old key) (sym told ∙ off)

    true_or : (b : Bool) → b ≡ true → b ≡ (b || true)
    true_or true e = refl
    true_or false e = e

    at : (y : Key) (b : Bool) → same_key key y ≡ b → among old.keys.items y ≡ (among old.keys.items y || same_key key y)
    at y true e = true_or (among old.keys.items y) (ap (among old.keys.items) (sym (same_key-sound key y e)) ∙ known) ∙ ap (λ b. among old.keys.items y || b) (sym e)
    at y false e = sym (or_false (among old.keys.items y)) ∙ ap (λ b. among old.keys.items y || b) (sym e)

pub put_last : (old new : List code_key.Key) (key copy : code_key.Key) → copy ≡ key → new ≡ old ++ copy ∷ [] → among new ≡ either (among old) (same_key (key_of key))
put_last old new key copy same is =
    ap among is ∙ (λ j y. among_append old (copy ∷ []) y j) ∙ (λ j y. among old y || or_false (same_key (key_of (same j)) y) j)

-- what was seen are the keys
pub kept_still : (old new : KeySet) (key : Key) → IsKept old → seen new ≡ either (seen old) (same_key key) → among new.keys.items ≡ either (among old.keys.items) (same_key key) → IsKept new
kept_still old new key kept saw are = saw ∙ ap (λ (f : Key → Bool). either f (same_key key)) kept ∙ sym are

-- more keys
pub more_none : (s : KeySet) → KeysMore s s
more_none s = record { more = []; is = sym (append-nil s.keys.items) }

pub more_twice : (a b c : KeySet) → KeysMore a b → KeysMore b c → KeysMore a c
more_twice a b c x y = record { more = x.more ++ y.more; is = y.is ∙ ap (λ l. l ++ y.more) x.is ∙ append_assoc a.keys.items x.more y.more }

pub more_one : (old new : KeySet) (key : code_key.Key) → new.keys.items ≡ old.keys.items ++ key ∷ [] → KeysMore old new
more_one old new key is = record { more = key ∷ []; is = is }

pub more_same : (old new : KeySet) → new.keys ≡ old.keys → KeysMore old new
more_same old new is = record { more = []; is = ap (λ v. v.items) is ∙ sym (append-nil old.keys.items) }

pub add_start : (keys : List code_key.Key) → among keys ≡ either (among keys) (among [])
add_start keys = λ j y. sym (or_false (among keys y)) j

pub add_next : (begun now new : Key → Bool) (all : List code_key.Key) (i : ℕ) (key : code_key.Key) → i < length all → key ≡ get_or all i key → now ≡ either begun (among (take i all)) → new ≡ either now (same_key (key_of key)) → new ≡ either begun (among (take (i + 1) all))
add_next begun now new all i key below at is grown =
    grown ∙ ap (λ (f : Key → Bool). either f (same_key (key_of key))) is
    ∙ (λ j y. or_apart (begun y) (among (take i all) y) (same_key (key_of key) y) j)
    ∙ ap (either begun) (sym (put_last (take i all) (take (i + 1) all) key (get_or all i key) (sym at) (take_more all i key below)))

pub add_end : (begun now : Key → Bool) (all : List code_key.Key) (i : ℕ) → length all ≤ i → now ≡ either begun (among (take i all)) → now ≡ either begun (among all)
add_end begun now all i past is = is ∙ ap (λ l. either begun (among l)) (take_all i all past)

pub seen_nothing : (s : KeySet) → has s.now ≡ none → has s.next ≡ none → s.keys.items ≡ [] → IsKept s
seen_nothing s first second empty = (λ j y. at y j) ∙ ap among (sym empty)
  where
    at : (y : Key) → seen s y ≡ false
    at (Now x) = ap (λ (f : Known). f x) first
    at (Next x) = ap (λ (f : Known). f x) second
