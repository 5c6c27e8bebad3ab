-- What is read with little room is read with more: nested deeper, or in more turns.
use Rattle.std.proofs.Common.{◌≡◌, ℕ, zero, suc, ◌≤◌, List, [], ◌∷◌, length, Option, Some, None, option_and_then, refl, sym, ap, ◌∙◌, arith}
use Rattle.json.specs.Token.{Token}
use Rattle.json.specs.Json.{Json, array, object, Items, item, Members, member, Parse, parse_map, after_end_array, read_key, items_step, members_step, items, members, value_with, value}
use Rattle.json.proofs.Grammar.{left, Takes, skip_value-shorter, read_key-shorter}

-- all that p reads, q reads
abbrev pub Within : {A : Type 0} → Parse A → Parse A → Type 0
Within {A} p q = (ts : List Token) (x : A × List Token) → p ts ≡ Some x → q ts ≡ Some x

mapped_within : {A B : Type 0} (f : A → B) (o o' : Option (A × List Token)) → ((y : A × List Token) → o ≡ Some y → o' ≡ Some y) → (x : B × List Token) → parse_map f o ≡ Some x → parse_map f o' ≡ Some x
mapped_within f None o' h x e = absurd (cc)
mapped_within f (Some y) o' h x e = ap (parse_map f) (h y refl) ∙ e

then_within : {B : Type 0} (f : Json → B → B) (more more' : Parse B) (o o' : Option (Json × List Token)) → ((y : Json × List Token) → o ≡ Some y → o' ≡ Some y)
    → ((y : Json × List Token) (z : B × List Token) → o ≡ Some y → more y.1 ≡ Some z → more' y.1 ≡ Some z) → (x : B × List Token)
    → option_and_then (λ q. parse_map (f q.0) (more q.1)) o ≡ Some x → option_and_then (λ q. parse_map (f q.0) (more' q.1)) o' ≡ Some x
then_within f more more' None o' h k x e = absurd (cc)
then_within f more more' (Some y) o' h k x e = ap (option_and_then (λ q. parse_map (f q.0) (more' q.1))) (h y refl) ∙ mapped_within (f y.0) (more y.1) (more' y.1) (λ z. k y z refl) x e

module _ (p q : Parse Json) (takes : Takes p) (none : p [] ≡ None) (within : Within p q) where
  item_within : (more more' : Parse Items) (ts : List Token) (o : Option (List Token)) → ((y : Json × List Token) (z : Items × List Token) → p ts ≡ Some y → more y.1 ≡ Some z → more' y.1 ≡ Some z)
      → (x : Items × List Token) → items_step p more ts o ≡ Some x → items_step q more' ts o ≡ Some x
  item_within more more' ts (Some r) k x e = e
  item_within more more' ts None k x e = then_within item more more' (p ts) (q ts) (within ts) k x e

  pub items_within : (n m : ℕ) (ts : List Token) → length ts ≤ m → (x : Items × List Token) → items p n ts ≡ Some x → items q m ts ≡ Some x
  unfolding items
  items_within zero m ts enough x e = absurd (cc)
  items_within (suc n) zero [] enough x e = let nothing = ap (option_and_then (λ y. parse_map (item y.0) (items p n y.1))) (sym none) ∙ e in absurd (cc)
  items_within (suc n) zero (t ∷ ts) enough x e = absurd (omega arith)
  items_within (suc n) (suc m) ts enough x e =
      item_within (items p n) (items q m) ts (after_end_array ts) (λ y z is. items_within n m y.1 (omega (arith, takes ts y.1 (ap left is))) z) x e

  member_within : (more more' : Parse Members) (o : Option (Option (List ℕ) × List Token))
      → ((k : List ℕ) (s : List Token) (y : Json × List Token) (z : Members × List Token) → o ≡ Some (Some k, s) → p s ≡ Some y → more y.1 ≡ Some z → more' y.1 ≡ Some z)
      → (x : Members × List Token) → option_and_then (λ o. members_step p more o.0 o.1) o ≡ Some x → option_and_then (λ o. members_step q more' o.0 o.1) o ≡ Some x
  member_within more more' None k x e = absurd (cc)
  member_within more more' (Some (None, s)) k x e = e
  member_within more more' (Some (Some name, s)) k x e = then_within (member name) more more' (p s) (q s) (within s) (λ y z. k name s y z refl) x e

  pub members_within : (n m : ℕ) (ts : List Token) → length ts ≤ m → (x : Members × List Token) → members p n ts ≡ Some x → members q m ts ≡ Some x
  unfolding members
  members_within zero m ts enough x e = absurd (cc)
  members_within (suc n) zero [] enough x e = absurd (cc)
  members_within (suc n) zero (t ∷ ts) enough x e = absurd (omega arith)
  members_within (suc n) (suc m) ts enough x e =
      member_within (members p n) (members q m) (read_key ts)
      (λ k s y z key is. members_within n m y.1 (omega (arith, read_key-shorter ts (Some k) s key, takes s y.1 (ap left is))) z) x e

value_with_within : (a a' : Parse Items) (o o' : Parse Members) → Within a a' → Within o o' → Within (value_with a o) (value_with a' o')
value_with_within a a' o o' f g [] x e = e
value_with_within a a' o o' f g (Token.begin_object ∷ ts) x e = mapped_within object (o ts) (o' ts) (g ts) x e
value_with_within a a' o o' f g (Token.end_object ∷ ts) x e = e
value_with_within a a' o o' f g (Token.begin_array ∷ ts) x e = mapped_within array (a ts) (a' ts) (f ts) x e
value_with_within a a' o o' f g (Token.end_array ∷ ts) x e = e
value_with_within a a' o o' f g (Token.key s ∷ ts) x e = e
value_with_within a a' o o' f g (Token.string s ∷ ts) x e = e
value_with_within a a' o o' f g (Token.number s ∷ ts) x e = e
value_with_within a a' o o' f g (Token.boolean b ∷ ts) x e = e
value_with_within a a' o o' f g (Token.null ∷ ts) x e = e
value_with_within a a' o o' f g (Token.bad ∷ ts) x e = e

pub value_none : (depth : ℕ) → value depth [] ≡ None
unfolding value
value_none zero = refl
value_none (suc d) = refl

-- what nests so deep may nest deeper
pub value_within : (depth : ℕ) → Within (value depth) (value (suc depth))
unfolding value
value_within zero = value_with_within (λ ts. None) _ (λ ts. None) _ (λ ts x e. absurd (cc)) (λ ts x e. absurd (cc))
value_within (suc d) = value_with_within _ _ _ _
    (λ ts. items_within (value d) (value (suc d)) (skip_value-shorter d) (value_none d) (value_within d) (length ts) (length ts) ts (omega arith))
    (λ ts. members_within (value d) (value (suc d)) (skip_value-shorter d) (value_none d) (value_within d) (length ts) (length ts) ts (omega arith))

same_option : {A : Type 0} (a b : Option A) → ((x : A) → a ≡ Some x → b ≡ Some x) → ((x : A) → b ≡ Some x → a ≡ Some x) → a ≡ b
same_option None None f g = refl
same_option None (Some y) f g = g y refl
same_option (Some x) b f g = sym (f x refl)

-- as many turns as there are tokens are enough
pub enough_items : (depth n : ℕ) (ts : List Token) → length ts ≤ n → items (value depth) n ts ≡ items (value depth) (length ts) ts
enough_items depth n ts le =
    let turns = items_within (value depth) (value depth) (skip_value-shorter depth) (value_none depth) (λ ts x e. e) in
    same_option _ _ (turns n (length ts) ts (omega arith)) (turns (length ts) n ts le)

pub enough_members : (depth n : ℕ) (ts : List Token) → length ts ≤ n → members (value depth) n ts ≡ members (value depth) (length ts) ts
enough_members depth n ts le =
    let turns = members_within (value depth) (value depth) (skip_value-shorter depth) (value_none depth) (λ ts x e. e) in
    same_option _ _ (turns n (length ts) ts (omega arith)) (turns (length ts) n ts le)
