-- Paths of instances differ where the names of each instance's children differ and hold no dot.
use Rattle.std.proofs.Common.{◌≡◌, ℕ, ◌+◌, ◌%◌, ◌<◌, ◌≤◌, ◌==◌, Bool, true, false, not, ◌&&◌, ◌||◌, mod-lt, List, [], ◌∷◌, ◌++◌, map, length, length-append, append_assoc, append-nil, Option, ◌⊎◌, inl, inr, true≢false, refl, sym, ap, ap₂, ◌∙◌, subst, arith, eqb-true, eq-eqb}
use Rattle.std.specs.List.{list_all}
use Rattle.std.specs.Fmt.{decimal}
use Rattle.std.proofs.lemmas.Fmt.{decimal_by_steps}
use Rattle.std.proofs.lemmas.List.{map-append}
use Rattle.text_core.specs.Digits.{is_digit}
use Rattle.gen_token.specs.Bytes.{is_letter, is_name_byte}
use Rattle.gen_token.specs.Spelling.{IsName, is_name_text}
use Rattle.exec_core.specs.Block.{Name}
use Rattle.list_core.specs.Lists.{EachOf, IsNotIn, AreApart}
use Rattle.list_core.proofs.Lists.{apart_both}
use Rattle.design_core.specs.Design.{Gens}
use Rattle.design_core.specs.WellFormed.{is_plain, IsMember}
use Rattle.elab_core.specs.Elaborated.{Child, Instance}
use Rattle.elab_laws.proofs.Shapes.{IsTree, a_tree, AreTrees, no_trees, one_behind}
use Rattle.elab_laws.proofs.Fine.{both_each, each_parts, Member}

-- ---- lists that differ

-- what each of the one list differs from in the other
each_apart : {A : Type 0} (P Q : A → Type 0) (xs ys : List A) → ((x y : A) → P x → Q y → y ≡ x → ⊥) → EachOf P xs → EachOf Q ys → EachOf (λ x. IsNotIn x ys) xs
each_apart P Q [] ys f h g = tt
each_apart P Q (x ∷ xs) ys f h g = (one ys g, each_apart P Q xs ys f h.1 g)
  where
    one : (ys : _) → EachOf Q ys → IsNotIn x ys
    one [] g = tt
    one (y ∷ ys) g = (λ e. f x y h.0 g.0 e, one ys g.1)

-- ---- paths below a path

-- this path, or one below it
abbrev Under : Name → Name → Type 0
Under p q = (q ≡ p) ⊎ ((r : Name) × (q ≡ p ++ (46 ∷ r)))

-- what follows a name in a path below it: nothing, or a dot
abbrev Tail : Name → Type 0
Tail t = (t ≡ []) ⊎ ((r : Name) × (t ≡ 46 ∷ r))

abbrev head_or : ℕ → Name → ℕ
head_or d [] = d
head_or d (x ∷ xs) = x

abbrev tail_or : Name → Name
tail_or [] = []
tail_or (x ∷ xs) = xs

no_dot : (y : ℕ) (b : Name) → 46 ≡ y → is_plain (y ∷ b) ≡ true → ⊥
no_dot y b e h = true≢false (sym h ∙ ap (λ t. not t && list_all (λ byte. not (byte == 46)) b) (eq-eqb y 46 (sym e)))

plain_rest : (y : ℕ) (b : Name) → is_plain (y ∷ b) ≡ true → is_plain b ≡ true
plain_rest y b h = right (not (y == 46)) (is_plain b) h
  where
    right : (a b : Bool) → a && b ≡ true → b ≡ true
    right true b e = e
    right false b e = absurd (true≢false (sym e))

none_behind : (y : ℕ) (t b : Name) → Tail t → is_plain (y ∷ b) ≡ true → (u : Name) → t ≡ y ∷ (b ++ u) → ⊥
none_behind y t b (inl e) h u same = absurd (omega (arith, ap (λ (l : Name). length l) (sym e ∙ same)))
none_behind y t b (inr p) h u same = no_dot y b (ap (head_or 46) (sym p.1 ∙ same)) h

-- two names without a dot, of which what follows is no longer part, are one
same_name : (a b t u : Name) → is_plain a ≡ true → is_plain b ≡ true → Tail t → Tail u → a ++ t ≡ b ++ u → a ≡ b
same_name [] [] t u h g k l e = refl
same_name [] (y ∷ b) t u h g k l e = absurd (none_behind y t b k g u e)
same_name (x ∷ a) [] t u h g k l e = absurd (none_behind x u a l h t (sym e))
same_name (x ∷ a) (y ∷ b) t u h g k l e = ap₂ (λ z (n : Name). z ∷ n) (ap (head_or 0) e) (same_name a b t u (plain_rest x a h) (plain_rest y b g) k l (ap tail_or e))

cancel : (p a b : Name) → p ++ a ≡ p ++ b → a ≡ b
cancel [] a b e = e
cancel (x ∷ p) a b e = cancel p a b (ap tail_or e)

-- a path below a child's
shape : (p c q : Name) → Under (p ++ (46 ∷ c)) q → (t : Name) × (Tail t × (q ≡ p ++ (46 ∷ (c ++ t))))
shape p c q (inl e) = ([], (inl refl, e ∙ ap (λ (n : Name). p ++ (46 ∷ n)) (sym (append-nil c))))
shape p c q (inr r) = (46 ∷ r.0, (inr (r.0, refl), r.1 ∙ append_assoc p (46 ∷ c) (46 ∷ r.0)))

under_both : (p c d q r : Name) → Under (p ++ (46 ∷ c)) q → Under (p ++ (46 ∷ d)) r → is_plain c ≡ true → is_plain d ≡ true → q ≡ r → c ≡ d
under_both p c d q r h g a b e =
    let x = shape p c q h in
    let y = shape p d r g in
    same_name c d x.0 y.0 a b x.1.0 y.1.0 (ap tail_or (cancel p (46 ∷ (c ++ x.0)) (46 ∷ (d ++ y.0)) (sym x.1.1 ∙ e ∙ y.1.1)))

under_parent : (p c q : Name) → Under (p ++ (46 ∷ c)) q → Under p q
under_parent p c q h = let x = shape p c q h in inr (c ++ x.0, x.1.1)

not_parent : (p c q : Name) → Under (p ++ (46 ∷ c)) q → q ≡ p → ⊥
not_parent p c q h e =
    let x = shape p c q h in
    absurd (omega (arith, length-append p (46 ∷ (c ++ x.0)), ap (λ (l : Name). length l) (sym x.1.1 ∙ e)))

-- ---- trees

abbrev pub paths : List Instance → List Name
paths list = map (λ i. i.path) list

abbrev pub names : List Child → List Name
names children = map (λ c. c.name) children

abbrev pub NamesOk : Instance → Type 0
NamesOk i = AreApart (names i.content.children) × EachOf (λ (c : Child). is_plain c.name ≡ true) i.content.children

-- below one of these children
abbrev Among : Name → List Name → Name → Type 0
Among p [] q = ⊥
Among p (c ∷ cs) q = Under (p ++ (46 ∷ c)) q ⊎ Among p cs q

among_first : (p q : Name) (cs ds : List Name) → Among p cs q → Among p (cs ++ ds) q
among_first p q [] ds h = absurd h
among_first p q (c ∷ cs) ds (inl h) = inl h
among_first p q (c ∷ cs) ds (inr h) = inr (among_first p q cs ds h)

among_last : (p q c : Name) (cs : List Name) → Under (p ++ (46 ∷ c)) q → Among p (cs ++ c ∷ []) q
among_last p q c [] h = inl h
among_last p q c (d ∷ cs) h = inr (among_last p q c cs h)

apart_last : (xs : List Name) (y : Name) → AreApart (xs ++ y ∷ []) → AreApart xs × EachOf (λ x. y ≡ x → ⊥) xs
apart_last [] y h = (tt, tt)
apart_last (x ∷ xs) y h = let rest = apart_last xs y h.1 in let one = not_last xs h.0 in ((one.0, rest.0), (one.1, rest.1))
  where
    not_last : (zs : List Name) → IsNotIn x (zs ++ y ∷ []) → IsNotIn x zs × (y ≡ x → ⊥)
    not_last [] g = (tt, g.0)
    not_last (z ∷ zs) g = let rest = not_last zs g.1 in ((g.0, rest.0), rest.1)

-- what is below other children is not below this one
others : (p c x y : Name) (cs : List Name) → EachOf (λ d. is_plain d ≡ true) cs → is_plain c ≡ true → EachOf (λ d. c ≡ d → ⊥) cs → Among p cs x → Under (p ++ (46 ∷ c)) y → y ≡ x → ⊥
others p c x y [] plain mine apart h g e = h
others p c x y (d ∷ cs) plain mine apart (inl h) g e = apart.0 (under_both p c d y x g h mine plain.0 e)
others p c x y (d ∷ cs) plain mine apart (inr h) g e = others p c x y cs plain.1 mine apart.1 h g e

each_as : {A : Type 0} (P Q : A → Type 0) → ((a : A) → P a → Q a) → (xs : List A) → EachOf P xs → EachOf Q xs
each_as P Q f [] h = tt
each_as P Q f (x ∷ xs) h = (f x h.0, each_as P Q f xs h.1)

plain_names : (children : List Child) → EachOf (λ (c : Child). is_plain c.name ≡ true) children → EachOf (λ d. is_plain d ≡ true) (names children)
plain_names [] h = tt
plain_names (c ∷ children) h = (h.0, plain_names children h.1)

among_parent : (p q : Name) (cs : List Name) → Among p cs q → Under p q
among_parent p q [] h = absurd h
among_parent p q (c ∷ cs) (inl h) = under_parent p c q h
among_parent p q (c ∷ cs) (inr h) = among_parent p q cs h

among_not : (p q : Name) (cs : List Name) → Among p cs q → q ≡ p → ⊥
among_not p q [] h e = h
among_not p q (c ∷ cs) (inl h) e = not_parent p c q h e
among_not p q (c ∷ cs) (inr h) e = among_not p q cs h e

not_in : (p : Name) (qs : List Name) (cs : List Name) → EachOf (Among p cs) qs → IsNotIn p qs
not_in p [] cs h = tt
not_in p (q ∷ qs) cs h = (among_not p q cs h.0, not_in p qs cs h.1)

record PathsOk (p : Name) (list : List Instance) : Type 0 where
  pub under : EachOf (Under p) (paths list)
  pub apart : AreApart (paths list)

record BelowOk (p : Name) (cs : List Name) (list : List Instance) : Type 0 where
  pub among : EachOf (Among p cs) (paths list)
  pub apart : AreApart (paths list)

mutual
  tree_paths : {room : ℕ} {path : Name} {parent : Option ℕ} {place : ℕ} {params : Gens} {at : ℕ} {list : List Instance} → IsTree room path parent place params at list → EachOf NamesOk list → PathsOk path list
  tree_paths (a_tree room path parent place params at content below under) h =
      let rest = trees_paths under h.0.0 h.0.1 h.1 in
      record {
        under = (inl refl, each_as (Among path (names content.children)) (Under path) (λ q g. among_parent path q (names content.children) g) (paths below) rest.among);
        apart = (not_in path (paths below) (names content.children) rest.among, rest.apart);
      }

  trees_paths : {room : ℕ} {path : Name} {at : ℕ} {children : List Child} {below : List Instance} → AreTrees room path at children below → AreApart (names children) → EachOf (λ (c : Child). is_plain c.name ≡ true) children → EachOf NamesOk below
      → BelowOk path (names children) below
  trees_paths (no_trees room path at) apart plain h = record { among = tt; apart = tt }
  trees_paths (one_behind room path at children below c list under tree) apart plain h =
      let split : names (children ++ c ∷ []) ≡ names children ++ c.name ∷ [] = map-append (λ (d : Child). d.name) children (c ∷ []) in
      let both : paths (below ++ list) ≡ paths below ++ paths list = map-append (λ (i : Instance). i.path) below list in
      let parts = each_parts NamesOk below list h in
      let differ = apart_last (names children) c.name (subst AreApart split apart) in
      let plains = each_parts (λ (d : Child). is_plain d.name ≡ true) children (c ∷ []) plain in
      let first = trees_paths under differ.0 plains.0 parts.0 in
      let new = tree_paths tree parts.1 in
      put path (names children) c.name below list split both
      (both_each (Among path (names children ++ c.name ∷ [])) (paths below) (paths list)
      (each_as (Among path (names children)) (Among path (names children ++ c.name ∷ [])) (λ q g. among_first path q (names children) (c.name ∷ []) g) (paths below) first.among)
      (each_as (Under (path ++ (46 ∷ c.name))) (Among path (names children ++ c.name ∷ [])) (λ q g. among_last path q c.name (names children) g) (paths list) new.under))
      (apart_both (paths below) (paths list) first.apart new.apart
      (each_apart (Among path (names children)) (Under (path ++ (46 ∷ c.name))) (paths below) (paths list)
      (λ x y g k e. others path c.name x y (names children) (plain_names children plains.0) plains.1.0 differ.1 g k e) first.among new.under))
    where
      put : (p : Name) (cs : List Name) (d : Name) {all : List Name} (xs ys : List Instance) → all ≡ cs ++ d ∷ [] → paths (xs ++ ys) ≡ paths xs ++ paths ys → EachOf (Among p (cs ++ d ∷ [])) (paths xs ++ paths ys) → AreApart (paths xs ++ paths ys)
          → BelowOk p all (xs ++ ys)
      put p cs d {all} xs ys e f h g = record {
        among = subst (λ (l : List Name). EachOf (Among p l) (paths (xs ++ ys))) (sym e) (subst (EachOf (Among p (cs ++ d ∷ []))) (sym f) h);
        apart = subst AreApart (sym f) g;
      }

pub all_apart : {room : ℕ} {path : Name} {parent : Option ℕ} {place : ℕ} {params : Gens} {at : ℕ} {list : List Instance} → IsTree room path parent place params at list → EachOf NamesOk list → AreApart (paths list)
all_apart tree h = (tree_paths tree h).apart

-- ---- names of the language hold no dot

and_parts : (a b : Bool) → a && b ≡ true → (a ≡ true) × (b ≡ true)
and_parts true b e = (refl, e)
and_parts false b e = absurd (true≢false (sym e))

true_both : (a b : Bool) → a ≡ true → b ≡ true → a && b ≡ true
true_both a b e f = rw e f

no_dot_byte : (b : ℕ) → is_name_byte b ≡ true → (t : Bool) → (b == 46) ≡ t → not t ≡ true
no_dot_byte b h false e = refl
no_dot_byte b h true e = absurd (true≢false (sym h ∙ ap is_name_byte (eqb-true b 46 e)))

letter_bytes : (bytes : Name) → list_all is_name_byte bytes ≡ true → is_plain bytes ≡ true
letter_bytes [] h = refl
letter_bytes (b ∷ bytes) h =
    let parts = and_parts (is_name_byte b) (list_all is_name_byte bytes) h in
    true_both (not (b == 46)) (is_plain bytes) (no_dot_byte b parts.0 (b == 46) refl) (letter_bytes bytes parts.1)

letter_is : (b : ℕ) → is_letter b ≡ true → is_name_byte b ≡ true
letter_is b e = ap (λ t. t || is_digit b || b == 95) e

is_name_bytes : (bytes : Name) → is_name_text bytes ≡ true → is_plain bytes ≡ true
is_name_bytes [] h = refl
is_name_bytes (b ∷ bytes) h =
    let parts = and_parts (is_letter b) (list_all is_name_byte bytes) h in
    letter_bytes (b ∷ bytes) (true_both (is_name_byte b) (list_all is_name_byte bytes) (letter_is b parts.0) parts.1)

plain_both : (a b : Name) → is_plain a ≡ true → is_plain b ≡ true → is_plain (a ++ b) ≡ true
plain_both [] b h g = g
plain_both (x ∷ a) b h g = first (not (x == 46)) (is_plain a) (is_plain (a ++ b)) h (λ e. plain_both a b e g)
  where
    first : (t c d : Bool) → t && c ≡ true → (c ≡ true → d ≡ true) → t && d ≡ true
    first true c d e f = f e
    first false c d e f = absurd (true≢false (sym e))

digit_plain : (n : ℕ) → n < 10 → not ((48 + n) == 46) ≡ true
digit_plain n h = grind (arith, h)

plain_decimal : (n : ℕ) → n ≤ 4611686018427387904 → is_plain (decimal n) ≡ true
plain_decimal n h = decimal_by_steps (λ k ds. is_plain ds ≡ true) (λ k l. one_digit k l) (λ k ds l p. plain_both ds ((48 + k % 10) ∷ []) p (one_digit (k % 10) (mod-lt k (omega arith)))) n (omega (arith, h))
  where
    one_digit : (k : ℕ) → k < 10 → is_plain ((48 + k) ∷ []) ≡ true
    one_digit k l = ap (λ t. t && true) (digit_plain k l)

pub plain_member : (x : Name) → Member IsName x → is_plain x ≡ true
plain_member x (base, (name, inl e)) = ap is_plain e ∙ is_name_bytes base name.text
plain_member x (base, (name, inr (n, (small, e)))) = ap is_plain e ∙ plain_both base (35 ∷ decimal n) (is_name_bytes base name.text) (plain_decimal n small)

pub as_member : (x : Name) → Member IsName x → IsMember x
as_member x (base, (name, inl e)) = (base, (name, inl e))
as_member x (base, (name, inr (n, (small, e)))) = (base, (name, inr (n, e)))
