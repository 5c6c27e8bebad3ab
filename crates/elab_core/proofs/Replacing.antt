-- Elaboration with a list of names and numbers is elaboration by substitution: numbers, expressions and statements.
use Rattle.std.proofs.Common.{◌≡◌, ℕ, zero, suc, ◌<◌, ◌≤◌, Bool, true, false, ◌&&◌, T, ◌≤ℤ◌, ℤ, pos, negsuc, ◌+ℤ◌, ◌-ℤ◌, int_le, List, [], ◌∷◌, ◌++◌, map, Option, Some, None, option_map, if◌then◌else◌, bytes_eq, refl, sym, ap, ap₂, ◌∙◌, subst, arith, nat_le, leb-true, le-leb}
use Rattle.gen_tree.specs.Tree as tree
use Rattle.gen_tree.specs.Tree.{Int, num, var, bin, Fam, Lit, plain, bits, read, out, value, unary, binary, mux, zext, slice, assign, bind, choose, select, repeat, given, Stmts, no_stmt, stmt, no_else, otherwise, no_arm, arm}
use Rattle.std.proofs.lemmas.Int.{ints}
use lib.Signed.{le_z_yes}
use Rattle.std.proofs.lemmas.Slice.Eq.{bytes_eq-Decides}
use Rattle.elab_core.specs.declared.fault.Count.TheVariants.{Parts, Statements, Turns}
use Rattle.design_core.specs.declared.Literal.{Literal}
use Rattle.elab_core.specs.Walk.{Walk, Gives, Faulty, Counted, ElabRange, and_then, counts}
use Rattle.exec_core.specs.Block.{Name}
use Rattle.elab_core.specs.Numbers.{find, without, bound, apply_op, in_range, IsInRange, AreInRange, ranged, named, number, family, index_name, fam_name, two_numbers, turn_count, turns_of, holds}
use Rattle.design_core.specs.Design.{Gens, Read, Out, Value, Unary, Binary, Mux, Zext, Slice, Assign, Let, If, Case, Body, Done, Otherwise, arms_from}
use Rattle.elab_core.specs.Operators.{unary_of, binary_of}
use Rattle.elab_core.specs.Elaborated.{added}
use Rattle.elab_core.specs.Elab.{literal_of, literal, expr, literals, part_bounds, turns, statement, statements, arm_bodies, else_body, else_statements}
use Rattle.elab_core.specs.Replace.{Numbers, as_int, or_name, put, put_fam, put_lit, put_expr, but, put_part, put_stmt, put_stmts, put_arms, put_else, only_this, closed_stmt, closed_stmts, closed_arms, closed_else, closed_else_stmts, closed_body, loops_stmt, loops_stmts, loops_arms, loops_else}

-- ---- what a walk gives

-- whatever comes out of the walk is so
unfoldable pub Yields : {A : Type 0} → (A → Type 0) → Walk A → Type 0
Yields P (Gives a) = P a
Yields P (Faulty fault) = Unit {0}
Yields P (Counted what line w) = Yields P w

pub same_then : {A B : Type 0} (P : A → Type 0) (w : Walk A) (f g : A → Walk B) → Yields P w → ((a : A) → P a → f a ≡ g a) → and_then w f ≡ and_then w g
unfolding and_then Yields
same_then P (Gives a) f g y h = h a y
same_then P (Faulty fault) f g y h = refl
same_then P (Counted what line w) f g y h = ap (Counted what line) (same_then P w f g y h)

-- ---- numbers in range

abbrev pub IsFine : Option ℤ → Type 0
IsFine None = Unit {0}
IsFine (Some n) = IsInRange n

pub fine_find : (gens : Gens) (x : Name) → AreInRange gens → IsFine (find gens x)
fine_find [] x h = tt
fine_find (g ∷ gens) x h = elim (bytes_eq g.0 x) as (λ b. IsFine (if b then Some g.1 else find gens x)) [ true ↦ h.0 | false ↦ fine_find gens x h.1 ]

fine_without : (x : Name) (gens : Gens) → AreInRange gens → AreInRange (without x gens)
fine_without x [] h = tt
fine_without x (g ∷ gens) h = elim (bytes_eq g.0 x) as (λ b. AreInRange (if b then without x gens else g ∷ without x gens)) [ true ↦ fine_without x gens h.1 | false ↦ (h.0, fine_without x gens h.1) ]

pub fine_behind : (gens : Gens) (x : Name) (k : ℤ) → AreInRange gens → IsInRange k → AreInRange (gens ++ (x, k) ∷ [])
fine_behind [] x k h p = (p, tt)
fine_behind (g ∷ gens) x k h p = (h.0, fine_behind gens x k h.1 p)

pub fine_bound : (x : Name) (k : ℤ) (gens : Gens) → AreInRange gens → IsInRange k → AreInRange (bound x k gens)
fine_bound x k gens h p = fine_behind (without x gens) x k (fine_without x gens h) p

-- ---- a number in range, as a source writes it, has its number

ranged_in : (line : ℕ) (n : ℤ) → IsInRange n → ranged line n ≡ Gives n
ranged_in line n h = λ i. if h i then Gives n else Faulty (ElabRange line)

and_left : (a b : Bool) → a && b ≡ true → a ≡ true
and_left true b e = refl
and_left false b e = e

next_in : (n : ℕ) → IsInRange (negsuc n) → IsInRange (pos (suc n))
next_in n h = let p : n ≤ 4611686018427387903 = leb-true n 4611686018427387903 (and_left (nat_le n 4611686018427387903) true h) in le-leb (suc n) 4611686018427387904 (omega arith)

nothing_less : (n : ℕ) → pos 0 -ℤ pos (suc n) ≡ negsuc n
nothing_less n = grind (arith, ints)

pub written : (line : ℕ) (n : ℤ) → IsInRange n → number line [] (as_int n) ≡ Gives n
unfolding number and_then
written line (pos n) h = ranged_in line (pos n) h
written line (negsuc n) h = ap (λ w. and_then w (λ m. ranged line (pos 0 -ℤ m))) (ranged_in line (pos (suc n)) (next_in n h)) ∙ ap (ranged line) (nothing_less n) ∙ ranged_in line (negsuc n) h

-- ---- numbers, names, literals and expressions, with their names replaced

named_put : (line : ℕ) (x : Name) (o : Option ℤ) → IsFine o → named line x o ≡ number line [] (or_name o x)
unfolding number
named_put line x None h = refl
named_put line x (Some n) h = sym (written line n h)

pub number_put : (line : ℕ) (gens : Gens) (t : Int) → AreInRange gens → number line gens t ≡ number line [] (put (find gens) t)
unfolding number
number_put line gens (num n) h = refl
number_put line gens (var x) h = named_put line x (find gens x) (fine_find gens x h)
number_put line gens (bin op a b) h = ap₂ (λ v w. and_then v (λ m. and_then w (λ n. ranged line (apply_op op m n)))) (number_put line gens a h) (number_put line gens b h)

pub index_put : (line : ℕ) (gens : Gens) (x : Name) (o : Option Int) → AreInRange gens → index_name line gens x o ≡ index_name line [] x (option_map (put (find gens)) o)
unfolding index_name
index_put line gens x None h = refl
index_put line gens x (Some t) h = ap (λ w. and_then w (family line x)) (number_put line gens t h)

pub fam_put : (line : ℕ) (gens : Gens) (f : Fam) → AreInRange gens → fam_name line gens f ≡ fam_name line [] (put_fam (find gens) f)
fam_put line gens f h = index_put line gens f.name f.index h

pub two_put : (line : ℕ) (gens : Gens) (a b : Int) → AreInRange gens → two_numbers line gens a b ≡ two_numbers line [] (put (find gens) a) (put (find gens) b)
unfolding two_numbers
two_put line gens a b h = ap₂ (λ v w. and_then v (λ m. and_then w (λ n. Gives (m, n)))) (number_put line gens a h) (number_put line gens b h)

pub lit_put : (line : ℕ) (gens : Gens) (l : Lit) → AreInRange gens → literal line gens l ≡ literal line [] (put_lit (find gens) l)
unfolding literal
lit_put line gens (plain w v) h = refl
lit_put line gens (bits w v) h = ap (λ w. and_then w (λ pair. Gives (literal_of pair.0 pair.1))) (two_put line gens w v h)

pub expr_put : (line : ℕ) (gens : Gens) (e : tree.Expr) → AreInRange gens → expr line gens e ≡ expr line [] (put_expr (find gens) e)
unfolding expr
expr_put line gens (read f) h = ap (λ w. and_then (counts Parts line) (λ part. and_then w (λ x. Gives (Read x)))) (fam_put line gens f h)
expr_put line gens (out f q) h = ap (λ w. and_then (counts Parts line) (λ part. and_then w (λ x. Gives (Out x q)))) (fam_put line gens f h)
expr_put line gens (value l) h = ap (λ w. and_then (counts Parts line) (λ part. and_then w (λ v. Gives (Value v)))) (lit_put line gens l h)
expr_put line gens (unary o e) h = ap (λ w. and_then (counts Parts line) (λ part. and_then w (λ a. Gives (Unary (unary_of o) a)))) (expr_put line gens e h)
expr_put line gens (binary o e f) h = ap₂ (λ v w. and_then (counts Parts line) (λ part. and_then v (λ a. and_then w (λ b. Gives (Binary (binary_of o) a b))))) (expr_put line gens e h) (expr_put line gens f h)
expr_put line gens (mux e f g) h = λ i. and_then (counts Parts line) (λ part. and_then (expr_put line gens e h i) (λ c. and_then (expr_put line gens f h i) (λ a. and_then (expr_put line gens g h i) (λ b. Gives (Mux c a b)))))
expr_put line gens (zext e w) h = ap₂ (λ v w. and_then (counts Parts line) (λ part. and_then v (λ a. and_then w (λ n. Gives (Zext a n))))) (expr_put line gens e h) (number_put line gens w h)
expr_put line gens (slice e t l) h = ap₂ (λ v w. and_then (counts Parts line) (λ part. and_then v (λ a. and_then w (λ pair. Gives (Slice a pair.0 pair.1))))) (expr_put line gens e h) (two_put line gens t l h)

pub literals_put : (line : ℕ) (gens : Gens) (ls : List Lit) (made : List Literal) → AreInRange gens → literals line gens ls made ≡ literals line [] (map (put_lit (find gens)) ls) made
unfolding literals
literals_put line gens [] made h = refl
literals_put line gens (l ∷ ls) made h = λ i. and_then (counts Parts line) (λ part. and_then (lit_put line gens l h i) (λ v. literals_put line gens ls (made ++ v ∷ []) h i))

pub part_put : (line : ℕ) (gens : Gens) (p : Option (Int × Int)) → AreInRange gens → part_bounds line gens p ≡ part_bounds line [] (option_map (put_part (find gens)) p)
unfolding part_bounds
part_put line gens None h = refl
part_put line gens (Some p) h = ap (λ w. and_then w (λ pair. Gives (Some pair))) (two_put line gens p.0 p.1 h)

-- ---- two replacements, one after the other

abbrev pub or_then : Option ℤ → Option ℤ → Option ℤ
or_then (Some n) o = Some n
or_then None o = o

abbrev pub both : Numbers → Numbers → Numbers
both σ τ y = or_then (σ y) (τ y)

number_stays : (τ : Numbers) (n : ℤ) → put τ (as_int n) ≡ as_int n
number_stays τ (pos n) = refl
number_stays τ (negsuc n) = refl

name_twice : (τ : Numbers) (x : Name) (o : Option ℤ) → put τ (or_name o x) ≡ or_name (or_then o (τ x)) x
name_twice τ x None = refl
name_twice τ x (Some n) = number_stays τ n

pub put_twice : (σ τ : Numbers) (t : Int) → put τ (put σ t) ≡ put (both σ τ) t
put_twice σ τ (num n) = refl
put_twice σ τ (var x) = name_twice τ x (σ x)
put_twice σ τ (bin op a b) = ap₂ (bin op) (put_twice σ τ a) (put_twice σ τ b)

index_twice : (σ τ : Numbers) (o : Option Int) → option_map (put τ) (option_map (put σ) o) ≡ option_map (put (both σ τ)) o
index_twice σ τ None = refl
index_twice σ τ (Some t) = ap (λ s. Some s) (put_twice σ τ t)

pub fam_twice : (σ τ : Numbers) (f : Fam) → put_fam τ (put_fam σ f) ≡ put_fam (both σ τ) f
fam_twice σ τ f = λ i. record { name = f.name; index = index_twice σ τ f.index i }

pub lit_twice : (σ τ : Numbers) (l : Lit) → put_lit τ (put_lit σ l) ≡ put_lit (both σ τ) l
lit_twice σ τ (plain w v) = refl
lit_twice σ τ (bits w v) = ap₂ bits (put_twice σ τ w) (put_twice σ τ v)

pub expr_twice : (σ τ : Numbers) (e : tree.Expr) → put_expr τ (put_expr σ e) ≡ put_expr (both σ τ) e
expr_twice σ τ (read f) = ap (λ g. read g) (fam_twice σ τ f)
expr_twice σ τ (out f q) = ap (λ g. out g q) (fam_twice σ τ f)
expr_twice σ τ (value l) = ap (λ k. value k) (lit_twice σ τ l)
expr_twice σ τ (unary o e) = ap (λ k. unary o k) (expr_twice σ τ e)
expr_twice σ τ (binary o e f) = ap₂ (λ k l. binary o k l) (expr_twice σ τ e) (expr_twice σ τ f)
expr_twice σ τ (mux e f g) = λ i. mux (expr_twice σ τ e i) (expr_twice σ τ f i) (expr_twice σ τ g i)
expr_twice σ τ (zext e w) = ap₂ (λ k l. zext k l) (expr_twice σ τ e) (put_twice σ τ w)
expr_twice σ τ (slice e t l) = λ i. slice (expr_twice σ τ e i) (put_twice σ τ t i) (put_twice σ τ l i)

literals_twice : (σ τ : Numbers) (ls : List Lit) → map (put_lit τ) (map (put_lit σ) ls) ≡ map (put_lit (both σ τ)) ls
literals_twice σ τ [] = refl
literals_twice σ τ (l ∷ ls) = ap₂ (λ a b. a ∷ b) (lit_twice σ τ l) (literals_twice σ τ ls)

part_twice : (σ τ : Numbers) (p : Option (Int × Int)) → option_map (put_part τ) (option_map (put_part σ) p) ≡ option_map (put_part (both σ τ)) p
part_twice σ τ None = refl
part_twice σ τ (Some p) = λ i. Some (put_twice σ τ p.0 i, put_twice σ τ p.1 i)

but_at : (b : Bool) (o p : Option ℤ) → or_then (if b then None else o) (if b then None else p) ≡ (if b then None else or_then o p)
but_at true o p = refl
but_at false o p = refl

pub but_both : (x : Name) (σ τ : Numbers) → both (but x σ) (but x τ) ≡ but x (both σ τ)
but_both x σ τ = λ i y. but_at (bytes_eq x y) (σ y) (τ y) i

mutual
  unfolding put_stmt

  stmt_twice : (σ τ : Numbers) (s : tree.Stmt) → put_stmt τ (put_stmt σ s) ≡ put_stmt (both σ τ) s
  stmt_twice σ τ (assign line f p e) = λ i. assign line (fam_twice σ τ f i) (part_twice σ τ p i) (expr_twice σ τ e i)
  stmt_twice σ τ (bind line f e) = ap₂ (λ g k. bind line g k) (fam_twice σ τ f) (expr_twice σ τ e)
  stmt_twice σ τ (choose line c first second) = λ i. choose line (expr_twice σ τ c i) (stmts_twice σ τ first i) (else_twice σ τ second i)
  stmt_twice σ τ (select line v cases other) = λ i. select line (expr_twice σ τ v i) (arms_twice σ τ cases i) (else_twice σ τ other i)
  stmt_twice σ τ (repeat line x from to body) = λ i. repeat line x (put_twice σ τ from i) (put_twice σ τ to i) ((stmts_twice (but x σ) (but x τ) body ∙ ap (λ ρ. put_stmts ρ body) (but_both x σ τ)) i)
  stmt_twice σ τ (given line left c right first second) = λ i. given line (put_twice σ τ left i) c (put_twice σ τ right i) (stmts_twice σ τ first i) (else_twice σ τ second i)

  arms_twice : (σ τ : Numbers) (cases : tree.Arms) → put_arms τ (put_arms σ cases) ≡ put_arms (both σ τ) cases
  arms_twice σ τ no_arm = refl
  arms_twice σ τ (arm tests body more) = λ i. arm (literals_twice σ τ tests i) (stmts_twice σ τ body i) (arms_twice σ τ more i)

  pub stmts_twice : (σ τ : Numbers) (body : Stmts) → put_stmts τ (put_stmts σ body) ≡ put_stmts (both σ τ) body
  stmts_twice σ τ no_stmt = refl
  stmts_twice σ τ (stmt s rest) = ap₂ stmt (stmt_twice σ τ s) (stmts_twice σ τ rest)

  else_twice : (σ τ : Numbers) (e : tree.Else) → put_else τ (put_else σ e) ≡ put_else (both σ τ) e
  else_twice σ τ no_else = refl
  else_twice σ τ (otherwise body) = ap (λ b. otherwise b) (stmts_twice σ τ body)

-- ---- a name that is bound, hiding an outer one

at_first : (b c : Bool) (n : ℤ) (o q : Option ℤ) → b ≡ c → or_then (if c then None else (if b then Some n else o)) q ≡ or_then (if c then None else o) q
at_first true true n o q e = refl
at_first false false n o q e = refl
at_first true false n o q e = absurd (cc)
at_first false true n o q e = absurd (cc)

at_other : (b c : Bool) (n : ℤ) (o q r : Option ℤ) → (b ≡ true → c ≡ false) → or_then (if c then None else o) q ≡ r → or_then (if c then None else (if b then Some n else o)) q ≡ (if b then Some n else r)
at_other false c n o q r h e = e
at_other true c n o q r h e = rw (h refl) refl

bound_at : (x : Name) (k : ℤ) (gens : Gens) (y : Name) → or_then (but x (find gens) y) (only_this x k y) ≡ find (bound x k gens) y
bound_at x k [] y = elim (bytes_eq x y) as (λ b. or_then (if b then None else None) (if b then Some k else None) ≡ (if b then Some k else None)) [ true ↦ refl | false ↦ refl ]
bound_at x k (g ∷ gens) y =
    let P : Bool → Type 0 = λ a. bytes_eq g.0 x ≡ a → or_then (but x (find (g ∷ gens)) y) (only_this x k y) ≡ find ((if a then without x gens else g ∷ without x gens) ++ (x, k) ∷ []) y in
    let q : P (bytes_eq g.0 x) = elim (bytes_eq g.0 x) as P [
      | true ↦ λ e. at_first (bytes_eq g.0 y) (bytes_eq x y) g.1 (find gens y) (only_this x k y) (ap (λ z. bytes_eq z y) ((bytes_eq-Decides g.0 x).0 e)) ∙ bound_at x k gens y
      | false ↦ λ e. at_other (bytes_eq g.0 y) (bytes_eq x y) g.1 (find gens y) (only_this x k y) (find (bound x k gens) y) (λ h. apart g.0 x y e h (bytes_eq x y) refl) (bound_at x k gens y)
    ] in q refl
  where
    apart : (u v w : Name) → bytes_eq u v ≡ false → bytes_eq u w ≡ true → (c : Bool) → bytes_eq v w ≡ c → c ≡ false
    apart u v w e h false p = refl
    apart u v w e h true p =
        let same : u ≡ v = (bytes_eq-Decides u w).0 h ∙ sym ((bytes_eq-Decides v w).0 p) in
        let yes' : bytes_eq u v ≡ true = (bytes_eq-Decides u v).1 same in absurd (cc)

pub bound_find : (x : Name) (k : ℤ) (gens : Gens) → both (but x (find gens)) (only_this x k) ≡ find (bound x k gens)
bound_find x k gens = λ i y. bound_at x k gens y i

pub turn_twice : (x : Name) (k : ℤ) (gens : Gens) (body : Stmts) → put_stmts (only_this x k) (put_stmts (but x (find gens)) body) ≡ put_stmts (find (bound x k gens)) body
turn_twice x k gens body = stmts_twice (but x (find gens)) (only_this x k) body ∙ ap (λ σ. put_stmts σ body) (bound_find x k gens)

-- ---- what walks yield

pub yields_then : {A B : Type 0} (P : A → Type 0) (Q : B → Type 0) (w : Walk A) (f : A → Walk B) → Yields P w → ((a : A) → P a → Yields Q (f a)) → Yields Q (and_then w f)
unfolding and_then Yields
yields_then P Q (Gives a) f y h = h a y
yields_then P Q (Faulty fault) f y h = tt
yields_then P Q (Counted what line w) f y h = yields_then P Q w f y h

pub ranged_yields : (line : ℕ) (n : ℤ) → Yields IsInRange (ranged line n)
unfolding Yields
ranged_yields line n = in_case (in_range n) refl
  where
    in_case : (b : Bool) → in_range n ≡ b → Yields IsInRange (if b then Gives n else Faulty (ElabRange line))
    in_case true e = e
    in_case false e = tt

named_yields : (line : ℕ) (x : Name) (o : Option ℤ) → IsFine o → Yields IsInRange (named line x o)
unfolding Yields
named_yields line x None h = tt
named_yields line x (Some n) h = h

anything : {A : Type 0} → A → Type 0
anything a = Unit {0}

pub number_yields : (line : ℕ) (gens : Gens) (t : Int) → AreInRange gens → Yields IsInRange (number line gens t)
unfolding number
number_yields line gens (num n) h = ranged_yields line (pos n)
number_yields line gens (var x) h = named_yields line x (find gens x) (fine_find gens x h)
number_yields line gens (bin op a b) h =
    yields_then IsInRange IsInRange (number line gens a) (λ m. and_then (number line gens b) (λ n. ranged line (apply_op op m n))) (number_yields line gens a h)
    (λ m p. yields_then IsInRange IsInRange (number line gens b) (λ n. ranged line (apply_op op m n)) (number_yields line gens b h) (λ n q. ranged_yields line (apply_op op m n)))

abbrev pub Both : ℤ × ℤ → Type 0
Both pair = IsInRange pair.0 × IsInRange pair.1

pub two_yields : (line : ℕ) (gens : Gens) (a b : Int) → AreInRange gens → Yields Both (two_numbers line gens a b)
unfolding two_numbers Yields
two_yields line gens a b h =
    yields_then IsInRange Both (number line gens a) (λ m. and_then (number line gens b) (λ n. Gives (m, n))) (number_yields line gens a h)
    (λ m p. yields_then IsInRange Both (number line gens b) (λ n. Gives (m, n)) (number_yields line gens b h) (λ n q. (p, q)))

-- ---- the turns of a loop have numbers in range

is_true : (b : Bool) → T b → b ≡ true
is_true true t = refl
is_true false t = elim t [ ]

as_test : (b : Bool) → b ≡ true → T b
as_test b e = subst (λ c. T c) (sym e) tt

and_right : (a b : Bool) → a && b ≡ true → b ≡ true
and_right true b e = e
and_right false b e = absurd (cc)

both_true : (a b : Bool) → a ≡ true → b ≡ true → a && b ≡ true
both_true a b e f = rw e f

abbrev lowest : ℤ
lowest = negsuc 4611686018427387903

abbrev highest : ℤ
highest = pos 4611686018427387904

above_lowest : (n : ℤ) → IsInRange n → lowest ≤ℤ n
above_lowest n h = le_z_yes (as_test (int_le lowest n) (and_left (int_le lowest n) (int_le n highest) h))

below_highest : (n : ℤ) → IsInRange n → n ≤ℤ highest
below_highest n h = le_z_yes (as_test (int_le n highest) (and_right (int_le lowest n) (int_le n highest) h))

between : (n : ℤ) → lowest ≤ℤ n → n ≤ℤ highest → IsInRange n
between n l h = both_true (int_le lowest n) (int_le n highest) (is_true (int_le lowest n) l.le) (is_true (int_le n highest) h.le)

turn_in : (from to : ℤ) (n i : ℕ) → IsInRange from → IsInRange to → to -ℤ from ≡ pos n → i < n → IsInRange (from +ℤ pos i)
turn_in from to n i p q e h =
    let a : lowest ≤ℤ from = above_lowest from p in
    let b : to ≤ℤ highest = below_highest to q in
    between (from +ℤ pos i) (omega (arith, ints)) (omega (arith, ints))

pub turn_fine : (from to : ℤ) (i : ℕ) → IsInRange from → IsInRange to → i < turns_of (to -ℤ from) → IsInRange (from +ℤ pos i)
turn_fine from to i p q h = by_sign (to -ℤ from) refl h
  where
    by_sign : (d : ℤ) → to -ℤ from ≡ d → i < turns_of d → IsInRange (from +ℤ pos i)
    by_sign (pos n) e k = turn_in from to n i p q e k
    by_sign (negsuc n) e k = absurd (omega arith)

pub same_turns : {A : Type 0} (line : ℕ) (f g : ℤ → A → Walk A) (k : ℤ) (count : ℕ) (made : A) → ((i : ℕ) → i < count → (m : A) → f (k +ℤ pos i) m ≡ g (k +ℤ pos i) m) → turns line f k count made ≡ turns line g k count made
unfolding turns
same_turns line f g k zero made h = refl
same_turns line f g k (suc count) made h =
    let first : f k made ≡ g k made = subst (λ z. f z made ≡ g z made) (stays k) (h 0 (omega arith) made) in
    λ j. and_then (counts Turns line) (λ turn. and_then (first j) (λ more. same_turns line f g (k +ℤ pos 1) count more (λ i l m. subst (λ z. f z m ≡ g z m) (later k i) (h (suc i) (omega arith) m)) j))
  where
    stays : (k : ℤ) → k +ℤ pos 0 ≡ k
    stays k = grind (arith, ints)

    later : (k : ℤ) (i : ℕ) → k +ℤ pos (suc i) ≡ (k +ℤ pos 1) +ℤ pos i
    later k i = grind (arith, ints)

-- ---- statements, where the turns of their loops are known to agree

abbrev Below : ℕ → Type 0
Below d = (body : Stmts) (gens : Gens) (made : Body) → AreInRange gens → loops_stmts body < d → statements body gens made ≡ closed_body d gens (put_stmts (find gens) body) made

module _ (d : ℕ) (inner : Below d) where
  one_turn : (x : Name) (k : ℤ) (body : Stmts) (gens : Gens) (made : Body) → AreInRange gens → IsInRange k → loops_stmts body < d → statements body (bound x k gens) made ≡ closed_body d (bound x k gens) (put_stmts (only_this x k) (put_stmts (but x (find gens)) body)) made
  one_turn x k body gens made h p l = inner body (bound x k gens) made (fine_bound x k gens h p) l ∙ ap (λ b. closed_body d (bound x k gens) b made) (sym (turn_twice x k gens body))

  abbrev open_turn : Name → Stmts → Gens → ℤ → Body → Walk Body
  open_turn x body gens k more = statements body (bound x k gens) more

  abbrev closed_turn : Name → Stmts → Gens → ℤ → Body → Walk Body
  closed_turn x body gens k more = closed_body d (bound x k gens) (put_stmts (only_this x k) (put_stmts (but x (find gens)) body)) more

  some_turns : (line : ℕ) (x : Name) (body : Stmts) (gens : Gens) (made : Body) (from : ℤ) (count : ℕ) → AreInRange gens → loops_stmts body < d → ((i : ℕ) → i < count → IsInRange (from +ℤ pos i)) → turns line (open_turn x body gens) from count made ≡ turns line (closed_turn x body gens) from count made
  some_turns line x body gens made from count h l p = same_turns line (open_turn x body gens) (closed_turn x body gens) from count made (λ i k m. one_turn x (from +ℤ pos i) body gens m h (p i k) l)

  all_turns : (line : ℕ) (x : Name) (body : Stmts) (gens : Gens) (made : Body) (range : ℤ × ℤ) → AreInRange gens → loops_stmts body < d → Both range →
      and_then (turn_count line range.0 range.1) (λ count. turns line (open_turn x body gens) range.0 count made) ≡ and_then (turn_count line range.0 range.1) (λ count. turns line (closed_turn x body gens) range.0 count made)
  unfolding and_then
  all_turns line x body gens made range h l p = in_case (nat_le (turns_of (range.1 -ℤ range.0)) 4096)
    where
      in_case : (b : Bool) → and_then (if b then Gives (turns_of (range.1 -ℤ range.0)) else Faulty (ElabRange line)) (λ count. turns line (open_turn x body gens) range.0 count made) ≡ and_then (if b then Gives (turns_of (range.1 -ℤ range.0)) else Faulty (ElabRange line)) (λ count. turns line (closed_turn x body gens) range.0 count made)
      in_case true = some_turns line x body gens made range.0 (turns_of (range.1 -ℤ range.0)) h l (λ i k. turn_fine range.0 range.1 i p.0 p.1 k)
      in_case false = refl

  mutual
    unfolding statement closed_stmt put_stmt loops_stmt

    stmt_level : (s : tree.Stmt) (gens : Gens) (made : Body) → AreInRange gens → loops_stmt s ≤ d → statement s gens made ≡ closed_stmt (closed_body d) gens (put_stmt (find gens) s) made
    stmt_level (assign line f p e) gens made h l =
        λ j. and_then (counts Statements line) (λ u. and_then (fam_put line gens f h j) (λ x. and_then (part_put line gens p h j) (λ part. and_then (expr_put line gens e h j) (λ y. Gives (added made (Assign 0 line gens x part y))))))
    stmt_level (bind line f e) gens made h l = ap₂ (λ v w. and_then (counts Statements line) (λ u. and_then v (λ x. and_then w (λ y. Gives (added made (Let 0 line gens x y)))))) (fam_put line gens f h) (expr_put line gens e h)
    stmt_level (choose line c first second) gens made h l =
        let m : loops_stmts first ≤ d = omega arith in
        let n : loops_else second ≤ d = omega arith in
        λ j. and_then (counts Statements line) (λ u. and_then (expr_put line gens c h j) (λ test. and_then (stmts_level first gens Done h m j) (λ yes_body. and_then (else_level second gens h n j) (λ no_body. Gives (added made (If 0 line gens test yes_body no_body))))))
    stmt_level (select line v cases other) gens made h l =
        let m : loops_arms cases ≤ d = omega arith in
        let n : loops_else other ≤ d = omega arith in
        λ j. and_then (counts Statements line) (λ u. and_then (expr_put line gens v h j) (λ chosen. and_then (arms_level line cases gens [] h m j) (λ all. and_then (else_level other gens h n j) (λ last. Gives (added made (Case 0 line gens chosen (arms_from all) last))))))
    stmt_level (repeat line x from to body) gens made h l =
        let m : loops_stmts body < d = omega arith in
        same_then Both (two_numbers line gens from to) _ _ (two_yields line gens from to h) (λ range p. all_turns line x body gens made range h m p)
        ∙ ap (λ w. and_then w (λ range. and_then (turn_count line range.0 range.1) (λ count. turns line (closed_turn x body gens) range.0 count made))) (two_put line gens from to h)
    stmt_level (given line left c right first second) gens made h l =
        let m : loops_stmts first ≤ d = omega arith in
        let n : loops_else second ≤ d = omega arith in
        λ j. and_then (two_put line gens left right h j) (λ pair. if holds c pair.0 pair.1 then stmts_level first gens made h m j else else_stmts_level second gens made h n j)

    pub stmts_level : (body : Stmts) (gens : Gens) (made : Body) → AreInRange gens → loops_stmts body ≤ d → statements body gens made ≡ closed_stmts (closed_body d) gens (put_stmts (find gens) body) made
    stmts_level no_stmt gens made h l = refl
    stmts_level (stmt s rest) gens made h l =
        let m : loops_stmt s ≤ d = omega arith in
        let n : loops_stmts rest ≤ d = omega arith in
        λ j. and_then (stmt_level s gens made h m j) (λ more. stmts_level rest gens more h n j)

    arms_level : (line : ℕ) (cases : tree.Arms) (gens : Gens) (made : List (List Literal × Body)) → AreInRange gens → loops_arms cases ≤ d
        → arm_bodies line cases gens made ≡ closed_arms (closed_body d) line gens (put_arms (find gens) cases) made
    arms_level line no_arm gens made h l = refl
    arms_level line (arm tests body more) gens made h l =
        let m : loops_stmts body ≤ d = omega arith in
        let n : loops_arms more ≤ d = omega arith in
        λ j. and_then (literals_put line gens tests [] h j) (λ ls. and_then (stmts_level body gens Done h m j) (λ b. arms_level line more gens (made ++ (ls, b) ∷ []) h n j))

    else_level : (e : tree.Else) (gens : Gens) → AreInRange gens → loops_else e ≤ d → else_body e gens ≡ closed_else (closed_body d) gens (put_else (find gens) e)
    else_level no_else gens h l = refl
    else_level (otherwise body) gens h l =
        let m : loops_stmts body ≤ d = omega arith in
        ap (λ w. and_then w (λ made. Gives (Otherwise made))) (stmts_level body gens Done h m)

    else_stmts_level : (e : tree.Else) (gens : Gens) (made : Body) → AreInRange gens → loops_else e ≤ d → else_statements e gens made ≡ closed_else_stmts (closed_body d) gens (put_else (find gens) e) made
    else_stmts_level no_else gens made h l = refl
    else_stmts_level (otherwise body) gens made h l = stmts_level body gens made h l

-- names in a list are names replaced
pub body_put : (d : ℕ) (body : Stmts) (gens : Gens) (made : Body) → AreInRange gens → loops_stmts body < d → statements body gens made ≡ closed_body d gens (put_stmts (find gens) body) made
unfolding closed_body
body_put zero body gens made h l = absurd (omega arith)
body_put (suc d) body gens made h l = stmts_level d (body_put d) body gens made h (omega arith)
