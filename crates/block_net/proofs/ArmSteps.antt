-- The arms of a `case`: the keys of each with all that comes after it, the walk through them, and how their ends are joined.
use Rattle.std.proofs.Common.{◌≡◌, ℕ, zero, suc, ◌+◌, ◌-◌, ◌<◌, ◌≤◌, Bool, true, false, ◌||◌, List, [], ◌∷◌, ◌++◌, map, length, take, drop, reverse, get_or, Option, Some, Vec, Global, append_assoc, append-nil, refl, sym, ap, ◌∙◌, subst, arith}
use Rattle.std.proofs.lemmas.List.{drop_more, length-append, reverse-append, take_all}
use Rattle.std.proofs.Math.ListN.{drop_of_length-le}
use Rattle.bv_core.specs.Value.{Bits}
use Rattle.bv_core.specs.Operators.{flag_of}
use Rattle.bv_core.specs.declared.operators.Op2.TheVariants as op2
use Rattle.tree_core.specs.Tree.{Tree, Const, Two}
use Rattle.exec_core.specs.Block as blocks
use Rattle.exec_core.specs.Block.{Name, Key, Body, Done, body_assigns}
use Rattle.exec_core.specs.Cases.{Arm, or_else_is, test_of, arms_body, case_of}
use Rattle.exec_core.specs.Exec.{Env, State, on_two, shown}
use Rattle.exec_core.specs.Trees.{Row, tree_in, then_enable, else_enable, merged, rows, body_rows, trees_after, body_trees_after}
use Rattle.design_core.specs.declared.expr.Literal.{Literal}
use Rattle.design_core.specs.declared.statement.Arm as code_arm
use Rattle.design_core.specs.declared.statement.Stmt as code_stmt
use Rattle.design_exec.specs.Processes.{value_of}
use Rattle.block_net.specs.declared.arms.ArmEnd.{ArmEnd}
use Rattle.block_net.specs.declared.bindings.Binding.{Binding}
use Rattle.block_net.specs.declared.key.Key as code_key
use Rattle.block_net.specs.declared.order.Order.{Order}
use Rattle.block_net.specs.declared.term.Term.{Term}
use Rattle.block_net.specs.declared.term.TermId.{TermId}
use Rattle.block_net.specs.declared.walk.Walk.{Walk}
use Rattle.block_net.specs.Arms.{AllEnd, ArmEnds, AreCounts, IsOrder}
use Rattle.block_net.specs.Cases.{arm_test, arms_after, arms_assign, arms_rows, literal_is, or_literals}
use Rattle.block_net.specs.Parts.{ArmsFit, BodyFits, StmtFits}
use Rattle.block_net.specs.Source.{arm_in, arms_in, body_in, else_in, stmt_in}
use Rattle.block_net.specs.Terms.{IsWithin, Extends, Stands, tree_for}
use Rattle.block_net.specs.Walks.{Bind, Chooses, Cover, Fits, Grown, HaveTerms, SetsAll, Shows, Through, ThroughStmt, Walked, among, chosen, either, keys_of, overlay, state_of}
use Rattle.block_net.specs.Ways.{EndsHaveTerms, JoinsArm, JoinsArms, ThroughArms, ThroughBoth, ThroughCase, case_after, case_rows}
use Rattle.block_net.proofs.TermLists.{stands_as, stands_more, tree_more, within_more, extends_twice}
use Rattle.block_net.proofs.WalkSteps.{grown_walked, grown_none, walked_as, walked_shows, walked_twice}
use Rattle.block_net.proofs.BindSteps.{bind_more, bind_have, have_more}
use Rattle.block_net.proofs.BodySteps.{arms_assigned, arms_end, arms_length, arms_split, body_split}
use Rattle.block_net.proofs.Branches.{Comes, joined, or_parts, untouched}

never_cons : {X : Type 0} (x : X) (xs : List X) → [] ≡ x ∷ xs → ⊥
never_cons x xs e = cc

-- ---- the keys of arms

take_front : {X : Type 0} (n : ℕ) (xs ys : List X) → n ≤ length xs → take n (xs ++ ys) ≡ take n xs
take_front zero xs ys h = refl
take_front (suc n) [] ys h = absurd (omega (arith, h))
take_front (suc n) (x ∷ xs) ys h = ap (λ l. x ∷ l) (take_front n xs ys (omega (arith, h)))

counts_more : (keys more : List code_key.Key) (arms : List Arm) (other : Body) (counts : List ℕ) → AreCounts keys arms other counts → AreCounts (keys ++ more) arms other counts
counts_more keys more [] other [] h = tt
counts_more keys more [] other (n ∷ counts) h = h
counts_more keys more (arm ∷ arms) other [] h = h
counts_more keys more (arm ∷ arms) other (n ∷ counts) h =
    (omega (arith, h.0, length-append keys more), ap among (take_front n keys more h.0) ∙ h.1, counts_more keys more arms other counts h.2)

or_flip : (a b : Bool) → (a || b) ≡ (b || a)
or_flip true true = refl
or_flip true false = refl
or_flip false true = refl
or_flip false false = refl

-- one arm more, which stands before those so far
pub counts_next : (clocked : Bool) (arms : List code_arm.Arm) (other : Body) (i : ℕ) (a : code_arm.Arm) (old new more : List code_key.Key) (counts all : List ℕ) → i < length arms → a ≡ get_or arms i a → new ≡ old ++ more
    → among new ≡ either (among old) (body_assigns (body_in clocked a.body.items)) → among old ≡ arms_assign (arms_in clocked (drop (i + 1) arms)) other → all ≡ length new ∷ counts
    → AreCounts old (arms_in clocked (drop (i + 1) arms)) other counts → AreCounts new (arms_in clocked (drop i arms)) other all
counts_next clocked arms other i a old new more counts all inside at longer keys was is h =
    subst (λ l. AreCounts new l other all) (sym (arms_split clocked arms i a inside at))
    (subst (AreCounts new (arm_in clocked a ∷ arms_in clocked (drop (i + 1) arms)) other) (sym is)
    (omega arith, ap among (take_all (length new) new (omega arith)) ∙ both, subst (λ k. AreCounts k (arms_in clocked (drop (i + 1) arms)) other counts) (sym longer) (counts_more old more (arms_in clocked (drop (i + 1) arms)) other counts h)))
  where
    both : among new ≡ arms_assign (arm_in clocked a ∷ arms_in clocked (drop (i + 1) arms)) other
    both = keys ∙ (λ j y. or_flip (was j y) (body_assigns (body_in clocked a.body.items) y) j)

pub keys_next : (clocked : Bool) (arms : List code_arm.Arm) (other : Body) (i : ℕ) (a : code_arm.Arm) (old new : List code_key.Key) → i < length arms → a ≡ get_or arms i a
    → among new ≡ either (among old) (body_assigns (body_in clocked a.body.items)) → among old ≡ arms_assign (arms_in clocked (drop (i + 1) arms)) other → among new ≡ arms_assign (arms_in clocked (drop i arms)) other
keys_next clocked arms other i a old new inside at keys was =
    keys ∙ (λ j y. or_flip (was j y) (body_assigns (body_in clocked a.body.items) y) j) ∙ ap (λ l. arms_assign l other) (sym (arms_split clocked arms i a inside at))

-- the keys behind the last arm; and one arm more, in the order in which the walk counts them
pub keys_start : (clocked : Bool) (arms : List code_arm.Arm) (other : Body) (n : ℕ) (old new : List code_key.Key) → old ≡ [] → length arms ≤ n → among new ≡ either (among old) (body_assigns other) → among new ≡ arms_assign (arms_in clocked (drop n arms)) other
keys_start clocked arms other n old new none past is = is ∙ ap (λ l. either (among l) (body_assigns other)) none ∙ ap (λ l. arms_assign l other) (sym (arms_end clocked arms n past))

pub counts_start : (clocked : Bool) (arms : List code_arm.Arm) (other : Body) (n : ℕ) (keys : List code_key.Key) (counts : List ℕ) → counts ≡ [] → length arms ≤ n → AreCounts keys (arms_in clocked (drop n arms)) other (reverse counts)
counts_start clocked arms other n keys counts none past =
    subst (λ l. AreCounts keys l other (reverse counts)) (sym (arms_end clocked arms n past)) (subst (λ l. AreCounts keys [] other (reverse l)) (sym none) tt)

pub keys_back : (clocked : Bool) (arms : List code_arm.Arm) (other : Body) (left i : ℕ) (a : code_arm.Arm) (old new : List code_key.Key) → left ≡ i + 1 → i < length arms → a ≡ get_or arms i a
    → among new ≡ either (among old) (body_assigns (body_in clocked a.body.items)) → among old ≡ arms_assign (arms_in clocked (drop left arms)) other → among new ≡ arms_assign (arms_in clocked (drop i arms)) other
keys_back clocked arms other left i a old new after inside at keys was = keys_next clocked arms other i a old new inside at keys (was ∙ ap (λ n. arms_assign (arms_in clocked (drop n arms)) other) after)

pub counts_back : (clocked : Bool) (arms : List code_arm.Arm) (other : Body) (left i n : ℕ) (a : code_arm.Arm) (old new more : List code_key.Key) (counts all : List ℕ) → left ≡ i + 1 → i < length arms → a ≡ get_or arms i a → new ≡ old ++ more
    → among new ≡ either (among old) (body_assigns (body_in clocked a.body.items)) → among old ≡ arms_assign (arms_in clocked (drop left arms)) other → n ≡ length new → all ≡ counts ++ n ∷ []
    → AreCounts old (arms_in clocked (drop left arms)) other (reverse counts) → AreCounts new (arms_in clocked (drop i arms)) other (reverse all)
counts_back clocked arms other left i n a old new more counts all after inside at longer keys was count is h =
    counts_next clocked arms other i a old new more (reverse counts) (reverse all) inside at longer keys (was ∙ ap (λ n. arms_assign (arms_in clocked (drop n arms)) other) after)
    (ap reverse is ∙ reverse-append counts (n ∷ []) ∙ ap (λ m. m ∷ reverse counts) count) (subst (λ n. AreCounts old (arms_in clocked (drop n arms)) other (reverse counts)) after h)

counts_length : (keys : List code_key.Key) (arms : List Arm) (other : Body) (counts : List ℕ) → AreCounts keys arms other counts → length counts ≡ length arms
counts_length keys [] other [] h = refl
counts_length keys [] other (n ∷ counts) h = absurd h
counts_length keys (arm ∷ arms) other [] h = absurd h
counts_length keys (arm ∷ arms) other (n ∷ counts) h = ap suc (counts_length keys arms other counts h.2)

-- those of the arm at a place
pub record CountAt (keys : List code_key.Key) (counts : List ℕ) (k : ℕ) (arm : Arm) (rest : List Arm) (other : Body) : Type 0 where
  pub inside : k < length counts
  pub most : get_or counts k 0 ≤ length keys
  pub are : among (take (get_or counts k 0) keys) ≡ arms_assign (arm ∷ rest) other

pub count_at : (keys : List code_key.Key) (arms : List Arm) (other : Body) (counts : List ℕ) (k : ℕ) (arm : Arm) (rest : List Arm) → drop k arms ≡ arm ∷ rest → AreCounts keys arms other counts → CountAt keys counts k arm rest other
count_at keys [] other counts zero arm rest at h = absurd (never_cons arm rest at)
count_at keys [] other counts (suc k) arm rest at h = absurd (never_cons arm rest at)
count_at keys (a ∷ arms) other [] k arm rest at h = absurd h
count_at keys (a ∷ arms) other (n ∷ counts) zero arm rest at h = record { inside = omega arith; most = h.0; are = h.1 ∙ ap (λ l. arms_assign l other) at }
count_at keys (a ∷ arms) other (n ∷ counts) (suc k) arm rest at h =
    let c = count_at keys arms other counts k arm rest at h.2 in record { inside = omega (arith, c.inside); most = c.most; are = c.are }

pub drop_arms : (clocked : Bool) (arms : List code_arm.Arm) (k : ℕ) → drop k (arms_in clocked arms) ≡ arms_in clocked (drop k arms)
drop_arms clocked arms zero = refl
drop_arms clocked [] (suc k) = refl
drop_arms clocked (a ∷ arms) (suc k) = drop_arms clocked arms k

pub drop_split : (clocked : Bool) (arms : List code_arm.Arm) (k : ℕ) (a : code_arm.Arm) → k < length arms → a ≡ get_or arms k a → drop k (arms_in clocked arms) ≡ arm_in clocked a ∷ arms_in clocked (drop (k + 1) arms)
drop_split clocked arms k a inside at = drop_arms clocked arms k ∙ arms_split clocked arms k a inside at

pub order_at : (clocked : Bool) (arms : List code_arm.Arm) (other : Body) (o : Order) (k n : ℕ) (a : code_arm.Arm) → IsOrder (arms_in clocked arms) other o → k < length arms → a ≡ get_or arms k a → n ≡ k
    → CountAt o.keys.items o.counts.items n (arm_in clocked a) (arms_in clocked (drop (k + 1) arms)) other
order_at clocked arms other o k n a h inside at same =
    subst (λ m. CountAt o.keys.items o.counts.items m (arm_in clocked a) (arms_in clocked (drop (k + 1) arms)) other) (sym same)
    (count_at o.keys.items (arms_in clocked arms) other o.counts.items k (arm_in clocked a) (arms_in clocked (drop (k + 1) arms)) (drop_split clocked arms k a inside at) h)

-- the keys of an arm and of what comes after it cover those of the arm
pub arm_covered : (keys : List code_key.Key) (arm : Arm) (rest : List Arm) (other : Body) → among keys ≡ arms_assign (arm ∷ rest) other → Cover keys arm.body
arm_covered keys arm rest other is y off = (or_parts (body_assigns arm.body y) (arms_assign rest other y) (sym (ap (λ (f : Key → Bool). f y) is) ∙ off)).0

-- ---- parts in arms

pub arm_fits : (arms : List Arm) (k : ℕ) (arm : Arm) (rest : List Arm) → drop k arms ≡ arm ∷ rest → ArmsFit arms → BodyFits arm.body
arm_fits [] zero arm rest at h = absurd (never_cons arm rest at)
arm_fits [] (suc k) arm rest at h = absurd (never_cons arm rest at)
arm_fits (a ∷ arms) zero arm rest at h = (subst ArmsFit at h).0
arm_fits (a ∷ arms) (suc k) arm rest at h = arm_fits arms k arm rest at h.1

pub arm_fits_at : (clocked : Bool) (arms : List code_arm.Arm) (k : ℕ) (a : code_arm.Arm) → k < length arms → a ≡ get_or arms k a → ArmsFit (arms_in clocked arms) → BodyFits (arm_in clocked a).body
arm_fits_at clocked arms k a inside at h = arm_fits (arms_in clocked arms) k (arm_in clocked a) (arms_in clocked (drop (k + 1) arms)) (drop_split clocked arms k a inside at) h

pub parts_next : (clocked : Bool) (stmts : List code_stmt.Stmt) (i : ℕ) (s : code_stmt.Stmt) → i < length stmts → s ≡ get_or stmts i s → BodyFits (body_in clocked (drop i stmts)) → StmtFits (stmt_in clocked s) × BodyFits (body_in clocked (drop (i + 1) stmts))
parts_next clocked stmts i s inside at h = subst BodyFits (body_split clocked stmts i s inside at) h

pub some_fits : (clocked : Bool) (rest : Option (Vec code_stmt.Stmt Global)) (v : Vec code_stmt.Stmt Global) (items : List code_stmt.Stmt) → rest ≡ Some v → items ≡ v.items → BodyFits (else_in clocked rest) → BodyFits (body_in clocked items)
some_fits clocked rest v items is same h = subst (λ l. BodyFits (body_in clocked l)) (sym same) (subst (λ (r : Option (Vec code_stmt.Stmt Global)). BodyFits (else_in clocked r)) is h)

-- those of nested `if`s are those of a `case`
arms_body_fits : (value : blocks.Expr) (arms : List Arm) (other : Body) → BodyFits (arms_body value arms other) → ArmsFit arms × BodyFits other
arms_body_fits value [] other h = (tt, h)
arms_body_fits value (arm ∷ arms) other h = let rest = arms_body_fits value arms other h.0.1 in ((h.0.0, rest.0), rest.1)

pub case_fits : (slot : ℕ) (value : blocks.Expr) (arms : List Arm) (other : Body) → StmtFits (case_of slot value arms other) → ArmsFit arms × BodyFits other
case_fits slot value [] other h = (tt, h.1)
case_fits slot value (arm ∷ arms) other h = let rest = arms_body_fits value arms other h.1 in ((h.0, rest.0), rest.1)

-- ---- the condition of an arm

or_tests : (test value : blocks.Expr) (env : Env (Tree Name)) (ls : List Bits) → tree_in (or_else_is test value ls) env ≡ or_literals (tree_in test env) (tree_in value env) ls
or_tests test value env [] = refl
or_tests test value env (l ∷ ls) = or_tests (Two op2.Or test (Two op2.Eq value (Const l))) value env ls

pub test_is : (value : blocks.Expr) (env : Env (Tree Name)) (ls : List Bits) → tree_in (test_of value ls) env ≡ arm_test (tree_in value env) ls
test_is value env [] = refl
test_is value env (l ∷ ls) = or_tests (Two op2.Eq value (Const l)) value env ls

-- the value is a literal
pub literal_stands : (old mid new : List Term) (value constant is : Option TermId) (l : Bits) → Extends old mid → IsWithin old value → Stands mid constant (Some (Const l))
    → Stands new is (on_two (Two op2.Eq) (tree_for mid value) (tree_for mid constant)) → Stands new is (literal_is (tree_for old value) l)
literal_stands old mid new value constant is l x w c s = stands_as new is _ _ (λ j. on_two (Two op2.Eq) (tree_more old mid value x w j) (c.is j)) s

-- one literal more
pub literals_next : (init now mid : Walk) (new : List Term) (literals : List Literal) (i : ℕ) (l : Literal) (value found is next : Option TermId) → IsWithin init.terms value → Grown init now → IsWithin now.terms found → i < length literals → l ≡ get_or literals i l
    → Grown now mid → Stands mid.terms is (literal_is (tree_for now.terms value) (value_of l)) → Stands new next (on_two (Two op2.Or) (tree_for mid.terms found) (tree_for mid.terms is))
    → or_literals (tree_for new next) (tree_for init.terms value) (map value_of (drop (i + 1) literals)) ≡ or_literals (tree_for now.terms found) (tree_for init.terms value) (map value_of (drop i literals))
literals_next init now mid new literals i l value found is next w g f inside at h s n =
    ap (λ t. or_literals t (tree_for init.terms value) (map value_of (drop (i + 1) literals)))
    (n.is ∙ (λ j. on_two (Two op2.Or) (tree_more now.terms mid.terms found h.terms f j) ((s.is ∙ ap (λ t. literal_is t (value_of l)) (tree_more init.terms now.terms value g.terms w)) j)))
    ∙ ap (λ (ls : List Literal). or_literals (tree_for now.terms found) (tree_for init.terms value) (map value_of ls)) (sym (drop_more literals i l inside ∙ ap (λ (k : Literal). k ∷ drop (i + 1) literals) (sym at)))

-- one of a list that is read at any default
pub any_default : {X : Type 0} (xs : List X) (i : ℕ) (d e : X) → i < length xs → get_or xs i d ≡ get_or xs i e
any_default [] i d e below = absurd (omega (arith, below))
any_default (x ∷ xs) zero d e below = refl
any_default (x ∷ xs) (suc i) d e below = any_default xs i d e (omega (arith, below))

pub first_of : {X : Type 0} (xs : List X) (d : X) → (length xs ≡ 0 → ⊥) → xs ≡ get_or xs 0 d ∷ take (length xs - 1) (drop 1 xs)
first_of [] d some = absurd (some refl)
first_of (x ∷ xs) d some = ap (λ l. x ∷ l) (sym (take_all (suc (length xs) - 1) xs (omega arith)))

pub literals_end : (ns : List Term) (found : Option TermId) (value all : Option (Tree Name)) (literals : List Literal) (i : ℕ) → IsWithin ns found → length literals ≤ i → or_literals (tree_for ns found) value (map value_of (drop i literals)) ≡ all
    → Stands ns found all
literals_end ns found value all literals i w past is = record { within = w; is = ap (λ (ls : List Literal). or_literals (tree_for ns found) value (map value_of ls)) (sym (drop_of_length-le literals past)) ∙ is }

-- the first literal, and the others
pub test_is_first : (old mid : List Term) (value first : Option TermId) (l : Literal) (literals rest : List Literal) → literals ≡ l ∷ rest → Extends old mid → IsWithin old value → Stands mid first (literal_is (tree_for old value) (value_of l))
    → or_literals (tree_for mid first) (tree_for mid value) (map value_of rest) ≡ arm_test (tree_for old value) (map value_of literals)
test_is_first old mid value first l literals rest is x w s =
    (λ j. or_literals (s.is j) (tree_more old mid value x w j) (map value_of rest)) ∙ ap (λ (ls : List Literal). arm_test (tree_for old value) (map value_of ls)) (sym is)

-- ---- the ends of arms

end_more : (old new : List Term) (width : Name → ℕ) (value : Option (Tree Name)) (trees : State (Tree Name)) (arm : Arm) (arms : List Arm) (other : Body) (e : ArmEnd) → Extends old new → ArmEnds old width value trees arm arms other e
    → ArmEnds new width value trees arm arms other e
end_more old new width value trees arm arms other e x h = record {
  test = stands_more old new e.test (arm_test value arm.tests) x h.test;
  keys = h.keys;
  bind = bind_more old new (body_trees_after width arm.body trees) e.firsts.items x h.bind;
}

pub ends_more : (old new : List Term) (width : Name → ℕ) (value : Option (Tree Name)) (trees : State (Tree Name)) (arms : List Arm) (other : Body) (ends : List ArmEnd) → Extends old new → AllEnd old width value trees arms other ends
    → AllEnd new width value trees arms other ends
ends_more old new width value trees arms other [] x h = tt
ends_more old new width value trees [] other (e ∷ ends) x h = h
ends_more old new width value trees (arm ∷ arms) other (e ∷ ends) x h = (end_more old new width value trees arm arms other e x h.0, ends_more old new width value trees arms other ends x h.1)

pub ends_push : (ns : List Term) (width : Name → ℕ) (value : Option (Tree Name)) (trees : State (Tree Name)) (arms : List Arm) (other : Body) (ends : List ArmEnd) (arm : Arm) (rest : List Arm) (e : ArmEnd) → drop (length ends) arms ≡ arm ∷ rest
    → ArmEnds ns width value trees arm rest other e → AllEnd ns width value trees arms other ends → AllEnd ns width value trees arms other (ends ++ e ∷ [])
ends_push ns width value trees arms other [] arm rest e at h all = subst (λ l. AllEnd ns width value trees l other (e ∷ [])) (sym at) (h, tt)
ends_push ns width value trees [] other (x ∷ ends) arm rest e at h all = all
ends_push ns width value trees (a ∷ arms) other (x ∷ ends) arm rest e at h all = (all.0, ends_push ns width value trees arms other ends arm rest e at h all.1)

pub ends_have : (ns : List Term) (width : Name → ℕ) (value : Option (Tree Name)) (trees : State (Tree Name)) (arms : List Arm) (other : Body) (ends : List ArmEnd) → AllEnd ns width value trees arms other ends → EndsHaveTerms ns ends
ends_have ns width value trees arms other [] h = tt
ends_have ns width value trees [] other (e ∷ ends) h = absurd h
ends_have ns width value trees (arm ∷ arms) other (e ∷ ends) h =
    (h.0.test.within, bind_have ns (body_trees_after width arm.body trees) e.firsts.items h.0.bind, ends_have ns width value trees arms other ends h.1)

pub end_has : (old new : List Term) (ends : List ArmEnd) (k : ℕ) (e : ArmEnd) → k < length ends → e ≡ get_or ends k e → Extends old new → EndsHaveTerms old ends → IsWithin new e.test × HaveTerms new e.firsts.items
end_has old new [] k e inside at x h = absurd (omega (arith, inside))
end_has old new (f ∷ ends) zero e inside at x h =
    subst (λ (g : ArmEnd). IsWithin new g.test × HaveTerms new g.firsts.items) (sym at) (within_more old new f.test x h.0, have_more old new f.firsts.items x h.1)
end_has old new (f ∷ ends) (suc k) e inside at x h = end_has old new ends k e (omega (arith, inside)) at x h.2

-- the arm at a place, with its end
record EndAt (ns : List Term) (width : Name → ℕ) (value : Option (Tree Name)) (trees : State (Tree Name)) (arms : List Arm) (other : Body) (k : ℕ) (e : ArmEnd) : Type 0 where
  arm : Arm
  at : drop k arms ≡ arm ∷ drop (k + 1) arms
  ends : ArmEnds ns width value trees arm (drop (k + 1) arms) other e

end_at : (ns : List Term) (width : Name → ℕ) (value : Option (Tree Name)) (trees : State (Tree Name)) (arms : List Arm) (other : Body) (ends : List ArmEnd) (k : ℕ) (e : ArmEnd) → k < length ends → e ≡ get_or ends k e
    → AllEnd ns width value trees arms other ends → EndAt ns width value trees arms other k e
end_at ns width value trees arms other [] k e inside at h = absurd (omega (arith, inside))
end_at ns width value trees [] other (f ∷ ends) k e inside at h = absurd h
end_at ns width value trees (a ∷ arms) other (f ∷ ends) zero e inside at h = record { arm = a; at = refl; ends = subst (ArmEnds ns width value trees a arms other) (sym at) h.0 }
end_at ns width value trees (a ∷ arms) other (f ∷ ends) (suc k) e inside at h =
    let x = end_at ns width value trees arms other ends k e (omega (arith, inside)) at h.1 in
    let one : suc (k + 1) ≡ suc k + 1 = omega arith in
    record { arm = x.arm; at = subst (λ n. drop k arms ≡ x.arm ∷ drop n (a ∷ arms)) one x.at; ends = subst (λ n. ArmEnds ns width value trees x.arm (drop n (a ∷ arms)) other e) one x.ends }

ends_most : (ns : List Term) (width : Name → ℕ) (value : Option (Tree Name)) (trees : State (Tree Name)) (arms : List Arm) (other : Body) (ends : List ArmEnd) → AllEnd ns width value trees arms other ends → length ends ≤ length arms
ends_most ns width value trees arms other [] h = omega arith
ends_most ns width value trees [] other (e ∷ ends) h = absurd h
ends_most ns width value trees (arm ∷ arms) other (e ∷ ends) h = omega (arith, ends_most ns width value trees arms other ends h.1)

module _ (width : Name → ℕ) where
  -- ---- the walk through arms

  pub record ArmsWay (value : Option (Tree Name)) (clocked : Bool) (arms : List code_arm.Arm) (other : Body) (begun : Option (Tree Name)) (init now : Walk) (enable : Option TermId) (ends : List ArmEnd) (k : ℕ) : Type 0 where
    pub so_far : List Row
    pub walked : Walked width init now so_far (state_of init)
    pub within : IsWithin now.terms enable
    pub told : so_far ++ arms_rows width value (arms_in clocked (drop k arms)) other (tree_for now.terms enable) (state_of init) ≡ arms_rows width value (arms_in clocked arms) other begun (state_of init)
    pub ended : AllEnd now.terms width value (state_of init) (arms_in clocked arms) other ends
    pub count : length ends ≡ k

  pub way_start : (value : Option (Tree Name)) (clocked : Bool) (arms : List code_arm.Arm) (other : Body) (init : Walk) (enable : Option TermId) (ends : List ArmEnd) → Shows width init → Fits init → IsWithin init.terms enable → ends ≡ []
      → ArmsWay value clocked arms other (tree_for init.terms enable) init init enable ends 0
  way_start value clocked arms other init enable ends shows f w none = record {
    so_far = [];
    walked = grown_walked width init init shows (grown_none init f);
    within = w;
    told = refl;
    ended = subst (AllEnd init.terms width value (state_of init) (arms_in clocked arms) other) (sym none) tt;
    count = ap length none;
  }

  pub way_next : (clocked : Bool) (arms : List code_arm.Arm) (other : Body) (begun : Option (Tree Name)) (init now tested first new : Walk) (value enable test next : Option TermId) (ends all : List ArmEnd) (k : ℕ) (a : code_arm.Arm) (keys : List code_key.Key) (e : ArmEnd)
      → k < length arms → a ≡ get_or arms k a → IsWithin init.terms value
      → Grown now tested → Stands tested.terms test (arm_test (tree_for now.terms value) (arm_in clocked a).tests)
      → Walked width tested first (body_rows width (arm_in clocked a).body (then_enable (tree_for tested.terms enable) (tree_for tested.terms test)) (state_of tested)) (state_of tested)
      → among keys ≡ arms_assign (arm_in clocked a ∷ arms_in clocked (drop (k + 1) arms)) other → e.test ≡ test → among (keys_of e.firsts.items) ≡ among keys
      → Bind first.terms (body_trees_after width (arm_in clocked a).body (state_of tested)) e.firsts.items
      → Grown first new → Stands new.terms next (else_enable (tree_for first.terms enable) (tree_for first.terms test)) → all ≡ ends ++ e ∷ []
      → ArmsWay (tree_for init.terms value) clocked arms other begun init now enable ends k
      → ArmsWay (tree_for init.terms value) clocked arms other begun init new next all (k + 1)
  way_next clocked arms other begun init now tested first new value enable test next ends all k a keys e inside at has g s w are the_test same bound h n is p =
      let arm = arm_in clocked a in
      let rest = arms_in clocked (drop (k + 1) arms) in
      let T = tree_for init.terms value in
      let here : state_of tested ≡ state_of init = g.state ∙ p.walked.state in
      let valued : tree_for now.terms value ≡ T = tree_more init.terms now.terms value p.walked.terms has in
      let test_at : tree_for tested.terms test ≡ arm_test T arm.tests = s.is ∙ ap (λ t. arm_test t arm.tests) valued in
      let test_first : tree_for first.terms test ≡ arm_test T arm.tests = tree_more tested.terms first.terms test w.terms s.within ∙ test_at in
      let enabled : tree_for tested.terms enable ≡ tree_for now.terms enable = tree_more now.terms tested.terms enable g.terms p.within in
      let to_first = extends_twice now.terms tested.terms first.terms g.terms w.terms in
      let enable_first : tree_for first.terms enable ≡ tree_for now.terms enable = tree_more now.terms first.terms enable to_first p.within in
      let to_new = extends_twice now.terms first.terms new.terms to_first h.terms in
      let mine = body_rows width arm.body (then_enable (tree_for now.terms enable) (arm_test T arm.tests)) (state_of init) in
      let split = arms_split clocked arms k a inside at in
      record {
        so_far = p.so_far ++ mine;
        walked = walked_as width init new _ _ _ _
            (ap (λ l. p.so_far ++ l) (append-nil _ ∙ (λ j. body_rows width arm.body (then_enable (enabled j) (test_at j)) (here j))))
            here
            (walked_twice width init now new _ _ _ _ p.walked
            (walked_as width now new _ _ _ _ refl (w.state ∙ refl)
            (walked_twice width now tested new _ _ _ _ (grown_walked width now tested (walked_shows width init now _ _ p.walked) g)
            (walked_twice width tested first new _ _ _ _ w (grown_walked width first new (walked_shows width tested first _ _ w) h)))));
        within = n.within;
        told = append_assoc p.so_far mine (arms_rows width T rest other (tree_for new.terms next) (state_of init))
            ∙ ap (λ t. p.so_far ++ (mine ++ arms_rows width T rest other t (state_of init))) (n.is ∙ (λ j. else_enable (enable_first j) (test_first j)))
            ∙ ap (λ l. p.so_far ++ arms_rows width T l other (tree_for now.terms enable) (state_of init)) (sym split)
            ∙ p.told;
        ended = subst (AllEnd new.terms width T (state_of init) (arms_in clocked arms) other) (sym is)
            (ends_push new.terms width T (state_of init) (arms_in clocked arms) other ends arm rest e
            (ap (λ m. drop m (arms_in clocked arms)) p.count ∙ drop_split clocked arms k a inside at)
            (record {
              test = stands_more first.terms new.terms e.test (arm_test T arm.tests) h.terms
                  (record { within = within_more tested.terms first.terms e.test w.terms (subst (IsWithin tested.terms) (sym the_test) s.within); is = ap (tree_for first.terms) the_test ∙ test_first });
              keys = same ∙ are;
              bind = bind_more first.terms new.terms (body_trees_after width arm.body (state_of init)) e.firsts.items h.terms
                  (subst (λ t. Bind first.terms (body_trees_after width arm.body t) e.firsts.items) here bound);
            })
            (ends_more now.terms new.terms width T (state_of init) (arms_in clocked arms) other ends to_new p.ended));
        count = ap length is ∙ length-append ends (e ∷ []) ∙ ap (λ m. m + 1) p.count;
      }

  -- behind the last arm comes the default
  pub way_end : (clocked : Bool) (arms : List code_arm.Arm) (other : Body) (begun : Option (Tree Name)) (init now new : Walk) (value : Option (Tree Name)) (enable : Option TermId) (ends : List ArmEnd) (k : ℕ) → length arms ≤ k
      → Through width (tree_for now.terms enable) other now new → ArmsWay value clocked arms other begun init now enable ends k → ThroughArms width begun value (arms_in clocked arms) other init new
  way_end clocked arms other begun init now new value enable ends k past w p =
      walked_as width init new _ _ _ _
      (ap (λ t. p.so_far ++ body_rows width other (tree_for now.terms enable) t) p.walked.state
      ∙ ap (λ l. p.so_far ++ arms_rows width value l other (tree_for now.terms enable) (state_of init)) (sym (arms_end clocked arms k past)) ∙ p.told)
      (ap (body_trees_after width other) p.walked.state)
      (walked_twice width init now new _ _ _ _ p.walked w)

  pub way_ends : (clocked : Bool) (arms : List code_arm.Arm) (other : Body) (begun : Option (Tree Name)) (init now new : Walk) (value : Option (Tree Name)) (enable : Option TermId) (ends : List ArmEnd) (k : ℕ)
      → Extends now.terms new.terms → ArmsWay value clocked arms other begun init now enable ends k → AllEnd new.terms width value (state_of init) (arms_in clocked arms) other ends
  way_ends clocked arms other begun init now new value enable ends k x p = ends_more now.terms new.terms width value (state_of init) (arms_in clocked arms) other ends x p.ended

  pub way_count : (clocked : Bool) (arms : List code_arm.Arm) (other : Body) (begun : Option (Tree Name)) (init now : Walk) (value : Option (Tree Name)) (enable : Option TermId) (ends : List ArmEnd) (k : ℕ) → length arms ≤ k
      → ArmsWay value clocked arms other begun init now enable ends k → length ends ≡ length (arms_in clocked arms)
  way_count clocked arms other begun init now value enable ends k past p =
      let most = ends_most now.terms width value (state_of init) (arms_in clocked arms) other ends p.ended in
      omega (arith, most, p.count, past, arms_length clocked arms)

  -- ---- how the ends are joined

  arms_untouched : (value : Option (Tree Name)) (arms : List Arm) (other : Body) (trees : State (Tree Name)) (y : Key) → arms_assign arms other y ≡ false → arms_after width value arms other trees y ≡ trees y
  arms_untouched value [] other trees y e = untouched width other trees y e
  arms_untouched value (arm ∷ arms) other trees y e =
      ap (λ (c : Bool). merged c (arm_test value arm.tests) (body_trees_after width arm.body trees y) (arms_after width value arms other trees y) (trees y)) e

  abbrev pub JoinsFrom : List ArmEnd → ℕ → Walk → Walk → Type 0
  JoinsFrom ends k init now =
      (value : Option (Tree Name)) (trees : State (Tree Name)) (arms : List Arm) (other : Body) → AllEnd init.terms width value trees arms other ends → length ends ≡ length arms
      → state_of init ≡ body_trees_after width other trees
      → Walked width init now [] (arms_after width value (drop k arms) other trees)

  drop_whole : {X : Type 0} (xs : List X) (n : ℕ) → n ≡ length xs → drop n xs ≡ []
  drop_whole [] zero e = refl
  drop_whole [] (suc n) e = refl
  drop_whole (x ∷ xs) zero e = absurd (omega (arith, e))
  drop_whole (x ∷ xs) (suc n) e = drop_whole xs n (omega (arith, e))

  pub joins_start : (ends : List ArmEnd) (init : Walk) → Shows width init → Fits init → JoinsFrom ends (length ends) init init
  joins_start ends init shows f value trees arms other h same is =
      walked_as width init init _ _ _ _ refl (is ∙ ap (λ l. arms_after width value l other trees) (sym (drop_whole arms (length ends) same))) (grown_walked width init init shows (grown_none init f))

  pub joins_next : (ends : List ArmEnd) (k next : ℕ) (e : ArmEnd) (init now new : Walk) → k < length ends → next ≡ k + 1 → e ≡ get_or ends k e → Extends init.terms now.terms → JoinsArm width e now new → JoinsFrom ends next init now → JoinsFrom ends k init new
  joins_next ends k next e init now new inside after at x w so value trees arms other h same is =
      let so_far = so value trees arms other h same is in
      let rest = drop (k + 1) arms in
      let before : state_of now ≡ arms_after width value rest other trees = so_far.state ∙ ap (λ n. arms_after width value (drop n arms) other trees) after in
      let here = end_at init.terms width value trees arms other ends k e inside at h in
      let keys = among (keys_of e.firsts.items) in
      let tested : tree_for now.terms e.test ≡ arm_test value here.arm.tests = tree_more init.terms now.terms e.test x here.ends.test.within ∙ here.ends.test.is in
      walked_as width init new ([] ++ []) [] _ _ refl
      ((λ j. overlay keys (chosen (tested j) (body_trees_after width here.arm.body trees) (before j)) (before j))
      ∙ joined width keys (arm_test value here.arm.tests) here.arm.body (arms_assign rest other) (arms_after width value rest other trees) trees here.ends.keys (arms_untouched value rest other trees)
      ∙ ap (λ l. arms_after width value l other trees) (sym here.at))
      (walked_twice width init now new [] [] _ _ so_far (w (body_trees_after width here.arm.body trees) (bind_more init.terms now.terms (body_trees_after width here.arm.body trees) e.firsts.items x here.ends.bind)))

  -- one of them, whose keys have choices that are then set
  pub arm_joined : (old grown new : Walk) (e : ArmEnd) (bindings : List Binding) → Shows width old → Grown old grown → among (keys_of bindings) ≡ among (keys_of e.firsts.items) → Chooses e.test e.firsts.items bindings old grown
      → SetsAll width bindings grown new → JoinsArm width e old new
  arm_joined old grown new e bindings shows g same choose set trees bound =
      let picked = chosen (tree_for old.terms e.test) trees (state_of old) in
      walked_as width old new _ _ _ _ refl (λ j. overlay (same j) picked (g.state j))
      (walked_twice width old grown new _ _ _ _ (grown_walked width old grown shows g) (set picked (choose trees bound)))

  pub joins_end : (ends : List ArmEnd) (k : ℕ) (init now : Walk) → k ≡ 0 → JoinsFrom ends k init now → JoinsArms width ends init now
  joins_end ends k init now none so value trees arms other h same is = walked_as width init now _ _ _ _ refl (ap (λ n. arms_after width value (drop n arms) other trees) none) (so value trees arms other h same is)

  -- ---- a `case`

  arms_trees : (value : blocks.Expr) (arms : List Arm) (other : Body) (trees : State (Tree Name)) → arms_after width (tree_in value (shown width trees)) arms other trees ≡ body_trees_after width (arms_body value arms other) trees
  arms_trees value [] other trees = refl
  arms_trees value (arm ∷ arms) other trees =
      λ j y.
      merged (body_assigns arm.body y || sym (arms_assigned value arms other) j y) (sym (test_is value (shown width trees) arm.tests) j) (body_trees_after width arm.body trees y)
      (arms_trees value arms other trees j y) (trees y)

  rows_are : (value : blocks.Expr) (arms : List Arm) (other : Body) (enable : Option (Tree Name)) (trees : State (Tree Name)) → arms_rows width (tree_in value (shown width trees)) arms other enable trees ≡ body_rows width (arms_body value arms other) enable trees
  rows_are value [] other enable trees = refl
  rows_are value (arm ∷ arms) other enable trees =
      (λ j. body_rows width arm.body (then_enable enable (sym (test_is value (shown width trees) arm.tests) j)) trees
      ++ arms_rows width (tree_in value (shown width trees)) arms other (else_enable enable (sym (test_is value (shown width trees) arm.tests) j)) trees)
      ∙ ap (λ l. body_rows width arm.body (then_enable enable (tree_in (test_of value arm.tests) (shown width trees))) trees ++ l)
      (rows_are value arms other (else_enable enable (tree_in (test_of value arm.tests) (shown width trees))) trees) ∙ sym (append-nil _)

  two_rows : (value : blocks.Expr) (arm : Arm) (arms : List Arm) (other : Body) (enable : Option (Tree Name)) (trees : State (Tree Name))
      → arms_rows width (tree_in value (shown width trees)) (arm ∷ arms) other enable trees
      ≡ body_rows width arm.body (then_enable enable (tree_in (test_of value arm.tests) (shown width trees))) trees
      ++ body_rows width (arms_body value arms other) (else_enable enable (tree_in (test_of value arm.tests) (shown width trees))) trees
  two_rows value arm arms other enable trees =
      (λ j. body_rows width arm.body (then_enable enable (sym (test_is value (shown width trees) arm.tests) j)) trees
      ++ arms_rows width (tree_in value (shown width trees)) arms other (else_enable enable (sym (test_is value (shown width trees) arm.tests) j)) trees)
      ∙ ap (λ l. body_rows width arm.body (then_enable enable (tree_in (test_of value arm.tests) (shown width trees))) trees ++ l)
      (rows_are value arms other (else_enable enable (tree_in (test_of value arm.tests) (shown width trees))) trees)

  -- the rows and the trees of a `case`, by the tree of its value
  case_has_rows : (slot : ℕ) (value : blocks.Expr) (arms : List Arm) (other : Body) (enable : Option (Tree Name)) (trees : State (Tree Name))
      → record { slot = slot; enable = enable; before = shown width trees } ∷ case_rows width (tree_in value (shown width trees)) arms other enable trees ≡ rows width (case_of slot value arms other) enable trees
  case_has_rows slot value [] other enable trees = refl
  case_has_rows slot value (arm ∷ arms) other enable trees = ap (λ (l : List Row). record { slot = slot; enable = enable; before = shown width trees } ∷ l) (two_rows value arm arms other enable trees)

  case_has_trees : (slot : ℕ) (value : blocks.Expr) (arms : List Arm) (other : Body) (trees : State (Tree Name)) → case_after width (tree_in value (shown width trees)) arms other trees ≡ trees_after width (case_of slot value arms other) trees
  case_has_trees slot value [] other trees = refl
  case_has_trees slot value (arm ∷ arms) other trees = arms_trees value (arm ∷ arms) other trees

  pub through_case : (old mid new : Walk) (enable : Option (Tree Name)) (within id : Option TermId) (slot : ℕ) (value : blocks.Expr) (arms : List Arm) (other : Body) (s : blocks.Stmt) → s ≡ case_of slot value arms other → tree_for mid.terms within ≡ enable
      → Comes width old mid slot enable id value → ThroughCase width (tree_for mid.terms within) (tree_for mid.terms id) arms other mid new → ThroughStmt width enable s old new
  through_case old mid new enable within id slot value arms other s is same at w =
      walked_as width old new _ _ _ _
      ((λ j. record { slot = slot; enable = enable; before = shown width (state_of old) } ∷ case_rows width (at.stands.is j) arms other (same j) (at.walked.state j))
      ∙ case_has_rows slot value arms other enable (state_of old) ∙ ap (λ t. rows width t enable (state_of old)) (sym is))
      ((λ j. case_after width (at.stands.is j) arms other (at.walked.state j)) ∙ case_has_trees slot value arms other (state_of old) ∙ ap (λ t. trees_after width t (state_of old)) (sym is))
      (walked_twice width old mid new _ _ _ _ at.walked w)

  -- one without arms
  pub case_without : (value : Option (Tree Name)) (arms : List Arm) (other : Body) (old mid new : Walk) (within id : Option TermId) → arms ≡ [] → Shows width old → Grown old mid → IsWithin old.terms within → Stands mid.terms id (Some (Const (flag_of false)))
      → ThroughBoth width (tree_for mid.terms within) (tree_for mid.terms id) Done other mid new → ThroughCase width (tree_for old.terms within) value arms other old new
  case_without value arms other old mid new within id none shows g inside s w =
      subst (λ l. ThroughCase width (tree_for old.terms within) value l other old new) (sym none)
      (walked_as width old new _ _ _ _
      (λ j. body_rows width other (else_enable (tree_more old.terms mid.terms within g.terms inside j) (s.is j)) (g.state j))
      (λ j. case_after width value [] other (g.state j))
      (walked_twice width old mid new _ _ _ _ (grown_walked width old mid shows g)
      (walked_as width mid new _ _ _ _ refl (λ j y. merged (body_assigns other y) (s.is j) (state_of mid y) (body_trees_after width other (state_of mid) y) (state_of mid y)) w)))

  -- one with arms
  pub case_with : (enable value : Option (Tree Name)) (arms : List Arm) (other : Body) (old mid new : Walk) (ends : List ArmEnd) (a : Arm) (rest : List Arm) → arms ≡ a ∷ rest → ThroughArms width enable value arms other old mid → length ends ≡ length arms
      → AllEnd mid.terms width value (state_of old) arms other ends → JoinsArms width ends mid new → ThroughCase width enable value arms other old new
  case_with enable value arms other old mid new ends a rest is w same h join =
      subst (λ l. ThroughCase width enable value l other old new) (sym is)
      (walked_as width old new _ _ _ _ (append-nil _ ∙ ap (λ l. arms_rows width value l other enable (state_of old)) is) (ap (λ l. arms_after width value l other (state_of old)) is)
      (walked_twice width old mid new _ _ _ _ w (join value (state_of old) arms other h same w.state)))

  pub case_with_some : (enable value : Option (Tree Name)) (clocked : Bool) (arms : List code_arm.Arm) (other : Body) (old mid new : Walk) (ends : List ArmEnd) → (arms ≡ [] → ⊥) → ThroughArms width enable value (arms_in clocked arms) other old mid
      → length ends ≡ length (arms_in clocked arms) → AllEnd mid.terms width value (state_of old) (arms_in clocked arms) other ends → JoinsArms width ends mid new → ThroughCase width enable value (arms_in clocked arms) other old new
  case_with_some enable value clocked [] other old mid new ends some w same h join = absurd (some refl)
  case_with_some enable value clocked (a ∷ arms) other old mid new ends some w same h join =
      case_with enable value (arms_in clocked (a ∷ arms)) other old mid new ends (arm_in clocked a) (arms_in clocked arms) refl w same h join
