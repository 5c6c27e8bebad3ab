-- Arms one after another, and the literals of an arm.
use Rattle.std.proofs.Common.{◌≡◌, ℕ, ◌+◌, ◌<◌, ◌≤◌, List, [], ◌∷◌, ◌++◌, map, length, get_or, drop, Result, Ok, Err, refl, sym, ap, ◌∙◌}
use Rattle.std.proofs.lemmas.List.{map-append}
use Rattle.std.proofs.Math.ListN.{drop_of_length-le}
use Rattle.gen_tree.specs.declared.expr.Lit as code_lit
use Rattle.gen_tree.specs.declared.statement.Arm as source_arm
use Rattle.gen_tree.specs.View.{lit_of, arm_of, arms_of}
use Rattle.design_core.specs.declared.Literal.{Literal}
use Rattle.design_core.specs.declared.statement.Arm as code_arm
use Rattle.design_core.specs.View as view
use Rattle.design_core.specs.Design.{Gens, Body, Done}
use Rattle.elab_core.specs.declared.Count.TheVariants.{Parts}
use Rattle.elab_core.specs.Walk.{Gives, Faulty, Fault, Seen, and_then, judge, counts}
use Rattle.elab_core.specs.Elab.{literal, literals, statements, arm_bodies}
use Rattle.elab_base.proofs.Steps.{next, judge_then, counted, refused, given, faulty, ends, then_assoc}
use Rattle.elab_body.specs.Body.{one_arm}
use Rattle.elab_body.proofs.StmtLoops.{next_of}

-- ---- literals

literals_next : (line : ℕ) (gens : Gens) (l : code_lit.Lit) (rest : List code_lit.Lit) (made : List Literal) (v : Literal) (seen s1 : Seen) → judge seen (counts Parts line) ≡ Ok (tt, s1) → literal line gens (lit_of l) ≡ Gives v
    → judge seen (literals line gens (map lit_of (l ∷ rest)) made) ≡ judge s1 (literals line gens (map lit_of rest) (made ++ v ∷ []))
unfolding literals
literals_next line gens l rest made v seen s1 e1 e2 = counted _ _ _ _ _ _ e1 (given _ _ _ _ _ e2 refl)

pub literal_next : (line : ℕ) (gens : Gens) (xs : List code_lit.Lit) (i : ℕ) (x : code_lit.Lit) (made more : List Literal) (v : Literal) (seen s1 : Seen) → i < length xs → x ≡ get_or xs i x → judge seen (counts Parts line) ≡ Ok (tt, s1)
    → literal line gens (lit_of x) ≡ Gives v → more ≡ made ++ v ∷ [] → judge seen (literals line gens (map lit_of (drop i xs)) made) ≡ judge s1 (literals line gens (map lit_of (drop (i + 1) xs)) more)
literal_next line gens xs i x made more v seen s1 h e e1 e2 grown =
    ap (λ ys. judge seen (literals line gens (map lit_of ys) made)) (next_of xs i x h e) ∙ literals_next line gens x (drop (i + 1) xs) made v seen s1 e1 e2
    ∙ ap (λ m. judge s1 (literals line gens (map lit_of (drop (i + 1) xs)) m)) (sym grown)

literals_large : (line : ℕ) (gens : Gens) (l : code_lit.Lit) (rest : List code_lit.Lit) (made : List Literal) (seen : Seen) (x : Fault) → judge seen (counts Parts line) ≡ Err x → judge seen (literals line gens (map lit_of (l ∷ rest)) made) ≡ Err x
unfolding literals
literals_large line gens l rest made seen x e = refused _ _ _ _ e

pub literal_large : (line : ℕ) (gens : Gens) (xs : List code_lit.Lit) (i : ℕ) (x : code_lit.Lit) (made : List Literal) (seen : Seen) (f : Fault) → i < length xs → x ≡ get_or xs i x → judge seen (counts Parts line) ≡ Err f
    → judge seen (literals line gens (map lit_of (drop i xs)) made) ≡ Err f
literal_large line gens xs i x made seen f h e e1 = ap (λ ys. judge seen (literals line gens (map lit_of ys) made)) (next_of xs i x h e) ∙ literals_large line gens x (drop (i + 1) xs) made seen f e1

literals_fault : (line : ℕ) (gens : Gens) (l : code_lit.Lit) (rest : List code_lit.Lit) (made : List Literal) (seen s1 : Seen) (x : Fault) → judge seen (counts Parts line) ≡ Ok (tt, s1) → literal line gens (lit_of l) ≡ Faulty x
    → judge seen (literals line gens (map lit_of (l ∷ rest)) made) ≡ Err x
unfolding literals
literals_fault line gens l rest made seen s1 x e1 e2 = counted _ _ _ _ _ _ e1 (faulty _ _ _ _ e2)

pub literal_fault : (line : ℕ) (gens : Gens) (xs : List code_lit.Lit) (i : ℕ) (x : code_lit.Lit) (made : List Literal) (seen s1 : Seen) (f : Fault) → i < length xs → x ≡ get_or xs i x → judge seen (counts Parts line) ≡ Ok (tt, s1)
    → literal line gens (lit_of x) ≡ Faulty f → judge seen (literals line gens (map lit_of (drop i xs)) made) ≡ Err f
literal_fault line gens xs i x made seen s1 f h e e1 e2 = ap (λ ys. judge seen (literals line gens (map lit_of ys) made)) (next_of xs i x h e) ∙ literals_fault line gens x (drop (i + 1) xs) made seen s1 f e1 e2

literals_none : (line : ℕ) (gens : Gens) (made : List Literal) (seen : Seen) → judge seen (literals line gens [] made) ≡ Ok (made, seen)
unfolding literals
literals_none line gens made seen = ends _ _

pub literal_end : (line : ℕ) (gens : Gens) (xs : List code_lit.Lit) (i : ℕ) (made : List Literal) (seen : Seen) → length xs ≤ i → judge seen (literals line gens (map lit_of (drop i xs)) made) ≡ Ok (made, seen)
literal_end line gens xs i made seen h = ap (λ ys. judge seen (literals line gens (map lit_of ys) made)) (drop_of_length-le xs h) ∙ literals_none line gens made seen

pub ruleset literal_steps = (literal_next, literal_large, literal_fault, literal_end)

-- ---- arms

arm_behind : (line : ℕ) (gens : Gens) (a : source_arm.Arm) (rest : List source_arm.Arm) (made : List (List Literal × Body))
    → arm_bodies line (arms_of (a ∷ rest)) gens made ≡ and_then (one_arm line (arm_of a).0 (arm_of a).1 gens) (λ p. arm_bodies line (arms_of rest) gens (made ++ p ∷ []))
unfolding arm_bodies one_arm and_then
arm_behind line gens a rest made = sym (
    then_assoc {B = List Literal × Body} (literals line gens (arm_of a).0 []) (λ ls. and_then (statements (arm_of a).1 gens Done) (λ b. Gives (ls, b))) (λ p. arm_bodies line (arms_of rest) gens (made ++ p ∷ []))
    ∙ (λ i. and_then (literals line gens (arm_of a).0 []) (λ ls. then_assoc {B = List Literal × Body} (statements (arm_of a).1 gens Done) (λ b. Gives (ls, b)) (λ p. arm_bodies line (arms_of rest) gens (made ++ p ∷ [])) i)))

pub arm_next : (line : ℕ) (gens : Gens) (xs : List source_arm.Arm) (i : ℕ) (x : source_arm.Arm) (made more : List code_arm.Arm) (a : code_arm.Arm) (seen s1 : Seen) → i < length xs → x ≡ get_or xs i x
    → judge seen (one_arm line (arm_of x).0 (arm_of x).1 gens) ≡ Ok (view.arm_of a, s1) → more ≡ made ++ a ∷ []
    → judge seen (arm_bodies line (arms_of (drop i xs)) gens (map view.arm_of made)) ≡ judge s1 (arm_bodies line (arms_of (drop (i + 1) xs)) gens (map view.arm_of more))
arm_next line gens xs i x made more a seen s1 h e e1 grown =
    ap (λ ys. judge seen (arm_bodies line (arms_of ys) gens (map view.arm_of made))) (next_of xs i x h e)
    ∙ ap (judge seen) (arm_behind line gens x (drop (i + 1) xs) (map view.arm_of made)) ∙ counted _ _ _ _ _ _ e1 refl
    ∙ ap (λ m. judge s1 (arm_bodies line (arms_of (drop (i + 1) xs)) gens m)) (sym (map-append view.arm_of made (a ∷ [])) ∙ ap (map view.arm_of) (sym grown))

pub arm_fault_at : (line : ℕ) (gens : Gens) (xs : List source_arm.Arm) (i : ℕ) (x : source_arm.Arm) (made : List (List Literal × Body)) (seen : Seen) (f : Fault) → i < length xs → x ≡ get_or xs i x
    → judge seen (one_arm line (arm_of x).0 (arm_of x).1 gens) ≡ Err f → judge seen (arm_bodies line (arms_of (drop i xs)) gens made) ≡ Err f
arm_fault_at line gens xs i x made seen f h e e1 =
    ap (λ ys. judge seen (arm_bodies line (arms_of ys) gens made)) (next_of xs i x h e) ∙ ap (judge seen) (arm_behind line gens x (drop (i + 1) xs) made) ∙ refused _ _ _ _ e1

arms_none : (line : ℕ) (gens : Gens) (made : List (List Literal × Body)) (seen : Seen) → judge seen (arm_bodies line (arms_of []) gens made) ≡ Ok (made, seen)
unfolding arm_bodies
arms_none line gens made seen = ends _ _

pub arm_end : (line : ℕ) (gens : Gens) (xs : List source_arm.Arm) (i : ℕ) (made : List (List Literal × Body)) (seen : Seen) → length xs ≤ i → judge seen (arm_bodies line (arms_of (drop i xs)) gens made) ≡ Ok (made, seen)
arm_end line gens xs i made seen h = ap (λ ys. judge seen (arm_bodies line (arms_of ys) gens made)) (drop_of_length-le xs h) ∙ arms_none line gens made seen

pub ruleset arm_steps = (arm_next, arm_fault_at, arm_end)
