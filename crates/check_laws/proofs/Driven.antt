-- Where each signal is driven once, none has two drivers or none.
use Rattle.std.proofs.Common.{◌≡◌, ℕ, Bool, true, false, ◌||◌, not, bytes_eq, List, [], ◌∷◌, ◌++◌, map, Option, Some, None, option_map, if◌then◌else◌, inl, inr, refl, sym, ap, ◌∙◌, subst}
use Rattle.std.proofs.lemmas.Bool.{or_right}
use Rattle.exec_core.specs.Block.{Name}
use Rattle.list_core.specs.Lists.{IsIn, IsNotIn, AreApart}
use Rattle.list_core.proofs.Lists.{each_member, in_left, in_right, in_cases}
use Rattle.design_core.specs.declared.variant.Signal.{Signal}
use Rattle.design_core.specs.Design.{Stmt, Assign, Let, If, Case, Body, Done, Then, Else, NoElse, Otherwise, Arms, NoArms, ThenArm, Conn, Child, Block, Variant}
use Rattle.check_core.specs.declared.fault.CheckFault.TheVariants as fault
use Rattle.check_core.specs.declared.fault.Refusal.TheVariants.{TwoDrivers, Undriven}
use Rattle.check_core.specs.Drivers.{Drive, Lines, undriven_yet, driven_also, all_driven, second_drive, conn_drive, connected_twice, twice_in_child, assignments, driven_in, driven_twice, two_drivers, drives, is_assigned, undriven_at}
use Rattle.check_core.specs.Faults.{earlier, first_of, spot}
use Rattle.check_core.specs.Names.{is_driven}
use Rattle.design_core.specs.Statements.{inside, statements, else_statements, arms_statements}
use Rattle.check_exec.proofs.Facts.{name_same, in_any}
use Rattle.check_laws.specs.Driving.{Assigns, BodyAssigns, ElseAssigns, ArmsAssign, AssignApart, IsAssigned, DrivenOnce, AllDriven, OnceAreNotRefused, DrivenAreNotRefused}
use Rattle.check_laws.proofs.Firsts.{earlier_none, first_none, known_none, differ}
use Rattle.check_laws.proofs.Verdicts.{not_refused}

-- ---- what is driven

not_second : (before : Lines) (d : Drive) → before d.1 ≡ None → second_drive before d ≡ None
not_second before d e = ap (option_map (λ first. fault.TwoDrivers (spot d.0 d.1) first)) e

also_none : (before : Lines) (d : Drive) (x : Name) → before x ≡ None → (x ≡ d.1 → ⊥) → driven_also before d x ≡ None
also_none before d x e n =
    ap (λ (o : Option ℕ). earlier o (if bytes_eq x d.1 then Some d.0 else None)) e ∙ ap (λ (b : Bool). if b then Some d.0 else None) (differ x d.1 n)

all_none : (before : Lines) (list : List Drive) (x : Name) → before x ≡ None → ((d : Drive) → IsIn d list → x ≡ d.1 → ⊥) → all_driven before list x ≡ None
all_none before [] x e n = e
all_none before (d ∷ list) x e n = all_none (driven_also before d) list x (also_none before d x e (n d (inl refl))) (λ c i. n c (inr i))

-- ---- connections

not_among : (x : Name) (conns : List Conn) → IsNotIn x (map (λ (k : Conn). k.port) conns) → (k : Conn) → IsIn k conns → k.port ≡ x → ⊥
not_among x [] n k i = absurd i
not_among x (c ∷ conns) n k (inl e) = λ f. n.0 (ap (λ (q : Conn). q.port) (sym e) ∙ f)
not_among x (c ∷ conns) n k (inr i) = not_among x conns n.1 k i

connected_once : (before : Lines) (conns : List Conn) → ((k : Conn) → IsIn k conns → before k.port ≡ None) → AreApart (map (λ (k : Conn). k.port) conns) → connected_twice before conns ≡ None
connected_once before [] e a = refl
connected_once before (c ∷ conns) e a =
    earlier_none (second_drive before (conn_drive c)) (connected_twice (driven_also before (conn_drive c)) conns)
    (not_second before (conn_drive c) (e c (inl refl)))
    (connected_once (driven_also before (conn_drive c)) conns (λ k i. also_none before (conn_drive c) k.port (e k (inr i)) (not_among c.port conns a.0 k i)) a.1)

-- ---- assignments of a body

split : (xs ys : List Stmt) → assignments (xs ++ ys) ≡ assignments xs ++ assignments ys
split [] ys = refl
split (Assign slot line gens x part e ∷ xs) ys = ap (λ (list : List Drive). (line, x) ∷ list) (split xs ys)
split (Let slot line gens x e ∷ xs) ys = split xs ys
split (If slot line gens c a b ∷ xs) ys = split xs ys
split (Case slot line gens v arms other ∷ xs) ys = split xs ys

mutual
  told_stmt : (s : Stmt) (d : Drive) → IsIn d (assignments (s ∷ inside s)) → Assigns s d.1
  told_stmt (Assign slot line gens x part e) d i = elim i [ inl same ↦ ap (λ (c : Drive). c.1) same | inr k ↦ absurd k ]
  told_stmt (Let slot line gens x e) d i = i
  told_stmt (If slot line gens c first second) d i =
      elim (in_cases d (assignments (statements first)) (assignments (else_statements second)) (subst (λ (list : List Drive). IsIn d list) (split (statements first) (else_statements second)) i)) [
        | inl l ↦ inl (told_body first d l)
        | inr r ↦ inr (told_else second d r)
      ]
  told_stmt (Case slot line gens v arms other) d i =
      elim (in_cases d (assignments (arms_statements arms)) (assignments (else_statements other)) (subst (λ (list : List Drive). IsIn d list) (split (arms_statements arms) (else_statements other)) i)) [
        | inl l ↦ inl (told_arms arms d l)
        | inr r ↦ inr (told_else other d r)
      ]

  pub told_body : (b : Body) (d : Drive) → IsIn d (assignments (statements b)) → BodyAssigns b d.1
  told_body Done d i = i
  told_body (Then s rest) d i =
      elim (in_cases d (assignments (s ∷ inside s)) (assignments (statements rest)) (subst (λ (list : List Drive). IsIn d list) (split (s ∷ inside s) (statements rest)) i)) [
        | inl l ↦ inl (told_stmt s d l)
        | inr r ↦ inr (told_body rest d r)
      ]

  told_else : (b : Else) (d : Drive) → IsIn d (assignments (else_statements b)) → ElseAssigns b d.1
  told_else NoElse d i = i
  told_else (Otherwise body) d i = told_body body d i

  told_arms : (b : Arms) (d : Drive) → IsIn d (assignments (arms_statements b)) → ArmsAssign b d.1
  told_arms NoArms d i = i
  told_arms (ThenArm tests body rest) d i =
      elim (in_cases d (assignments (statements body)) (assignments (arms_statements rest)) (subst (λ (list : List Drive). IsIn d list) (split (statements body) (arms_statements rest)) i)) [
        | inl l ↦ inl (told_body body d l)
        | inr r ↦ inr (told_arms rest d r)
      ]

-- an assignment to a name
pub record Driving (x : Name) (list : List Drive) : Type 0 where
  pub drive : Drive
  pub among : IsIn drive list
  pub name : drive.1 ≡ x

driving_front : (x : Name) (xs ys : List Stmt) → Driving x (assignments xs) → Driving x (assignments (xs ++ ys))
driving_front x xs ys h = record { drive = h.drive; among = subst (λ (list : List Drive). IsIn h.drive list) (sym (split xs ys)) (in_left h.drive (assignments xs) (assignments ys) h.among); name = h.name }

driving_back : (x : Name) (xs ys : List Stmt) → Driving x (assignments ys) → Driving x (assignments (xs ++ ys))
driving_back x xs ys h = record { drive = h.drive; among = subst (λ (list : List Drive). IsIn h.drive list) (sym (split xs ys)) (in_right h.drive (assignments xs) (assignments ys) h.among); name = h.name }

mutual
  found_stmt : (s : Stmt) (x : Name) → Assigns s x → Driving x (assignments (s ∷ inside s))
  found_stmt (Assign slot line gens y part e) x h = record { drive = (line, y); among = inl refl; name = sym h }
  found_stmt (Let slot line gens y e) x h = absurd h
  found_stmt (If slot line gens c first second) x (inl l) = driving_front x (statements first) (else_statements second) (found_body first x l)
  found_stmt (If slot line gens c first second) x (inr r) = driving_back x (statements first) (else_statements second) (found_else second x r)
  found_stmt (Case slot line gens v arms other) x (inl l) = driving_front x (arms_statements arms) (else_statements other) (found_arms arms x l)
  found_stmt (Case slot line gens v arms other) x (inr r) = driving_back x (arms_statements arms) (else_statements other) (found_else other x r)

  pub found_body : (b : Body) (x : Name) → BodyAssigns b x → Driving x (assignments (statements b))
  found_body Done x h = absurd h
  found_body (Then s rest) x (inl l) = driving_front x (s ∷ inside s) (statements rest) (found_stmt s x l)
  found_body (Then s rest) x (inr r) = driving_back x (s ∷ inside s) (statements rest) (found_body rest x r)

  found_else : (b : Else) (x : Name) → ElseAssigns b x → Driving x (assignments (else_statements b))
  found_else NoElse x h = absurd h
  found_else (Otherwise body) x h = found_body body x h

  found_arms : (b : Arms) (x : Name) → ArmsAssign b x → Driving x (assignments (arms_statements b))
  found_arms NoArms x h = absurd h
  found_arms (ThenArm tests body rest) x (inl l) = driving_front x (statements body) (arms_statements rest) (found_body body x l)
  found_arms (ThenArm tests body rest) x (inr r) = driving_back x (statements body) (arms_statements rest) (found_arms rest x r)

-- ---- blocks

NotYet : Lines → Block → Type 0
NotYet before b = (x : Name) → BodyAssigns b.body x → before x ≡ None

after_block : (before : Lines) (b c : Block) → NotYet before c → ((x : Name) → BodyAssigns b.body x → BodyAssigns c.body x → ⊥) → NotYet (all_driven before (driven_in b)) c
unfolding NotYet
after_block before b c e n x h = all_none before (driven_in b) x (e x h) (λ d i same. n x (subst (BodyAssigns b.body) (sym same) (told_body b.body d i)) h)

driven_once : (before : Lines) (blocks : List Block) → ((b : Block) → IsIn b blocks → NotYet before b) → AssignApart blocks → driven_twice before blocks ≡ None
unfolding NotYet
driven_once before [] e a = refl
driven_once before (b ∷ blocks) e a =
    earlier_none (first_of (second_drive before) (driven_in b)) (driven_twice (all_driven before (driven_in b)) blocks)
    (first_none (second_drive before) (driven_in b) (λ d i. not_second before d (e b (inl refl) d.1 (told_body b.body d i))))
    (driven_once (all_driven before (driven_in b)) blocks
    (λ c i. after_block before b c (e c (inr i)) (each_member (λ (c : Block). (x : Name) → BodyAssigns b.body x → BodyAssigns c.body x → ⊥) blocks a.0 c i)) a.1)

once : (v : Variant) → DrivenOnce v → two_drivers v ≡ None
unfolding NotYet
once v h =
    earlier_none (first_of twice_in_child v.children) (driven_twice undriven_yet v.blocks)
    (first_none twice_in_child v.children (λ c i. connected_once undriven_yet c.conns (λ k j. refl) (each_member (λ (c : Child). AreApart (map (λ (k : Conn). k.port) c.conns)) v.children h.ports c i)))
    (driven_once undriven_yet v.blocks (λ b i x g. refl) h.blocks)

assigned : (blocks : List Block) (x : Name) → IsAssigned blocks x → is_assigned blocks x ≡ true
assigned blocks x h =
    let d = found_body h.block.body x h.assigns in
    in_any (λ (b : Block). drives (driven_in b) x) blocks h.block h.among (in_any (λ (c : Drive). bytes_eq x c.1) (driven_in h.block) d.drive d.among (name_same x d.drive.1 (sym d.name)))

driven_at : (v : Variant) → AllDriven v → (s : Signal) → IsIn s v.signals → undriven_at (is_assigned v.blocks) s ≡ None
driven_at v h s i = by_kind (is_driven s.kind) refl
  where
    by_kind : (b : Bool) → is_driven s.kind ≡ b → undriven_at (is_assigned v.blocks) s ≡ None
    by_kind true e = known_none _ _ (or_right (not (is_driven s.kind)) (is_assigned v.blocks s.name) (assigned v.blocks s.name (h s i e)))
    by_kind false e = known_none _ _ (ap (λ (b : Bool). not b || is_assigned v.blocks s.name) e)

pub once_are_not_refused : OnceAreNotRefused
once_are_not_refused d h = not_refused d TwoDrivers (λ v u. once v (h v u))

pub driven_are_not_refused : DrivenAreNotRefused
driven_are_not_refused d h = not_refused d Undriven (λ v u. first_none (undriven_at (is_assigned v.blocks)) v.signals (driven_at v (h v u)))
