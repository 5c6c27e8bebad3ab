-- Where each path assigns each bit of what is to be assigned, and in time, there is no latch and no early read.
use Rattle.std.proofs.Common.{◌≡◌, ℕ, zero, suc, ◌+◌, ◌<◌, ◌≤◌, ℤ, Bool, true, false, true≢false, ◌&&◌, ◌||◌, not, nat_le, leb-true, bytes_eq, List, [], ◌∷◌, ◌++◌, append_assoc, Option, Some, None, if◌then◌else◌, ◌⊎◌, inl, inr, refl, sym, ap, ◌∙◌, subst, arith}
use Rattle.std.specs.List.{list_any}
use Rattle.std.proofs.lemmas.Bool.{cases_Bool, or_cases, and_parts, and_from}
use Rattle.std.proofs.lemmas.Bool.Decides.{nat_tests}
use Rattle.exec_core.specs.Block.{Name, covers}
use Rattle.exec_core.specs.Decided.{some_below}
use Rattle.list_core.specs.Lists.{IsIn}
use Rattle.list_core.proofs.Lists.{each_member}
use Rattle.design_core.specs.Design.{Expr, Read, Out, Value, Unary, Binary, Mux, Zext, Slice, Stmt, Assign, Let, If, Case, Body, Done, Then, Else, NoElse, Otherwise, Arms, NoArms, ThenArm, Block, Variant}
use Rattle.design_core.specs.Slots.{lets_of}
use Rattle.design_core.specs.Widths.{bits}
use Rattle.check_core.specs.declared.fault.CheckFault.TheVariants as fault
use Rattle.check_core.specs.declared.fault.Refusal.TheVariants.{Latch, ReadBeforeWrite}
use Rattle.check_core.specs.Drivers.{Drive, driven_in}
use Rattle.check_core.specs.Faults.{earlier, first_of, spot}
use Rattle.check_core.specs.Widths.{is_slice}
use Rattle.check_core.specs.Paths.{Bits, part_in, no_arms, skips, body_skips, else_skips, arms_skip, declared_width, latch_at, latch_in, own, early_read, early, early_in, early_in_else, early_in_arms, early_in_block}
use Rattle.check_exec.proofs.Facts.{same_name, name_same, any_in}
use Rattle.check_laws.specs.Driving.{BodyAssigns}
use Rattle.check_laws.specs.Assigning.{Deed, Evaluates, Sets, Covers, SetsBit, OneThenOther, OneBranch, StmtPath, BodyPath, ElsePath, ArmPath, ReadsName, IsOwnName, AssignsAlways, AssignsFirst, AlwaysAreNotRefused, FirstAreNotRefused}
use Rattle.check_laws.proofs.Firsts.{earlier_none, first_none}
use Rattle.check_laws.proofs.Driven.{told_body}
use Rattle.check_laws.proofs.Verdicts.{not_refused}

-- ---- the bits of a part

at_least : (l i : ℕ) → l ≤ i → nat_le l i ≡ true
at_least l i h = grind (arith, nat_tests)

-- bounds that are none cover nothing
none_covered : (i : ℕ) → (nat_le 1 i && nat_le i 0) ≡ true → ⊥
none_covered i h =
    let parts = and_parts (nat_le 1 i) (nat_le i 0) h in
    let first = leb-true 1 i parts.0 in
    let last = leb-true i 0 parts.1 in
    omega (arith, first, last)

pub covered : (part : Option (ℤ × ℤ)) (i : ℕ) → Covers part i → covers (part_in part) i ≡ true
covered None i h = refl
covered (Some b) i h =
    ap (λ (c : Bool). covers (if c then Some (record { high = bits b.0; low = bits b.1 }) else Some (record { high = 0; low = 1 })) i) h.0
    ∙ and_from (nat_le (bits b.1) i) (nat_le i (bits b.0)) (at_least (bits b.1) i h.1.0) (at_least i (bits b.0) h.1.1)

pub covering : (part : Option (ℤ × ℤ)) (i : ℕ) → covers (part_in part) i ≡ true → Covers part i
covering None i h = tt
covering (Some b) i h = by_test (is_slice b.0 b.1) refl h
  where
    by_test : (c : Bool) → is_slice b.0 b.1 ≡ c → covers (if c then Some (record { high = bits b.0; low = bits b.1 }) else Some (record { high = 0; low = 1 })) i ≡ true → Covers (Some b) i
    by_test true slice e =
        let parts = and_parts (nat_le (bits b.1) i) (nat_le i (bits b.0)) e in
        (slice, (leb-true (bits b.1) i parts.0, leb-true i (bits b.0) parts.1))
    by_test false slice e = absurd (none_covered i e)

-- ---- some bit below a width

some_found : (w : ℕ) (f : ℕ → Bool) → some_below w f ≡ true → (i : ℕ) × ((i < w) × (f i ≡ true))
some_found zero f e = absurd (true≢false (sym e))
some_found (suc w) f e = elim (or_cases (f w) (some_below w f) e) [
  | inl h ↦ (w, (omega arith, h))
  | inr h ↦ let s = some_found w f h in let less = s.1.0 in (s.0, (omega arith, s.1.1))
]

none_below : (w : ℕ) (f : ℕ → Bool) → ((i : ℕ) → i < w → f i ≡ true → ⊥) → some_below w f ≡ false
none_below w f n = elim (cases_Bool (some_below w f)) [ inl e ↦ (let s = some_found w f e in absurd (n s.0 s.1.0 s.1.1)) | inr e ↦ e ]

-- ---- what is done on a path

pub sets_cases : (x : Name) (i : ℕ) (front back : List Deed) → SetsBit x i (front ++ back) → SetsBit x i front ⊎ SetsBit x i back
sets_cases x i [] back s = inr s
sets_cases x i (d ∷ front) back (inl here) = inl (inl here)
sets_cases x i (d ∷ front) back (inr s) = elim (sets_cases x i front back s) [ inl l ↦ inl (inr l) | inr r ↦ inr r ]

pub set_behind : (x : Name) (i : ℕ) (e : Expr) (path : List Deed) → SetsBit x i (Evaluates e ∷ path) → SetsBit x i path
set_behind x i e path (inl here) = absurd here
set_behind x i e path (inr s) = s

-- ---- each body has a path

abbrev SomePath : (List Deed → Type 0) → Type 0
SomePath P = (path : List Deed) × P path

-- an arm, or nothing where there is none
abbrev pub InArms : Arms → List Deed → Type 0
InArms arms path = ArmPath arms path ⊎ ((no_arms arms ≡ true) × (path ≡ []))

mutual
  stmt_path : (s : Stmt) → SomePath (StmtPath s)
  stmt_path (Assign slot line gens x part e) = (Evaluates e ∷ Sets x part ∷ [], refl)
  stmt_path (Let slot line gens x e) = (Evaluates e ∷ Sets x None ∷ [], refl)
  stmt_path (If slot line gens c first second) = let p = body_path first in (Evaluates c ∷ p.0, record { branch = p.0; taken = inl p.1; whole = refl })
  stmt_path (Case slot line gens v arms other) = let p = arm_path arms in (Evaluates v ∷ p.0, record { branch = p.0; taken = inl p.1; whole = refl })

  body_path : (b : Body) → SomePath (BodyPath b)
  body_path Done = ([], refl)
  body_path (Then s rest) = let p = stmt_path s in let q = body_path rest in (p.0 ++ q.0, record { front = p.0; back = q.0; before = p.1; after = q.1; whole = refl })

  arm_path : (arms : Arms) → SomePath (InArms arms)
  arm_path NoArms = ([], inr (refl, refl))
  arm_path (ThenArm tests body rest) = let p = body_path body in (p.0, inl (inl p.1))

-- ---- a path that does not set a bit

record PathWithout (P : List Deed → Type 0) (y : Name) (i : ℕ) : Type 0 where
  path : List Deed
  passes : P path
  without : SetsBit y i path → ⊥

-- a path of P, behind an evaluation, is one of Q
behind_one : (P Q : List Deed → Type 0) (c : Expr) (y : Name) (i : ℕ) → ((path : List Deed) → P path → Q (Evaluates c ∷ path)) → PathWithout P y i → PathWithout Q y i
behind_one P Q c y i f p = record { path = Evaluates c ∷ p.path; passes = f p.path p.passes; without = λ s. p.without (set_behind y i c p.path s) }

past_one : (x y : Name) (part : Option (ℤ × ℤ)) (i : ℕ) (e : Expr) → not (bytes_eq y x && covers (part_in part) i) ≡ true → SetsBit y i (Evaluates e ∷ Sets x part ∷ []) → ⊥
past_one x y part i e h s = elim (set_behind y i e (Sets x part ∷ []) s) [
  | inl here ↦ true≢false (sym h ∙ ap not (and_from (bytes_eq y x) (covers (part_in part) i) (name_same y x here.0) (covered part i here.1)))
  | inr none ↦ none
]

past_let : (x y : Name) (i : ℕ) (e : Expr) → not (bytes_eq y x) ≡ true → SetsBit y i (Evaluates e ∷ Sets x None ∷ []) → ⊥
past_let x y i e h s = elim (set_behind y i e (Sets x None ∷ []) s) [
  | inl here ↦ true≢false (sym h ∙ ap not (name_same y x here.0))
  | inr none ↦ none
]

mutual
  skipping : (s : Stmt) (y : Name) (i : ℕ) → skips s y i ≡ true → PathWithout (StmtPath s) y i
  skipping (Assign slot line gens x part e) y i h = record { path = Evaluates e ∷ Sets x part ∷ []; passes = refl; without = past_one x y part i e h }
  skipping (Let slot line gens x e) y i h = record { path = Evaluates e ∷ Sets x None ∷ []; passes = refl; without = past_let x y i e h }
  skipping (If slot line gens c first second) y i h = elim (or_cases (body_skips first y i) (else_skips second y i) h) [
    | inl g ↦ behind_one (BodyPath first) (OneBranch c (BodyPath first) (ElsePath second)) c y i (λ path p. record { branch = path; taken = inl p; whole = refl }) (body_skipping first y i g)
    | inr g ↦ behind_one (ElsePath second) (OneBranch c (BodyPath first) (ElsePath second)) c y i (λ path p. record { branch = path; taken = inr p; whole = refl }) (else_skipping second y i g)
  ]
  skipping (Case slot line gens v arms other) y i h = elim (or_cases (no_arms arms) (arms_skip arms y i || else_skips other y i) h) [
    | inl none ↦ record { path = Evaluates v ∷ []; passes = record { branch = []; taken = inl (inr (none, refl)); whole = refl }; without = λ s. set_behind y i v [] s }
    | inr some ↦ elim (or_cases (arms_skip arms y i) (else_skips other y i) some) [
      | inl g ↦ behind_one (ArmPath arms) (OneBranch v (InArms arms) (ElsePath other)) v y i (λ path p. record { branch = path; taken = inl (inl p); whole = refl }) (arms_skipping arms y i g)
      | inr g ↦ behind_one (ElsePath other) (OneBranch v (InArms arms) (ElsePath other)) v y i (λ path p. record { branch = path; taken = inr p; whole = refl }) (else_skipping other y i g)
    ]
  ]

  body_skipping : (b : Body) (y : Name) (i : ℕ) → body_skips b y i ≡ true → PathWithout (BodyPath b) y i
  body_skipping Done y i h = record { path = []; passes = refl; without = λ s. s }
  body_skipping (Then s rest) y i h =
      let parts = and_parts (skips s y i) (body_skips rest y i) h in
      let p = skipping s y i parts.0 in
      let q = body_skipping rest y i parts.1 in
      record {
        path = p.path ++ q.path;
        passes = record { front = p.path; back = q.path; before = p.passes; after = q.passes; whole = refl };
        without = λ t. elim (sets_cases y i p.path q.path t) [ inl l ↦ p.without l | inr r ↦ q.without r ];
      }

  else_skipping : (b : Else) (y : Name) (i : ℕ) → else_skips b y i ≡ true → PathWithout (ElsePath b) y i
  else_skipping NoElse y i h = record { path = []; passes = refl; without = λ s. s }
  else_skipping (Otherwise body) y i h = body_skipping body y i h

  arms_skipping : (arms : Arms) (y : Name) (i : ℕ) → arms_skip arms y i ≡ true → PathWithout (ArmPath arms) y i
  arms_skipping NoArms y i h = absurd (true≢false (sym h))
  arms_skipping (ThenArm tests body rest) y i h = elim (or_cases (body_skips body y i) (arms_skip rest y i) h) [
    | inl g ↦ let p = body_skipping body y i g in record { path = p.path; passes = inl p.passes; without = p.without }
    | inr g ↦ let p = arms_skipping rest y i g in record { path = p.path; passes = inr p.passes; without = p.without }
  ]

-- ---- no target is left out

no_latch_at : (v : Variant) (b : Block) → b.clocked ≡ false → AssignsAlways v b → (d : Drive) → IsIn d (driven_in b) → latch_at (declared_width v.signals) b d ≡ None
no_latch_at v b comb h d j =
    ap (λ (c : Bool). if c then Some (fault.Latch (spot b.line d.1)) else None)
    (none_below (declared_width v.signals d.1) (body_skips b.body d.1) (λ i less skipped.
    let p = body_skipping b.body d.1 i skipped in p.without (h comb d.1 (told_body b.body d j) i less p.path p.passes)))

no_latch_in : (v : Variant) (b : Block) → AssignsAlways v b → latch_in (declared_width v.signals) b ≡ None
no_latch_in v b h =
    let W = declared_width v.signals in
    elim (cases_Bool b.clocked) [
      | inl e ↦ ap (λ (c : Bool). if c then None else first_of (latch_at W b) (driven_in b)) e
      | inr e ↦ ap (λ (c : Bool). if c then None else first_of (latch_at W b) (driven_in b)) e ∙ first_none (latch_at W b) (driven_in b) (no_latch_at v b e h)
    ]

pub always_are_not_refused : AlwaysAreNotRefused
always_are_not_refused d h = not_refused d Latch (λ v u. first_none (latch_in (declared_width v.signals)) v.blocks (λ b i. no_latch_in v b (each_member (AssignsAlways v) v.blocks (h v u) b i)))

-- ---- no name is read too early

-- where a path reads a name of which these bits are missing, it has set them before
abbrev pub SetsBefore : (Name → ℕ) → (List Deed → Type 0) → Bits → Type 0
SetsBefore W P missing =
    (front back : List Deed) (e : Expr) → P (front ++ Evaluates e ∷ back) → (x : Name) → ReadsName e x → (i : ℕ) → i < W x → missing x i ≡ true → SetsBit x i front

module _ (W : Name → ℕ) where
  none_read : (missing : Bits) (line : ℕ) (e : Expr) → ((x : Name) → ReadsName e x → (i : ℕ) → i < W x → missing x i ≡ true → ⊥) → early_read W missing line e ≡ None
  none_read missing line (Read x) h = ap (λ (c : Bool). if c then Some (fault.ReadBeforeWrite (spot line x)) else None) (none_below (W x) (missing x) (h x refl))
  none_read missing line (Out u q) h = refl
  none_read missing line (Value l) h = refl
  none_read missing line (Unary o e) h = none_read missing line e h
  none_read missing line (Binary o a b) h =
      earlier_none (early_read W missing line a) (early_read W missing line b) (none_read missing line a (λ x r. h x (inl r))) (none_read missing line b (λ x r. h x (inr r)))
  none_read missing line (Mux c a b) h =
      earlier_none (early_read W missing line c) (earlier (early_read W missing line a) (early_read W missing line b)) (none_read missing line c (λ x r. h x (inl r)))
      (earlier_none (early_read W missing line a) (early_read W missing line b) (none_read missing line a (λ x r. h x (inr (inl r)))) (none_read missing line b (λ x r. h x (inr (inr r)))))
  none_read missing line (Zext e n) h = none_read missing line e h
  none_read missing line (Slice e j l) h = none_read missing line e h

  in_condition : (c : Expr) (P Q : List Deed → Type 0) (missing : Bits) → SomePath P → SetsBefore W (OneBranch c P Q) missing → (x : Name) → ReadsName c x → (i : ℕ) → i < W x → missing x i ≡ true → ⊥
  in_condition c P Q missing p h x r i less m = h [] p.0 c (record { branch = p.0; taken = inl p.1; whole = refl }) x r i less m

  in_branch : (c : Expr) (P Q R : List Deed → Type 0) (missing : Bits) → ((path : List Deed) → R path → P path ⊎ Q path) → SetsBefore W (OneBranch c P Q) missing → SetsBefore W R missing
  in_branch c P Q R missing takes h front back e p x r i less m =
      set_behind x i c front (h (Evaluates c ∷ front) back e (record { branch = front ++ Evaluates e ∷ back; taken = takes (front ++ Evaluates e ∷ back) p; whole = refl }) x r i less m)

  in_one : (P Q : List Deed → Type 0) (missing : Bits) → SomePath Q → SetsBefore W (OneThenOther P Q) missing → SetsBefore W P missing
  in_one P Q missing q h front back e p x r i less m =
      h front (back ++ q.0) e (record { front = front ++ Evaluates e ∷ back; back = q.0; before = p; after = q.1; whole = sym (append_assoc front (Evaluates e ∷ back) q.0) }) x r i less m

  in_other : (P Q : List Deed → Type 0) (missing skipped : Bits) → ((y : Name) (i : ℕ) → skipped y i ≡ true → PathWithout P y i) → SetsBefore W (OneThenOther P Q) missing → SetsBefore W Q (λ y i. missing y i && skipped y i)
  in_other P Q missing skipped paths h front back e q x r i less m =
      let parts = and_parts (missing x i) (skipped x i) m in
      let p = paths x i parts.1 in
      let set : SetsBit x i (p.path ++ front) = h (p.path ++ front) back e (record { front = p.path; back = front ++ Evaluates e ∷ back; before = p.passes; after = q; whole = append_assoc p.path front (Evaluates e ∷ back) }) x r i less parts.0 in
      elim (sets_cases x i p.path front set) [ inl l ↦ absurd (p.without l) | inr t ↦ t ]

  mutual
    none_early : (missing : Bits) (s : Stmt) → SetsBefore W (StmtPath s) missing → early W missing s ≡ None
    none_early missing (Assign slot line gens x part e) h = none_read missing line e (λ y r i less m. h [] (Sets x part ∷ []) e refl y r i less m)
    none_early missing (Let slot line gens x e) h = none_read missing line e (λ y r i less m. h [] (Sets x None ∷ []) e refl y r i less m)
    none_early missing (If slot line gens c first second) h =
        earlier_none (early_read W missing line c) (earlier (early_in W missing first) (early_in_else W missing second))
        (none_read missing line c (in_condition c (BodyPath first) (ElsePath second) missing (body_path first) h))
        (earlier_none (early_in W missing first) (early_in_else W missing second)
        (none_in_body missing first (in_branch c (BodyPath first) (ElsePath second) (BodyPath first) missing (λ path p. inl p) h))
        (none_in_else missing second (in_branch c (BodyPath first) (ElsePath second) (ElsePath second) missing (λ path p. inr p) h)))
    none_early missing (Case slot line gens v arms other) h =
        earlier_none (early_read W missing line v) (earlier (early_in_arms W missing arms) (early_in_else W missing other))
        (none_read missing line v (in_condition v (InArms arms) (ElsePath other) missing (arm_path arms) h))
        (earlier_none (early_in_arms W missing arms) (early_in_else W missing other)
        (none_in_arms missing arms (in_branch v (InArms arms) (ElsePath other) (ArmPath arms) missing (λ path p. inl (inl p)) h))
        (none_in_else missing other (in_branch v (InArms arms) (ElsePath other) (ElsePath other) missing (λ path p. inr p) h)))

    none_in_body : (missing : Bits) (b : Body) → SetsBefore W (BodyPath b) missing → early_in W missing b ≡ None
    none_in_body missing Done h = refl
    none_in_body missing (Then s rest) h =
        earlier_none (early W missing s) (early_in W (λ y i. missing y i && skips s y i) rest)
        (none_early missing s (in_one (StmtPath s) (BodyPath rest) missing (body_path rest) h))
        (none_in_body (λ y i. missing y i && skips s y i) rest (in_other (StmtPath s) (BodyPath rest) missing (skips s) (skipping s) h))

    none_in_else : (missing : Bits) (b : Else) → SetsBefore W (ElsePath b) missing → early_in_else W missing b ≡ None
    none_in_else missing NoElse h = refl
    none_in_else missing (Otherwise body) h = none_in_body missing body h

    none_in_arms : (missing : Bits) (arms : Arms) → SetsBefore W (ArmPath arms) missing → early_in_arms W missing arms ≡ None
    none_in_arms missing NoArms h = refl
    none_in_arms missing (ThenArm tests body rest) h =
        earlier_none (early_in W missing body) (early_in_arms W missing rest)
        (none_in_body missing body (λ front back e p. h front back e (inl p)))
        (none_in_arms missing rest (λ front back e p. h front back e (inr p)))

own_name : (b : Block) (x : Name) → own b x ≡ true → IsOwnName b x
own_name b x h = elim (or_cases (list_any (bytes_eq x) (lets_of b.body)) (not b.clocked && list_any (λ (d : Drive). bytes_eq x d.1) (driven_in b)) h) [
  | inl l ↦ let found = any_in (bytes_eq x) (lets_of b.body) l in inl (subst (λ (y : Name). IsIn y (lets_of b.body)) (sym (same_name x found.0 found.1.1)) found.1.0)
  | inr r ↦
      let parts = and_parts (not b.clocked) (list_any (λ (d : Drive). bytes_eq x d.1) (driven_in b)) r in
      let found = any_in (λ (d : Drive). bytes_eq x d.1) (driven_in b) parts.1 in
      inr (unclocked b.clocked parts.0, subst (BodyAssigns b.body) (sym (same_name x found.0.1 found.1.1)) (told_body b.body found.0 found.1.0))
]
  where
    unclocked : (clocked : Bool) → not clocked ≡ true → clocked ≡ false
    unclocked true e = absurd (true≢false (sym e))
    unclocked false e = refl

none_in_block : (v : Variant) (b : Block) → AssignsFirst v b → early_in_block (declared_width v.signals) b ≡ None
none_in_block v b h =
    none_in_body (declared_width v.signals) (λ y i. own b y) b.body (λ front back e p x r i less m. h front back e p x r (own_name b x m) i less)

pub first_are_not_refused : FirstAreNotRefused
first_are_not_refused d h = not_refused d ReadBeforeWrite (λ v u. first_none (early_in_block (declared_width v.signals)) v.blocks (λ b i. none_in_block v b (each_member (AssignsFirst v) v.blocks (h v u) b i)))
