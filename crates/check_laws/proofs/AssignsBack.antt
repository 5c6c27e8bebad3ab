-- Where there is no latch and no early read, each path assigns each bit of what is to be assigned, and in time.
use Rattle.std.proofs.Common.{◌≡◌, ℕ, ◌<◌, ℤ, Bool, true, false, true≢false, ◌&&◌, ◌||◌, not, bytes_eq, List, [], ◌∷◌, ◌++◌, Option, None, if◌then◌else◌, ◌⊎◌, inl, inr, refl, sym, ap, ap₂, ◌∙◌, subst}
use Rattle.std.specs.List.{list_any}
use Rattle.std.proofs.lemmas.Bool.{cases_Bool, and_cases, or_parts, or_left, or_right, and_from, and_parts}
use Rattle.exec_core.specs.Block.{Name, covers}
use Rattle.exec_core.specs.Decided.{some_below}
use Rattle.list_core.proofs.Lists.{each_member, each_from}
use Rattle.list_core.proofs.Options.{none_if}
use Rattle.design_core.specs.Design.{Expr, Read, Out, Value, Unary, Binary, Mux, Zext, Slice, Stmt, Assign, Let, If, Case, Body, Done, Then, Else, NoElse, Otherwise, Arms, NoArms, ThenArm, Block, Variant}
use Rattle.design_core.specs.Slots.{lets_of}
use Rattle.check_core.specs.declared.fault.CheckFault.TheVariants as fault
use Rattle.check_core.specs.Drivers.{Drive, driven_in}
use Rattle.check_core.specs.Faults.{first_of, spot}
use Rattle.check_core.specs.Paths.{Bits, part_in, no_arms, skips, body_skips, else_skips, arms_skip, declared_width, latch_at, latch_in, own, early_read, early, early_in, early_in_else, early_in_arms, early_in_block}
use Rattle.check_exec.proofs.Declared.{some_from}
use Rattle.check_exec.proofs.Facts.{same_name, name_same, in_any, earlier_left, earlier_right, none_found}
use Rattle.check_laws.specs.Assigning.{Deed, Evaluates, Sets, SetsBit, StmtPath, BodyPath, ElsePath, ArmPath, ReadsName, IsOwnName, AssignsAlways, AssignsFirst}
use Rattle.check_laws.specs.Accepting.{AcceptedAreAssigned}
use Rattle.check_laws.proofs.Assigned.{covering, SetsBefore}
use Rattle.check_laws.proofs.Driven.{found_body}
use Rattle.check_laws.proofs.Used.{used_clean}

-- ---- what no path skips, each path sets

is_on : (b : Bool) → not b ≡ false → b ≡ true
is_on true e = refl
is_on false e = absurd (true≢false e)

pub sets_left : (x : Name) (i : ℕ) (front back : List Deed) → SetsBit x i front → SetsBit x i (front ++ back)
sets_left x i [] back s = absurd s
sets_left x i (d ∷ front) back (inl here) = inl here
sets_left x i (d ∷ front) back (inr s) = inr (sets_left x i front back s)

pub sets_right : (x : Name) (i : ℕ) (front back : List Deed) → SetsBit x i back → SetsBit x i (front ++ back)
sets_right x i [] back s = s
sets_right x i (d ∷ front) back s = inr (sets_right x i front back s)

set_here : (x y : Name) (part : Option (ℤ × ℤ)) (i : ℕ) (e : Expr) (path : List Deed) → not (bytes_eq y x && covers (part_in part) i) ≡ false → path ≡ Evaluates e ∷ Sets x part ∷ [] → SetsBit y i path
set_here x y part i e path h is =
    let parts = and_parts (bytes_eq y x) (covers (part_in part) i) (is_on (bytes_eq y x && covers (part_in part) i) h) in
    subst (SetsBit y i) (sym is) (inr (inl (same_name y x parts.0, covering part i parts.1)))

let_here : (x y : Name) (i : ℕ) (e : Expr) (path : List Deed) → not (bytes_eq y x) ≡ false → path ≡ Evaluates e ∷ Sets x None ∷ [] → SetsBit y i path
let_here x y i e path h is = subst (SetsBit y i) (sym is) (inr (inl (same_name y x (is_on (bytes_eq y x) h), tt)))

mutual
  sets_bit : (s : Stmt) (y : Name) (i : ℕ) → skips s y i ≡ false → (path : List Deed) → StmtPath s path → SetsBit y i path
  sets_bit (Assign slot line gens x part e) y i h path p = set_here x y part i e path h p
  sets_bit (Let slot line gens x e) y i h path p = let_here x y i e path h p
  sets_bit (If slot line gens c first second) y i h path p =
      let parts = or_parts (body_skips first y i) (else_skips second y i) h in
      elim p.taken [
        | inl l ↦ subst (SetsBit y i) (sym p.whole) (inr (body_sets_bit first y i parts.0 p.branch l))
        | inr r ↦ subst (SetsBit y i) (sym p.whole) (inr (else_sets_bit second y i parts.1 p.branch r))
      ]
  sets_bit (Case slot line gens v arms other) y i h path p =
      let some = or_parts (no_arms arms) (arms_skip arms y i || else_skips other y i) h in
      let parts = or_parts (arms_skip arms y i) (else_skips other y i) some.1 in
      elim p.taken [
        | inl l ↦ elim l [
          | inl arm ↦ subst (SetsBit y i) (sym p.whole) (inr (arms_set_bit arms y i parts.0 p.branch arm))
          | inr none ↦ absurd (true≢false (sym none.0 ∙ some.0))
        ]
        | inr r ↦ subst (SetsBit y i) (sym p.whole) (inr (else_sets_bit other y i parts.1 p.branch r))
      ]

  body_sets_bit : (b : Body) (y : Name) (i : ℕ) → body_skips b y i ≡ false → (path : List Deed) → BodyPath b path → SetsBit y i path
  body_sets_bit Done y i h path p = absurd (true≢false h)
  body_sets_bit (Then s rest) y i h path p = elim (and_cases (skips s y i) (body_skips rest y i) h) [
    | inl l ↦ subst (SetsBit y i) (sym p.whole) (sets_left y i p.front p.back (sets_bit s y i l p.front p.before))
    | inr r ↦ subst (SetsBit y i) (sym p.whole) (sets_right y i p.front p.back (body_sets_bit rest y i r p.back p.after))
  ]

  else_sets_bit : (b : Else) (y : Name) (i : ℕ) → else_skips b y i ≡ false → (path : List Deed) → ElsePath b path → SetsBit y i path
  else_sets_bit NoElse y i h path p = absurd (true≢false h)
  else_sets_bit (Otherwise body) y i h path p = body_sets_bit body y i h path p

  arms_set_bit : (arms : Arms) (y : Name) (i : ℕ) → arms_skip arms y i ≡ false → (path : List Deed) → ArmPath arms path → SetsBit y i path
  arms_set_bit NoArms y i h path p = absurd p
  arms_set_bit (ThenArm tests body rest) y i h path (inl p) = body_sets_bit body y i (or_parts (body_skips body y i) (arms_skip rest y i) h).0 path p
  arms_set_bit (ThenArm tests body rest) y i h path (inr p) = arms_set_bit rest y i (or_parts (body_skips body y i) (arms_skip rest y i) h).1 path p

-- a bit below a width at which no path may skip
not_skipped : (w : ℕ) (f : ℕ → Bool) → some_below w f ≡ false → (i : ℕ) → i < w → f i ≡ false
not_skipped w f none i less = elim (cases_Bool (f i)) [ inl e ↦ absurd (true≢false (sym (some_from w f i less e) ∙ none)) | inr e ↦ e ]

always_back : (v : Variant) (b : Block) → latch_in (declared_width v.signals) b ≡ None → AssignsAlways v b
always_back v b e comb x assigns i less path p =
    let W = declared_width v.signals in
    let d = found_body b.body x assigns in
    let none : first_of (latch_at W b) (driven_in b) ≡ None = sym (ap (λ (c : Bool). if c then None else first_of (latch_at W b) (driven_in b)) comb) ∙ e in
    let at : latch_at W b d.drive ≡ None = each_member (λ (d : Drive). latch_at W b d ≡ None) (driven_in b) (none_found (latch_at W b) (driven_in b) none) d.drive d.among in
    let full : some_below (W d.drive.1) (body_skips b.body d.drive.1) ≡ false = (none_if (some_below (W d.drive.1) (body_skips b.body d.drive.1)) (fault.Latch (spot b.line d.drive.1)) None at).0 in
    subst (λ (y : Name). SetsBit y i path) d.name
    (body_sets_bit b.body d.drive.1 i (not_skipped (W d.drive.1) (body_skips b.body d.drive.1) full i (subst (λ (y : Name). i < W y) (sym d.name) less)) path p)

-- ---- where an evaluation stands on a path

-- in one part of it or in the other
record InOther (one other front back : List Deed) (deed : Deed) : Type 0 where
  between : List Deed
  before : front ≡ one ++ between
  after : between ++ deed ∷ back ≡ other

part_of : (one other front back : List Deed) (deed : Deed) → front ++ deed ∷ back ≡ one ++ other → ((rest : List Deed) × (one ≡ front ++ deed ∷ rest)) ⊎ InOther one other front back deed
part_of [] other front back deed e = inr (record { between = front; before = refl; after = e })
part_of (a ∷ one) other [] back deed e = let same : deed ≡ a = cc in inl (one, ap (λ (z : Deed). z ∷ one) (sym same))
part_of (a ∷ one) other (f ∷ front) back deed e =
    let same : f ≡ a = cc in
    let rest : front ++ deed ∷ back ≡ one ++ other = cc in
    elim (part_of one other front back deed rest) [
      | inl l ↦ inl (l.0, ap₂ (λ (z : Deed) zs. z ∷ zs) (sym same) l.1)
      | inr r ↦ inr (record { between = r.between; before = ap₂ (λ (z : Deed) zs. z ∷ zs) same r.before; after = r.after })
    ]

-- as the first, or behind it
record BehindFirst (first : Deed) (rest front back : List Deed) (deed : Deed) : Type 0 where
  between : List Deed
  before : front ≡ first ∷ between
  after : between ++ deed ∷ back ≡ rest

first_or_behind : (first : Deed) (rest front back : List Deed) (deed : Deed) → front ++ deed ∷ back ≡ first ∷ rest → (deed ≡ first) ⊎ BehindFirst first rest front back deed
first_or_behind first rest [] back deed e = let same : deed ≡ first = cc in inl same
first_or_behind first rest (f ∷ front) back deed e =
    let same : f ≡ first = cc in
    let more : front ++ deed ∷ back ≡ rest = cc in inr (record { between = front; before = ap (λ (z : Deed). z ∷ front) same; after = more })

no_more : (front back : List Deed) (deed : Deed) → front ++ deed ∷ back ≡ [] → ⊥
no_more [] back deed e = cc
no_more (f ∷ front) back deed e = cc

not_in_set : (x : Name) (part : Option (ℤ × ℤ)) (e : Expr) (front back : List Deed) → front ++ Evaluates e ∷ back ≡ Sets x part ∷ [] → ⊥
not_in_set x part e front back h = elim (first_or_behind (Sets x part) [] front back (Evaluates e) h) [ inl same ↦ cc | inr r ↦ no_more r.between back (Evaluates e) r.after ]

same_expr : (a b : Expr) → Evaluates a ≡ Evaluates b → a ≡ b
same_expr a b e = cc

-- ---- what is read was set

module _ (W : Name → ℕ) where
  not_missing : (missing : Bits) (line : ℕ) (e : Expr) → early_read W missing line e ≡ None → (x : Name) → ReadsName e x → (i : ℕ) → i < W x → missing x i ≡ true → ⊥
  not_missing missing line (Read y) h x r i less m =
      true≢false (sym (some_from (W y) (missing y) i (subst (λ (z : Name). i < W z) r less) (subst (λ (z : Name). missing z i ≡ true) r m))
      ∙ (none_if (some_below (W y) (missing y)) (fault.ReadBeforeWrite (spot line y)) None h).0)
  not_missing missing line (Out u q) h x r i less m = r
  not_missing missing line (Value l) h x r i less m = r
  not_missing missing line (Unary o e) h x r i less m = not_missing missing line e h x r i less m
  not_missing missing line (Binary o a b) h x r i less m = elim r [
    | inl j ↦ not_missing missing line a (earlier_left (early_read W missing line a) _ h) x j i less m
    | inr j ↦ not_missing missing line b (earlier_right (early_read W missing line a) _ h) x j i less m
  ]
  not_missing missing line (Mux c a b) h x r i less m =
      let later = earlier_right (early_read W missing line c) _ h in
      elim r [
        | inl j ↦ not_missing missing line c (earlier_left (early_read W missing line c) _ h) x j i less m
        | inr k ↦ elim k [
          | inl j ↦ not_missing missing line a (earlier_left (early_read W missing line a) _ later) x j i less m
          | inr j ↦ not_missing missing line b (earlier_right (early_read W missing line a) _ later) x j i less m
        ]
      ]
  not_missing missing line (Zext e n) h x r i less m = not_missing missing line e h x r i less m
  not_missing missing line (Slice e j l) h x r i less m = not_missing missing line e h x r i less m

  set_before_last : (missing : Bits) (line : ℕ) (e : Expr) (y : Name) (part : Option (ℤ × ℤ)) → early_read W missing line e ≡ None → SetsBefore W (λ path. path ≡ Evaluates e ∷ Sets y part ∷ []) missing
  set_before_last missing line e y part h front back a p x r i less m = elim (first_or_behind (Evaluates e) (Sets y part ∷ []) front back (Evaluates a) p) [
    | inl same ↦ absurd (not_missing missing line e h x (subst (λ (b : Expr). ReadsName b x) (same_expr a e same) r) i less m)
    | inr j ↦ absurd (not_in_set y part a j.between back j.after)
  ]

  mutual
    set_before : (missing : Bits) (s : Stmt) → early W missing s ≡ None → SetsBefore W (StmtPath s) missing
    set_before missing (Assign slot line gens y part a) h front back e p x r i less m = set_before_last missing line a y part h front back e p x r i less m
    set_before missing (Let slot line gens y a) h front back e p x r i less m = set_before_last missing line a y None h front back e p x r i less m
    set_before missing (If slot line gens c first second) h front back e p x r i less m =
        let later = earlier_right (early_read W missing line c) _ h in
        elim (first_or_behind (Evaluates c) p.branch front back (Evaluates e) p.whole) [
          | inl same ↦ absurd (not_missing missing line c (earlier_left (early_read W missing line c) _ h) x (subst (λ (b : Expr). ReadsName b x) (same_expr e c same) r) i less m)
          | inr j ↦ subst (SetsBit x i) (sym j.before) (inr (elim p.taken [
            | inl t ↦ body_set_before missing first (earlier_left (early_in W missing first) _ later) j.between back e (subst (BodyPath first) (sym j.after) t) x r i less m
            | inr t ↦ else_set_before missing second (earlier_right (early_in W missing first) _ later) j.between back e (subst (ElsePath second) (sym j.after) t) x r i less m
          ]))
        ]
    set_before missing (Case slot line gens v arms other) h front back e p x r i less m =
        let later = earlier_right (early_read W missing line v) _ h in
        elim (first_or_behind (Evaluates v) p.branch front back (Evaluates e) p.whole) [
          | inl same ↦ absurd (not_missing missing line v (earlier_left (early_read W missing line v) _ h) x (subst (λ (b : Expr). ReadsName b x) (same_expr e v same) r) i less m)
          | inr j ↦ subst (SetsBit x i) (sym j.before) (inr (elim p.taken [
            | inl t ↦ elim t [
              | inl arm ↦ arms_set_before missing arms (earlier_left (early_in_arms W missing arms) _ later) j.between back e (subst (ArmPath arms) (sym j.after) arm) x r i less m
              | inr none ↦ absurd (no_more j.between back (Evaluates e) (j.after ∙ none.1))
            ]
            | inr t ↦ else_set_before missing other (earlier_right (early_in_arms W missing arms) _ later) j.between back e (subst (ElsePath other) (sym j.after) t) x r i less m
          ]))
        ]

    body_set_before : (missing : Bits) (b : Body) → early_in W missing b ≡ None → SetsBefore W (BodyPath b) missing
    body_set_before missing Done h front back e p x r i less m = absurd (no_more front back (Evaluates e) p)
    body_set_before missing (Then s rest) h front back e p x r i less m =
        elim (part_of p.front p.back front back (Evaluates e) p.whole) [
          | inl l ↦ set_before missing s (earlier_left (early W missing s) _ h) front l.0 e (subst (StmtPath s) l.1 p.before) x r i less m
          | inr j ↦ subst (SetsBit x i) (sym j.before) (elim (cases_Bool (skips s x i)) [
            | inl skipped ↦ sets_right x i p.front j.between
                (body_set_before (λ y k. missing y k && skips s y k) rest (earlier_right (early W missing s) _ h) j.between back e (subst (BodyPath rest) (sym j.after) p.after) x r i less
                (and_from (missing x i) (skips s x i) m skipped))
            | inr set ↦ sets_left x i p.front j.between (sets_bit s x i set p.front p.before)
          ])
        ]

    else_set_before : (missing : Bits) (b : Else) → early_in_else W missing b ≡ None → SetsBefore W (ElsePath b) missing
    else_set_before missing NoElse h front back e p x r i less m = absurd (no_more front back (Evaluates e) p)
    else_set_before missing (Otherwise body) h front back e p x r i less m = body_set_before missing body h front back e p x r i less m

    arms_set_before : (missing : Bits) (arms : Arms) → early_in_arms W missing arms ≡ None → SetsBefore W (ArmPath arms) missing
    arms_set_before missing NoArms h front back e p x r i less m = absurd p
    arms_set_before missing (ThenArm tests body rest) h front back e (inl p) x r i less m =
        body_set_before missing body (earlier_left (early_in W missing body) _ h) front back e p x r i less m
    arms_set_before missing (ThenArm tests body rest) h front back e (inr p) x r i less m =
        arms_set_before missing rest (earlier_right (early_in W missing body) _ h) front back e p x r i less m

is_own : (b : Block) (x : Name) → IsOwnName b x → own b x ≡ true
is_own b x (inl i) = or_left (list_any (bytes_eq x) (lets_of b.body)) _ (in_any (bytes_eq x) (lets_of b.body) x i (name_same x x refl))
is_own b x (inr i) =
    let d = found_body b.body x i.1 in
    or_right (list_any (bytes_eq x) (lets_of b.body)) (not b.clocked && list_any (λ (d : Drive). bytes_eq x d.1) (driven_in b))
    (and_from (not b.clocked) (list_any (λ (d : Drive). bytes_eq x d.1) (driven_in b)) (ap not i.0)
    (in_any (λ (d : Drive). bytes_eq x d.1) (driven_in b) d.drive d.among (name_same x d.drive.1 (sym d.name))))

first_back : (v : Variant) (b : Block) → early_in_block (declared_width v.signals) b ≡ None → AssignsFirst v b
first_back v b h front back e p x r o i less = body_set_before (declared_width v.signals) (λ y k. own b y) b.body h front back e p x r i less (is_own b x o)

pub accepted_are_assigned : AcceptedAreAssigned
accepted_are_assigned d sound v u =
    let c = used_clean d sound v u in
    let W = declared_width v.signals in (
      each_from (AssignsAlways v) v.blocks (λ b i. always_back v b (each_member (λ (b : Block). latch_in W b ≡ None) v.blocks (none_found (latch_in W) v.blocks c.no_latch) b i)),
      each_from (AssignsFirst v) v.blocks (λ b i. first_back v b (each_member (λ (b : Block). early_in_block W b ≡ None) v.blocks (none_found (early_in_block W) v.blocks c.written) b i)),
    )
