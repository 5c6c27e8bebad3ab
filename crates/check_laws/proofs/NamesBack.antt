-- Where no name is unknown, each is declared.
use Rattle.std.proofs.Common.{◌≡◌, ℕ, Bool, true, false, true≢false, ◌||◌, bytes_eq, List, [], ◌∷◌, ◌++◌, None, ◌⊎◌, inl, inr, sym, ap, subst, append_assoc}
use Rattle.std.proofs.lemmas.Bool.{or_cases}
use Rattle.std.proofs.lemmas.List.{append-nil}
use Rattle.exec_core.specs.Block.{Name}
use Rattle.list_core.specs.Lists.{EachOf, IsIn}
use Rattle.list_core.proofs.Lists.{each_member, each_from, in_left, in_right}
use Rattle.design_core.specs.declared.variant.Signal.{Signal}
use Rattle.design_core.specs.declared.variant.Kind.{Kind}
use Rattle.design_core.specs.Design.{Expr, Read, Out, Value, Unary, Binary, Mux, Zext, Slice, Stmt, Assign, Let, If, Case, Body, Done, Then, Else, NoElse, Otherwise, Arms, NoArms, ThenArm, Conn, Child, Block, Variant}
use Rattle.design_core.specs.Slots.{let_of, lets_of, else_lets, arms_lets}
use Rattle.check_core.specs.Faults.{first_of}
use Rattle.check_core.specs.Names.{named, any_kind, child_named, scope_of, unknown_read, unknown_in, unknown_among, targets, unknown_in_block, unknown_in_conn, unknown_in_child, unknown_name}
use Rattle.design_core.specs.Statements.{inside, statements, else_statements, arms_statements}
use Rattle.check_exec.proofs.Facts.{same_name, any_in, earlier_left, earlier_right, none_found}
use Rattle.check_exec.proofs.Targets.{named_in}
use Rattle.check_exec.proofs.Widths.{is_known}
use Rattle.check_laws.specs.Naming.{IsSignal, IsChild, ReadsKnown, IsReadable, IsTarget, NamesStmt, NamesBody, NamesElse, NamesArms, no_let, NamesAreDeclared}
use Rattle.check_laws.specs.Accepting.{AcceptedAreNamed}
use Rattle.check_laws.proofs.Used.{used_clean}

signal_of : (kinds : Kind → Bool) (signals : List Signal) (x : Name) → named kinds signals x ≡ true → IsSignal kinds signals x
signal_of kinds signals x e =
    let found = named_in kinds signals x e in
    record { signal = found.0; among = found.1.0; of_kind = found.1.1.0; named = sym found.1.1.1 }

child_of : (children : List Child) (u : Name) → child_named children u ≡ true → IsChild children u
child_of children u e =
    let found = any_in (λ (c : Child). bytes_eq u c.name) children e in
    record { child = found.0; among = found.1.0; named = sym (same_name u found.0.name found.1.1) }

module _ (v : Variant) where
  -- each let that is known stands before
  Back : (Name → Type 0) → (Name → Bool) → Type 0
  Back lets known = (x : Name) → known x ≡ true → lets x

  readable : (lets : Name → Type 0) (known : Name → Bool) → Back lets known → (x : Name) → (known x || (scope_of v).signal x) ≡ true → IsReadable v lets x
  unfolding Back
  readable lets known b x e = elim (or_cases (known x) (named any_kind v.signals x) e) [ inl k ↦ inl (b x k) | inr s ↦ inr (signal_of any_kind v.signals x s) ]

  reads : (lets : Name → Type 0) (known : Name → Bool) → Back lets known → (line : ℕ) (e : Expr) → unknown_read (scope_of v) known line e ≡ None → ReadsKnown (IsReadable v lets) (IsChild v.children) e
  reads lets known b line (Read x) h = readable lets known b x (is_known (known x || (scope_of v).signal x) _ h)
  reads lets known b line (Out u q) h = child_of v.children u (is_known (child_named v.children u) _ h)
  reads lets known b line (Value l) h = tt
  reads lets known b line (Unary o e) h = reads lets known b line e h
  reads lets known b line (Binary o c d) h = (
    reads lets known b line c (earlier_left (unknown_read (scope_of v) known line c) _ h),
    reads lets known b line d (earlier_right (unknown_read (scope_of v) known line c) _ h),
  )
  reads lets known b line (Mux c x y) h =
      let rest = earlier_right (unknown_read (scope_of v) known line c) _ h in (
        reads lets known b line c (earlier_left (unknown_read (scope_of v) known line c) _ h),
        (reads lets known b line x (earlier_left (unknown_read (scope_of v) known line x) _ rest), reads lets known b line y (earlier_right (unknown_read (scope_of v) known line x) _ rest)),
      )
  reads lets known b line (Zext e n) h = reads lets known b line e h
  reads lets known b line (Slice e i j) h = reads lets known b line e h

  target_is : (clocked : Bool) (x : Name) → targets (scope_of v) clocked x ≡ true → IsTarget v clocked x
  target_is true x e = signal_of _ v.signals x e
  target_is false x e = signal_of _ v.signals x e

  -- ---- statements

  -- these statements have no unknown name, where these lets stand before them
  record NoneIn (clocked : Bool) (lets : Name → Type 0) (list : List Stmt) : Type 0 where
    known : Name → Bool
    back : Back lets known
    none : unknown_among (scope_of v) (targets (scope_of v) clocked) known list ≡ None

  fewer : (clocked : Bool) (lets more : Name → Type 0) (list : List Stmt) → ((x : Name) → lets x → more x) → NoneIn clocked lets list → NoneIn clocked more list
  unfolding Back
  fewer clocked lets more list f h = record { known = h.known; back = λ x e. f x (h.back x e); none = h.none }

  same_list : (clocked : Bool) (lets : Name → Type 0) (list other : List Stmt) → list ≡ other → NoneIn clocked lets list → NoneIn clocked lets other
  same_list clocked lets list other e h = subst (NoneIn clocked lets) e h

  let_back : (lets : Name → Type 0) (known : Name → Bool) (x : Name) → Back lets known → Back (λ y. lets y ⊎ IsIn y (x ∷ [])) (λ y. bytes_eq y x || known y)
  unfolding Back
  let_back lets known x b y e = elim (or_cases (bytes_eq y x) (known y) e) [ inl same ↦ inr (inl (same_name y x same)) | inr k ↦ inl (b y k) ]

  grouped : (lets : Name → Type 0) (front behind : List Name) (x : Name) → (lets x ⊎ IsIn x front) ⊎ IsIn x behind → lets x ⊎ IsIn x (front ++ behind)
  grouped lets front behind x (inl (inl l)) = inl l
  grouped lets front behind x (inl (inr f)) = inr (in_left x front behind f)
  grouped lets front behind x (inr b) = inr (in_right x front behind b)

  mutual
    unfolding Back

    stmt_back : (clocked : Bool) (lets : Name → Type 0) (s : Stmt) (more : List Stmt) → NoneIn clocked lets (s ∷ (inside s ++ more)) → NamesStmt v clocked lets s × NoneIn clocked (λ y. lets y ⊎ IsIn y (let_of s)) more
    stmt_back clocked lets (Assign slot line gens x part e) more h =
        let first = earlier_left (unknown_in (scope_of v) (targets (scope_of v) clocked) h.known (Assign slot line gens x part e)) _ h.none in (
          (
            reads lets h.known h.back line e (earlier_left (unknown_read (scope_of v) h.known line e) _ first),
            target_is clocked x (is_known (targets (scope_of v) clocked x) _ (earlier_right (unknown_read (scope_of v) h.known line e) _ first)),
          ),
          record { known = h.known; back = λ y k. inl (h.back y k); none = earlier_right (unknown_in (scope_of v) (targets (scope_of v) clocked) h.known (Assign slot line gens x part e)) _ h.none },
        )
    stmt_back clocked lets (Let slot line gens x e) more h = (
      reads lets h.known h.back line e (earlier_left (unknown_read (scope_of v) h.known line e) _ h.none),
      record { known = λ y. bytes_eq y x || h.known y; back = let_back lets h.known x h.back; none = earlier_right (unknown_read (scope_of v) h.known line e) _ h.none },
    )
    stmt_back clocked lets (If slot line gens c first second) more h =
        let behind : NoneIn clocked lets ((statements first ++ else_statements second) ++ more) = record { known = h.known; back = h.back; none = earlier_right (unknown_read (scope_of v) h.known line c) _ h.none } in
        let one = body_back clocked lets first (else_statements second ++ more) (same_list clocked lets _ _ (append_assoc (statements first) (else_statements second) more) behind) in
        let two = else_back clocked (λ y. lets y ⊎ IsIn y (lets_of first)) second more one.1 in (
          (reads lets h.known h.back line c (earlier_left (unknown_read (scope_of v) h.known line c) _ h.none), (one.0, two.0)),
          fewer clocked _ _ more (grouped lets (lets_of first) (else_lets second)) two.1,
        )
    stmt_back clocked lets (Case slot line gens value arms other) more h =
        let behind : NoneIn clocked lets ((arms_statements arms ++ else_statements other) ++ more) = record { known = h.known; back = h.back; none = earlier_right (unknown_read (scope_of v) h.known line value) _ h.none } in
        let one = arms_back clocked lets arms (else_statements other ++ more) (same_list clocked lets _ _ (append_assoc (arms_statements arms) (else_statements other) more) behind) in
        let two = else_back clocked (λ y. lets y ⊎ IsIn y (arms_lets arms)) other more one.1 in (
          (reads lets h.known h.back line value (earlier_left (unknown_read (scope_of v) h.known line value) _ h.none), (one.0, two.0)),
          fewer clocked _ _ more (grouped lets (arms_lets arms) (else_lets other)) two.1,
        )

    body_back : (clocked : Bool) (lets : Name → Type 0) (b : Body) (more : List Stmt) → NoneIn clocked lets (statements b ++ more) → NamesBody v clocked lets b × NoneIn clocked (λ y. lets y ⊎ IsIn y (lets_of b)) more
    body_back clocked lets Done more h = (tt, fewer clocked lets _ more (λ x l. inl l) h)
    body_back clocked lets (Then s rest) more h =
        let one = stmt_back clocked lets s (statements rest ++ more) (same_list clocked lets _ _ (ap (λ (list : List Stmt). s ∷ list) (append_assoc (inside s) (statements rest) more)) h) in
        let two = body_back clocked (λ y. lets y ⊎ IsIn y (let_of s)) rest more one.1 in
        ((one.0, two.0), fewer clocked _ _ more (grouped lets (let_of s) (lets_of rest)) two.1)

    else_back : (clocked : Bool) (lets : Name → Type 0) (b : Else) (more : List Stmt) → NoneIn clocked lets (else_statements b ++ more) → NamesElse v clocked lets b × NoneIn clocked (λ y. lets y ⊎ IsIn y (else_lets b)) more
    else_back clocked lets NoElse more h = (tt, fewer clocked lets _ more (λ x l. inl l) h)
    else_back clocked lets (Otherwise body) more h = body_back clocked lets body more h

    arms_back : (clocked : Bool) (lets : Name → Type 0) (arms : Arms) (more : List Stmt) → NoneIn clocked lets (arms_statements arms ++ more) → NamesArms v clocked lets arms × NoneIn clocked (λ y. lets y ⊎ IsIn y (arms_lets arms)) more
    arms_back clocked lets NoArms more h = (tt, fewer clocked lets _ more (λ x l. inl l) h)
    arms_back clocked lets (ThenArm tests body rest) more h =
        let one = body_back clocked lets body (arms_statements rest ++ more) (same_list clocked lets _ _ (append_assoc (statements body) (arms_statements rest) more) h) in
        let two = arms_back clocked (λ y. lets y ⊎ IsIn y (lets_of body)) rest more one.1 in
        ((one.0, two.0), fewer clocked _ _ more (grouped lets (lets_of body) (arms_lets rest)) two.1)

  -- ---- a module

  block_back : (b : Block) → unknown_in_block (scope_of v) b ≡ None → NamesBody v b.clocked no_let b.body
  unfolding Back
  block_back b e =
      (body_back b.clocked no_let b.body [] (same_list b.clocked no_let _ _ (sym (append-nil (statements b.body))) (record { known = λ x. false; back = λ x k. true≢false (sym k); none = e }))).0

  no_let_back : Back no_let (λ x. false)
  unfolding Back
  no_let_back x k = true≢false (sym k)

  named_back : unknown_name v ≡ None → NamesAreDeclared v
  named_back e = record {
    connections = each_from (λ (c : Child). EachOf (λ (k : Conn). ReadsKnown (IsReadable v no_let) (IsChild v.children) k.value) c.conns) v.children (λ c i.
        each_from (λ (k : Conn). ReadsKnown (IsReadable v no_let) (IsChild v.children) k.value) c.conns (λ k j.
        reads no_let (λ x. false) no_let_back k.line k.value
        (each_member (λ (k : Conn). unknown_in_conn (scope_of v) k ≡ None) c.conns
        (none_found (unknown_in_conn (scope_of v)) c.conns
        (each_member (λ (c : Child). unknown_in_child (scope_of v) c ≡ None) v.children (none_found (unknown_in_child (scope_of v)) v.children (earlier_left (first_of (unknown_in_child (scope_of v)) v.children) _ e)) c i)) k j)));
    blocks = each_from (λ (b : Block). NamesBody v b.clocked no_let b.body) v.blocks (λ b i.
        block_back b (each_member (λ (b : Block). unknown_in_block (scope_of v) b ≡ None) v.blocks
        (none_found (unknown_in_block (scope_of v)) v.blocks (earlier_right (first_of (unknown_in_child (scope_of v)) v.children) _ e)) b i));
  }

pub accepted_are_named : AcceptedAreNamed
accepted_are_named d sound v u = named_back v (used_clean d sound v u).known
