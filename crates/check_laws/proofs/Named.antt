-- Where each name is declared, none is unknown.
use Rattle.std.proofs.Common.{◌≡◌, ℕ, Bool, true, false, ◌||◌, bytes_eq, List, [], ◌∷◌, ◌++◌, None, ◌⊎◌, inl, inr, refl, sym, ap, ◌∙◌, append_assoc}
use Rattle.std.proofs.lemmas.Bool.{and_from, or_left, or_right}
use Rattle.std.proofs.lemmas.List.{append-nil}
use Rattle.exec_core.specs.Block.{Name}
use Rattle.list_core.specs.Lists.{EachOf, IsIn}
use Rattle.list_core.proofs.Lists.{each_member, in_cases}
use Rattle.design_core.specs.declared.variant.Signal.{Signal}
use Rattle.design_core.specs.declared.variant.Kind.{Kind}
use Rattle.design_core.specs.Design.{Expr, Read, Out, Value, Unary, Binary, Mux, Zext, Slice, Stmt, Assign, Let, If, Case, Body, Done, Then, Else, NoElse, Otherwise, Arms, NoArms, ThenArm, Conn, Child, Block, Variant}
use Rattle.design_core.specs.Slots.{let_of, lets_of, else_lets, arms_lets}
use Rattle.check_core.specs.declared.fault.Refusal.TheVariants.{UnknownName}
use Rattle.check_core.specs.Faults.{earlier, first_of}
use Rattle.check_core.specs.Names.{named, any_kind, child_named, scope_of, unknown_read, unknown_in, lets_after, unknown_among, targets, unknown_in_block, unknown_in_conn, unknown_in_child, unknown_name}
use Rattle.design_core.specs.Statements.{inside, statements, else_statements, arms_statements}
use Rattle.check_exec.proofs.Facts.{name_same, in_any}
use Rattle.check_laws.specs.Naming.{IsSignal, IsChild, ReadsKnown, IsReadable, IsTarget, NamesStmt, NamesBody, NamesElse, NamesArms, no_let, NamesAreDeclared, KnownAreNotRefused}
use Rattle.check_laws.proofs.Firsts.{earlier_none, first_none, known_none}
use Rattle.check_laws.proofs.Verdicts.{not_refused}

-- ---- what is declared is known

known_signal : (kinds : Kind → Bool) (signals : List Signal) (x : Name) → IsSignal kinds signals x → named kinds signals x ≡ true
known_signal kinds signals x h = in_any _ signals h.signal h.among (and_from (kinds h.signal.kind) (bytes_eq x h.signal.name) h.of_kind (name_same x h.signal.name (sym h.named)))

known_child : (children : List Child) (u : Name) → IsChild children u → child_named children u ≡ true
known_child children u h = in_any _ children h.child h.among (name_same u h.child.name (sym h.named))

module _ (v : Variant) where
  -- the lets that are known are those that stand before
  Agree : (Name → Type 0) → (Name → Bool) → Type 0
  Agree lets known = (x : Name) → lets x → known x ≡ true

  readable : (lets : Name → Type 0) (known : Name → Bool) → Agree lets known → (x : Name) → IsReadable v lets x → (known x || (scope_of v).signal x) ≡ true
  unfolding Agree
  readable lets known a x h = elim h [
    | inl l ↦ or_left (known x) (named any_kind v.signals x) (a x l)
    | inr s ↦ or_right (known x) (named any_kind v.signals x) (known_signal any_kind v.signals x s)
  ]

  reads : (lets : Name → Type 0) (known : Name → Bool) → Agree lets known → (line : ℕ) (e : Expr) → ReadsKnown (IsReadable v lets) (IsChild v.children) e → unknown_read (scope_of v) known line e ≡ None
  reads lets known a line (Read x) h = known_none _ _ (readable lets known a x h)
  reads lets known a line (Out u q) h = known_none _ _ (known_child v.children u h)
  reads lets known a line (Value l) h = refl
  reads lets known a line (Unary o e) h = reads lets known a line e h
  reads lets known a line (Binary o b c) h = earlier_none (unknown_read (scope_of v) known line b) (unknown_read (scope_of v) known line c) (reads lets known a line b h.0) (reads lets known a line c h.1)
  reads lets known a line (Mux c x y) h =
      earlier_none (unknown_read (scope_of v) known line c) (earlier (unknown_read (scope_of v) known line x) (unknown_read (scope_of v) known line y)) (reads lets known a line c h.0)
      (earlier_none (unknown_read (scope_of v) known line x) (unknown_read (scope_of v) known line y) (reads lets known a line x h.1.0) (reads lets known a line y h.1.1))
  reads lets known a line (Zext e n) h = reads lets known a line e h
  reads lets known a line (Slice e i j) h = reads lets known a line e h

  target_known : (clocked : Bool) (x : Name) → IsTarget v clocked x → targets (scope_of v) clocked x ≡ true
  target_known true x h = known_signal _ v.signals x h
  target_known false x h = known_signal _ v.signals x h

  -- ---- statements

  -- what stands behind, where these lets stand before it, has no unknown name
  NoneAfter : Bool → (Name → Type 0) → List Stmt → Type 0
  NoneAfter clocked lets list = (known : Name → Bool) → Agree lets known → unknown_among (scope_of v) (targets (scope_of v) clocked) known list ≡ None

  -- what is known of some lets is known of fewer
  fewer : (clocked : Bool) (lets more : Name → Type 0) (list : List Stmt) → ((x : Name) → more x → lets x) → NoneAfter clocked more list → NoneAfter clocked lets list
  unfolding NoneAfter Agree
  fewer clocked lets more list f k known a = k known (λ x h. a x (f x h))

  -- a statement alone
  first_none_after : (clocked : Bool) (lets : Name → Type 0) (s : Stmt) (more : List Stmt) → ((known : Name → Bool) → Agree lets known → unknown_in (scope_of v) (targets (scope_of v) clocked) known s ≡ None) →
      ((known : Name → Bool) → Agree lets known → unknown_among (scope_of v) (targets (scope_of v) clocked) (lets_after known s) more ≡ None) → NoneAfter clocked lets (s ∷ more)
  unfolding NoneAfter
  first_none_after clocked lets s more f g known a =
      earlier_none (unknown_in (scope_of v) (targets (scope_of v) clocked) known s) (unknown_among (scope_of v) (targets (scope_of v) clocked) (lets_after known s) more) (f known a) (g known a)

  let_agrees : (lets : Name → Type 0) (known : Name → Bool) (x : Name) → Agree lets known → Agree (λ y. lets y ⊎ IsIn y (x ∷ [])) (λ y. bytes_eq y x || known y)
  unfolding Agree
  let_agrees lets known x a y (inl l) = or_right (bytes_eq y x) (known y) (a y l)
  let_agrees lets known x a y (inr i) = elim i [ inl e ↦ or_left (bytes_eq y x) (known y) (name_same y x e) | inr k ↦ absurd k ]

  no_more : (lets : Name → Type 0) (known : Name → Bool) → Agree lets known → Agree (λ y. lets y ⊎ IsIn y []) known
  unfolding Agree
  no_more lets known a y (inl l) = a y l
  no_more lets known a y (inr i) = absurd i

  grouped : (lets : Name → Type 0) (front back : List Name) (x : Name) → lets x ⊎ IsIn x (front ++ back) → (lets x ⊎ IsIn x front) ⊎ IsIn x back
  grouped lets front back x (inl l) = inl (inl l)
  grouped lets front back x (inr i) = elim (in_cases x front back i) [ inl f ↦ inl (inr f) | inr b ↦ inr b ]

  mutual
    unfolding NoneAfter

    stmt_none : (clocked : Bool) (lets : Name → Type 0) (s : Stmt) (more : List Stmt) → NamesStmt v clocked lets s → NoneAfter clocked (λ y. lets y ⊎ IsIn y (let_of s)) more → NoneAfter clocked lets (s ∷ (inside s ++ more))
    stmt_none clocked lets (Assign slot line gens x part e) more h k =
        first_none_after clocked lets (Assign slot line gens x part e) more
        (λ known a. earlier_none (unknown_read (scope_of v) known line e) _ (reads lets known a line e h.0) (known_none _ _ (target_known clocked x h.1)))
        (λ known a. k known (no_more lets known a))
    stmt_none clocked lets (Let slot line gens x e) more h k =
        first_none_after clocked lets (Let slot line gens x e) more (λ known a. reads lets known a line e h)
        (λ known a. k (λ y. bytes_eq y x || known y) (let_agrees lets known x a))
    stmt_none clocked lets (If slot line gens c first second) more h k =
        first_none_after clocked lets (If slot line gens c first second) ((statements first ++ else_statements second) ++ more) (λ known a. reads lets known a line c h.0)
        (λ known a.
        ap (unknown_among (scope_of v) (targets (scope_of v) clocked) known) (append_assoc (statements first) (else_statements second) more)
        ∙ body_none clocked lets first (else_statements second ++ more) h.1.0
        (else_none clocked (λ y. lets y ⊎ IsIn y (lets_of first)) second more h.1.1
        (fewer clocked (λ y. (lets y ⊎ IsIn y (lets_of first)) ⊎ IsIn y (else_lets second)) (λ y. lets y ⊎ IsIn y (lets_of first ++ else_lets second)) more (grouped lets (lets_of first) (else_lets second)) k)) known a)
    stmt_none clocked lets (Case slot line gens value arms other) more h k =
        first_none_after clocked lets (Case slot line gens value arms other) ((arms_statements arms ++ else_statements other) ++ more) (λ known a. reads lets known a line value h.0)
        (λ known a.
        ap (unknown_among (scope_of v) (targets (scope_of v) clocked) known) (append_assoc (arms_statements arms) (else_statements other) more)
        ∙ arms_none clocked lets arms (else_statements other ++ more) h.1.0
        (else_none clocked (λ y. lets y ⊎ IsIn y (arms_lets arms)) other more h.1.1
        (fewer clocked (λ y. (lets y ⊎ IsIn y (arms_lets arms)) ⊎ IsIn y (else_lets other)) (λ y. lets y ⊎ IsIn y (arms_lets arms ++ else_lets other)) more (grouped lets (arms_lets arms) (else_lets other)) k)) known a)

    body_none : (clocked : Bool) (lets : Name → Type 0) (b : Body) (more : List Stmt) → NamesBody v clocked lets b → NoneAfter clocked (λ y. lets y ⊎ IsIn y (lets_of b)) more → NoneAfter clocked lets (statements b ++ more)
    body_none clocked lets Done more h k known a = k known (no_more lets known a)
    body_none clocked lets (Then s rest) more h k known a =
        ap (λ (list : List Stmt). unknown_among (scope_of v) (targets (scope_of v) clocked) known (s ∷ list)) (append_assoc (inside s) (statements rest) more)
        ∙ stmt_none clocked lets s (statements rest ++ more) h.0
        (body_none clocked (λ y. lets y ⊎ IsIn y (let_of s)) rest more h.1
        (fewer clocked (λ y. (lets y ⊎ IsIn y (let_of s)) ⊎ IsIn y (lets_of rest)) (λ y. lets y ⊎ IsIn y (let_of s ++ lets_of rest)) more (grouped lets (let_of s) (lets_of rest)) k)) known a

    else_none : (clocked : Bool) (lets : Name → Type 0) (b : Else) (more : List Stmt) → NamesElse v clocked lets b → NoneAfter clocked (λ y. lets y ⊎ IsIn y (else_lets b)) more → NoneAfter clocked lets (else_statements b ++ more)
    else_none clocked lets NoElse more h k known a = k known (no_more lets known a)
    else_none clocked lets (Otherwise body) more h k known a = body_none clocked lets body more h k known a

    arms_none : (clocked : Bool) (lets : Name → Type 0) (arms : Arms) (more : List Stmt) → NamesArms v clocked lets arms → NoneAfter clocked (λ y. lets y ⊎ IsIn y (arms_lets arms)) more → NoneAfter clocked lets (arms_statements arms ++ more)
    arms_none clocked lets NoArms more h k known a = k known (no_more lets known a)
    arms_none clocked lets (ThenArm tests body rest) more h k known a =
        ap (unknown_among (scope_of v) (targets (scope_of v) clocked) known) (append_assoc (statements body) (arms_statements rest) more)
        ∙ body_none clocked lets body (arms_statements rest ++ more) h.0
        (arms_none clocked (λ y. lets y ⊎ IsIn y (lets_of body)) rest more h.1
        (fewer clocked (λ y. (lets y ⊎ IsIn y (lets_of body)) ⊎ IsIn y (arms_lets rest)) (λ y. lets y ⊎ IsIn y (lets_of body ++ arms_lets rest)) more (grouped lets (lets_of body) (arms_lets rest)) k)) known a

  -- ---- a module

  nothing_before : Agree no_let (λ x. false)
  unfolding Agree
  nothing_before x h = absurd h

  nothing_behind : (clocked : Bool) (lets : Name → Type 0) → NoneAfter clocked lets []
  unfolding NoneAfter
  nothing_behind clocked lets known a = refl

  block_none : (b : Block) → NamesBody v b.clocked no_let b.body → unknown_in_block (scope_of v) b ≡ None
  unfolding NoneAfter
  block_none b h =
      ap (unknown_among (scope_of v) (targets (scope_of v) b.clocked) (λ x. false)) (sym (append-nil (statements b.body)))
      ∙ body_none b.clocked no_let b.body [] h (nothing_behind b.clocked (λ y. no_let y ⊎ IsIn y (lets_of b.body))) (λ x. false) nothing_before

  named_none : NamesAreDeclared v → unknown_name v ≡ None
  named_none h =
      earlier_none (first_of (unknown_in_child (scope_of v)) v.children) (first_of (unknown_in_block (scope_of v)) v.blocks)
      (first_none (unknown_in_child (scope_of v)) v.children (λ c i. first_none (unknown_in_conn (scope_of v)) c.conns (λ k j.
      reads no_let (λ x. false) nothing_before k.line k.value
      (each_member (λ (k : Conn). ReadsKnown (IsReadable v no_let) (IsChild v.children) k.value) c.conns
      (each_member (λ (c : Child). EachOf (λ (k : Conn). ReadsKnown (IsReadable v no_let) (IsChild v.children) k.value) c.conns) v.children h.connections c i) k j))))
      (first_none (unknown_in_block (scope_of v)) v.blocks (λ b i. block_none b (each_member (λ (b : Block). NamesBody v b.clocked no_let b.body) v.blocks h.blocks b i)))

pub known_are_not_refused : KnownAreNotRefused
known_are_not_refused d h = not_refused d UnknownName (λ v u. named_none v (h v u))
