-- The fault of a verdict is one of the kind whose test found it.
use Rattle.std.proofs.Common.{◌≡◌, ℕ, Bool, true, false, ◌||◌, ◌&&◌, bytes_eq, List, [], ◌∷◌, Option, Some, None, option_map, if◌then◌else◌, refl, sym, ap, ◌∙◌, subst}
use Rattle.std.specs.Prelude.{slice_get, Result, Ok, Err}
use Rattle.std.specs.List.{list_all}
use Rattle.std.proofs.lemmas.Option.{none-some, same_Some}
use Rattle.exec_core.specs.Block.{Name}
use Rattle.exec_core.specs.Decided.{some_below}
use Rattle.list_core.specs.Lists.{IsIn}
use Rattle.design_core.specs.declared.design.Instance.{Instance}
use Rattle.design_core.specs.Design.{Expr, Read, Out, Value, Unary, Binary, Mux, Zext, Slice, Stmt, Assign, Let, If, Case, Body, Done, Then, Else, NoElse, Otherwise, Arms, NoArms, ThenArm, Conn, Block, Variant, Design}
use Rattle.check_core.specs.declared.fault.CheckFault.{CheckFault}
use Rattle.check_core.specs.declared.fault.CheckFault.TheVariants as fault
use Rattle.check_core.specs.declared.fault.Clash.{Clash}
use Rattle.check_core.specs.declared.fault.Refusal.{Refusal}
use Rattle.check_core.specs.declared.fault.Refusal.TheVariants as refusal
use Rattle.check_core.specs.Faults.{earlier, first_of, fault_in, spot}
use Rattle.design_core.specs.Statements.{statements}
use Rattle.check_core.specs.Names as names
use Rattle.check_core.specs.Ports as ports
use Rattle.check_core.specs.Widths as widths
use Rattle.check_core.specs.Drivers as drivers
use Rattle.check_core.specs.Paths as paths
use Rattle.check_core.specs.Verdict.{refused, refused_variant, refused_at, refused_by, in_order}
use Rattle.check_laws.specs.Kinds.{refusal_of, VerdictsAreOfTheirKind, IsUsed, IsNotRefusedFor}
use Rattle.check_laws.proofs.Firsts.{first_none, first_found}
use Rattle.design_core.specs.WellFormed as formed
use Rattle.design_core.specs.Widths.{bits}
use Rattle.design_core.specs.Dotted.{below}

-- ---- what a test gives, if it gives something, is of its kind

abbrev Gives : Refusal → Option CheckFault → Type 0
Gives why None = Unit {0}
Gives why (Some f) = refusal_of f ≡ Some why

two : (why : Refusal) (a b : Option CheckFault) → Gives why a → Gives why b → Gives why (earlier a b)
two why (Some f) b g h = g
two why None b g h = h

all : {X : Type 0} (why : Refusal) (find : X → Option CheckFault) (list : List X) → ((x : X) → Gives why (find x)) → Gives why (first_of find list)
all why find [] h = tt
all why find (x ∷ list) h = two why (find x) (first_of find list) (h x) (all why find list h)

unless : (why : Refusal) (b : Bool) (f : CheckFault) → refusal_of f ≡ Some why → Gives why (names.unless_known b f)
unless why true f e = tt
unless why false f e = e

chosen : (why : Refusal) (b : Bool) (x y : Option CheckFault) → Gives why x → Gives why y → Gives why (if b then x else y)
chosen why true x y g h = g
chosen why false x y g h = h

-- ---- names

reads : (s : names.Scope) (lets : Name → Bool) (line : ℕ) (e : Expr) → Gives refusal.UnknownName (names.unknown_read s lets line e)
reads s lets line (Read x) = unless refusal.UnknownName (lets x || s.signal x) _ refl
reads s lets line (Out u q) = unless refusal.UnknownName (s.child u) _ refl
reads s lets line (Value l) = tt
reads s lets line (Unary o e) = reads s lets line e
reads s lets line (Binary o a b) = two refusal.UnknownName (names.unknown_read s lets line a) (names.unknown_read s lets line b) (reads s lets line a) (reads s lets line b)
reads s lets line (Mux c a b) =
    two refusal.UnknownName (names.unknown_read s lets line c) (earlier (names.unknown_read s lets line a) (names.unknown_read s lets line b)) (reads s lets line c)
    (two refusal.UnknownName (names.unknown_read s lets line a) (names.unknown_read s lets line b) (reads s lets line a) (reads s lets line b))
reads s lets line (Zext e w) = reads s lets line e
reads s lets line (Slice e h l) = reads s lets line e

named_stmt : (s : names.Scope) (assigned lets : Name → Bool) (t : Stmt) → Gives refusal.UnknownName (names.unknown_in s assigned lets t)
named_stmt s assigned lets (Assign slot line gens x part e) = two refusal.UnknownName (names.unknown_read s lets line e) _ (reads s lets line e) (unless refusal.UnknownName (assigned x) _ refl)
named_stmt s assigned lets (Let slot line gens x e) = reads s lets line e
named_stmt s assigned lets (If slot line gens c first second) = reads s lets line c
named_stmt s assigned lets (Case slot line gens v arms other) = reads s lets line v

named_among : (s : names.Scope) (assigned lets : Name → Bool) (list : List Stmt) → Gives refusal.UnknownName (names.unknown_among s assigned lets list)
named_among s assigned lets [] = tt
named_among s assigned lets (t ∷ list) =
    two refusal.UnknownName (names.unknown_in s assigned lets t) (names.unknown_among s assigned (names.lets_after lets t) list) (named_stmt s assigned lets t) (named_among s assigned (names.lets_after lets t) list)

unknown : (v : Variant) → Gives refusal.UnknownName (names.unknown_name v)
unknown v =
    let s = names.scope_of v in
    two refusal.UnknownName (first_of (names.unknown_in_child s) v.children) (first_of (names.unknown_in_block s) v.blocks)
    (all refusal.UnknownName (names.unknown_in_child s) v.children (λ c. all refusal.UnknownName (names.unknown_in_conn s) c.conns (λ k. reads s (λ x. false) k.line k.value)))
    (all refusal.UnknownName (names.unknown_in_block s) v.blocks (λ b. named_among s (names.targets s b.clocked) (λ x. false) (statements b.body)))

twice : (taken : Name → Bool) (list : List (ℕ × Name)) → Gives refusal.DuplicateName (names.taken_twice taken list)
twice taken [] = tt
twice taken (p ∷ rest) = chosen refusal.DuplicateName (taken p.1) _ _ refl (twice (λ x. bytes_eq x p.1 || taken x) rest)

doubled : (v : Variant) → Gives refusal.DuplicateName (names.duplicate_name v)
doubled v =
    two refusal.DuplicateName (names.taken_twice _ (names.things v)) (first_of (names.duplicate_in_block (names.taken_in v)) v.blocks) (twice (λ x. false) (names.things v))
    (all refusal.DuplicateName (names.duplicate_in_block (names.taken_in v)) v.blocks (λ b. twice (names.taken_in v) (names.lets_in (statements b.body))))

-- ---- widths

sized : (b : Bool) (line : ℕ) (x : Name) → Gives refusal.BadWidth (widths.unless_sized b line x)
sized true line x = tt
sized false line x = refl

bad_stmt : (s : Stmt) → Gives refusal.BadWidth (widths.bad_stmt s)
bad_stmt (Assign slot line gens x part e) = sized (widths.is_sized e && widths.is_part part) line x
bad_stmt (Let slot line gens x e) = sized (widths.is_sized e) line x
bad_stmt (If slot line gens c first second) = sized (widths.is_sized c) line _
bad_stmt (Case slot line gens v arms other) = sized (widths.is_sized v && list_all widths.is_literal (widths.arm_literals arms)) line _

bad : (v : Variant) → Gives refusal.BadWidth (widths.bad_width v)
bad v =
    two refusal.BadWidth (first_of widths.bad_signal v.signals) (earlier (first_of widths.bad_in_child v.children) (first_of widths.bad_in_block v.blocks))
    (all refusal.BadWidth widths.bad_signal v.signals (λ s. sized (widths.is_declared s.kind s.width) s.line s.name))
    (two refusal.BadWidth (first_of widths.bad_in_child v.children) (first_of widths.bad_in_block v.blocks)
    (all refusal.BadWidth widths.bad_in_child v.children (λ c. all refusal.BadWidth widths.bad_conn c.conns (λ k. sized (widths.is_sized k.value) k.line k.port)))
    (all refusal.BadWidth widths.bad_in_block v.blocks (λ b. all refusal.BadWidth widths.bad_stmt (statements b.body) bad_stmt)))

fits : (line : ℕ) (x : Name) (found : Result ℕ Clash) → Gives refusal.WidthMismatch (widths.mismatch line x found)
fits line x (Ok w) = tt
fits line x (Err clash) = refl

fits_stmt : (W : widths.Widths) (s : Stmt) → Gives refusal.WidthMismatch (widths.stmt_mismatch W s)
fits_stmt W (Assign slot line gens x part e) = fits line x _
fits_stmt W (Let slot line gens x e) = fits line x _
fits_stmt W (If slot line gens c first second) = fits line _ _
fits_stmt W (Case slot line gens v arms other) = fits line _ _

fits_among : (W : widths.Widths) (list : List Stmt) → Gives refusal.WidthMismatch (widths.mismatch_among W list)
fits_among W [] = tt
fits_among W (s ∷ list) = two refusal.WidthMismatch (widths.stmt_mismatch W s) (widths.mismatch_among (widths.widths_after W s) list) (fits_stmt W s) (fits_among (widths.widths_after W s) list)

mismatched : (variants : List Variant) (v : Variant) → Gives refusal.WidthMismatch (widths.width_mismatch variants v)
mismatched variants v =
    let W = widths.widths_of names.any_kind v.signals in
    two refusal.WidthMismatch (first_of widths.signal_mismatch v.signals) (earlier (first_of (widths.mismatch_in_child W variants) v.children) (first_of (widths.mismatch_in_block W) v.blocks))
    (all refusal.WidthMismatch widths.signal_mismatch v.signals (λ s. fits s.line s.name (widths.start_width s.kind (bits s.width))))
    (two refusal.WidthMismatch (first_of (widths.mismatch_in_child W variants) v.children) (first_of (widths.mismatch_in_block W) v.blocks)
    (all refusal.WidthMismatch (widths.mismatch_in_child W variants) v.children (λ c.
    let P = widths.widths_of names.is_input (formed.signals_at c.variant variants) in
    all refusal.WidthMismatch (widths.conn_mismatch W P) c.conns (λ k. fits k.line k.port (widths.needed (widths.width_of P k.port) (widths.width_in W k.value)))))
    (all refusal.WidthMismatch (widths.mismatch_in_block W) v.blocks (λ b. fits_among W (statements b.body))))

-- ---- ports

outputs : (known : Name → Bool) (line : ℕ) (e : Expr) → Gives refusal.UnknownPort (ports.unknown_output known line e)
outputs known line (Read x) = tt
outputs known line (Out u q) = unless refusal.UnknownPort (known (below u q)) _ refl
outputs known line (Value l) = tt
outputs known line (Unary o e) = outputs known line e
outputs known line (Binary o a b) = two refusal.UnknownPort (ports.unknown_output known line a) (ports.unknown_output known line b) (outputs known line a) (outputs known line b)
outputs known line (Mux c a b) =
    two refusal.UnknownPort (ports.unknown_output known line c) (earlier (ports.unknown_output known line a) (ports.unknown_output known line b)) (outputs known line c)
    (two refusal.UnknownPort (ports.unknown_output known line a) (ports.unknown_output known line b) (outputs known line a) (outputs known line b))
outputs known line (Zext e w) = outputs known line e
outputs known line (Slice e h l) = outputs known line e

port_stmt : (known : Name → Bool) (s : Stmt) → Gives refusal.UnknownPort (ports.unknown_port_in known s)
port_stmt known (Assign slot line gens x part e) = outputs known line e
port_stmt known (Let slot line gens x e) = outputs known line e
port_stmt known (If slot line gens c first second) = outputs known line c
port_stmt known (Case slot line gens v arms other) = outputs known line v

no_port : (variants : List Variant) (v : Variant) → Gives refusal.UnknownPort (ports.unknown_port variants v)
no_port variants v =
    let known = names.named names.is_child_output v.signals in
    two refusal.UnknownPort (first_of (ports.unknown_port_in_child known variants) v.children) (first_of (ports.unknown_port_in_block known) v.blocks)
    (all refusal.UnknownPort (ports.unknown_port_in_child known variants) v.children (λ c.
    let inputs = names.named names.is_input (formed.signals_at c.variant variants) in
    all refusal.UnknownPort (ports.unknown_port_at known inputs) c.conns (λ k. two refusal.UnknownPort (ports.unknown_output known k.line k.value) _ (outputs known k.line k.value) (unless refusal.UnknownPort (inputs k.port) _ refl))))
    (all refusal.UnknownPort (ports.unknown_port_in_block known) v.blocks (λ b. all refusal.UnknownPort (ports.unknown_port_in known) (statements b.body) (port_stmt known)))

unbound : (variants : List Variant) (v : Variant) → Gives refusal.UnboundInput (ports.unbound_input variants v)
unbound variants v =
    all refusal.UnboundInput (ports.unbound_in_child variants) v.children (λ c.
    all refusal.UnboundInput (ports.unbound_at c.line c.name (ports.connected c.conns)) (formed.signals_at c.variant variants) (λ s. unless refusal.UnboundInput _ _ refl))

-- ---- drivers

second : (before : drivers.Lines) (d : drivers.Drive) → Gives refusal.TwoDrivers (drivers.second_drive before d)
second before d = by_line (before d.1)
  where
    by_line : (o : Option ℕ) → Gives refusal.TwoDrivers (option_map (λ first. fault.TwoDrivers (spot d.0 d.1) first) o)
    by_line None = tt
    by_line (Some first) = refl

connected_twice : (before : drivers.Lines) (conns : List Conn) → Gives refusal.TwoDrivers (drivers.connected_twice before conns)
connected_twice before [] = tt
connected_twice before (c ∷ conns) = two refusal.TwoDrivers (drivers.second_drive before (drivers.conn_drive c)) _ (second before (drivers.conn_drive c)) (connected_twice (drivers.driven_also before (drivers.conn_drive c)) conns)

driven_twice : (before : drivers.Lines) (blocks : List Block) → Gives refusal.TwoDrivers (drivers.driven_twice before blocks)
driven_twice before [] = tt
driven_twice before (b ∷ blocks) =
    two refusal.TwoDrivers (first_of (drivers.second_drive before) (drivers.driven_in b)) _ (all refusal.TwoDrivers (drivers.second_drive before) (drivers.driven_in b) (second before)) (driven_twice (drivers.all_driven before (drivers.driven_in b)) blocks)

two_drivers : (v : Variant) → Gives refusal.TwoDrivers (drivers.two_drivers v)
two_drivers v =
    two refusal.TwoDrivers (first_of drivers.twice_in_child v.children) (drivers.driven_twice drivers.undriven_yet v.blocks)
    (all refusal.TwoDrivers drivers.twice_in_child v.children (λ c. connected_twice drivers.undriven_yet c.conns)) (driven_twice drivers.undriven_yet v.blocks)

undriven : (v : Variant) → Gives refusal.Undriven (drivers.undriven v)
undriven v = all refusal.Undriven (drivers.undriven_at (drivers.is_assigned v.blocks)) v.signals (λ s. unless refusal.Undriven _ _ refl)

-- ---- paths

latch_in : (W : Name → ℕ) (b : Block) → Gives refusal.Latch (paths.latch_in W b)
latch_in W b = chosen refusal.Latch b.clocked None _ tt (all refusal.Latch (paths.latch_at W b) (drivers.driven_in b) (λ d. chosen refusal.Latch (some_below (W d.1) (paths.body_skips b.body d.1)) _ None refl tt))

module _ (W : Name → ℕ) where
  early_read : (missing : paths.Bits) (line : ℕ) (e : Expr) → Gives refusal.ReadBeforeWrite (paths.early_read W missing line e)
  early_read missing line (Read x) = chosen refusal.ReadBeforeWrite (some_below (W x) (missing x)) _ None refl tt
  early_read missing line (Out u q) = tt
  early_read missing line (Value l) = tt
  early_read missing line (Unary o e) = early_read missing line e
  early_read missing line (Binary o a b) = two refusal.ReadBeforeWrite (paths.early_read W missing line a) (paths.early_read W missing line b) (early_read missing line a) (early_read missing line b)
  early_read missing line (Mux c a b) =
      two refusal.ReadBeforeWrite (paths.early_read W missing line c) (earlier (paths.early_read W missing line a) (paths.early_read W missing line b)) (early_read missing line c)
      (two refusal.ReadBeforeWrite (paths.early_read W missing line a) (paths.early_read W missing line b) (early_read missing line a) (early_read missing line b))
  early_read missing line (Zext e w) = early_read missing line e
  early_read missing line (Slice e h l) = early_read missing line e

  mutual
    early : (missing : paths.Bits) (s : Stmt) → Gives refusal.ReadBeforeWrite (paths.early W missing s)
    early missing (Assign slot line gens x part e) = early_read missing line e
    early missing (Let slot line gens x e) = early_read missing line e
    early missing (If slot line gens c a b) =
        two refusal.ReadBeforeWrite (paths.early_read W missing line c) (earlier (paths.early_in W missing a) (paths.early_in_else W missing b)) (early_read missing line c)
        (two refusal.ReadBeforeWrite (paths.early_in W missing a) (paths.early_in_else W missing b) (early_in missing a) (early_else missing b))
    early missing (Case slot line gens v arms other) =
        two refusal.ReadBeforeWrite (paths.early_read W missing line v) (earlier (paths.early_in_arms W missing arms) (paths.early_in_else W missing other)) (early_read missing line v)
        (two refusal.ReadBeforeWrite (paths.early_in_arms W missing arms) (paths.early_in_else W missing other) (early_arms missing arms) (early_else missing other))

    early_in : (missing : paths.Bits) (b : Body) → Gives refusal.ReadBeforeWrite (paths.early_in W missing b)
    early_in missing Done = tt
    early_in missing (Then s rest) = two refusal.ReadBeforeWrite (paths.early W missing s) _ (early missing s) (early_in (λ y i. missing y i && paths.skips s y i) rest)

    early_else : (missing : paths.Bits) (b : Else) → Gives refusal.ReadBeforeWrite (paths.early_in_else W missing b)
    early_else missing NoElse = tt
    early_else missing (Otherwise body) = early_in missing body

    early_arms : (missing : paths.Bits) (arms : Arms) → Gives refusal.ReadBeforeWrite (paths.early_in_arms W missing arms)
    early_arms missing NoArms = tt
    early_arms missing (ThenArm tests body rest) = two refusal.ReadBeforeWrite (paths.early_in W missing body) _ (early_in missing body) (early_arms missing rest)

-- ---- a variant, an instance, a design

of_variant : (why : Refusal) (variants : List Variant) (v : Variant) → Gives why (refused why variants v)
of_variant refusal.UnknownName variants v = unknown v
of_variant refusal.DuplicateName variants v = doubled v
of_variant refusal.BadWidth variants v = bad v
of_variant refusal.UnknownPort variants v = no_port variants v
of_variant refusal.UnboundInput variants v = unbound variants v
of_variant refusal.WidthMismatch variants v = mismatched variants v
of_variant refusal.TwoDrivers variants v = two_drivers v
of_variant refusal.Undriven variants v = undriven v
of_variant refusal.Latch variants v = all refusal.Latch (paths.latch_in (paths.declared_width v.signals)) v.blocks (latch_in (paths.declared_width v.signals))
of_variant refusal.ReadBeforeWrite variants v = all refusal.ReadBeforeWrite (paths.early_in_block (paths.declared_width v.signals)) v.blocks (λ b. early_in (paths.declared_width v.signals) (λ y i. paths.own b y) b.body)

same_kind : (path : Name) (f : CheckFault) → refusal_of (fault_in path f) ≡ refusal_of f
same_kind path (fault.UnknownName at) = refl
same_kind path (fault.DuplicateName at) = refl
same_kind path (fault.BadWidth at) = refl
same_kind path (fault.UnknownPort at) = refl
same_kind path (fault.UnboundInput at) = refl
same_kind path (fault.WidthMismatch at have want) = refl
same_kind path (fault.TwoDrivers at first) = refl
same_kind path (fault.Undriven at) = refl
same_kind path (fault.Latch at) = refl
same_kind path (fault.ReadBeforeWrite at) = refl
same_kind path fault.NoMemory = refl

in_instance : (why : Refusal) (path : Name) (o : Option CheckFault) → Gives why o → Gives why (option_map (fault_in path) o)
in_instance why path None g = tt
in_instance why path (Some f) g = same_kind path f ∙ g

of_instance : (why : Refusal) (d : Design) (i : Instance) → Gives why (refused_at why d i)
of_instance why d i = in_instance why i.path (refused_variant why d.variants (slice_get d.variants i.variant)) (by_variant (slice_get d.variants i.variant))
  where
    by_variant : (o : Option Variant) → Gives why (refused_variant why d.variants o)
    by_variant None = tt
    by_variant (Some v) = of_variant why d.variants v

of_design : (why : Refusal) (d : Design) → Gives why (refused_by d why)
of_design why d = all why (refused_at why d) d.instances (of_instance why d)

pub verdicts_are_of_their_kind : VerdictsAreOfTheirKind
verdicts_are_of_their_kind d f e =
    let found = first_found (refused_by d) in_order f e in
    (found.at, (subst (Gives found.at) found.is (of_design found.at d), found.is))

-- ---- a test that finds nothing in the variants of a design

used : (d : Design) (why : Refusal) → ((v : Variant) → IsUsed d v → refused why d.variants v ≡ None) → refused_by d why ≡ None
used d why h = first_none (refused_at why d) d.instances (λ i m. by_variant i m (slice_get d.variants i.variant) refl)
  where
    by_variant : (i : Instance) → IsIn i d.instances → (o : Option Variant) → slice_get d.variants i.variant ≡ o → option_map (fault_in i.path) (refused_variant why d.variants o) ≡ None
    by_variant i m None e = refl
    by_variant i m (Some v) e = ap (option_map (fault_in i.path)) (h v (record { instance = i; among = m; variant = e }))

pub not_refused : (d : Design) (why : Refusal) → ((v : Variant) → IsUsed d v → refused why d.variants v ≡ None) → IsNotRefusedFor why d
not_refused d why h f e is =
    let found = verdicts_are_of_their_kind d f e in
    let same : found.0 ≡ why = same_Some found.0 why (sym found.1.0 ∙ is) in
    none-some f (sym (used d why h) ∙ subst (λ (r : Refusal). refused_by d r ≡ Some f) same found.1.1)
