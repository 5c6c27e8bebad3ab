-- The signals that a block assigns, driven one after another.
use Rattle.std.proofs.Common.{◌≡◌, ℕ, zero, suc, ◌+◌, ◌<◌, ◌≤◌, ◌==◌, ◌||◌, ◌&&◌, not, Bool, true, false, true≢false, bytes_eq, if◌then◌else◌, List, [], ◌∷◌, ◌++◌, find, take, Option, Some, None, is_some, option_map, option_and_then, length, get_or, refl, sym, subst, ap, ◌∙◌, arith}
use Rattle.std.specs.Borrow.{Bor}
use Rattle.std.proofs.lemmas.List.{take_more, map_push}
use Rattle.std.proofs.lemmas.Slice.Eq.{bytes_eq-Decides}
use Rattle.tree_core.specs.Tree.{Tree}
use Rattle.exec_core.specs.Block.{Name, Now}
use Rattle.exec_core.specs.Whole.{Place}
use Rattle.exec_core.specs.Design.{Process, place, moved, links_to, assigns_to, or_else}
use Rattle.design_core.specs.Design as design
use Rattle.design_exec.specs.Processes as processes
use Rattle.graph_order.specs.Graphs.{Graph, edges_of, IsGraph}
use Rattle.names.specs.Known.{Known, has}
use Rattle.place_core.specs.Assigned.{names_at}
use Rattle.block_net.specs.Blocks.{BlockParts}
use Rattle.dep_order.specs.Reaching.{KeepsVersions}
use Rattle.dep_order.specs.Standing.{Stand, StandFor, AreVertices}
use Rattle.place_core.specs.Numbering.{Numbers, PlaceNumbers}
use Rattle.dep_order.specs.Blocks.{AreSignals, Versions, single, owns, end_of, end_trees, Grown, EndsStand, TellsBlock}
use Rattle.dep_order.specs.Wiring.{AreNumbers, AreOf, DriverStands, IsWired, met_with, driver_with, Drives, DrivesBlock, DrivesBy, DrivesName, DrivesNames, KeepsOthers, met_named, driver_named, shown_tree, BlockIsProcess, LinkIsMet}
use Rattle.place_core.specs.Linking.{Link}
use Rattle.place_core.proofs.Targets.{has_push}
use Rattle.dep_order.proofs.Versions.{stand_kept}
use Rattle.dep_order.proofs.Growing.{grown_keeps}
use Rattle.dep_order.proofs.Wires.{moved_stands, driver_kept, wired_as, pick_other, not_same, find_push, link_drives, link_meets}

-- ---- one name

version_drives : (signals : ℕ) (g : Graph) (number : PlaceNumbers) (i : ℕ) (numbers : Numbers) (version : Option ℕ) (edges : List ℕ) (tree : Option (Tree Name)) → AreOf number i numbers →
    ((v : ℕ) → version ≡ Some v → edges ≡ v ∷ []) → (version ≡ None → edges ≡ []) → Stand signals g numbers (option_map single version) tree → DriverStands signals g number edges (option_map (moved i) tree)
version_drives signals g number i numbers None edges None of one none s = none refl
version_drives signals g number i numbers None edges (Some t) of one none s = absurd s
version_drives signals g number i numbers (Some v) edges None of one none s = absurd s
version_drives signals g number i numbers (Some v) edges (Some t) of one none s =
    moved_stands signals g number i edges t
    (subst (λ (f : Numbers). StandFor signals g f edges t) (λ j x. sym (of x) j) (subst (λ (vs : List ℕ). StandFor signals g numbers vs t) (sym (one v refl)) s))

pub name_drives : (g h : Graph) (driven marked : List Bool) (numbers : Numbers) (x : Name) (n : ℕ) (version : Option ℕ) (edges : List ℕ) → numbers x ≡ Some n →
    ((v : ℕ) → version ≡ Some v → edges ≡ v ∷ []) → (version ≡ None → edges ≡ []) → Drives g driven h marked n edges → DrivesName g driven h marked numbers x version
name_drives g h driven marked numbers x n version edges is one none d signals number met driver i tree are of s w =
    d signals number met driver (place i x) (option_map (moved i) tree) are (of x ∙ is) (version_drives signals g number i numbers version edges tree of one none s) w

-- a name that is no signal
pub name_passed : (g : Graph) (driven : List Bool) (numbers : Numbers) (x : Name) (version : Option ℕ) → numbers x ≡ None → DrivesName g driven g driven numbers x version
name_passed g driven numbers x version is signals number met driver i tree are of s w p n e =
    let apart : p ≡ place i x → ⊥ = (λ k. none_some n (sym (of x ∙ is) ∙ ap number (sym k) ∙ e)) in
    let picks = pick_other (place i x) p (option_map (moved i) tree) met driver (not_same (place i x) p apart) in
    wired_as signals number g driven (met p) (met_with (place i x) met p) (driver p) (driver_with (place i x) (option_map (moved i) tree) met driver p) n picks.0 picks.1 (w p n e)
  where
    none_some : (n : ℕ) → None ≡ Some n → ⊥
    none_some n k = cc

-- ---- one name after others

meets_push : (a b c m : Bool) → ((m || (a && b)) || (a && c)) ≡ (m || (a && (b || c)))
meets_push true true true true = refl
meets_push true true true false = refl
meets_push true true false true = refl
meets_push true true false false = refl
meets_push true false true true = refl
meets_push true false true false = refl
meets_push true false false true = refl
meets_push true false false false = refl
meets_push false b c true = refl
meets_push false b c false = refl

picks_push : {A : Type 0} (a b c m : Bool) (x y d : A) → (c ≡ true → x ≡ y) → (if (a && c) && not (m || (a && b)) then x else (if (a && b) && not m then y else d)) ≡ (if (a && (b || c)) && not m then y else d)
picks_push true true true true x y d e = refl
picks_push true true true false x y d e = refl
picks_push true true false true x y d e = refl
picks_push true true false false x y d e = refl
picks_push true false true true x y d e = refl
picks_push true false true false x y d e = e refl
picks_push true false false true x y d e = refl
picks_push true false false false x y d e = refl
picks_push false b c m x y d e = refl

met_push : (i : ℕ) (xs : List Name) (x : Name) (met : Place → Bool) (p : Place) → met_with (place i x) (met_named i (has xs) met) p ≡ met_named i (has (xs ++ x ∷ [])) met p
met_push i xs x met p =
    meets_push (i == p.instance) (has xs p.name) (bytes_eq x p.name) (met p)
    ∙ ap (λ (b : Bool). met p || (i == p.instance && b)) (sym (has_push xs x p.name))

driver_push : (i : ℕ) (xs : List Name) (x : Name) (trees : Name → Option (Tree Name)) (met : Place → Bool) (driver : Place → Option (Tree Place)) (p : Place) →
    driver_with (place i x) (option_map (moved i) (trees x)) (met_named i (has xs) met) (driver_named i (has xs) trees met driver) p ≡ driver_named i (has (xs ++ x ∷ [])) trees met driver p
driver_push i xs x trees met driver p =
    picks_push (i == p.instance) (has xs p.name) (bytes_eq x p.name) (met p) (option_map (moved i) (trees x)) (option_map (moved i) (trees p.name)) (driver p)
    (λ e. ap (λ (y : Name). option_map (moved i) (trees y)) ((bytes_eq-Decides x p.name).0 e))
    ∙ ap (λ (b : Bool). if (i == p.instance && b) && not (met p) then option_map (moved i) (trees p.name) else driver p) (sym (has_push xs x p.name))

named_none : (a m : Bool) → m ≡ (m || (a && false))
named_none true true = refl
named_none true false = refl
named_none false true = refl
named_none false false = refl

picks_none : {A : Type 0} (a m : Bool) (x d : A) → d ≡ (if (a && false) && not m then x else d)
picks_none true m x d = refl
picks_none false m x d = refl

pub names_none : (g : Graph) (driven : List Bool) (numbers : Numbers) (ends : Versions) → DrivesNames g driven g driven numbers (has []) ends
names_none g driven numbers ends signals number met driver i trees are of s w p n e =
    wired_as signals number g driven (met p) (met_named i (has []) met p) (driver p) (driver_named i (has []) trees met driver p) n
    (picks_none (i == p.instance) (met p) (option_map (moved i) (trees p.name)) (driver p)) (named_none (i == p.instance) (met p)) (w p n e)

-- versions keep their edges
pub others_keep : (signals : ℕ) (g h : Graph) (number : PlaceNumbers) (i : ℕ) (numbers : Numbers) → AreNumbers signals number → AreOf number i numbers → KeepsOthers g h numbers → KeepsVersions signals g h
others_keep signals g h number i numbers are of k v high low = k.kept v (λ x e. absurd (omega (arith, are.below (place i x) v (of x ∙ e))))

pub names_next : (g h k : Graph) (driven now marked : List Bool) (numbers : Numbers) (xs : List Name) (x : Name) (ends : Versions) → IsGraph g → KeepsOthers g h numbers →
    AreVertices (length g) (option_map single (ends x)) → DrivesNames g driven h now numbers (has xs) ends → DrivesName h now k marked numbers x (ends x) → DrivesNames g driven k marked numbers (has (xs ++ x ∷ [])) ends
names_next g h k driven now marked numbers xs x ends is others vs d next signals number met driver i trees are of s w p n e =
    wired_as signals number k marked (met_with (place i x) (met_named i (has xs) met) p) (met_named i (has (xs ++ x ∷ [])) met p)
    (driver_with (place i x) (option_map (moved i) (trees x)) (met_named i (has xs) met) (driver_named i (has xs) trees met driver) p) (driver_named i (has (xs ++ x ∷ [])) trees met driver p) n
    (driver_push i xs x trees met driver p) (met_push i xs x met p)
    (next signals number (met_named i (has xs) met) (driver_named i (has xs) trees met driver) i (trees x) are of
    (stand_kept signals g h numbers (option_map single (ends x)) (trees x) is (others_keep signals g h number i numbers are of others) vs (s x (has_push xs x x ∙ last_true (has xs x) (bytes_eq x x) ((bytes_eq-Decides x x).1 refl))))
    (d signals number met driver i trees are of (λ y m. s y (has_push xs x y ∙ first_true (has xs y) (bytes_eq x y) m)) w) p n e)
  where
    last_true : (a b : Bool) → b ≡ true → (a || b) ≡ true
    last_true true b e = refl
    last_true false b e = e

    first_true : (a b : Bool) → a ≡ true → (a || b) ≡ true
    first_true a b e = ap (λ (c : Bool). c || b) e

pub others_same : (g : Graph) (numbers : Numbers) → IsGraph g → KeepsOthers g g numbers
others_same g numbers is = record { count = refl; graph = is; kept = λ v h. refl }

pub others_after : (g h k : Graph) (numbers : Numbers) → KeepsOthers g h numbers → KeepsOthers h k numbers → KeepsOthers g k numbers
others_after g h k numbers a b = record { count = b.count ∙ a.count; graph = b.graph; kept = λ v f. b.kept v f ∙ a.kept v f }

-- ---- more versions

pub wired_grown : (signals : ℕ) (number : PlaceNumbers) (g h : Graph) (driven : List Bool) (met : Place → Bool) (driver : Place → Option (Tree Place)) → IsGraph g → Grown g h → signals ≤ length g → AreNumbers signals number →
    IsWired signals number g driven met driver → IsWired signals number h driven met driver
wired_grown signals number g h driven met driver is a low are w p n e = record {
  marked = (w p n e).marked;
  stands = subst (λ (vs : List ℕ). DriverStands signals h number vs (driver p)) (sym (a.kept n (omega (arith, are.below p n e))))
      (driver_kept signals g h number (edges_of g n) (driver p) is (grown_keeps signals g h a) (is n) (w p n e).stands);
}

-- ---- processes

process_picked : (o : Option (Tree Place)) (f : Process → Option (Tree Place)) (u : Option Process) (l : Bool) (b : Bool) (c : Process) → (o ≡ None → l ≡ false) → (l ≡ false → o ≡ None) →
    or_else o (option_and_then f (or_else u (if b then Some c else None))) ≡ (if b && not (l || is_some u) then f c else or_else o (option_and_then f u))
process_picked o f (Some d) true true c e k = refl
process_picked o f (Some d) true false c e k = refl
process_picked o f (Some d) false true c e k = refl
process_picked o f (Some d) false false c e k = refl
process_picked (Some t) f None true true c e k = refl
process_picked None f None true true c e k = absurd (true≢false (e refl))
process_picked o f None true false c e k = refl
process_picked (Some t) f None false true c e k = some_none (k refl)
  where
    some_none : Some t ≡ None → Some t ≡ f c
    some_none h = cc
process_picked None f None false true c e k = refl
process_picked o f None false false c e k = refl

process_marked : (l : Bool) (u : Option Process) (b : Bool) (c : Process) → (l || is_some (or_else u (if b then Some c else None))) ≡ ((l || is_some u) || b)
process_marked true u b c = refl
process_marked false (Some d) b c = refl
process_marked false None true c = refl
process_marked false None false c = refl

none_link : (o : Option Link) → option_map (λ (link : Link). link.1) o ≡ None → is_some o ≡ false
none_link None e = refl
none_link (Some l) e = cc

link_none : (o : Option Link) → is_some o ≡ false → option_map (λ (link : Link). link.1) o ≡ None
link_none None e = refl
link_none (Some l) e = absurd (true≢false e)

pub block_is_process : BlockIsProcess
block_is_process links before i declared b p =
    let c = processes.process i declared b in (
      ap (λ (u : Option Process). is_some (find (links_to p) links) || is_some u) (find_push (assigns_to p) before c)
          ∙ process_marked (is_some (find (links_to p) links)) (find (assigns_to p) before) (assigns_to p c) c,
      ap (λ (u : Option Process). or_else (option_map (λ (link : Link). link.1) (find (links_to p) links)) (option_and_then (shown_tree p) u)) (find_push (assigns_to p) before c)
          ∙ process_picked (option_map (λ (link : Link). link.1) (find (links_to p) links)) (shown_tree p) (find (assigns_to p) before) (is_some (find (links_to p) links)) (assigns_to p c) c
          (none_link (find (links_to p) links)) (link_none (find (links_to p) links)),
    )

pub link_is_met : LinkIsMet
link_is_met links q t p = (link_meets links q t p, link_drives links q t p)

-- ---- the code's names

pub name_has : (names : List (Bor Name)) (i : ℕ) (d : Bor Name) → i < length names → has (names_at names) (get_or names i d).now ≡ true
name_has [] i d h = absurd (omega arith)
name_has (n ∷ names) zero d h = ap (λ (b : Bool). b || has (names_at names) n.now) ((bytes_eq-Decides n.now n.now).1 refl)
name_has (n ∷ names) (suc i) d h = ap (λ (b : Bool). bytes_eq (get_or names i d).now n.now || b) (name_has names i d (omega arith)) ∙ or_true (bytes_eq (get_or names i d).now n.now)
  where
    or_true : (b : Bool) → (b || true) ≡ true
    or_true true = refl
    or_true false = refl

pub more_names : (names : List (Bor Name)) (i : ℕ) (d : Bor Name) → i < length names → names_at (take (i + 1) names) ≡ names_at (take i names) ++ (get_or names i d).now ∷ []
more_names names i d h = ap names_at (take_more names i d h) ∙ map_push (λ (r : Bor Name). r.now) (take i names) (get_or names i d)

-- ---- expressions

-- a vertex that is driven by what an expression of an instance reads
pub drives_by : (g h : Graph) (driven marked : List Bool) (n : ℕ) (numbers : Numbers) (edges : List ℕ) (t : Tree Name) → Drives g driven h marked n edges →
    ((signals : ℕ) → AreSignals signals numbers → StandFor signals g numbers edges t) → DrivesBy g driven h marked n numbers t
drives_by g h driven marked n numbers edges t d stands signals number met driver q i are is of w =
    d signals number met driver q (Some (moved i t)) are is
    (moved_stands signals g number i edges t
    (subst (λ (f : Numbers). StandFor signals g f edges t) (λ j x. sym (of x) j) (stands signals (λ x m e. are.below (place i x) m (of x ∙ e)))))
    w

-- ---- whole blocks

pub block_drives : (g g1 h : Graph) (driven marked : List Bool) (numbers : Numbers) (parts : BlockParts) (b : design.Block) (names : Known) (ends : Versions) → IsGraph g → Grown g g1 → EndsStand (length g) g1 numbers names parts ends → names ≡ owns b →
    DrivesNames g1 driven h marked numbers names ends → DrivesBlock g driven h marked numbers parts b
block_drives g g1 h driven marked numbers parts b names ends is grown stands same d signals number met driver i declared tells low are of w =
    let trees : end_of parts ≡ end_trees declared b = λ j x. tells.ends j (Now x) in
    subst (λ (k : Known). IsWired signals number h marked (met_named i k met) (driver_named i k (end_trees declared b) met driver)) same
    (d signals number met driver i (end_trees declared b) are of
    (λ x e. subst (λ (f : Name → Option (Tree Name)). Stand signals g1 numbers (option_map single (ends x)) (f x)) trees ((stands x e).stand signals low (λ y m k. are.below (place i y) m (of y ∙ k))))
    (wired_grown signals number g g1 driven met driver is grown low are w))
