-- Links and processes of all instances, one after another.
use Rattle.std.proofs.Common.{◌≡◌, ℕ, zero, suc, ◌+◌, ◌<◌, ◌≤◌, Bool, true, false, List, [], ◌∷◌, ◌++◌, length, map, take, get_or, Some, ◌⊎◌, inl, inr, refl, sym, subst, ap, ◌∙◌, arith, append_assoc, if◌then◌else◌}
use Rattle.tree_core.specs.Tree.{Leaf}
use Rattle.std.specs.Prelude.{slice_get, option_map, option_and_then}
use Rattle.std.specs.List.{enumerate_from, flat_map}
use Rattle.std.proofs.lemmas.List.{take_more, map_push, append-nil}
use Rattle.std.proofs.lemmas.Grind.{flat_map-append}
use Rattle.std.proofs.lemmas.Option.{slice_get_read, slice_get-map}
use Rattle.exec_core.specs.Block.{Name}
use Rattle.exec_core.specs.Design.{Process, place}
use Rattle.design_core.specs.declared.design.Instance.{Instance}
use Rattle.design_core.specs.declared.variant.Signal.{Signal}
use Rattle.design_core.specs.declared.expr.Literal.{Literal}
use Rattle.design_core.specs.declared.variant.Kind.{Kind}
use Rattle.design_core.specs.declared.variant.Kind.TheVariants as kind
use Rattle.design_core.specs.declared.variant.Child as code_child
use Rattle.design_core.specs.View.{child_of}
use Rattle.design_core.specs.Design as design
use Rattle.design_exec.specs.Processes as processes
use Rattle.design_exec.specs.Processes.{conn_link, kept_below, links_at, numbers_below, output_link, stands_in}
use Rattle.names.specs.Maps.{value_of}
use Rattle.list_core.specs.Lists.{EachOf}
use Rattle.list_core.proofs.Lists.{each_append, each_map}
use Rattle.graph_order.specs.Graphs.{Graph}
use Rattle.place_core.specs.Numbering.{Numbers, numbers_of, number_in}
use Rattle.block_net.specs.Blocks.{BlockParts}
use Rattle.dep_order.specs.Blocks.{AreSignals, TellBlocks}
use Rattle.dep_order.specs.Wiring.{driver_in, is_met, AreOf, IsWired, DrivesBlocks, DrivesConns, DrivesOutput}
use Rattle.place_core.specs.Linking.{Link, links_of_child, link_of_output}
use Rattle.dep_order.specs.Linking.{AreBelow, DrivesLinks, DrivesProcesses}
use Rattle.place_core.proofs.Numbers.{each_get}

-- ---- numbers

pub map_at : (maps : List (List (Name × ℕ))) (i : ℕ) (m : List (Name × ℕ)) → i < length maps → m ≡ get_or maps i m → slice_get (numbers_of maps) i ≡ Some (value_of m)
map_at maps i m h e = slice_get-map value_of maps i ∙ ap (option_map value_of) (slice_get_read maps (length maps) i m refl h e)

pub below_at : (n : ℕ) (maps : List (List (Name × ℕ))) (i : ℕ) (m : List (Name × ℕ)) → AreBelow n (numbers_of maps) → i < length maps → m ≡ get_or maps i m → AreSignals n (value_of m)
below_at n maps i m each h e = each_get (AreSignals n) (numbers_of maps) i (value_of m) each (map_at maps i m h e)

pub below_more : (n m : ℕ) (all : List Numbers) → n ≤ m → AreBelow n all → AreBelow m all
below_more n m all le each = each_map (AreSignals n) (AreSignals m) all (λ f s x k e. omega (arith, le, s x k e)) each

of_at : (all : List Numbers) (i : ℕ) (numbers : Numbers) → slice_get all i ≡ Some numbers → AreOf (number_in all) i numbers
of_at all i numbers e x = ap (option_and_then (λ (m : Numbers). m x)) e

pub number_within : (below : List ℕ) (n place : ℕ) (j : ℕ) → EachOf (λ k. k < n) below → slice_get below place ≡ Some j → j < n
number_within below n place j each e = each_get (λ k. k < n) below place j each e

-- ---- links, one after another

pub links_none : (g : Graph) (driven : List Bool) (all : List Numbers) → DrivesLinks g driven g driven all []
links_none g driven all signals links are w = subst (λ (ls : List Link). IsWired signals (number_in all) g driven (is_met ls []) (driver_in ls [])) (sym (append-nil links)) w

pub links_both : (g h k : Graph) (driven now marked : List Bool) (all : List Numbers) (a b : List Link) → DrivesLinks g driven h now all a → DrivesLinks h now k marked all b → DrivesLinks g driven k marked all (a ++ b)
links_both g h k driven now marked all a b first second signals links are w =
    subst (λ (ls : List Link). IsWired signals (number_in all) k marked (is_met ls []) (driver_in ls [])) (append_assoc links a b) (second signals (links ++ a) are (first signals links are w))

pub processes_none : (g : Graph) (driven : List Bool) (all : List Numbers) → DrivesProcesses g driven g driven all []
processes_none g driven all signals links before low are w =
    subst (λ (ps : List Process). IsWired signals (number_in all) g driven (is_met links ps) (driver_in links ps)) (sym (append-nil before)) w

pub processes_both : (g h k : Graph) (driven now marked : List Bool) (all : List Numbers) (a b : List Process) → length g ≤ length h → DrivesProcesses g driven h now all a → DrivesProcesses h now k marked all b →
    DrivesProcesses g driven k marked all (a ++ b)
processes_both g h k driven now marked all a b more first second signals links before low are w =
    subst (λ (ps : List Process). IsWired signals (number_in all) k marked (is_met links ps) (driver_in links ps)) (append_assoc before a b)
    (second signals links (before ++ a) (omega (arith, low, more)) are (first signals links before low are w))

-- ---- what stands in a list up to a place

enumerate_push : {A : Type 0} (n : ℕ) (xs : List A) (x : A) → enumerate_from n (xs ++ x ∷ []) ≡ enumerate_from n xs ++ (n + length xs, x) ∷ []
enumerate_push n [] x = ap (λ (k : ℕ). (k, x) ∷ []) (omega arith)
enumerate_push n (y ∷ xs) x = ap (λ ps. (n, y) ∷ ps) (enumerate_push (n + 1) xs x ∙ ap (λ (k : ℕ). enumerate_from (n + 1) xs ++ (k, x) ∷ []) (omega arith))

flat_push : {A B : Type 0} (f : A → List B) (xs : List A) (x : A) → flat_map f (xs ++ x ∷ []) ≡ flat_map f xs ++ f x
flat_push f xs x = flat_map-append f xs (x ∷ []) ∙ ap (λ ys. flat_map f xs ++ ys) (append-nil (f x))

taken : {A : Type 0} (xs : List A) (i : ℕ) → i < length xs → length (take i xs) ≡ i
taken [] i h = absurd (omega arith)
taken (x ∷ xs) zero h = refl
taken (x ∷ xs) (suc i) h = ap (λ n. suc n) (taken xs i (omega arith))

pub numbered_more : {A B : Type 0} (f : ℕ × A → List B) (xs : List A) (i : ℕ) (x : A) → i < length xs → x ≡ get_or xs i x → flat_map f (enumerate_from 0 (take (i + 1) xs)) ≡ flat_map f (enumerate_from 0 (take i xs)) ++ f (i, x)
numbered_more f xs i x h e =
    ap (λ ys. flat_map f (enumerate_from 0 ys)) (take_more xs i x h ∙ ap (λ y. take i xs ++ y ∷ []) (sym e))
    ∙ ap (flat_map f) (enumerate_push 0 (take i xs) x)
    ∙ flat_push f (enumerate_from 0 (take i xs)) (0 + length (take i xs), x)
    ∙ ap (λ (n : ℕ). flat_map f (enumerate_from 0 (take i xs)) ++ f (n, x)) (omega (arith, taken xs i h))

pub children_more : {B : Type 0} (f : ℕ × design.Child → List B) (cs : List code_child.Child) (i : ℕ) (c : code_child.Child) → i < length cs → c ≡ get_or cs i c →
    flat_map f (enumerate_from 0 (map child_of (take (i + 1) cs))) ≡ flat_map f (enumerate_from 0 (map child_of (take i cs))) ++ f (i, child_of c)
children_more f cs i c h e =
    ap (λ ys. flat_map f (enumerate_from 0 (map child_of ys))) (take_more cs i c h ∙ ap (λ y. take i cs ++ y ∷ []) (sym e))
    ∙ ap (λ ys. flat_map f (enumerate_from 0 ys)) (map_push child_of (take i cs) c)
    ∙ ap (flat_map f) (enumerate_push 0 (map child_of (take i cs)) (child_of c))
    ∙ flat_push f (enumerate_from 0 (map child_of (take i cs))) (0 + length (map child_of (take i cs)), child_of c)
    ∙ ap (λ (n : ℕ). flat_map f (enumerate_from 0 (map child_of (take i cs))) ++ f (n, child_of c)) (omega (arith, mapped (take i cs), taken cs i h))
  where
    mapped : (ys : List code_child.Child) → length (map child_of ys) ≡ length ys
    mapped [] = refl
    mapped (y ∷ ys) = ap (λ n. suc n) (mapped ys)

pub signals_more : {B : Type 0} (f : Signal → List B) (xs : List Signal) (i : ℕ) (x : Signal) → i < length xs → x ≡ get_or xs i x → flat_map f (take (i + 1) xs) ≡ flat_map f (take i xs) ++ f x
signals_more f xs i x h e = ap (flat_map f) (take_more xs i x h ∙ ap (λ y. take i xs ++ y ∷ []) (sym e)) ∙ flat_push f (take i xs) x

-- ---- the numbers below

below_from : (i n : ℕ) (list : List Instance) → EachOf (λ j. j < n + length list) (flat_map (kept_below i) (enumerate_from n list))
below_from i n [] = tt
below_from i n (r ∷ list) =
    each_append (λ j. j < n + suc (length list)) (kept_below i (n, r)) (flat_map (kept_below i) (enumerate_from (n + 1) list)) (one (stands_in i r.parent))
    (each_map (λ j. j < n + 1 + length list) (λ j. j < n + suc (length list)) (flat_map (kept_below i) (enumerate_from (n + 1) list)) (λ j h. omega (arith, h)) (below_from i (n + 1) list))
  where
    one : (b : Bool) → EachOf (λ j. j < n + suc (length list)) (if b then n ∷ [] else [])
    one true = (omega arith, tt)
    one false = tt

pub are_instances : (d : design.Design) (i n : ℕ) (below : List ℕ) → n ≡ length d.instances → below ≡ numbers_below d i → EachOf (λ j. j < n) below
are_instances d i n below e is =
    subst (EachOf (λ j. j < n)) (sym is) (subst (λ (m : ℕ). EachOf (λ j. j < m) (numbers_below d i)) (omega (arith, e)) (below_from i 0 d.instances))

-- ---- the links of an instance

pub conns_links : (g h : Graph) (driven marked : List Bool) (all : List Numbers) (i j : ℕ) (of_parent of_child : Numbers) (conns : List design.Conn) → slice_get all i ≡ Some of_parent → slice_get all j ≡ Some of_child →
    DrivesConns g driven h marked of_child of_parent conns → DrivesLinks g driven h marked all (map (conn_link i j) conns)
conns_links g h driven marked all i j of_parent of_child conns e f d signals links are w = d signals (number_in all) i j links are (of_at all i of_parent e) (of_at all j of_child f) w

pub output_links : (g h : Graph) (driven marked : List Bool) (all : List Numbers) (i j : ℕ) (of_parent of_child : Numbers) (x q : Name) → slice_get all i ≡ Some of_parent → slice_get all j ≡ Some of_child →
    DrivesOutput g driven h marked of_child of_parent x q → DrivesLinks g driven h marked all ((place i x, Leaf (place j q)) ∷ [])
output_links g h driven marked all i j of_parent of_child x q e f d signals links are w = d signals (number_in all) i j links are (of_at all i of_parent e) (of_at all j of_child f) w

pub block_processes : (g h : Graph) (driven marked : List Bool) (all : List Numbers) (i : ℕ) (numbers : Numbers) (declared : List Signal) (ts : List BlockParts) (bs : List design.Block) → slice_get all i ≡ Some numbers → TellBlocks declared ts bs →
    DrivesBlocks g driven h marked numbers ts bs → DrivesProcesses g driven h marked all (map (processes.process i declared) bs)
block_processes g h driven marked all i numbers declared ts bs e tell d signals links before low are w = d signals (number_in all) i declared links before tell low are (of_at all i numbers e) w

pub links_passed : (g : Graph) (driven : List Bool) (all : List Numbers) (ls : List Link) → ls ≡ [] → DrivesLinks g driven g driven all ls
links_passed g driven all ls e = subst (DrivesLinks g driven g driven all) (sym e) (links_none g driven all)

-- what is no output of a child
pub no_link : (i : ℕ) (below : List ℕ) (x : Name) (k : Kind) → (k ≡ kind.Input) ⊎ ((k ≡ kind.Output) ⊎ ((k ≡ kind.Wire) ⊎ ((start : Literal) × (k ≡ kind.Reg start)))) → link_of_output i below x k ≡ []
no_link i below x k (inl e) = ap (link_of_output i below x) e
no_link i below x k (inr (inl e)) = ap (link_of_output i below x) e
no_link i below x k (inr (inr (inl e))) = ap (link_of_output i below x) e
no_link i below x k (inr (inr (inr (start, e)))) = ap (link_of_output i below x) e

-- by the numbers below it, or by the design
same_link : (d : design.Design) (i : ℕ) (x : Name) (k : Kind) → link_of_output i (numbers_below d i) x k ≡ output_link d i x k
same_link d i x kind.Input = refl
same_link d i x kind.Output = refl
same_link d i x kind.Wire = refl
same_link d i x (kind.Reg start) = refl
same_link d i x (kind.ChildOut k q) = refl

pub links_of_instance : (d : design.Design) (i : ℕ) (r : Instance) (below : List ℕ) (children : List design.Child) (signals : List Signal) → below ≡ numbers_below d i → children ≡ processes.children_in d r.variant → signals ≡ processes.signals_in d r.variant →
    flat_map (links_of_child i below) (enumerate_from 0 children) ++ flat_map (λ (s : Signal). link_of_output i below s.name s.kind) signals ≡ links_at d (i, r)
links_of_instance d i r below children signals e f g =
    ap (λ (ks : List ℕ). flat_map (links_of_child i ks) (enumerate_from 0 children) ++ flat_map (λ (s : Signal). link_of_output i ks s.name s.kind) signals) e
    ∙ ap (λ (cs : List design.Child). flat_map (links_of_child i (numbers_below d i)) (enumerate_from 0 cs) ++ flat_map (λ (s : Signal). link_of_output i (numbers_below d i) s.name s.kind) signals) f
    ∙ ap (λ (ss : List Signal). flat_map (links_of_child i (numbers_below d i)) (enumerate_from 0 (processes.children_in d r.variant)) ++ flat_map (λ (s : Signal). link_of_output i (numbers_below d i) s.name s.kind) ss) g
    ∙ ap (λ (f : Signal → List Link). flat_map (links_of_child i (numbers_below d i)) (enumerate_from 0 (processes.children_in d r.variant)) ++ flat_map f (processes.signals_in d r.variant))
    (λ k (s : Signal). same_link d i s.name s.kind k)

pub instance_drives : (g h k : Graph) (driven now marked : List Bool) (all : List Numbers) (d : design.Design) (i : ℕ) (r : Instance) (below below' : List ℕ) (children : List design.Child) (signals : List Signal) →
    below ≡ numbers_below d i → below' ≡ numbers_below d i → children ≡ processes.children_in d r.variant → signals ≡ processes.signals_in d r.variant →
    DrivesLinks g driven h now all (flat_map (links_of_child i below) (enumerate_from 0 children)) → DrivesLinks h now k marked all (flat_map (λ (s : Signal). link_of_output i below' s.name s.kind) signals) →
    DrivesLinks g driven k marked all (links_at d (i, r))
instance_drives g h k driven now marked all d i r below below' children signals e e' f f' first second =
    subst (DrivesLinks g driven k marked all) (links_of_instance d i r below children signals e f f')
    (links_both g h k driven now marked all (flat_map (links_of_child i below) (enumerate_from 0 children)) (flat_map (λ (s : Signal). link_of_output i below s.name s.kind) signals) first
    (subst (λ (ks : List ℕ). DrivesLinks h now k marked all (flat_map (λ (s : Signal). link_of_output i ks s.name s.kind) signals)) (e' ∙ sym e) second))
