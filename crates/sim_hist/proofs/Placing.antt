-- The columns of a net's inputs.
use Rattle.std.proofs.Common.{◌≡◌, ℕ, zero, suc, ◌+◌, ◌<◌, ◌≤◌, Bool, true, false, true≢false, ◌||◌, List, [], ◌∷◌, ◌++◌, length, map, drop, get_or, slice_get, if◌then◌else◌, Option, Some, append-nil, append_assoc, refl, sym, ap, ap₂, ◌∙◌, subst, arith}
use Rattle.std.specs.Prelude.{All, option_to_list}
use Rattle.std.specs.List.{list_any, zip}
use Rattle.std.proofs.lemmas.List.{drop_more, drop_all, map-append}
use Rattle.std.proofs.lemmas.List.Elements.{All-nil, All-append}
use Rattle.bv_core.specs.Value.{Bits}
use Rattle.tree_core.specs.Tree as tree
use Rattle.tree_core.specs.Fold.{same_origin}
use Rattle.tree_core.proofs.Same.{same_origin-refl}
use Rattle.design_core.specs.declared.Ports.{Ports}
use Rattle.net_core.specs.Nodes.{Shape, TopInput, shape_at}
use Rattle.net_core.specs.Nets.{NetParts}
use Rattle.sim_core.specs.Leaves.{input_in, gathered}
use Rattle.sim_core.specs.Given.{value_beside}
use Rattle.sim_core.specs.Steps.{bits_at}
use Rattle.sim_core.proofs.Gathering.{gather_next, gather_end}
use Rattle.sim_hist.specs.Run.{InputsArePorts, port_origins, row_inputs}
use Rattle.sim_hist.specs.Kept.{ArePicked}

abbrev pub Port : Type 0
Port = List ℕ × ℕ

-- ---- one input

-- the input is among the ports that are left, and what it has in a row is what they have
pub record IsSought (ports : List Port) (o : tree.Origin) (k : ℕ) : Type 0 where
  pub left : list_any (λ p. same_origin p o) (port_origins (drop k ports)) ≡ true
  pub value : (row : List Bits) → length row ≡ length ports → value_beside (zip (port_origins (drop k ports)) (drop k row)) o ≡ value_beside (zip (port_origins ports) row) o

pub sought_first : (ports : List Port) (o : tree.Origin) → list_any (λ p. same_origin p o) (port_origins ports) ≡ true → IsSought ports o 0
sought_first ports o h = record { left = h; value = λ row e. refl }

here : (ports : List Port) (row : List Bits) (o : tree.Origin) (k : ℕ) (port : Port) → k < length ports → length row ≡ length ports → port ≡ get_or ports k port
    → value_beside (zip (port_origins (drop k ports)) (drop k row)) o
    ≡ (if same_origin (tree.Input port.0 port.1) o then bits_at row k else value_beside (zip (port_origins (drop (k + 1) ports)) (drop (k + 1) row)) o)
here ports row o k port inside long at =
    ap₂ (λ ps vs. value_beside (zip (port_origins ps) vs) o) (drop_more ports k port inside) (drop_more row k (record { width = 1; value = 0 }) (omega arith))
    ∙ ap (λ (p : Port). if same_origin (tree.Input p.0 p.1) o then bits_at row k else value_beside (zip (port_origins (drop (k + 1) ports)) (drop (k + 1) row)) o) (sym at)

pub sought_next : (ports : List Port) (o : tree.Origin) (k : ℕ) (port : Port) (b : Bool) → k < length ports → port ≡ get_or ports k port → b ≡ same_origin (tree.Input port.0 port.1) o → b ≡ false
    → IsSought ports o k → IsSought ports o (k + 1)
sought_next ports o k port b inside at is differs s =
    let other : same_origin (tree.Input port.0 port.1) o ≡ false = sym is ∙ differs in
    record {
      left =
          sym (ap (λ ps. list_any (λ p. same_origin p o) (port_origins ps)) (drop_more ports k port inside)
          ∙ ap (λ (p : Port). same_origin (tree.Input p.0 p.1) o || list_any (λ p. same_origin p o) (port_origins (drop (k + 1) ports))) (sym at)
          ∙ ap (λ c. c || list_any (λ p. same_origin p o) (port_origins (drop (k + 1) ports))) other)
          ∙ s.left;
      value = λ row long.
          sym (here ports row o k port inside long at ∙ ap (λ c. if c then bits_at row k else value_beside (zip (port_origins (drop (k + 1) ports)) (drop (k + 1) row)) o) other)
          ∙ s.value row long;
    }

pub sought_at : (ports : List Port) (o : tree.Origin) (k : ℕ) (port : Port) (b : Bool) → k < length ports → port ≡ get_or ports k port → b ≡ same_origin (tree.Input port.0 port.1) o → b ≡ true
    → IsSought ports o k → (row : List Bits) → length row ≡ length ports → bits_at row k ≡ value_beside (zip (port_origins ports) row) o
sought_at ports o k port b inside at is found s row long =
    sym (here ports row o k port inside long at ∙ ap (λ c. if c then bits_at row k else value_beside (zip (port_origins (drop (k + 1) ports)) (drop (k + 1) row)) o) (sym is ∙ found))
    ∙ s.value row long

pub sought_end : (ports : List Port) (o : tree.Origin) (k : ℕ) → length ports ≤ k → IsSought ports o k → ⊥
sought_end ports o k past s = true≢false (sym s.left ∙ ap (λ ps. list_any (λ p. same_origin p o) (port_origins ps)) (drop_all k ports past))

-- ---- all of them

-- a port that stands somewhere is among them
or_left : (b c : Bool) → b ≡ true → (b || c) ≡ true
or_left true c e = refl
or_left false c e = cc

or_right : (b c : Bool) → c ≡ true → (b || c) ≡ true
or_right true c e = refl
or_right false c e = e

stands : (ports : List Port) (k : ℕ) (name : List ℕ) (width : ℕ) → slice_get ports k ≡ Some (name, width) → list_any (λ p. same_origin p (tree.Input name width)) (port_origins ports) ≡ true
stands [] k name width e = cc
stands (port ∷ ports) zero name width e =
    let same : port ≡ (name, width) = cc in
    or_left (same_origin (tree.Input port.0 port.1) (tree.Input name width)) (list_any (λ p. same_origin p (tree.Input name width)) (port_origins ports))
    (ap (λ (p : Port). same_origin (tree.Input p.0 p.1) (tree.Input name width)) same ∙ same_origin-refl (tree.Input name width))
stands (port ∷ ports) (suc k) name width e =
    or_right (same_origin (tree.Input port.0 port.1) (tree.Input name width)) (list_any (λ p. same_origin p (tree.Input name width)) (port_origins ports)) (stands ports k name width e)

get_at : (ns : List Shape) (k : ℕ) → k < length ns → slice_get ns k ≡ Some (shape_at ns k)
get_at [] k l = absurd (omega arith)
get_at (n ∷ ns) zero l = refl
get_at (n ∷ ns) (suc k) l = get_at ns k (omega arith)

pub input_stands : (ns : List Shape) (ports : Ports) (k : ℕ) (s : Shape) (name : List ℕ) (width : ℕ) → InputsArePorts ns ports → k < length ns → s ≡ shape_at ns k → s ≡ TopInput name width
    → list_any (λ p. same_origin p (tree.Input name width)) (port_origins ports.inputs) ≡ true
input_stands ns ports k s name width are inside at is =
    let found = are k name width (get_at ns k inside ∙ ap Some (sym at ∙ is)) in
    stands ports.inputs found.0 name width found.1

-- the columns so far, and the inputs that are left
pub record ArePlaced (net : NetParts) (ports : Ports) (k : ℕ) (columns : List ℕ) : Type 0 where
  pub within : All (λ column. column < length ports.inputs) columns
  pub picks : (row : List Bits) → length row ≡ length ports.inputs
      → map (bits_at row) columns ++ map (value_beside (zip (port_origins ports.inputs) row)) (gathered input_in (drop k net.nodes)) ≡ row_inputs net ports row

pub none_placed : (net : NetParts) (ports : Ports) (columns : List ℕ) → columns ≡ [] → ArePlaced net ports 0 columns
none_placed net ports [] e = record { within = All-nil (λ column. column < length ports.inputs); picks = λ row long. refl }
none_placed net ports (c ∷ columns) e = cc

pub more_placed : (net : NetParts) (ports : Ports) (k : ℕ) (s : Shape) (old new : List ℕ) (column : Option ℕ) → k < length net.nodes → s ≡ shape_at net.nodes k → new ≡ old ++ option_to_list column
    → All (λ c. c < length ports.inputs) (option_to_list column)
    → ((row : List Bits) → length row ≡ length ports.inputs → map (bits_at row) (option_to_list column) ≡ map (value_beside (zip (port_origins ports.inputs) row)) (input_in s))
    → ArePlaced net ports k old → ArePlaced net ports (k + 1) new
more_placed net ports k s old new column inside at is below value w = record {
  within = subst (All (λ c. c < length ports.inputs)) (sym is) (All-append (λ c. c < length ports.inputs) old (option_to_list column) w.within below);
  picks = λ row long.
      let F : tree.Origin → Bits = value_beside (zip (port_origins ports.inputs) row) in
      let rest = gathered input_in (drop (k + 1) net.nodes) in
      ap (λ cs. map (bits_at row) cs ++ map F rest) is
      ∙ ap (λ vs. vs ++ map F rest) (map-append (bits_at row) old (option_to_list column))
      ∙ append_assoc (map (bits_at row) old) (map (bits_at row) (option_to_list column)) (map F rest)
      ∙ ap (λ vs. map (bits_at row) old ++ (vs ++ map F rest)) (value row long)
      ∙ ap (λ vs. map (bits_at row) old ++ vs) (sym (map-append F (input_in s) rest))
      ∙ ap (λ os. map (bits_at row) old ++ map F os) (sym (gather_next input_in net.nodes k s inside at))
      ∙ w.picks row long;
}

pub all_placed : (net : NetParts) (ports : Ports) (k : ℕ) (columns : List ℕ) → length net.nodes ≤ k → ArePlaced net ports k columns → ArePicked net ports columns
all_placed net ports k columns past w = record {
  within = w.within;
  picks = λ row long.
      sym (ap (λ os. map (bits_at row) columns ++ map (value_beside (zip (port_origins ports.inputs) row)) os) (gather_end input_in net.nodes k past) ∙ append-nil (map (bits_at row) columns))
      ∙ w.picks row long;
}
