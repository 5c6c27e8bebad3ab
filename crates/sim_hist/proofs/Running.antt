-- The registers and inputs of each cycle.
use Rattle.std.proofs.Common.{◌≡◌, ℕ, zero, suc, ◌+◌, ◌<◌, ◌≤◌, List, [], ◌∷◌, ◌++◌, length, map, get_or, slice_get, Option, Some, None, refl, sym, ap, ap₂, ◌∙◌, subst, arith, ⊎_elim, Vec, Global}
use Rattle.std.specs.Prelude.{All, IsSome, IfSome, slice_index_or}
use Rattle.std.specs.Option.{ForSome}
use Rattle.std.specs.List.{zip}
use Rattle.std.proofs.lemmas.List.{length-map, get_or-map, map_push, length_push, get_or_append_left, get_or_push}
use Rattle.std.proofs.lemmas.Bool.{cases_lt}
use Rattle.std.proofs.lemmas.List.Elements.{All-get_or}
use Rattle.bv_core.specs.Value.{Bits}
use Rattle.bv_core.specs.declared.reference.Sample.{Sample}
use Rattle.bv_core.specs.declared.reference.Sample.TheVariants.{Known}
use Rattle.tree_core.specs.Tree as tree
use Rattle.tree_core.specs.Width.{origin_width}
use Rattle.design_core.specs.declared.Ports.{Ports}
use Rattle.net_core.specs.Nets.{NetParts, IsNet}
use Rattle.stim_text.specs.Stimulus.{Stimulus, IsStimulus}
use Rattle.sim_core.specs.Leaves.{inputs_of, registers_of, starts_of}
use Rattle.sim_core.specs.Given.{HaveWidths, value_beside, node_value, next_registers}
use Rattle.sim_core.specs.Steps.{bits_at}
use Rattle.sim_core.specs.State.{Simulated, one_more, after_edge}
use Rattle.sim_core.proofs.Origins.{beside_width}
use Rattle.sim_core.proofs.Edges.{start_widths, next_widths}
use Rattle.sim_hist.specs.Run.{row_inputs, inputs_in, registers_in, port_origins, first_of_rows, first_settles}
use Rattle.sim_hist.specs.Kept.{ArePicked, IsAt}
use Rattle.sim_hist.proofs.Placing.{Port}

-- a row has one value for each port, of its width
abbrev pub IsRow : Ports → List Bits → Type 0
IsRow ports row = map (λ (value : Bits). value.width) row ≡ map (λ (input : Port). input.1) ports.inputs

pub row_length : (ports : Ports) (row : List Bits) → IsRow ports row → length row ≡ length ports.inputs
row_length ports row e = sym (length-map row (λ (value : Bits). value.width)) ∙ ap length e ∙ length-map ports.inputs (λ (input : Port). input.1)

port_widths : (inputs : List Port) → map (λ (input : Port). input.1) inputs ≡ map origin_width (port_origins inputs)
port_widths [] = refl
port_widths (input ∷ inputs) = ap (λ ws. input.1 ∷ ws) (port_widths inputs)

widths_of : (F : tree.Origin → Bits) → ((o : tree.Origin) → (F o).width ≡ origin_width o) → (os : List tree.Origin) → HaveWidths os (map F os)
widths_of F known [] = refl
widths_of F known (o ∷ os) = ap₂ (λ x xs. x ∷ xs) (known o) (widths_of F known os)

pub row_widths : (net : NetParts) (ports : Ports) (row : List Bits) → IsRow ports row → HaveWidths (inputs_of net.nodes) (row_inputs net ports row)
row_widths net ports row e =
    widths_of (value_beside (zip (port_origins ports.inputs) row)) (beside_width (port_origins ports.inputs) row (e ∙ port_widths ports.inputs)) (inputs_of net.nodes)

pub is_row : (s : Stimulus) (t : ℕ) → IsStimulus s → t < length s.rows → IsRow s.ports (slice_index_or s.rows t [])
is_row s t kept l = All-get_or (IsRow s.ports) s.rows t [] l kept.each

pub input_widths : (net : NetParts) (s : Stimulus) (t : ℕ) → IsStimulus s → t < length s.rows → HaveWidths (inputs_of net.nodes) (inputs_in net s t)
input_widths net s t kept l = row_widths net s.ports (slice_index_or s.rows t []) (is_row s t kept l)

pub register_widths : (net : NetParts) (s : Stimulus) (t : ℕ) → IsNet net → IsStimulus s → t ≤ length s.rows → HaveWidths (registers_of net.nodes) (registers_in net s t)
unfolding registers_in
register_widths net s zero is_net kept l = start_widths net.nodes
register_widths net s (suc t) is_net kept l =
    next_widths net is_net (inputs_in net s t) (registers_in net s t) (input_widths net s t kept (omega arith)) (register_widths net s t is_net kept (omega arith))

pub first_registers : (net : NetParts) (s : Stimulus) → registers_in net s 0 ≡ starts_of net.nodes
unfolding registers_in
first_registers net s = refl

pub next_registers_in : (net : NetParts) (s : Stimulus) (t : ℕ) → registers_in net s (t + 1) ≡ next_registers net (inputs_in net s t) (registers_in net s t)
unfolding registers_in
next_registers_in net s t = ap (registers_in net s) (let e : t + 1 ≡ suc t = omega arith in e)

-- ---- a row

pub got : {X : Type 0} (xs : List X) (t : ℕ) (x d : X) → slice_get xs t ≡ Some x → x ≡ slice_index_or xs t d
got [] t x d e = cc
got (y ∷ xs) zero x d e = let same : y ≡ x = cc in sym same
got (y ∷ xs) (suc t) x d e = got xs t x d e

pub row_picked : (net : NetParts) (s : Stimulus) (t : ℕ) (row : List Bits) (columns : List ℕ) → ArePicked net s.ports columns → slice_get s.rows t ≡ Some row → IsRow s.ports row
    → map (bits_at row) columns ≡ inputs_in net s t
row_picked net s t row columns p e w = p.picks row (row_length s.ports row w) ∙ ap (row_inputs net s.ports) (got s.rows t row [] e)

pub picked_widths : (net : NetParts) (s : Stimulus) (t : ℕ) (row inputs : List Bits) (columns : List ℕ) → ArePicked net s.ports columns → slice_get s.rows t ≡ Some row → IsRow s.ports row
    → inputs ≡ map (bits_at row) columns → HaveWidths (inputs_of net.nodes) inputs
picked_widths net s t row inputs columns p e w is = subst (HaveWidths (inputs_of net.nodes)) (sym (is ∙ p.picks row (row_length s.ports row w))) (row_widths net s.ports row w)

pub picked_within : (net : NetParts) (ports : Ports) (row : List Bits) (columns : List ℕ) → ArePicked net ports columns → IsRow ports row → All (λ column. column < length row) columns
picked_within net ports row columns p w = subst (λ n. All (λ column. column < n) columns) (sym (row_length ports row w)) p.within

-- ---- the cursor

pub settled_at : (m : Simulated) (s : Stimulus) (cursor : Option ℕ) → ForSome cursor (IsAt m s) → IsSome cursor → IsSome m.settled
settled_at m s None placed some = cc
settled_at m s (Some t) placed some = subst IsSome (sym (placed t refl).settled_then) refl

pub sample_told : (m : Simulated) (s : Stimulus) (cursor : Option ℕ) (n : ℕ) (v : Bits) → ForSome cursor (IsAt m s) → IfSome m.settled (λ inputs. v ≡ node_value m.net.nodes inputs m.registers n)
    → IfSome cursor (λ t. ◌≡◌ {A = Sample} (Known v) (Known (node_value m.net.nodes (inputs_in m.net s t) (registers_in m.net s t) n)))
sample_told m s None n v placed told = tt
sample_told m s (Some t) n v placed told =
    let at = placed t refl in
    let known : v ≡ node_value m.net.nodes (inputs_in m.net s t) m.registers n = subst (λ o. IfSome o (λ inputs. v ≡ node_value m.net.nodes inputs m.registers n)) at.settled_then told in
    ap Known (known ∙ ap (λ registers. node_value m.net.nodes (inputs_in m.net s t) registers n) at.registers_then)

-- a clock edge: the registers of the next cycle
pub edge_registers : (s : Stimulus) (t : ℕ) (m n : Simulated) → IsAt m s t → IfSome m.settled (λ given. n ≡ after_edge given m) → (n.net ≡ m.net) × ((n.settles ≡ m.settles) × (n.registers ≡ registers_in m.net s (t + 1)))
edge_registers s t m n at edge =
    let after : n ≡ after_edge (inputs_in m.net s t) m = subst (λ o. IfSome o (λ given. n ≡ after_edge given m)) at.settled_then edge in (
      ap (λ (x : Simulated). x.net) after,
      (
        ap (λ (x : Simulated). x.settles) after,
        ap (λ (x : Simulated). x.registers) after ∙ ap (next_registers m.net (inputs_in m.net s t)) at.registers_then ∙ sym (next_registers_in m.net s t),
      ),
    )

-- ---- a new trace

pub no_rows : {X : Type 0} (rows : List X) → length rows ≡ 0 → first_of_rows rows ≡ None
no_rows [] e = refl
no_rows (row ∷ rows) e = absurd (omega arith)

pub some_rows : {X : Type 0} (rows : List X) → 0 < length rows → first_of_rows rows ≡ Some 0
some_rows [] l = absurd (omega arith)
some_rows (row ∷ rows) l = refl

pub no_settles : {X : Type 0} (rows : List X) (n : ℕ) → length rows ≡ 0 → first_settles rows n ≡ n
no_settles [] n e = refl
no_settles (row ∷ rows) n e = absurd (omega arith)

pub some_settles : {X : Type 0} (rows : List X) (n : ℕ) → 0 < length rows → first_settles rows n ≡ one_more n
some_settles [] n l = absurd (omega arith)
some_settles (row ∷ rows) n l = refl
