-- The nodes of a compiled design's table are those of its net.
use Rattle.std.proofs.Common.{◌≡◌, ℕ, zero, suc, ◌+◌, List, [], ◌∷◌, length, map, Some, refl, sym, ap, ◌∙◌, arith}
use Rattle.std.specs.Prelude.{slice_get}
use Rattle.std.specs.List.{enumerate_from}
use Rattle.std.proofs.lemmas.List.{length-map}
use Rattle.std.proofs.lemmas.List.FromFn.{length-enumerate_from}
use Rattle.std.proofs.lemmas.Option.{none-some, same_Some, get_or_from_slice_get}
use Rattle.net_core.specs.Nodes.{Shape, Fixed, TopInput, Register, OfOne, OfTwo, OfMux, no_shape, width_at}
use Rattle.net_core.specs.Nets.{NetParts}
use Rattle.symtab.specs.declared.parts.NodeName.{NodeName}
use Rattle.symtab.specs.declared.parts.TableParts.{TableParts}
use Rattle.trim_core.specs.Named.{named, node_names}
use Rattle.vcd_write.specs.Run.{variable_of}
use Rattle.replay_laws.specs.Replay.{AreNodesOf}

same_name : (ns : List Shape) (i width : ℕ) (shape : Shape) → (named ns (i, shape)).name ≡ (variable_of i width shape).name
same_name ns i width (Fixed b) = refl
same_name ns i width (TopInput name w) = refl
same_name ns i width (Register instance name start) = refl
same_name ns i width (OfOne op a) = refl
same_name ns i width (OfTwo op a b) = refl
same_name ns i width (OfMux c a b) = refl

-- a node is named by its number and its shape
record IsNamed (all ns : List Shape) (k i : ℕ) (node : NodeName) : Type 0 where
  shape : Shape
  at : slice_get ns i ≡ Some shape
  is : node ≡ named all (k + i, shape)

named_at : (all : List Shape) (k : ℕ) (ns : List Shape) (i : ℕ) (node : NodeName) → slice_get (map (named all) (enumerate_from k ns)) i ≡ Some node → IsNamed all ns k i node
named_at all k [] i node e = absurd (none-some node e)
named_at all k (n ∷ ns) zero node e =
    record { shape = n; at = refl; is = sym (same_Some (named all (k, n)) node e) ∙ ap (λ (j : ℕ). named all (j, n)) (let z : k ≡ k + 0 = omega arith in z) }
named_at all k (n ∷ ns) (suc i) node e =
    let found = named_at all (k + 1) ns i node e in
    record { shape = found.shape; at = found.at; is = found.is ∙ ap (λ (j : ℕ). named all (j, found.shape)) (let z : k + 1 + i ≡ k + suc i = omega arith in z) }

pub are_nodes : (net : NetParts) (parts : TableParts) → parts.nodes ≡ node_names net.nodes → AreNodesOf parts net
are_nodes net parts e = record {
  count = ap (λ (ns : List NodeName). length ns) e ∙ length-map (enumerate_from 0 net.nodes) (named net.nodes) ∙ length-enumerate_from 0 net.nodes;
  names = λ n node at.
      let found = found_at n node at in
      ap (λ (x : NodeName). x.name) found.is ∙ same_name net.nodes (0 + n) (width_at net.nodes n) found.shape
      ∙ ap (λ (i : ℕ). (variable_of i (width_at net.nodes n) found.shape).name) (let z : 0 + n ≡ n = omega arith in z)
      ∙ ap (λ (s : Shape). (variable_of n (width_at net.nodes n) s).name) (sym (get_or_from_slice_get net.nodes n found.shape no_shape found.at));
  widths = λ n node at. ap (λ (x : NodeName). x.width) (found_at n node at).is ∙ ap (width_at net.nodes) (let z : 0 + n ≡ n = omega arith in z);
}
  where
    found_at : (n : ℕ) (node : NodeName) → slice_get parts.nodes n ≡ Some node → IsNamed net.nodes net.nodes 0 n node
    found_at n node at = named_at net.nodes 0 net.nodes n node (ap (λ (ns : List NodeName). slice_get ns n) (sym e) ∙ at)
