-- Nodes and ports have one bit or more.
use Rattle.std.proofs.Common.{◌≡◌, ℕ, zero, suc, ◌<◌, ◌≤◌, true, List, [], ◌∷◌, length, get_or, inl, inr, subst, sym, arith}
use Rattle.std.specs.List.{list_all}
use Rattle.std.proofs.lemmas.Bool.Decides.{nat_tests}
use Rattle.bv_core.specs.declared.operators.Op1.{Op1}
use Rattle.bv_core.specs.declared.operators.Op1.TheVariants.{Not, All, Any, Parity, Slice, Zext}
use Rattle.bv_core.specs.declared.operators.Op2.{Op2}
use Rattle.bv_core.specs.declared.operators.Op2.TheVariants.{Add, Sub, Mul, And, Or, Xor, Eq, Ne, Lt, Le, Shl, Shr, Cat}
use Rattle.bv_core.specs.Operators.{Fits1, Fits2, width1_of, width2_of}
use Rattle.tree_core.specs.Tree.{Whole, Const, Leaf, One, Two, Mux, Input, Register}
use Rattle.tree_core.specs.Width.{tree_width, IsWhole}
use Rattle.list_core.specs.Lists.{IsIn}
use Rattle.design_core.specs.Ports.{has_width}
use Rattle.net_core.specs.Nodes.{trees_of, width_at}
use Rattle.net_core.specs.Nets.{NetParts, IsNet}
use Rattle.net_core.proofs.TreeLists.{trees_length}

one_some : (op : Op1) (w : ℕ) → Fits1 op w → 1 ≤ w → 1 ≤ width1_of op w
one_some Not w f some = some
one_some All w f some = omega arith
one_some Any w f some = omega arith
one_some Parity w f some = omega arith
one_some (Slice high low) w f some = omega arith
one_some (Zext to) w f some = omega (arith, f.0)

two_some : (op : Op2) (v w : ℕ) → 1 ≤ v → 1 ≤ width2_of op v w
two_some Add v w some = some
two_some Sub v w some = some
two_some Mul v w some = some
two_some And v w some = some
two_some Or v w some = some
two_some Xor v w some = some
two_some Eq v w some = omega arith
two_some Ne v w some = omega arith
two_some Lt v w some = omega arith
two_some Le v w some = omega arith
two_some Shl v w some = some
two_some Shr v w some = some
two_some Cat v w some = omega arith

tree_some : (t : Whole) → IsWhole t → 1 ≤ tree_width t
tree_some (Const b) f = f.some
tree_some (Leaf (Input name width)) f = f.0
tree_some (Leaf (Register instance name start)) f = f.some
tree_some (One op a) f = one_some op (tree_width a) f.1 (tree_some a f.0)
tree_some (Two op a b) f = two_some op (tree_width a) (tree_width b) (tree_some a f.0)
tree_some (Mux c a b) f = tree_some a f.1

one_most : (op : Op1) (w : ℕ) → Fits1 op w → w ≤ 128 → width1_of op w ≤ 128
one_most Not w f most = most
one_most All w f most = omega arith
one_most Any w f most = omega arith
one_most Parity w f most = omega arith
one_most (Slice high low) w f most = omega (arith, f.1)
one_most (Zext to) w f most = f.1

two_most : (op : Op2) (v w : ℕ) → Fits2 op v w → v ≤ 128 → width2_of op v w ≤ 128
two_most Add v w f most = most
two_most Sub v w f most = most
two_most Mul v w f most = most
two_most And v w f most = most
two_most Or v w f most = most
two_most Xor v w f most = most
two_most Eq v w f most = omega arith
two_most Ne v w f most = omega arith
two_most Lt v w f most = omega arith
two_most Le v w f most = omega arith
two_most Shl v w f most = most
two_most Shr v w f most = most
two_most Cat v w f most = f

tree_most : (t : Whole) → IsWhole t → tree_width t ≤ 128
tree_most (Const b) f = f.most
tree_most (Leaf (Input name width)) f = f.1
tree_most (Leaf (Register instance name start)) f = f.most
tree_most (One op a) f = one_most op (tree_width a) f.1 (tree_most a f.0)
tree_most (Two op a b) f = two_most op (tree_width a) (tree_width b) f.2 (tree_most a f.0)
tree_most (Mux c a b) f = tree_most a f.1

pub node_most : (net : NetParts) → IsNet net → (i : ℕ) → i < length net.nodes → width_at net.nodes i ≤ 128
node_most net is i l =
    let inside : i < length (trees_of net.nodes) = subst (λ n. i < n) (sym (trees_length net.nodes)) l in
    tree_most _ (is.shared.trees.whole i inside)

pub node_some : (net : NetParts) → IsNet net → (i : ℕ) → i < length net.nodes → 1 ≤ width_at net.nodes i
node_some net is i l =
    let inside : i < length (trees_of net.nodes) = subst (λ n. i < n) (sym (trees_length net.nodes)) l in
    tree_some _ (is.shared.trees.whole i inside)

pub port_some : (ports : List (List ℕ × ℕ)) (i : ℕ) (d : List ℕ × ℕ) → list_all has_width ports ≡ true → i < length ports → 1 ≤ (get_or ports i d).1
port_some [] i d h l = absurd (omega arith)
port_some (port ∷ ports) zero d h l = grind (arith, nat_tests)
port_some (port ∷ ports) (suc i) d h l = port_some ports i d (grind (arith, nat_tests)) (omega arith)

pub port_fits : (ports : List (List ℕ × ℕ)) (port : List ℕ × ℕ) → list_all has_width ports ≡ true → IsIn port ports → (1 ≤ port.1) × (port.1 ≤ 128)
port_fits [] port h i = absurd i
port_fits (x ∷ ports) port h (inl e) = subst (λ (p : List ℕ × ℕ). (1 ≤ p.1) × (p.1 ≤ 128)) (sym e) (grind (arith, nat_tests), grind (arith, nat_tests))
port_fits (x ∷ ports) port h (inr i) = port_fits ports port (grind (arith, nat_tests)) i
