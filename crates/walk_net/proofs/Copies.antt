-- Copies of nodes: one more of them.
use Rattle.std.proofs.Common.{◌≡◌, ℕ, ◌+◌, ◌<◌, ◌≤◌, Bool, true, false, List, [], ◌∷◌, ◌++◌, length, Option, Some, None, if◌then◌else◌, ⊎_elim, refl, sym, ap, ap₂, ◌∙◌, subst, arith, length-append}
use Rattle.std.specs.Prelude.{nat_lt, slice_set}
use Rattle.std.proofs.lemmas.List.{get_or-set_same, get_or-set_other, length-map, map-append}
use Rattle.std.proofs.Math.ListN.{length-set}
use Rattle.std.proofs.lemmas.Bool.{cases_lt}
use Rattle.std.proofs.lemmas.Bool.Decides.{nat_tests}
use Rattle.bv_core.specs.declared.reference.NodeId.{NodeId}
use Rattle.tree_core.specs.Tree as tree
use Rattle.tree_core.specs.Width.{IsWhole}
use Rattle.tree_core.specs.Fold.{folded}
use Rattle.list_core.specs.Lists.{EachOf, IsIn}
use Rattle.exec_core.specs.Kept.{has_number, add}
use Rattle.net_core.specs.Nodes.{Shape, Fixed, TopInput, Register, OfOne, OfTwo, OfMux, shape_at, node_tree, trees_of, tree_of, OperandsBelow}
use Rattle.net_core.specs.Builder.{Stands, AreShared, Keeps, Adds}
use Rattle.net_core.proofs.TreeLists.{trees_length, tree_is}
use Rattle.walk_net.specs.Next.{tree_by, trees_by}
use Rattle.walk_net.specs.Tasks.{OperandsIn}
use Rattle.walk_net.specs.Renaming.{id_at, IsIdOf, IsNode, AreCopies, with_origin, number, copied_tree, HasCopy, OperandsHaveCopies}
use Rattle.walk_net.proofs.Walking.{with_is_add, add_split}
use Rattle.walk_net.proofs.Nodes.{stands_in, one_node, whole_at, folded_at}
use Rattle.walk_net.proofs.Doing.{IsKnown}

pub known_by : (new : List Shape) (t : tree.Whole) (known : Option NodeId) → IsIdOf new t known → IsKnown known t (trees_of new)
known_by new t None h = tt
known_by new t (Some id) h = stands_in new id.0 t h

-- a tree that is there has an id
pub record Has (new : List Shape) (t : tree.Whole) (known : Option NodeId) : Type 0 where
  pub id : NodeId
  pub is : known ≡ Some id
  pub stands : Stands new id.0 t

pub has : (new : List Shape) (t : tree.Whole) (known : Option NodeId) → IsIdOf new t known → IsIn t (trees_of new) → Has new t known
has new t None h i = absurd (h i)
has new t (Some id) h i = record { id = id; is = refl; stands = h }

pub data Where (i j : ℕ) : Type 0 where
  here : j ≡ i → Where i j
  other : (j ≡ i → ⊥) → Where i j

pub where_is : (i j : ℕ) → Where i j
where_is i j = ⊎_elim (λ a. other (λ e. omega arith)) (λ a. ⊎_elim (λ b. other (λ e. omega arith)) (λ b. here (omega arith)) (cases_lt i j)) (cases_lt j i)

not_less : (a b : ℕ) → b ≤ a → nat_lt a b ≡ false
not_less a b h = grind (arith, nat_tests)

is_less : (a b : ℕ) → a < b → nat_lt a b ≡ true
is_less a b h = grind (arith, nat_tests)

each_last : {A : Type 0} (P : A → Type 0) (xs : List A) (x : A) → EachOf P xs → P x → EachOf P (xs ++ x ∷ [])
each_last P [] x h p = (p, tt)
each_last P (y ∷ ys) x h p = (h.0, each_last P ys x h.1 p)

module _ (old new : List Shape) (ids : List (Option NodeId)) (origins : List NodeId) (old_shared : AreShared old) (c : AreCopies old new ids origins) where
  operand : (a : ℕ) → a < length old → IsIn (tree_of old a) (trees_of new) → HasCopy new ids a
  operand a l i =
      let h = has new (tree_of old a) (id_at ids a) (c.each a l) i in
      record { id = h.id; place = omega (arith, c.long); is = h.is; within = h.stands.within }

  same_operand : (a : ℕ) → a < length old → IsIn (tree_of old a) (trees_of new) → tree_of new (number (id_at ids a)) ≡ tree_of old a
  same_operand a l i =
      let h = has new (tree_of old a) (id_at ids a) (c.each a l) i in
      ap (λ k. tree_of new (number k)) h.is ∙ h.stands.tree

  operands : (k : ℕ) → k < length old → (s : Shape) → OperandsBelow k s → OperandsIn (node_tree (trees_of old) s) (trees_of new) → OperandsHaveCopies new ids s
  operands k l (Fixed b) h o = tt
  operands k l (TopInput name width) h o = tt
  operands k l (Register instance name start) h o = tt
  operands k l (OfOne op a) h o = operand a (omega arith) o
  operands k l (OfTwo op a b) h o = (operand a (omega arith) o.0, operand b (omega arith) o.1)
  operands k l (OfMux x a b) h o = (operand x (omega arith) o.0, operand a (omega arith) o.1, operand b (omega arith) o.2)

  same_tree : (k : ℕ) → k < length old → (s : Shape) → OperandsBelow k s → OperandsIn (node_tree (trees_of old) s) (trees_of new) → copied_tree new ids s ≡ node_tree (trees_of old) s
  same_tree k l (Fixed b) h o = refl
  same_tree k l (TopInput name width) h o = refl
  same_tree k l (Register instance name start) h o = refl
  same_tree k l (OfOne op a) h o = ap (tree.One op) (same_operand a (omega arith) o)
  same_tree k l (OfTwo op a b) h o = ap₂ (tree.Two op) (same_operand a (omega arith) o.0) (same_operand b (omega arith) o.1)
  same_tree k l (OfMux x a b) h o = λ i. tree.Mux (same_operand x (omega arith) o.0 i) (same_operand a (omega arith) o.1 i) (same_operand b (omega arith) o.2 i)

  -- a node whose operands have copies
  pub record CanCopy (j : ℕ) (s : Shape) : Type 0 where
    pub operands : OperandsHaveCopies new ids s
    pub tree : copied_tree new ids s ≡ tree_of old j
    pub whole : IsWhole (copied_tree new ids s)
    pub folded_tree : folded (copied_tree new ids s) ≡ tree_of old j

  pub can_copy : (j : ℕ) → j < length old → (s : Shape) → s ≡ shape_at old j → OperandsIn (tree_of old j) (trees_of new) → CanCopy j s
  can_copy j l s e o =
      let is : tree_of old j ≡ node_tree (trees_of old) s = tree_is old old_shared.numbered j l ∙ ap (node_tree (trees_of old)) (sym e) in
      let below = subst (OperandsBelow j) (sym e) (old_shared.numbered.below j l) in
      let there = subst (λ t. OperandsIn t (trees_of new)) is o in
      let same = same_tree j l s below there ∙ sym is in
      record {
        operands = operands j l s below there;
        tree = same;
        whole = subst IsWhole (sym same) (whole_at old old_shared j l);
        folded_tree = ap folded same ∙ folded_at old old_shared j l;
      }

  module _ (next : List Shape) (at : NodeId) (id : NodeId) (within : at.0 < length old) (stands : Stands next id.0 (tree_of old at.0)) (adds : Adds new next (tree_of old at.0)) (keeps : Keeps new next) (shared : AreShared next) where
    added : trees_of next ≡ add (tree_of old at.0) (trees_of new)
    added = adds ∙ with_is_add (tree_of old at.0) (trees_of new)

    stays : (j : ℕ) → j < length old → (j ≡ at.0 → ⊥) → (known : Option NodeId) → IsIdOf new (tree_of old j) known → IsIdOf next (tree_of old j) known
    stays j l n None h =
        λ m. ⊎_elim (λ k. h k) (λ e. n (one_node old old_shared j at.0 l within e))
        (add_split (tree_of old j) (tree_of old at.0) (trees_of new) (subst (λ ts. IsIn (tree_of old j) ts) added m))
    stays j l n (Some k) h = record { within = omega (arith, h.within, keeps.longer); tree = keeps.same k.0 h.within ∙ h.tree }

    each : (j : ℕ) → j < length old → IsIdOf next (tree_of old j) (id_at (slice_set ids at.0 (Some id)) j)
    each j l = at_test (where_is at.0 j)
      where
        at_test : Where at.0 j → IsIdOf next (tree_of old j) (id_at (slice_set ids at.0 (Some id)) j)
        at_test (here e) =
            let m : at.0 < length ids = omega (arith, c.long, within) in
            subst (λ k. IsIdOf next (tree_of old k) (id_at (slice_set ids at.0 (Some id)) k)) (sym e)
            (subst (IsIdOf next (tree_of old at.0)) (sym (get_or-set_same ids at.0 (Some id) None m)) stands)
        at_test (other n) =
            subst (IsIdOf next (tree_of old j)) (sym (get_or-set_other ids at.0 j (Some id) None n)) (stays j l n (id_at ids j) (c.each j l))

    count : length origins ≡ length new
    count = sym (length-map origins (tree_by old)) ∙ ap length c.trees ∙ trees_length new

    once_more : (b : Bool) → trees_of next ≡ (if b then trees_of new else trees_of new ++ tree_of old at.0 ∷ []) → trees_by old (with_origin (length next) at origins) ≡ trees_of next
    once_more true t =
        let same : length next ≡ length new = sym (trees_length next) ∙ ap length t ∙ trees_length new in
        let no : nat_lt (length origins) (length next) ≡ false = not_less _ _ (omega (arith, count, same)) in
        ap (λ b. trees_by old (if b then origins ++ at ∷ [] else origins)) no ∙ c.trees ∙ sym t
    once_more false t =
        let more : length next ≡ length new + 1 = sym (trees_length next) ∙ ap length t ∙ length-append (trees_of new) (tree_of old at.0 ∷ []) ∙ ap (λ n. n + 1) (trees_length new) in
        let yes : nat_lt (length origins) (length next) ≡ true = is_less _ _ (omega (arith, count, more)) in
        ap (λ b. trees_by old (if b then origins ++ at ∷ [] else origins)) yes ∙ map-append (tree_by old) origins (at ∷ []) ∙ ap (λ ts. ts ++ tree_of old at.0 ∷ []) c.trees ∙ sym t

    each_origin : (b : Bool) → EachOf (IsNode old) (if b then origins ++ at ∷ [] else origins)
    each_origin true = each_last (IsNode old) origins at c.nodes within
    each_origin false = c.nodes

    pub copies : AreCopies old next (slice_set ids at.0 (Some id)) (with_origin (length next) at origins)
    copies = record {
      shared = shared;
      long = length-set ids at.0 (Some id) ∙ c.long;
      each = each;
      trees = once_more (has_number (tree_of old at.0) (trees_of new)) added;
      nodes = each_origin (nat_lt (length origins) (length next));
    }

  -- what one more copy makes of the others
  pub record Left (j : ℕ) (next : List Shape) (more : List (Option NodeId)) (origins_now : List NodeId) : Type 0 where
    pub copies : AreCopies old next more origins_now
    pub adds : trees_of next ≡ add (tree_of old j) (trees_of new)

  pub left : (next : List Shape) (at id : NodeId) (s : Shape) → at.0 < length old → CanCopy at.0 s → Stands next id.0 (folded (copied_tree new ids s)) → Adds new next (folded (copied_tree new ids s)) → Keeps new next → AreShared next → (many : ℕ) → many ≡ length next → (more : List (Option NodeId)) → more ≡ slice_set ids at.0 (Some id) → (origins_now : List NodeId) → origins_now ≡ with_origin many at origins → Left at.0 next more origins_now
  left next at id s within can stands adds keeps shared many is more set origins_now put =
      let stands_now = subst (Stands next id.0) can.folded_tree stands in
      let adds_now = subst (Adds new next) can.folded_tree adds in
      record {
        copies =
            subst (λ os. AreCopies old next more os) (sym (put ∙ ap (λ n. with_origin n at origins) is))
            (subst (λ is. AreCopies old next is (with_origin (length next) at origins)) (sym set)
            (copies next at id within stands_now adds_now keeps shared));
        adds = added next at id within stands_now adds_now keeps shared;
      }
