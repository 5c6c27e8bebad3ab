-- The slots that elaboration gives are numbers one after another.
use Rattle.std.proofs.Common.{◌≡◌, ℕ, zero, suc, ◌+◌, List, [], ◌∷◌, ◌++◌, map, refl, sym, ap, ap₂, ◌∙◌, arith, add-zero}
use Rattle.std.specs.List.{flat_map}
use Rattle.gen_tree.specs.Tree.{Module}
use Rattle.list_core.specs.Lists.{EachOf, from}
use Rattle.design_core.specs.Design.{Stmt, Assign, Let, If, Case, Body, Done, Then, Else, NoElse, Otherwise, Arms, NoArms, ThenArm, Block}
use Rattle.design_core.specs.Slots.{Head, heads, stmt_heads, else_heads, arms_heads, slots_of, AreNumbered, size, stmt_size, else_size, arms_size}
use Rattle.elab_core.specs.Elaborated.{Instance}
use Rattle.elab_core.specs.Design.{numbered, numbered_stmt, numbered_else, numbered_arms, numbered_blocks, blocks_size, numbered_variant, first_slot}
use Rattle.design_exec.proofs.Slots.{slots-append, block_heads}

-- ---- numbers one after another

further : (k n : ℕ) → k + 1 + n ≡ k + suc n
further k n = omega arith

from_append : (k m n : ℕ) → from k (m + n) ≡ from k m ++ from (k + m) n
from_append k zero n = ap (from k) (none n) ∙ ap (λ j. from j n) (sym (add-zero k))
  where
    none : (n : ℕ) → 0 + n ≡ n
    none n = omega arith
from_append k (suc m) n = ap (from k) (one_more m n) ∙ ap (λ l. k ∷ l) (from_append (k + 1) m n ∙ ap (λ j. from (k + 1) m ++ from j n) (further k m))
  where
    one_more : (m n : ℕ) → suc m + n ≡ suc (m + n)
    one_more m n = omega arith

-- ---- statements

joined : (k m n : ℕ) (hs gs : List Head) → slots_of hs ≡ from k m → slots_of gs ≡ from (k + m) n → slots_of (hs ++ gs) ≡ from k (m + n)
joined k m n hs gs a b = slots-append hs gs ∙ ap₂ (λ (p q : List ℕ). p ++ q) a b ∙ sym (from_append k m n)

with_one : (m n : ℕ) → 1 + m + n ≡ suc (m + n)
with_one m n = omega arith

mutual
  numbered_slots : (k : ℕ) (b : Body) → slots_of (heads (numbered k b)) ≡ from k (size b)
  numbered_slots k Done = refl
  numbered_slots k (Then s rest) =
      joined k (stmt_size s) (size rest) (stmt_heads (numbered_stmt k s)) (heads (numbered (k + stmt_size s) rest)) (stmt_numbered k s) (numbered_slots (k + stmt_size s) rest)

  stmt_numbered : (k : ℕ) (s : Stmt) → slots_of (stmt_heads (numbered_stmt k s)) ≡ from k (stmt_size s)
  stmt_numbered k (Assign slot line gens x part e) = refl
  stmt_numbered k (Let slot line gens x e) = refl
  stmt_numbered k (If slot line gens c first second) =
      ap (λ l. k ∷ l)
      (joined (k + 1) (size first) (else_size second) (heads (numbered (k + 1) first)) (else_heads (numbered_else (k + 1 + size first) second))
      (numbered_slots (k + 1) first) (else_numbered (k + 1 + size first) second))
      ∙ ap (from k) (sym (with_one (size first) (else_size second)))
  stmt_numbered k (Case slot line gens v arms other) =
      ap (λ l. k ∷ l)
      (joined (k + 1) (arms_size arms) (else_size other) (arms_heads (numbered_arms (k + 1) arms)) (else_heads (numbered_else (k + 1 + arms_size arms) other))
      (arms_numbered (k + 1) arms) (else_numbered (k + 1 + arms_size arms) other))
      ∙ ap (from k) (sym (with_one (arms_size arms) (else_size other)))

  arms_numbered : (k : ℕ) (arms : Arms) → slots_of (arms_heads (numbered_arms k arms)) ≡ from k (arms_size arms)
  arms_numbered k NoArms = refl
  arms_numbered k (ThenArm tests body rest) =
      joined k (size body) (arms_size rest) (heads (numbered k body)) (arms_heads (numbered_arms (k + size body) rest)) (numbered_slots k body) (arms_numbered (k + size body) rest)

  else_numbered : (k : ℕ) (b : Else) → slots_of (else_heads (numbered_else k b)) ≡ from k (else_size b)
  else_numbered k NoElse = refl
  else_numbered k (Otherwise body) = numbered_slots k body

pub blocks_numbered : (k : ℕ) (bs : List Block) → slots_of (flat_map block_heads (numbered_blocks k bs)) ≡ from k (blocks_size bs)
blocks_numbered k [] = refl
blocks_numbered k (b ∷ bs) =
    joined k (size b.body) (blocks_size bs) (heads (numbered k b.body)) (flat_map block_heads (numbered_blocks (k + size b.body) bs))
    (numbered_slots k b.body) (blocks_numbered (k + size b.body) bs)

-- ---- the variants of an elaborated design

are_numbered : (modules : List Module) (variants : List Instance) (v : ℕ × Instance) → AreNumbered (numbered_variant modules variants v)
are_numbered modules variants v = record {
  first = first_slot variants v;
  count = blocks_size v.1.content.blocks;
  slots = blocks_numbered (first_slot variants v) v.1.content.blocks;
}

pub each_numbered : (modules : List Module) (variants : List Instance) (list : List (ℕ × Instance)) → EachOf AreNumbered (map (numbered_variant modules variants) list)
each_numbered modules variants [] = tt
each_numbered modules variants (v ∷ list) = (are_numbered modules variants v, each_numbered modules variants list)
