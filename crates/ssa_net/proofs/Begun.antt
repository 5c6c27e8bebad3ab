-- What lowering begins with.
use Rattle.std.proofs.Common.{◌≡◌, ℕ, zero, suc, ◌+◌, ◌<◌, true, List, [], ◌∷◌, ◌++◌, length, map, take, Option, Some, refl, sym, ap, ◌∙◌, subst}
use Rattle.std.specs.Prelude.{slice_get, slice_index_or, Vec}
use Rattle.std.specs.declared.alloc.Global.{Global}
use Rattle.std.proofs.lemmas.List.{map-append}
use Rattle.std.proofs.lemmas.Option.{same_Some, none-some}
use Rattle.bv_core.specs.declared.reference.NodeId.{NodeId}
use Rattle.exec_core.specs.Whole.{Place}
use Rattle.exec_core.specs.Design.{Process}
use Rattle.design_core.specs.Design as design
use Rattle.design_exec.specs.Processes.{processes_of, is_signal_of}
use Rattle.net_core.specs.Nodes.{Shape}
use Rattle.block_net.specs.Blocks.{BlockParts}
use Rattle.place_core.specs.Numbering.{AreCounted, AllCounted, number_in}
use Rattle.place_core.proofs.Numbers.{numbered, at_within}
use Rattle.ssa_core.specs.declared.process.ProcessKey.{ProcessKey}
use Rattle.ssa_core.specs.Processes.{process_at, terms_at, lists_of}
use Rattle.ssa_core.specs.Drives.{AreApart}
use Rattle.list_core.proofs.Growing.{more_of}
use Rattle.list_core.proofs.Listing.{same_get}
use Rattle.ssa_nodes.specs.State.{names_in, MemoFits, AllOverGivens}
use Rattle.ssa_nodes.specs.declared.parts.Parts as code
use Rattle.ssa_nodes.specs.Parts.{HasParts, HasSignals, HasState, IsProcess, all_in, design_in, blocks_in}
use Rattle.ssa_nodes.proofs.Looking.{fits_blank}
use Rattle.ssa_net.specs.Blank.{IsBlank, AreBlank}

-- ---- numbers

pub apart_all : (d : design.Design) (all : AllCounted) → AreCounted d all → AreApart (length all.1) all.0
apart_all d all e =
    let back = (numbered d all e).0.back in
    record {
      below = λ p n at. at_within d all.1 n p (back p n at);
      apart = λ p q n at is. same_Some p q (sym (back p n at) ∙ back q n is);
    }

pub numbered_all : (d : design.Design) (all : AllCounted) → AreCounted d all → (p : Place) → is_signal_of d p ≡ true → (n : ℕ) × (number_in all.0 p ≡ Some n)
numbered_all d all e p s = (numbered d all e).2 p s

-- ---- memos

pub blank_more : (blocks : List (List BlockParts)) (keys : List ProcessKey) (memos : List (List (Option NodeId))) (key : ProcessKey) (memo : List (Option NodeId)) → AreBlank blocks keys memos → IsBlank blocks key memo → AreBlank blocks (keys ++ key ∷ []) (memos ++ memo ∷ [])
blank_more blocks [] [] key memo h b = (b, tt)
blank_more blocks [] (m ∷ memos) key memo h b = absurd h
blank_more blocks (k ∷ keys) [] key memo h b = absurd h
blank_more blocks (k ∷ keys) (m ∷ memos) key memo h b = (h.0, blank_more blocks keys memos key memo h.1 b)

-- one more memo, that of the key at a place
pub blank_next : (blocks : List (List BlockParts)) (keys : List ProcessKey) (k : ℕ) (z : ProcessKey) (memos new : List (Vec (Option NodeId) Global)) (memo : Vec (Option NodeId) Global) → k < length keys → new ≡ memos ++ memo ∷ [] → AreBlank blocks (take k keys) (lists_of memos) → IsBlank blocks (slice_index_or keys k z) memo.items → AreBlank blocks (take (k + 1) keys) (lists_of new)
blank_next blocks keys k z memos new memo below e h b =
    let key = slice_index_or keys k z in
    subst (AreBlank blocks (take (k + 1) keys)) (sym (ap lists_of e ∙ map-append _ memos (memo ∷ [])))
    (subst (λ ks. AreBlank blocks ks (lists_of memos ++ memo.items ∷ [])) (sym (more_of keys k key below (same_get keys k z key below))) (blank_more blocks (take k keys) (lists_of memos) key memo.items h b))

pub record BlankAt (blocks : List (List BlockParts)) (key : ProcessKey) (memos : List (List (Option NodeId))) (k : ℕ) : Type 0 where
  pub memo : List (Option NodeId)
  pub found : slice_get memos k ≡ Some memo
  pub blank : IsBlank blocks key memo

pub blank_at : (blocks : List (List BlockParts)) (keys : List ProcessKey) (memos : List (List (Option NodeId))) (k : ℕ) (key : ProcessKey) → AreBlank blocks keys memos → slice_get keys k ≡ Some key → BlankAt blocks key memos k
blank_at blocks [] memos k key h e = absurd (none-some key e)
blank_at blocks (x ∷ keys) [] k key h e = absurd h
blank_at blocks (x ∷ keys) (m ∷ memos) zero key h e = record { memo = m; found = refl; blank = subst (λ y. IsBlank blocks y m) (same_Some x key e) h.0 }
blank_at blocks (x ∷ keys) (m ∷ memos) (suc k) key h e = let r = blank_at blocks keys memos k key h.1 e in record { memo = r.memo; found = r.found; blank = r.blank }

-- each key is that of a process
key_process : (f : ProcessKey → Option Process) (keys : List ProcessKey) (bs : List Process) (k : ℕ) (key : ProcessKey) → map f keys ≡ map (λ b. Some b) bs → slice_get keys k ≡ Some key → (b : Process) × (f key ≡ Some b)
key_process f [] bs k key e at = absurd (none-some key at)
key_process f (x ∷ keys) [] k key e at = absurd (let never : ⊥ = cc in never)
key_process f (x ∷ keys) (b ∷ bs) zero key e at = (b, ap f (sym (same_Some x key at)) ∙ head_same (f x) (Some b) (map f keys) (map (λ c. Some c) bs) e)
  where
    head_same : {A : Type 0} (x y : A) (xs ys : List A) → x ∷ xs ≡ y ∷ ys → x ≡ y
    head_same x y xs ys e = cc
key_process f (x ∷ keys) (b ∷ bs) (suc k) key e at = key_process f keys bs k key (tail_same (f x) (Some b) (map f keys) (map (λ c. Some c) bs) e) at
  where
    tail_same : {A : Type 0} (x y : A) (xs ys : List A) → x ∷ xs ≡ y ∷ ys → xs ≡ ys
    tail_same x y xs ys e = cc

pub is_process : (p : code.Parts) → HasParts p → (k : ℕ) (key : ProcessKey) → slice_get p.keys.items k ≡ Some key → IsProcess p key
is_process p h k key at = let b = key_process (process_at (design_in p)) p.keys.items (processes_of (design_in p)).processes k key h.parts.keys_are at in record { process = b.0; is = b.1 }

-- nodes of what is given, and none of the terms of blocks
pub begun : (p : code.Parts) (ns : List Shape) (nodes : List (Option NodeId)) (memos : List (List (Option NodeId))) → HasSignals p ns nodes → AllOverGivens (processes_of (design_in p)) ns → AreBlank (blocks_in p) p.keys.items memos → HasState p ns nodes memos
begun p ns nodes memos s over blank = record {
  shared = s.shared;
  placed = s.placed;
  signals = s.signals;
  terms = record { each = each };
  over = over;
}
  where
    each : (k : ℕ) (key : ProcessKey) (parts : BlockParts) → slice_get p.keys.items k ≡ Some key → terms_at (blocks_in p) key.variant key.block ≡ Some parts → MemoFits ns (all_in p) nodes memos k key.instance parts
    each k key parts found at =
        let b = blank_at (blocks_in p) p.keys.items memos k key blank found in
        let none = b.blank parts at in
        record { memo = b.memo; found = b.found; fits = fits_blank ns (names_in (all_in p) key.instance) nodes parts.terms b.memo s.shared s.placed none.long none.none }
