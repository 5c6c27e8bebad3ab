-- What lowering looks up.
use Rattle.std.proofs.Common.{◌≡◌, ℕ, zero, suc, ◌<◌, ◌≤◌, List, [], ◌∷◌, Option, Some, None, length, map, get_or, refl, sym, ap, ◌∙◌, arith}
use Rattle.std.specs.Prelude.{slice_get, option_map, option_and_then, Vec}
use Rattle.std.specs.declared.alloc.Global.{Global}
use Rattle.std.proofs.Math.ListN.{set}
use Rattle.std.proofs.lemmas.List.{length-map}
use Rattle.std.proofs.lemmas.Option.{same_Some, none-some, slice_get_within, slice_get_past, slice_get-map}
use Rattle.exec_core.specs.Block.{Name}
use Rattle.exec_core.specs.Design.{Process}
use Rattle.design_core.specs.Design as design
use Rattle.design_exec.specs.Processes.{process, signals_in, blocks_in}
use Rattle.bv_core.specs.declared.reference.NodeId.{NodeId}
use Rattle.net_core.specs.Nodes.{Shape}
use Rattle.net_core.specs.Builder.{AreShared}
use Rattle.block_net.specs.Blocks.{BlockParts}
use Rattle.block_net.specs.declared.term.Term.{Term}
use Rattle.term_net.specs.Growth.{AreNodes}
use Rattle.term_net.specs.Memos.{Fits}
use Rattle.names.specs.Maps.{value_of, no_value}
use Rattle.place_core.specs.Numbering.{Numbers, numbers_of}
use Rattle.ssa_core.specs.declared.process.ProcessKey.{ProcessKey}
use Rattle.ssa_core.specs.Processes.{process_at, terms_at, lists_of, HasTerms, HaveTerms}
use Rattle.ssa_nodes.specs.State.{names_in}

-- ---- names

pub names_some : (maps : List (List (Name × ℕ))) (i : ℕ) (m : List (Name × ℕ)) → slice_get maps i ≡ Some m → value_of m ≡ names_in (numbers_of maps) i
names_some maps i m e = sym (λ j x. option_and_then (λ (f : Numbers). f x) (found j))
  where
    found : slice_get (numbers_of maps) i ≡ Some (value_of m)
    found = slice_get-map value_of maps i ∙ ap (option_map value_of) e

pub names_none : (maps : List (List (Name × ℕ))) (i : ℕ) (m : List (Name × ℕ)) → length maps ≤ i → value_of m ≡ no_value → value_of m ≡ names_in (numbers_of maps) i
names_none maps i m past is = is ∙ sym (λ j x. option_and_then (λ (f : Numbers). f x) (none j))
  where
    none : slice_get (numbers_of maps) i ≡ None
    none = slice_get_past (numbers_of maps) i (omega (arith, past, length-map maps value_of))

-- ---- terms

pub record InRow (blocks : List (Vec BlockParts Global)) (v b : ℕ) (parts : BlockParts) : Type 0 where
  pub row : Vec BlockParts Global
  pub at : slice_get blocks v ≡ Some row
  pub inside : slice_get row.items b ≡ Some parts

pub in_row : (blocks : List (Vec BlockParts Global)) (v b : ℕ) (parts : BlockParts) → terms_at (lists_of blocks) v b ≡ Some parts → InRow blocks v b parts
in_row [] v b parts e = absurd (none-some parts e)
in_row (row ∷ blocks) zero b parts e = record { row = row; at = refl; inside = e }
in_row (row ∷ blocks) (suc v) b parts e = let r = in_row blocks v b parts e in record { row = r.row; at = r.at; inside = r.inside }

-- a process has terms
pub record ProcessTerms (d : design.Design) (blocks : List (List BlockParts)) (key : ProcessKey) (b : Process) : Type 0 where
  pub block : design.Block
  pub at : slice_get (blocks_in d key.variant) key.block ≡ Some block
  pub is : process key.instance (signals_in d key.variant) block ≡ b
  pub has : HasTerms d blocks key.variant key.block block

pub process_terms : (d : design.Design) (blocks : List (List BlockParts)) (key : ProcessKey) (b : Process) → HaveTerms d blocks → process_at d key ≡ Some b → ProcessTerms d blocks key b
process_terms d blocks key b have e = by_block (slice_get (blocks_in d key.variant) key.block) refl
  where
    by_block : (o : Option design.Block) → slice_get (blocks_in d key.variant) key.block ≡ o → ProcessTerms d blocks key b
    by_block None at = absurd (none-some b (sym (ap (option_map (process key.instance (signals_in d key.variant))) at) ∙ e))
    by_block (Some block) at = record {
      block = block;
      at = at;
      is = same_Some (process key.instance (signals_in d key.variant) block) b (sym (ap (option_map (process key.instance (signals_in d key.variant))) at) ∙ e);
      has = have.each key.variant key.block block at;
    }

-- ---- vectors

pub map_set : {A B : Type 0} (f : A → B) (xs : List A) (k : ℕ) (x : A) → map f (set xs k x) ≡ set (map f xs) k (f x)
map_set f [] k x = refl
map_set f (y ∷ ys) zero x = refl
map_set f (y ∷ ys) (suc k) x = ap (λ l. f y ∷ l) (map_set f ys k x)

pub items_at : {A : Type 0} (vs : List (Vec A Global)) (k : ℕ) (items : List A) (v : Vec A Global) → slice_get (lists_of vs) k ≡ Some items → v ≡ get_or vs k v → v.items ≡ items
items_at [] k items v e at = absurd (none-some items e)
items_at {A = A} (w ∷ vs) zero items v e at = ap (λ (u : Vec A Global). u.items) at ∙ same_Some w.items items e
items_at (w ∷ vs) (suc k) items v e at = items_at vs k items v e at

pub within_lists : {A : Type 0} (vs : List (Vec A Global)) (k : ℕ) (items : List A) → slice_get (lists_of vs) k ≡ Some items → k < length vs
within_lists {A = A} vs k items e = omega (arith, slice_get_within (lists_of vs) k items e, length-map vs (λ (v : Vec A Global). v.items))

-- ---- a memo without nodes

pub fits_blank : (ns : List Shape) (places : Name → Option ℕ) (nodes : List (Option NodeId)) (terms : List Term) (memo : List (Option NodeId)) → AreShared ns → AreNodes ns nodes → length memo ≡ length terms → ((k : ℕ) → get_or memo k None ≡ None) → Fits ns places nodes terms memo
fits_blank ns places nodes terms memo shared are each none = record {
  shared = shared;
  leaves = are;
  each = each;
  ready = λ k id e. absurd (none-some id (sym (none k) ∙ e));
  stands = λ k id e. absurd (none-some id (sym (none k) ∙ e));
}
