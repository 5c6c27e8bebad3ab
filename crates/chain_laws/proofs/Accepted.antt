-- The source of the chain is accepted, for each number of cells.
use Rattle.std.proofs.Common.{◌≡◌, ℕ, zero, suc, ◌≤◌, [], ◌∷◌, refl, arith}
use Rattle.std.specs.Prelude.{codes}
use Rattle.design_core.specs.Design.{Design, AreInRange}
use Rattle.elab_laws.proofs.Kept.{elaboration_keeps}
use Rattle.check_exec.specs.Premises.{IsSound}
use Rattle.design_judge.specs.Judgement.{AreOfText, Describes, HasOrder, IsAccepted}
use Rattle.design_judge.proofs.OneJudgement.{one_design}
use Rattle.design_judge.proofs.OneReading.{one_text}
use Rattle.demo_run.specs.Chain.{chain_source, chain_top}
use Rattle.chain_laws.specs.Laws.{ChainsAreAccepted}
use Rattle.chain_laws.proofs.Tree.{chain_tree, chain_is_read}
use Rattle.chain_laws.proofs.Cells.{top_gens, chain_design}
use Rattle.chain_laws.proofs.Elaborated.{small_in_range}
use Rattle.chain_laws.proofs.Designed.{elaborated_so}
use Rattle.chain_laws.proofs.Checked.{no_check_refuses}
use Rattle.chain_laws.proofs.Ordered.{chain_has_order}

describes : (k : ℕ) → suc k ≤ 4000 → Describes (chain_top (suc k)) (AreOfText chain_source) (chain_design k)
describes k h = record { sources = chain_tree ∷ []; are = (chain_tree, chain_is_read, refl); elaborates = elaborated_so k (omega arith) }

number_in_range : (k : ℕ) → suc k ≤ 4000 → AreInRange (top_gens (suc k))
number_in_range k h = (small_in_range (suc k) h, tt)

-- the design is well formed, and no check refuses it
pub chain_is_sound : (k : ℕ) → suc k ≤ 4000 → IsSound (chain_design k)
chain_is_sound k h = record {
  kept = elaboration_keeps (chain_tree ∷ []) (codes "Chain") (top_gens (suc k)) (chain_design k) ((chain_source, chain_is_read), tt) (omega arith) (number_in_range k h) (elaborated_so k (omega arith));
  accepted = no_check_refuses k h;
}

has_order : (k : ℕ) → suc k ≤ 4000 → HasOrder (chain_design k)
has_order k h = let found = chain_has_order k (chain_is_sound k h) in record { clean = no_check_refuses k h; pairs = found.order; order = found.tells }

-- it is what the source is accepted as
pub chain_is_accepted : (k : ℕ) → suc k ≤ 4000 → IsAccepted (chain_top (suc k)) (AreOfText chain_source) (chain_design k)
chain_is_accepted k h = (describes k h, has_order k h)

pub only_chain : (k : ℕ) → suc k ≤ 4000 → (d : Design) → IsAccepted (chain_top (suc k)) (AreOfText chain_source) d → d ≡ chain_design k
only_chain k h d a = one_design (chain_top (suc k)) (AreOfText chain_source) (one_text chain_source) d (chain_design k) a.0 (describes k h)

pub chains_are_accepted : ChainsAreAccepted
chains_are_accepted zero h = absurd (omega arith)
chains_are_accepted (suc k) h = (chain_design k, chain_is_accepted k h.few)
