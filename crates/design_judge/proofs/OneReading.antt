-- A text is read in one way.
use Rattle.std.proofs.Common.{ℕ, List, [], ◌∷◌, Ok, Err, sym, ap, ap₂, ◌∙◌}
use Rattle.gen_tree.specs.Tree.{Source}
use Rattle.gen_text.specs.declared.TextFault.{TextFault}
use Rattle.gen_text.proofs.Answers.{one_reading, no_fault, one_fault}
use Rattle.project_read.specs.Projects as refused
use Rattle.design_judge.specs.Judgement.{AreOfText, IsOne}

pub one_text : (text : List ℕ) → IsOne (AreOfText text)
one_text text (Ok a) (Ok b) p q = ap (λ (l : List Source). Ok l) (p.2 ∙ ap (λ (s : Source). s ∷ []) (one_reading 0 text p.0 q.0 p.1 q.1) ∙ sym q.2)
one_text text (Ok a) (Err (refused.Text file fault)) p q = absurd (q.2 (no_fault 0 text p.0 fault p.1 q.1))
one_text text (Ok a) (Err (refused.TooManyFiles line x)) p q = absurd q
one_text text (Err (refused.Text file fault)) (Ok b) p q = absurd (p.2 (no_fault 0 text q.0 fault q.1 p.1))
one_text text (Err (refused.Text file fault)) (Err (refused.Text other second)) p q =
    ap₂ (λ (n : ℕ) (f : TextFault). Err (refused.Text n f)) (p.0 ∙ sym q.0) (one_fault 0 text fault second p.1 q.1 p.2 q.2)
one_text text (Err (refused.Text file fault)) (Err (refused.TooManyFiles line x)) p q = absurd q
one_text text (Err (refused.TooManyFiles line x)) b p q = absurd p
