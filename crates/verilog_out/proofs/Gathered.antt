-- The text of what is gathered by number, line by line.
use Rattle.std.proofs.Common.{◌≡◌, ℕ, zero, suc, ◌<◌, List, [], ◌∷◌, ◌++◌, Option, Some, None, length, map, get_or, slice_get, codes, refl, sym, ap, ap₂, ◌∙◌, subst, append_assoc, append-nil, arith}
use Rattle.std.specs.List.{flat_map, filter_map, cons_option}
use Rattle.std.proofs.lemmas.List.Concat.{flat_map-append}
use Rattle.io_edge.specs.Taken.{Appends, AppendsFront}
use Rattle.io_edge.specs.Waiting.{Passes}
use Rattle.io_edge.proofs.Passing.{front_first, end_passes, end_front}
use Rattle.bv_core.specs.declared.reference.NodeId.{NodeId}
use Rattle.list_core.specs.Lists.{from}
use Rattle.design_core.specs.declared.ports.Ports.{Ports}
use Rattle.net_core.specs.Nodes.{Shape}
use Rattle.net_core.specs.Nets.{NetParts, outputs_of, OutputsFit}
use Rattle.verilog_out.specs.declared.part.Part.TheVariants.{Declarations, Assignments, Steps}
use Rattle.verilog_out.specs.Spelling.{front_text, declaration_text, assignment_text, step_text}
use Rattle.verilog_out.specs.Printed.{declared, assigned, output_assigned, stepped, printed}
use Rattle.verilog_out.specs.Lines.{line_of, part_text, output_line, outputs_text, body_text}

one_more : {B : Type 0} (text : B → List ℕ) (o : Option B) (found : List B) (rest : List ℕ) → flat_map text found ≡ rest → flat_map text (cons_option o found) ≡ line_of text o ++ rest
one_more text None found rest e = e
one_more text (Some item) found rest e = ap (λ l. text item ++ l) e

gathered : {A B : Type 0} (text : B → List ℕ) (found : A → Option B) (xs : List A) → flat_map text (filter_map found xs) ≡ flat_map (λ x. line_of text (found x)) xs
gathered text found [] = refl
gathered text found (x ∷ xs) = one_more text (found x) (filter_map found xs) _ (gathered text found xs)

pub mapped : {A B : Type 0} (text : B → List ℕ) (f : A → B) (xs : List A) → flat_map text (map f xs) ≡ flat_map (λ x. text (f x)) xs
mapped text f [] = refl
mapped text f (x ∷ xs) = ap (λ l. text (f x) ++ l) (mapped text f xs)

regroup : (d a o s e : List ℕ) → d ++ ((a ++ o) ++ (s ++ e)) ≡ (d ++ (a ++ (o ++ s))) ++ e
regroup d a o s e = simp append_assoc

-- the text is what stands before the nodes, the body, and the end
pub printed_is : (net : NetParts) (ports : Ports) → printed net ports ≡ front_text ports.module ports.inputs ports.outputs ++ (body_text net ++ codes "endmodule\n")
unfolding printed
printed_is net ports =
    let numbers = from 0 (length net.nodes) in
    let behind = codes "endmodule\n" in
    ap (λ l. front_text ports.module ports.inputs ports.outputs ++ l)
    (ap₂ (λ (d r : List ℕ). d ++ r) (gathered declaration_text (declared net.nodes) numbers)
    (ap₂ (λ (a r : List ℕ). a ++ r)
    (flat_map-append assignment_text (filter_map (assigned net.nodes) numbers) (map (output_assigned net.nodes) net.outputs)
    ∙ ap₂ (λ (a o : List ℕ). a ++ o) (gathered assignment_text (assigned net.nodes) numbers) (mapped assignment_text (output_assigned net.nodes) net.outputs))
    (ap (λ s. s ++ behind) (gathered step_text (stepped net) numbers)))
    ∙ regroup (part_text net Declarations) (part_text net Assignments) (outputs_text net) (part_text net Steps) behind)

-- the outputs as a program gives them
pub outputs_are : (net : NetParts) (outputs : List (List ℕ × NodeId)) → outputs_of outputs ≡ net.outputs → flat_map (output_line net.nodes) outputs ≡ outputs_text net
outputs_are net outputs e =
    sym (mapped (λ output. assignment_text (output_assigned net.nodes output)) (λ (o : List ℕ × NodeId). (o.0, o.1.0)) outputs)
    ∙ ap (λ l. flat_map (λ output. assignment_text (output_assigned net.nodes output)) l) e

pub output_within : (ns : List Shape) (outputs : List (List ℕ × NodeId)) (k : ℕ) (d : List ℕ × NodeId) → OutputsFit ns (outputs_of outputs) → k < length outputs → (get_or outputs k d).1.0 < length ns
output_within ns outputs k d fit l = fit.nodes k ((get_or outputs k d).0, (get_or outputs k d).1.0) (found outputs k l)
  where
    found : (outputs : List (List ℕ × NodeId)) (k : ℕ) → k < length outputs → slice_get (outputs_of outputs) k ≡ Some ((get_or outputs k d).0, (get_or outputs k d).1.0)
    found [] k l = absurd (omega arith)
    found (output ∷ outputs) zero l = refl
    found (output ∷ outputs) (suc k) l = found outputs k (omega arith)

-- the body, part by part
pub body_split : (net : NetParts) (outputs : List (List ℕ × NodeId)) → outputs_of outputs ≡ net.outputs
    → body_text net ≡ (part_text net Declarations ++ part_text net Assignments) ++ (flat_map (output_line net.nodes) outputs ++ part_text net Steps)
body_split net outputs e =
    sym (append_assoc (part_text net Declarations) (part_text net Assignments) (outputs_text net ++ part_text net Steps))
    ∙ ap (λ l. (part_text net Declarations ++ part_text net Assignments) ++ (l ++ part_text net Steps)) (sym (outputs_are net outputs e))

pub body_joined : (net : NetParts) (outputs : List (List ℕ × NodeId)) → outputs_of outputs ≡ net.outputs
    → body_text net ≡ ((part_text net Declarations ++ part_text net Assignments) ++ flat_map (output_line net.nodes) outputs) ++ part_text net Steps
body_joined net outputs e = body_split net outputs e ∙ sym (append_assoc (part_text net Declarations ++ part_text net Assignments) (flat_map (output_line net.nodes) outputs) (part_text net Steps))

pub body_last : (net : NetParts) (outputs : List (List ℕ × NodeId)) → outputs_of outputs ≡ net.outputs
    → body_text net ≡ ((part_text net Declarations ++ part_text net Assignments) ++ flat_map (output_line net.nodes) outputs) ++ (part_text net Steps ++ [])
body_last net outputs e = body_joined net outputs e ∙ ap (λ l. ((part_text net Declarations ++ part_text net Assignments) ++ flat_map (output_line net.nodes) outputs) ++ l) (sym (append-nil (part_text net Steps)))

-- ---- what is taken of the text

module _ (net : NetParts) (ports : Ports) (old new : Option (List ℕ)) (before : List ℕ) (start : before ≡ front_text ports.module ports.inputs ports.outputs) where
  whole : before ++ (body_text net ++ codes "endmodule\n") ≡ printed net ports
  whole = ap (λ l. l ++ (body_text net ++ codes "endmodule\n")) start ∙ sym (printed_is net ports)

  pub front_of_body : AppendsFront old new (before ++ body_text net) → AppendsFront old new (printed net ports)
  front_of_body x = subst (AppendsFront old new) whole (front_first old new before (body_text net) (codes "endmodule\n") x)

  pub front_of_end : (mid : Option (List ℕ)) (after : List ℕ) → Passes old mid before after (body_text net) → AppendsFront mid new (after ++ codes "endmodule\n") → AppendsFront old new (printed net ports)
  front_of_end mid after x y = subst (AppendsFront old new) whole (end_front old mid new before after (body_text net) (codes "endmodule\n") x y)

  pub all_taken : (mid : Option (List ℕ)) (after : List ℕ) → Passes old mid before after (body_text net) → Appends mid new (after ++ codes "endmodule\n") → Appends old new (printed net ports)
  all_taken mid after x y = subst (Appends old new) whole (end_passes old mid new before after (body_text net) (codes "endmodule\n") x y)
