-- The pieces of the file, one behind the other.
use Rattle.std.proofs.Common.{◌≡◌, ℕ, zero, suc, ◌+◌, ◌-◌, ◌%◌, ◌/◌, ◌^◌, ◌<◌, ◌≤◌, Bool, true, false, cond, List, [], ◌∷◌, ◌++◌, length, map, drop, get_or, codes, Option, Some, refl, sym, ap, ap₂, ◌∙◌, subst, arith, append_assoc, append-nil, length-append}
use Rattle.std.specs.Prelude.{slice_get, ◌==◌}
use Rattle.std.specs.List.{flat_map}
use Rattle.std.specs.Fmt.{decimal}
use Rattle.std.proofs.Math.Seq.{drop-cons}
use Rattle.std.proofs.lemmas.List.{length-map}
use Rattle.std.proofs.lemmas.Bool.Decides.{nat_tests}
use Rattle.io_edge.specs.Taken.{Appends, AppendsFront}
use Rattle.io_edge.specs.Waiting.{Passes}
use Rattle.bv_core.specs.declared.reference.NodeId.{NodeId}
use Rattle.list_core.specs.Lists.{from}
use Rattle.net_core.specs.Nodes.{Shape}
use Rattle.net_core.specs.Nets.{NetParts, outputs_of, OutputsFit}
use Rattle.stim_text.specs.Stimulus.{Stimulus}
use Rattle.verilog_out.proofs.Numbers.{number_next}
use Rattle.vcd_text.specs.Dump.{Variable, code_text, line_text, range_words, variable_words, variables_text, value_words, values_text, step_text, front_text, dump_text}
use Rattle.vcd_text.specs.Waves.{bit, first_of, cycle_steps, clock}
use Rattle.vcd_text.proofs.Codes.{code_more}
use Rattle.vcd_text.proofs.Lines.{flat_twice}
use Rattle.vcd_write.specs.Run.{node_variable, output_variable, variables_of, shown_of, row_of, waves_text}
use Rattle.vcd_write.specs.Written.{AreNodes, node_line, output_lines, first_text, start_text, cycle_text, cycles_text}
use Rattle.vcd_write.proofs.Numbers.{from_next}

-- ---- words

pub end_more : (size : ℕ) → (size ≡ 1 → ⊥) → 32 ∷ 91 ∷ (decimal (size - 1) ++ (58 ∷ 48 ∷ 93 ∷ 32 ∷ 36 ∷ 101 ∷ 110 ∷ 100 ∷ 10 ∷ [])) ≡ 32 ∷ line_text (range_words size ++ codes "$end" ∷ [])
end_more size other = by_test (size == 1) refl
  where
    by_test : (b : Bool) → (size == 1) ≡ b → 32 ∷ 91 ∷ (decimal (size - 1) ++ (58 ∷ 48 ∷ 93 ∷ 32 ∷ 36 ∷ 101 ∷ 110 ∷ 100 ∷ 10 ∷ [])) ≡ 32 ∷ line_text (cond b [] ((codes "[" ++ decimal (size - 1) ++ codes ":0]") ∷ []) ++ codes "$end" ∷ [])
    by_test true e = absurd (other (grind (arith, nat_tests)))
    by_test false e = ap (λ (l : List ℕ). 32 ∷ 91 ∷ l) (sym (append_assoc (decimal (size - 1)) (58 ∷ 48 ∷ 93 ∷ []) (32 ∷ 36 ∷ 101 ∷ 110 ∷ 100 ∷ 10 ∷ [])))

pub code_next : (text new all : List ℕ) (rest : ℕ) → 94 ≤ rest → new ≡ text ++ (33 + rest % 94) ∷ [] → text ++ code_text rest ≡ all → new ++ code_text (rest / 94) ≡ all
code_next text new all rest large e h =
    ap (λ (l : List ℕ). l ++ code_text (rest / 94)) e
    ∙ append_assoc text ((33 + rest % 94) ∷ []) (code_text (rest / 94))
    ∙ ap (λ (l : List ℕ). text ++ l) (sym (code_more rest large))
    ∙ h

-- one more number, and one more piece for a number
pub more_numbers : (old text new : List ℕ) (n : ℕ) → new ≡ text ++ n ∷ [] → text ≡ old ++ from 0 n → new ≡ old ++ from 0 (n + 1)
more_numbers old text new n e h = e ∙ ap (λ (l : List ℕ). l ++ n ∷ []) h ∙ append_assoc old (from 0 n) (n ∷ []) ∙ ap (λ (l : List ℕ). old ++ l) (sym (from_next n))

pub more_written : (f : ℕ → List ℕ) (old text new : List ℕ) (n : ℕ) → new ≡ text ++ f n → text ≡ old ++ flat_map f (from 0 n) → new ≡ old ++ flat_map f (from 0 (n + 1))
more_written f old text new n e h = e ∙ ap (λ (l : List ℕ). l ++ f n) h ∙ append_assoc old (flat_map f (from 0 n)) (f n) ∙ ap (λ (l : List ℕ). old ++ l) (sym (number_next f n))

-- ---- declarations

pub outputs_next : (ns : List Shape) (before place number : ℕ) (outputs : List (List ℕ × NodeId)) (output : List ℕ × NodeId) (text new all : List ℕ) → place < length outputs → output ≡ get_or outputs place output → number ≡ before + place + 1
    → new ≡ text ++ output_lines ns number (output ∷ []) → text ++ output_lines ns (before + place + 1) (drop place outputs) ≡ all
    → new ++ output_lines ns (before + (place + 1) + 1) (drop (place + 1) outputs) ≡ all
outputs_next ns before place number outputs output text new all l at n e h =
    let line = line_text (variable_words (before + place + 1) (output_variable ns (output.0, output.1.0))) in
    let rest = output_lines ns (before + place + 1 + 1) (drop (place + 1) outputs) in
    let first : new ≡ text ++ line = e ∙ ap (λ k. text ++ output_lines ns k (output ∷ [])) n ∙ ap (λ (l : List ℕ). text ++ l) (append-nil line) in
    let here : drop place outputs ≡ output ∷ drop (place + 1) outputs =
    drop-cons outputs place output l ∙ ap₂ (λ (o : List ℕ × NodeId) (os : List (List ℕ × NodeId)). o ∷ os) (sym at) (ap (λ k. drop k outputs) (let z : suc place ≡ place + 1 = omega arith in z)) in
    ap₂ (λ (l : List ℕ) (k : ℕ). l ++ output_lines ns k (drop (place + 1) outputs)) first (let z : before + (place + 1) + 1 ≡ before + place + 1 + 1 = omega arith in z)
    ∙ append_assoc text line rest
    ∙ ap (λ os. text ++ output_lines ns (before + place + 1) os) (sym here)
    ∙ h

nodes_lines : (ns : List Shape) (a k : ℕ) (rest : List Variable) → variables_text (a + 1) (map (node_variable ns) (from a k) ++ rest) ≡ flat_map (node_line ns) (from a k) ++ variables_text (a + k + 1) rest
nodes_lines ns a zero rest = ap (λ n. variables_text n rest) (let z : a + 1 ≡ a + 0 + 1 = omega arith in z)
nodes_lines ns a (suc k) rest =
    ap (λ (l : List ℕ). node_line ns a ++ l) (nodes_lines ns (a + 1) k rest ∙ ap (λ n. flat_map (node_line ns) (from (a + 1) k) ++ variables_text n rest) (let z : a + 1 + k + 1 ≡ a + suc k + 1 = omega arith in z))
    ∙ sym (append_assoc (node_line ns a) (flat_map (node_line ns) (from (a + 1) k)) (variables_text (a + suc k + 1) rest))

outputs_lines : (ns : List Shape) (number : ℕ) (outputs : List (List ℕ × NodeId)) → variables_text number (map (output_variable ns) (outputs_of outputs)) ≡ output_lines ns number outputs
outputs_lines ns number [] = refl
outputs_lines ns number (output ∷ outputs) = ap (λ (l : List ℕ). line_text (variable_words number (output_variable ns (output.0, output.1.0))) ++ l) (outputs_lines ns (number + 1) outputs)

pub variables_written : (net : NetParts) (outputs : List (List ℕ × NodeId)) (n : ℕ) (old a b c : List ℕ) → n ≡ length net.nodes → outputs_of outputs ≡ net.outputs → a ≡ old ++ line_text (variable_words 0 clock)
    → b ≡ a ++ flat_map (node_line net.nodes) (from 0 (length net.nodes)) → c ≡ b ++ output_lines net.nodes (n + 1) outputs → c ≡ old ++ variables_text 0 (clock ∷ variables_of net)
variables_written net outputs n old a b c count same x y z =
    let first = line_text (variable_words 0 clock) in
    let nodes = flat_map (node_line net.nodes) (from 0 (length net.nodes)) in
    let rest : output_lines net.nodes (n + 1) outputs ≡ variables_text (0 + length net.nodes + 1) (map (output_variable net.nodes) net.outputs) =
    sym (outputs_lines net.nodes (n + 1) outputs)
    ∙ ap₂ (λ (k : ℕ) (os : List (List ℕ × ℕ)). variables_text k (map (output_variable net.nodes) os)) (let e : n + 1 ≡ 0 + length net.nodes + 1 = omega (arith, count) in e) same in
    z
    ∙ ap₂ (λ (l r : List ℕ). l ++ r) (y ∙ ap (λ (l : List ℕ). l ++ nodes) x) rest
    ∙ append_assoc (old ++ first) nodes (variables_text (0 + length net.nodes + 1) (map (output_variable net.nodes) net.outputs))
    ∙ ap (λ (l : List ℕ). (old ++ first) ++ l) (sym (nodes_lines net.nodes 0 (length net.nodes) (map (output_variable net.nodes) net.outputs)))
    ∙ append_assoc old first (variables_text (0 + 1) (variables_of net))

-- ---- the nodes that are shown

pub targets_are : (net : NetParts) (outputs : List (List ℕ × NodeId)) → outputs_of outputs ≡ net.outputs → map (λ (o : List ℕ × NodeId). o.1.0) outputs ≡ map (λ (o : List ℕ × ℕ). o.1) net.outputs
targets_are net outputs e = joined outputs ∙ ap (map (λ (o : List ℕ × ℕ). o.1)) e
  where
    joined : (outputs : List (List ℕ × NodeId)) → map (λ (o : List ℕ × NodeId). o.1.0) outputs ≡ map (λ (o : List ℕ × ℕ). o.1) (outputs_of outputs)
    joined [] = refl
    joined (o ∷ outputs) = ap (λ (l : List ℕ). o.1.0 ∷ l) (joined outputs)

pub length_from : (a n : ℕ) → length (from a n) ≡ n
length_from a zero = refl
length_from a (suc n) = ap suc (length_from (a + 1) n)

pub length_shown : (net : NetParts) → length (shown_of net) ≡ length net.nodes + length net.outputs
length_shown net =
    length-append (from 0 (length net.nodes)) (map (λ (o : List ℕ × ℕ). o.1) net.outputs) ∙ ap₂ (λ (m n : ℕ). m + n) (length_from 0 (length net.nodes)) (length-map net.outputs (λ (o : List ℕ × ℕ). o.1))

from_within : (a n b k : ℕ) (rest : List ℕ) → a + n ≤ b → ((j : ℕ) → j < length rest → get_or rest j 0 < b) → k < length (from a n ++ rest) → get_or (from a n ++ rest) k 0 < b
from_within a zero b k rest l h i = h k i
from_within a (suc n) b zero rest l h i = omega arith
from_within a (suc n) b (suc k) rest l h i = from_within (a + 1) n b k rest (omega arith) h (omega arith)

targets_within : (ns : List Shape) (outputs : List (List ℕ × ℕ)) → ((k : ℕ) (o : List ℕ × ℕ) → slice_get outputs k ≡ Some o → o.1 < length ns) → (j : ℕ) → j < length (map (λ (o : List ℕ × ℕ). o.1) outputs) → get_or (map (λ (o : List ℕ × ℕ). o.1) outputs) j 0 < length ns
targets_within ns [] h j l = absurd (omega arith)
targets_within ns (o ∷ outputs) h zero l = h 0 o refl
targets_within ns (o ∷ outputs) h (suc j) l = targets_within ns outputs (λ k p e. h (suc k) p e) j (omega arith)

pub shown_within : (net : NetParts) → OutputsFit net.nodes net.outputs → AreNodes (length net.nodes) (shown_of net)
shown_within net fit = record {
  each = λ k l. from_within 0 (length net.nodes) (length net.nodes) k (map (λ (o : List ℕ × ℕ). o.1) net.outputs) (omega arith) (targets_within net.nodes net.outputs fit.nodes) l;
}

-- ---- the whole

regroup : (o f l v e : List ℕ) → (((o ++ f) ++ l) ++ v) ++ e ≡ o ++ (f ++ ((l ++ v) ++ e))
regroup o f l v e = simp append_assoc

pub start_written : (net : NetParts) (s : Stimulus) (old a b c d : List ℕ) → a ≡ old ++ front_text s.ports.module (clock ∷ variables_of net) → b ≡ a ++ line_text (value_words (0, bit 0))
    → c ≡ b ++ first_text net s → d ≡ c ++ line_text (codes "$end" ∷ []) → d ≡ old ++ start_text net s
start_written net s old a b c d x y z e =
    e
    ∙ ap (λ (l : List ℕ). l ++ line_text (codes "$end" ∷ [])) (z ∙ ap (λ (l : List ℕ). l ++ first_text net s) (y ∙ ap (λ (l : List ℕ). l ++ line_text (value_words (0, bit 0))) x))
    ∙ regroup old (front_text s.ports.module (clock ∷ variables_of net)) (line_text (value_words (0, bit 0))) (first_text net s) (line_text (codes "$end" ∷ []))

grouped : (f v e c : List ℕ) → f ++ (v ++ (e ++ c)) ≡ (f ++ (v ++ e)) ++ c
grouped f v e c = sym (append_assoc f (v ++ e) c ∙ ap (λ (l : List ℕ). f ++ l) (append_assoc v e c))

waves_split : (net : NetParts) (s : Stimulus) → waves_text net s ≡ start_text net s ++ cycles_text net s
unfolding waves_text dump_text
waves_split net s =
    let front = front_text s.ports.module (clock ∷ variables_of net) in
    let values = values_text (first_of (length s.rows) (row_of net s)) in
    let end = line_text (codes "$end" ∷ []) in
    ap (λ (l : List ℕ). front ++ (values ++ (end ++ l))) (flat_twice step_text (cycle_steps (length s.rows) (row_of net s)) (from 0 (length s.rows)))
    ∙ grouped front values end (cycles_text net s)

pub waves_by : (net : NetParts) (s : Stimulus) (old text : List ℕ) (net_then : NetParts) (s_then : Stimulus) → net_then ≡ net → s_then ≡ s → text ≡ old ++ start_text net s → text ++ cycles_text net_then s_then ≡ old ++ waves_text net s
waves_by net s old text net_then s_then n m e =
    ap₂ (λ (l c : List ℕ). l ++ c) e (ap₂ (λ (x : NetParts) (y : Stimulus). cycles_text x y) n m) ∙ append_assoc old (start_text net s) (cycles_text net s) ∙ ap (λ (l : List ℕ). old ++ l) (sym (waves_split net s))

-- a front of the steps, and all of them
pub waves_front : (net : NetParts) (s : Stimulus) (old text : List ℕ) (net_then : NetParts) (s_then : Stimulus) (before now : Option (List ℕ)) → net_then ≡ net → s_then ≡ s → text ≡ old ++ start_text net s
    → AppendsFront before now (text ++ cycles_text net_then s_then) → AppendsFront before now (old ++ waves_text net s)
waves_front net s old text net_then s_then before now n m e x = subst (AppendsFront before now) (waves_by net s old text net_then s_then n m e) x

pub waves_pass : (net : NetParts) (s : Stimulus) (old text after : List ℕ) (net_then : NetParts) (s_then : Stimulus) (before now : Option (List ℕ)) → net_then ≡ net → s_then ≡ s → text ≡ old ++ start_text net s
    → Passes before now text after (cycles_text net_then s_then) → Passes before now old after (waves_text net s)
waves_pass net s old text after net_then s_then before now n m e x = record { done = x.done; split = sym (waves_by net s old text net_then s_then n m e) ∙ x.split; grown = x.grown }
