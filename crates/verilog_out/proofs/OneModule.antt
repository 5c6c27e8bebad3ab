-- A text tells its module, line by line.
use Rattle.std.proofs.Common.{◌≡◌, ℕ, ◌-◌, ◌≤◌, Bool, true, false, true≢false, ◌||◌, ◌==◌, List, [], ◌∷◌, ◌++◌, map, drop, get_or, codes, ⊎_elim, refl, sym, ap, ap₂, ◌∙◌, subst, arith, append_assoc}
use Rattle.std.specs.List.{flat_map}
use Rattle.std.specs.Fmt.{decimal}
use Rattle.std.proofs.lemmas.List.{append_cancel_left}
use Rattle.std.proofs.lemmas.List.Concat.{flat_map-append}
use Rattle.bv_core.specs.Text.{shown}
use Rattle.gen_token.specs.Bytes.{is_name_byte}
use Rattle.gen_token.specs.Spelling.{IsName}
use Rattle.list_core.specs.Lists.{EachOf, IsIn}
use Rattle.list_core.proofs.Lists.{each_member, each_from, in_cases}
use Rattle.verilog_out.specs.Syntax.{Given, Declaration, Wire, Reg, Assignment, Step, Module}
use Rattle.verilog_out.specs.Spelling.{escaped, identifier_text, expression_text, declaration_text, assignment_text, edge_text, step_text, listed_text, port_text, module_text}
use Rattle.verilog_out.specs.Reading.{IsDeclaration, IsAssignment, IsStep, IsPort, IsModule, TextsTellModules}
use Rattle.verilog_out.proofs.Members.{in_mapped}
use Rattle.verilog_out.proofs.Gathered.{mapped}
use Rattle.verilog_out.proofs.Alike.{Alike, runs, name_bytes, number_alike, identifier_alike, value_alike}
use Rattle.verilog_out.proofs.Expressions.{expression_alike}

-- ---- one line

less_one : (u v : ℕ) → 1 ≤ u → 1 ≤ v → u - 1 ≡ v - 1 → u ≡ v
less_one u v k l e = omega arith

wire_rest : (d i : List ℕ) (r : List ℕ) → ((((d ++ (58 ∷ 48 ∷ 93 ∷ [])) ++ (32 ∷ [])) ++ i) ++ (59 ∷ 10 ∷ [])) ++ r ≡ d ++ (58 ∷ 48 ∷ 93 ∷ 32 ∷ (i ++ (59 ∷ 10 ∷ r)))
wire_rest d i r = simp append_assoc

reg_rest : (d i b : List ℕ) (r : List ℕ) → ((((((d ++ (58 ∷ 48 ∷ 93 ∷ [])) ++ (32 ∷ [])) ++ i) ++ (32 ∷ 61 ∷ 32 ∷ [])) ++ b) ++ (59 ∷ 10 ∷ [])) ++ r ≡ d ++ (58 ∷ 48 ∷ 93 ∷ 32 ∷ (i ++ (32 ∷ 61 ∷ 32 ∷ (b ++ (59 ∷ 10 ∷ r)))))
reg_rest d i b r = simp append_assoc

declaration_alike : (x y : Declaration) (r s : List ℕ) → IsDeclaration x → IsDeclaration y → declaration_text x ++ r ≡ declaration_text y ++ s → Alike x y r s
declaration_alike (Wire u a) (Wire v b) r s p q h =
    let inner = sym (wire_rest (decimal (u - 1)) (identifier_text a) r) ∙ ap (λ (l : List ℕ). drop 8 l) h ∙ wire_rest (decimal (v - 1)) (identifier_text b) s in
    let pu = p.2 in
    let qv = q.2 in
    let n = number_alike (u - 1) (v - 1) _ _ (omega arith) (omega arith) refl refl inner in
    let x = identifier_alike a b (59 ∷ 10 ∷ r) (59 ∷ 10 ∷ s) p.0 q.0 refl refl (ap (λ (l : List ℕ). drop 4 l) n.rest) in
    let w = less_one u v p.1 q.1 n.same in
    record { same = λ i. Wire (w i) (x.same i); rest = ap (λ (l : List ℕ). drop 2 l) x.rest }
declaration_alike (Reg u a c) (Reg v b d) r s p q h =
    let inner = sym (reg_rest (decimal (u - 1)) (identifier_text a) (shown c) r) ∙ ap (λ (l : List ℕ). drop 7 l) h ∙ reg_rest (decimal (v - 1)) (identifier_text b) (shown d) s in
    let pu = p.2 in
    let qv = q.2 in
    let n = number_alike (u - 1) (v - 1) _ _ (omega arith) (omega arith) refl refl inner in
    let x = identifier_alike a b (32 ∷ 61 ∷ 32 ∷ (shown c ++ (59 ∷ 10 ∷ r))) (32 ∷ 61 ∷ 32 ∷ (shown d ++ (59 ∷ 10 ∷ s))) p.0 q.0 refl refl (ap (λ (l : List ℕ). drop 4 l) n.rest) in
    let start = value_alike c d (59 ∷ 10 ∷ r) (59 ∷ 10 ∷ s) p.3 q.3 (ap (λ (l : List ℕ). drop 3 l) x.rest) in
    let w = less_one u v p.1 q.1 n.same in
    record { same = λ i. Reg (w i) (x.same i) (start.same i); rest = ap (λ (l : List ℕ). drop 2 l) start.rest }
declaration_alike (Wire u a) (Reg v b d) r s p q h = absurd (true≢false (ap (λ (l : List ℕ). get_or l 2 0 == 119) h))
declaration_alike (Reg u a c) (Wire v b) r s p q h = absurd (true≢false (sym (ap (λ (l : List ℕ). get_or l 2 0 == 119) h)))

assign_rest : (i e : List ℕ) (r : List ℕ) → (((i ++ (32 ∷ 61 ∷ 32 ∷ [])) ++ e) ++ (59 ∷ 10 ∷ [])) ++ r ≡ i ++ (32 ∷ 61 ∷ 32 ∷ (e ++ (59 ∷ 10 ∷ r)))
assign_rest i e r = simp append_assoc

assignment_alike : (x y : Assignment) (r s : List ℕ) → IsAssignment x → IsAssignment y → assignment_text x ++ r ≡ assignment_text y ++ s → Alike x y r s
assignment_alike x y r s p q h =
    let inner = sym (assign_rest (identifier_text x.target) (expression_text x.value) r) ∙ ap (λ (l : List ℕ). drop 9 l) h ∙ assign_rest (identifier_text y.target) (expression_text y.value) s in
    let t = identifier_alike x.target y.target _ _ p.target q.target refl refl inner in
    let v = expression_alike x.value y.value (10 ∷ r) (10 ∷ s) p.value q.value (ap (λ (l : List ℕ). drop 3 l) t.rest) in
    record { same = λ i. record { target = t.same i; value = v.same i }; rest = ap (λ (l : List ℕ). drop 1 l) v.rest }

step_rest : (e a b : List ℕ) (r : List ℕ) → ((((e ++ a) ++ (32 ∷ 60 ∷ 61 ∷ 32 ∷ [])) ++ b) ++ (59 ∷ 10 ∷ [])) ++ r ≡ e ++ (a ++ (32 ∷ 60 ∷ 61 ∷ 32 ∷ (b ++ (59 ∷ 10 ∷ r))))
step_rest e a b r = simp append_assoc

step_alike : (x y : Step) (r s : List ℕ) → IsStep x → IsStep y → step_text x ++ r ≡ step_text y ++ s → Alike x y r s
step_alike x y r s p q h =
    let inner = append_cancel_left edge_text _ _ (sym (step_rest edge_text (identifier_text x.register) (identifier_text x.next) r) ∙ h ∙ step_rest edge_text (identifier_text y.register) (identifier_text y.next) s) in
    let a = identifier_alike x.register y.register _ _ p.register q.register refl refl inner in
    let b = identifier_alike x.next y.next (59 ∷ 10 ∷ r) (59 ∷ 10 ∷ s) p.next q.next refl refl (ap (λ (l : List ℕ). drop 4 l) a.rest) in
    record { same = λ i. record { register = a.same i; next = b.same i }; rest = ap (λ (l : List ℕ). drop 2 l) b.rest }

port_rest : (k d i : List ℕ) (r : List ℕ) → ((((k ++ (91 ∷ (d ++ (58 ∷ 48 ∷ 93 ∷ [])))) ++ (32 ∷ [])) ++ i) ++ (59 ∷ 10 ∷ [])) ++ r ≡ k ++ (91 ∷ (d ++ (58 ∷ 48 ∷ 93 ∷ 32 ∷ (i ++ (59 ∷ 10 ∷ r)))))
port_rest k d i r = simp append_assoc

given_is : (a b : List ℕ) → Given a ≡ Given b → a ≡ b
given_is a b e = cc

port_alike : (k : List ℕ) (x y : List ℕ × ℕ) (r s : List ℕ) → IsPort x → IsPort y → port_text k x ++ r ≡ port_text k y ++ s → Alike x y r s
port_alike k x y r s p q h =
    let inner = append_cancel_left k _ _ (sym (port_rest k (decimal (x.1 - 1)) (escaped x.0) r) ∙ h ∙ port_rest k (decimal (y.1 - 1)) (escaped y.0) s) in
    let pf = p.few in
    let qf = q.few in
    let n = number_alike (x.1 - 1) (y.1 - 1) (58 ∷ 48 ∷ 93 ∷ 32 ∷ (escaped x.0 ++ (59 ∷ 10 ∷ r))) (58 ∷ 48 ∷ 93 ∷ 32 ∷ (escaped y.0 ++ (59 ∷ 10 ∷ s))) (omega arith) (omega arith) refl refl (ap (λ (l : List ℕ). drop 1 l) inner) in
    let a = identifier_alike (Given x.0) (Given y.0) (59 ∷ 10 ∷ r) (59 ∷ 10 ∷ s) p.called q.called refl refl (ap (λ (l : List ℕ). drop 4 l) n.rest) in
    let name = given_is x.0 y.0 a.same in
    let w = less_one x.1 y.1 p.some q.some n.same in
    record { same = λ i. (name i, w i); rest = ap (λ (l : List ℕ). drop 2 l) a.rest }

listed_alike : (x y : List ℕ) (r s : List ℕ) → IsName x → IsName y → (codes ", " ++ escaped x) ++ r ≡ (codes ", " ++ escaped y) ++ s → Alike x y r s
listed_alike x y r s p q h =
    let inner : (x ++ (32 ∷ [])) ++ r ≡ (y ++ (32 ∷ [])) ++ s = ap (λ (l : List ℕ). drop 3 l) h in
    let a = runs is_name_byte x y (32 ∷ r) (32 ∷ s) (name_bytes x p) (name_bytes y q) refl refl (sym (append_assoc x (32 ∷ []) r) ∙ inner ∙ append_assoc y (32 ∷ []) s) in
    record { same = a.same; rest = ap (λ (l : List ℕ). drop 1 l) a.rest }

-- ---- lines

lines_alike : {X : Type 0} (f : X → List ℕ) (P : X → Type 0) (begun : List ℕ → Bool) → ((x y : X) (r s : List ℕ) → P x → P y → f x ++ r ≡ f y ++ s → Alike x y r s) → ((x : X) (r : List ℕ) → begun (f x ++ r) ≡ true)
    → (xs ys : List X) (r s : List ℕ) → EachOf P xs → EachOf P ys → begun r ≡ false → begun s ≡ false → flat_map f xs ++ r ≡ flat_map f ys ++ s → Alike xs ys r s
lines_alike f P begun one starts [] [] r s p q c d e = record { same = refl; rest = e }
lines_alike f P begun one starts [] (y ∷ ys) r s p q c d e = absurd (true≢false (sym (starts y (flat_map f ys ++ s)) ∙ sym (ap begun (e ∙ append_assoc (f y) (flat_map f ys) s)) ∙ c))
lines_alike f P begun one starts (x ∷ xs) [] r s p q c d e = absurd (true≢false (sym (starts x (flat_map f xs ++ r)) ∙ ap begun (sym (append_assoc (f x) (flat_map f xs) r) ∙ e) ∙ d))
lines_alike {X = X} f P begun one starts (x ∷ xs) (y ∷ ys) r s p q c d e =
    let a = one x y (flat_map f xs ++ r) (flat_map f ys ++ s) p.0 q.0 (sym (append_assoc (f x) (flat_map f xs) r) ∙ e ∙ append_assoc (f y) (flat_map f ys) s) in
    let more = lines_alike f P begun one starts xs ys r s p.1 q.1 c d a.rest in
    record { same = ap₂ (λ (z : X) (zs : List X). z ∷ zs) a.same more.same; rest = more.rest }

-- lines that do not begin so
lines_pass : {X : Type 0} (f : X → List ℕ) (begun : List ℕ → Bool) → ((x : X) (r : List ℕ) → begun (f x ++ r) ≡ false) → (xs : List X) (r : List ℕ) → begun r ≡ false → begun (flat_map f xs ++ r) ≡ false
lines_pass f begun none [] r c = c
lines_pass f begun none (x ∷ xs) r c = ap begun (append_assoc (f x) (flat_map f xs) r) ∙ none x (flat_map f xs ++ r)

-- ---- the parts

abbrev third : ℕ → List ℕ → Bool
third byte l = get_or l 2 0 == byte

abbrev fourth : ℕ → List ℕ → Bool
fourth byte l = get_or l 3 0 == byte

abbrev declares : List ℕ → Bool
declares l = get_or l 2 0 == 119 || get_or l 2 0 == 114

declares_is : (d : Declaration) (r : List ℕ) → declares (declaration_text d ++ r) ≡ true
declares_is (Wire w a) r = refl
declares_is (Reg w a b) r = refl

no_input : (d : Declaration) (r : List ℕ) → third 105 (declaration_text d ++ r) ≡ false
no_input (Wire w a) r = refl
no_input (Reg w a b) r = refl

no_output : (d : Declaration) (r : List ℕ) → third 111 (declaration_text d ++ r) ≡ false
no_output (Wire w a) r = refl
no_output (Reg w a b) r = refl

step_third : (s : Step) (r : List ℕ) → get_or (step_text s ++ r) 2 0 ≡ 97
unfolding edge_text
step_third s r = refl

step_fourth : (s : Step) (r : List ℕ) → get_or (step_text s ++ r) 3 0 ≡ 108
unfolding edge_text
step_fourth s r = refl

abbrev last : List ℕ
last = codes "endmodule\n"

abbrev steps_on : List Step → List ℕ
steps_on steps = flat_map step_text steps ++ last

abbrev assignments_on : List Assignment → List Step → List ℕ
assignments_on assignments steps = flat_map assignment_text assignments ++ steps_on steps

abbrev declarations_on : List Declaration → List Assignment → List Step → List ℕ
declarations_on declarations assignments steps = flat_map declaration_text declarations ++ assignments_on assignments steps

abbrev outputs_on : List (List ℕ × ℕ) → List Declaration → List Assignment → List Step → List ℕ
outputs_on outputs declarations assignments steps = flat_map (port_text (codes "  output ")) outputs ++ declarations_on declarations assignments steps

steps_alike : (m n : Module) → IsModule m → IsModule n → steps_on m.steps ≡ steps_on n.steps → m.steps ≡ n.steps
steps_alike m n p q h = (lines_alike step_text IsStep (fourth 108) step_alike (λ s r. ap (λ b. b == 108) (step_fourth s r)) m.steps n.steps last last p.each_step q.each_step refl refl h).same

no_step_assigns : (steps : List Step) → fourth 115 (steps_on steps) ≡ false
no_step_assigns steps = lines_pass step_text (fourth 115) (λ s r. ap (λ b. b == 115) (step_fourth s r)) steps last refl

assignments_alike : (m n : Module) → IsModule m → IsModule n → assignments_on m.assignments m.steps ≡ assignments_on n.assignments n.steps → Alike m.assignments n.assignments (steps_on m.steps) (steps_on n.steps)
assignments_alike m n p q h =
    lines_alike assignment_text IsAssignment (fourth 115) assignment_alike (λ a r. refl) m.assignments n.assignments (steps_on m.steps) (steps_on n.steps) p.each_assignment q.each_assignment (no_step_assigns m.steps) (no_step_assigns n.steps) h

none_behind : (begun : ℕ → Bool) → begun 97 ≡ false → begun 100 ≡ false → (assignments : List Assignment) (steps : List Step) → begun (get_or (assignments_on assignments steps) 2 0) ≡ false
none_behind begun a e assignments steps =
    lines_pass assignment_text (λ l. begun (get_or l 2 0)) (λ x r. a) assignments (steps_on steps)
    (lines_pass step_text (λ l. begun (get_or l 2 0)) (λ s r. ap begun (step_third s r) ∙ a) steps last e)

declarations_alike : (m n : Module) → IsModule m → IsModule n → declarations_on m.declarations m.assignments m.steps ≡ declarations_on n.declarations n.assignments n.steps
    → Alike m.declarations n.declarations (assignments_on m.assignments m.steps) (assignments_on n.assignments n.steps)
declarations_alike m n p q h =
    lines_alike declaration_text IsDeclaration declares declaration_alike declares_is m.declarations n.declarations (assignments_on m.assignments m.steps) (assignments_on n.assignments n.steps) p.each_declaration q.each_declaration
    (none_behind (λ b. b == 119 || b == 114) refl refl m.assignments m.steps) (none_behind (λ b. b == 119 || b == 114) refl refl n.assignments n.steps) h

outputs_alike : (m n : Module) → IsModule m → IsModule n → outputs_on m.outputs m.declarations m.assignments m.steps ≡ outputs_on n.outputs n.declarations n.assignments n.steps
    → Alike m.outputs n.outputs (declarations_on m.declarations m.assignments m.steps) (declarations_on n.declarations n.assignments n.steps)
outputs_alike m n p q h =
    let stop = λ (k : Module). lines_pass declaration_text (third 111) no_output k.declarations (assignments_on k.assignments k.steps) (none_behind (λ b. b == 111) refl refl k.assignments k.steps) in
    lines_alike (port_text (codes "  output ")) IsPort (third 111) (port_alike (codes "  output ")) (λ x r. refl) m.outputs n.outputs _ _ p.each_output q.each_output (stop m) (stop n) h

inputs_alike : (m n : Module) → IsModule m → IsModule n
    → flat_map (port_text (codes "  input ")) m.inputs ++ outputs_on m.outputs m.declarations m.assignments m.steps ≡ flat_map (port_text (codes "  input ")) n.inputs ++ outputs_on n.outputs n.declarations n.assignments n.steps
    → Alike m.inputs n.inputs (outputs_on m.outputs m.declarations m.assignments m.steps) (outputs_on n.outputs n.declarations n.assignments n.steps)
inputs_alike m n p q h =
    let stop = λ (k : Module). lines_pass (port_text (codes "  output ")) (third 105) (λ x r. refl) k.outputs (declarations_on k.declarations k.assignments k.steps)
    (lines_pass declaration_text (third 105) no_input k.declarations (assignments_on k.assignments k.steps) (none_behind (λ b. b == 105) refl refl k.assignments k.steps)) in
    lines_alike (port_text (codes "  input ")) IsPort (third 105) (port_alike (codes "  input ")) (λ x r. refl) m.inputs n.inputs _ _ p.each_input q.each_input (stop m) (stop n) h

-- ---- the head

abbrev listed_name : List ℕ → List ℕ
listed_name name = codes ", " ++ escaped name

abbrev port_names : Module → List (List ℕ)
port_names m = map (λ (port : List ℕ × ℕ). port.0) m.inputs ++ map (λ (port : List ℕ × ℕ). port.0) m.outputs

names_named : (m : Module) → IsModule m → EachOf IsName (port_names m)
names_named m is = each_from IsName (port_names m) (λ x h. ⊎_elim (of m.inputs is.each_input x) (of m.outputs is.each_output x) (in_cases x _ _ h))
  where
    of : (list : List (List ℕ × ℕ)) → EachOf IsPort list → (x : List ℕ) → IsIn x (map (λ (port : List ℕ × ℕ). port.0) list) → IsName x
    of list each x h = let r = in_mapped (λ (port : List ℕ × ℕ). port.0) list x h in subst IsName (sym r.is) (each_member IsPort list each r.one r.among).called

listed_is : (m : Module) (r : List ℕ) → flat_map listed_text m.inputs ++ (flat_map listed_text m.outputs ++ r) ≡ flat_map listed_name (port_names m) ++ r
listed_is m r =
    ap₂ (λ (a b : List ℕ). a ++ (b ++ r)) (sym (mapped listed_name (λ (port : List ℕ × ℕ). port.0) m.inputs)) (sym (mapped listed_name (λ (port : List ℕ × ℕ). port.0) m.outputs))
    ∙ sym (append_assoc (flat_map listed_name (map (λ (port : List ℕ × ℕ). port.0) m.inputs)) (flat_map listed_name (map (λ (port : List ℕ × ℕ). port.0) m.outputs)) r)
    ∙ ap (λ l. l ++ r) (sym (flat_map-append listed_name (map (λ (port : List ℕ × ℕ). port.0) m.inputs) (map (λ (port : List ℕ × ℕ). port.0) m.outputs)))

front_parts : (m n c l k e i o r : List ℕ) → (((((((m ++ n) ++ c) ++ l) ++ k) ++ e) ++ i) ++ o) ++ r ≡ m ++ (n ++ (c ++ (l ++ (k ++ (e ++ (i ++ (o ++ r)))))))
front_parts m n c l k e i o r = simp append_assoc

abbrev clock_text : List ℕ
clock_text = codes ");\n  input clk;\n"

abbrev body_on : Module → List ℕ
body_on m = clock_text ++ (flat_map (port_text (codes "  input ")) m.inputs ++ outputs_on m.outputs m.declarations m.assignments m.steps)

whole_is : (m : Module) → module_text m ≡ codes "module " ++ (escaped m.name ++ (codes "(clk" ++ (flat_map listed_text m.inputs ++ (flat_map listed_text m.outputs ++ body_on m))))
whole_is m =
    front_parts (codes "module ") (escaped m.name) (codes "(clk") (flat_map listed_text m.inputs) (flat_map listed_text m.outputs) clock_text
    (flat_map (port_text (codes "  input ")) m.inputs) (flat_map (port_text (codes "  output ")) m.outputs) (declarations_on m.declarations m.assignments m.steps)

pub texts_tell_modules : TextsTellModules
texts_tell_modules m n p q h =
    let inner = ap (λ (l : List ℕ). drop 7 l) (sym (whole_is m) ∙ h ∙ whole_is n) in
    let name = identifier_alike (Given m.name) (Given n.name) _ _ p.called q.called refl refl inner in
    let list = sym (listed_is m (body_on m)) ∙ ap (λ (l : List ℕ). drop 4 l) name.rest ∙ listed_is n (body_on n) in
    let names = lines_alike listed_name IsName (λ l. get_or l 0 0 == 44) listed_alike (λ x r. refl) (port_names m) (port_names n) (body_on m) (body_on n) (names_named m p) (names_named n q) refl refl list in
    let inputs = inputs_alike m n p q (append_cancel_left clock_text _ _ names.rest) in
    let outputs = outputs_alike m n p q inputs.rest in
    let declarations = declarations_alike m n p q outputs.rest in
    let assignments = assignments_alike m n p q declarations.rest in
    let steps = steps_alike m n p q assignments.rest in
    let called = given_is m.name n.name name.same in
    λ i. record { name = called i; inputs = inputs.same i; outputs = outputs.same i; declarations = declarations.same i; assignments = assignments.same i; steps = steps i }
