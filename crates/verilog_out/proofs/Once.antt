-- Each name of the module that a net is printed as is declared once.
use Rattle.std.proofs.Common.{◌≡◌, ℕ, zero, suc, ◌+◌, ◌^◌, ◌<◌, ◌≤◌, true, true≢false, ◌==◌, List, [], ◌∷◌, ◌++◌, Option, Some, None, length, map, codes, get_or, ◌⊎◌, inl, inr, refl, sym, ap, ◌∙◌, subst, arith}
use Rattle.std.specs.Fmt.{decimal}
use Rattle.std.specs.List.{filter_map, cons_option}
use Rattle.std.proofs.lemmas.Fmt.{decimal_injective}
use Rattle.gen_token.specs.declared.Keyword.TheVariants as keyword
use Rattle.gen_token.specs.Spelling.{IsName, is_name_text}
use Rattle.list_core.specs.Lists.{IsIn, AreApart, from}
use Rattle.list_core.proofs.Lists.{each_member, in_cases, none_in}
use Rattle.design_core.specs.declared.ports.Ports.{Ports}
use Rattle.net_core.specs.Nodes.{Shape, Fixed, TopInput, Register, OfOne, OfTwo, OfMux, shape_at, width_at}
use Rattle.net_core.specs.Nets.{NetParts}
use Rattle.verilog_out.specs.Syntax.{Numbered, Declaration, Wire, Reg}
use Rattle.verilog_out.specs.Printed.{declared, declaration_of, module_of, FitsPorts}
use Rattle.verilog_out.specs.Meaning.{name_of, declared_name, AreDeclaredOnce}
use Rattle.verilog_out.specs.ReadBack.{HaveNames}
use Rattle.verilog_out.proofs.Members.{in_mapped, in_found, in_from, apart_beside}

-- the name of a declaration
abbrev declared_text : Declaration → List ℕ
declared_text d = (declared_name d).0

-- a node is declared under its number
pub number_of : (i width : ℕ) (s : Shape) (d : Declaration) → declaration_of i width s ≡ Some d → declared_name d ≡ (name_of (Numbered i), width)
number_of i width (TopInput name w) d e = cc
number_of i width (Fixed b) d e = let s : Wire width (Numbered i) ≡ d = cc in ap declared_name (sym s)
number_of i width (Register instance name start) d e = let s : Reg width (Numbered i) start ≡ d = cc in ap declared_name (sym s)
number_of i width (OfOne op a) d e = let s : Wire width (Numbered i) ≡ d = cc in ap declared_name (sym s)
number_of i width (OfTwo op a b) d e = let s : Wire width (Numbered i) ≡ d = cc in ap declared_name (sym s)
number_of i width (OfMux c a b) d e = let s : Wire width (Numbered i) ≡ d = cc in ap declared_name (sym s)

-- two numbers with one name are one
pub one_number : (i j : ℕ) → i < 2 ^ 64 → j < 2 ^ 64 → name_of (Numbered i) ≡ name_of (Numbered j) → i ≡ j
one_number i j l m e = let same : decimal i ≡ decimal j = cc in decimal_injective i j l m same

-- a name of the source is not that of a number, and not clk
pub not_numbered : (name : List ℕ) (rest : List ℕ) → IsName name → name ≡ 95 ∷ rest → ⊥
not_numbered name rest is e = let t : is_name_text (95 ∷ rest) ≡ true = subst (λ n. is_name_text n ≡ true) e is.text in cc

pub record Numbers (ns : List Shape) (k m : ℕ) (name : List ℕ) : Type 0 where
  pub number : ℕ
  pub above : k ≤ number
  pub below : number < k + m
  pub is : name ≡ name_of (Numbered number)

numbered_in : (ns : List Shape) (k m : ℕ) (name : List ℕ) → IsIn name (map declared_text (filter_map (declared ns) (from k m))) → Numbers ns k m name
numbered_in ns k m name h =
    let d = in_mapped declared_text (filter_map (declared ns) (from k m)) name h in
    let f = in_found (declared ns) (from k m) d.one d.among in
    let b = in_from k m f.one f.among in
    record { number = f.one; above = b.0; below = b.1; is = d.is ∙ ap (λ (p : List ℕ × ℕ). p.0) (number_of f.one (width_at ns f.one) (shape_at ns f.one) d.one f.is) }

one_apart : (ns : List Shape) (k m : ℕ) → k + suc m ≤ 2 ^ 64 → (o : Option Declaration) → declared ns k ≡ o → AreApart (map declared_text (filter_map (declared ns) (from (k + 1) m)))
    → AreApart (map declared_text (cons_option o (filter_map (declared ns) (from (k + 1) m))))
one_apart ns k m l None e rest = rest
one_apart ns k m l (Some d) e rest = (
  none_in (declared_text d) _ (λ h.
      let r = numbered_in ns (k + 1) m (declared_text d) h in
      let above = r.above in
      let below = r.below in
      let here = ap (λ (p : List ℕ × ℕ). p.0) (number_of k (width_at ns k) (shape_at ns k) d e) in
      let same : k ≡ r.number = one_number k r.number (omega arith) (omega arith) (sym here ∙ r.is) in
      absurd (omega arith)),
  rest,
)

declared_apart : (ns : List Shape) (k m : ℕ) → k + m ≤ 2 ^ 64 → AreApart (map declared_text (filter_map (declared ns) (from k m)))
declared_apart ns k zero l = tt
declared_apart ns k (suc m) l = one_apart ns k m l (declared ns k) refl (declared_apart ns (k + 1) m (omega arith))

-- the names that are declared are those of the ports, and then those of the declarations
names_are : (xs : List (List ℕ × ℕ)) (ds : List Declaration) → map (λ (name : List ℕ × ℕ). name.0) (xs ++ map declared_name ds) ≡ map (λ (port : List ℕ × ℕ). port.0) xs ++ map declared_text ds
names_are [] [] = refl
names_are [] (d ∷ ds) = ap (λ l. declared_text d ∷ l) (names_are [] ds)
names_are (x ∷ xs) ds = ap (λ l. x.0 ∷ l) (names_are xs ds)

not_clk : (number : ℕ) → codes "clk" ≡ name_of (Numbered number) → ⊥
not_clk number e = true≢false (sym (ap (λ (l : List ℕ). get_or l 0 0 == 95) e))

pub declared_once : (net : NetParts) (ports : Ports) → length net.nodes < 2 ^ 64 → FitsPorts net ports → HaveNames ports → AreDeclaredOnce (module_of net ports)
declared_once net ports few fits names =
    let all = ports.inputs ++ ports.outputs in
    let ds = filter_map (declared net.nodes) (from 0 (length net.nodes)) in
    let few_enough : 0 + length net.nodes ≤ 2 ^ 64 = omega arith in
    let port_name : (x : List ℕ) → IsIn x (map (λ (port : List ℕ × ℕ). port.0) all) → IsName x = λ x i.
    let r = in_mapped (λ (port : List ℕ × ℕ). port.0) all x i in subst IsName (sym r.is) (each_member (λ (port : List ℕ × ℕ). IsName port.0) all names.port_names r.one r.among) in
    let body = apart_beside (map (λ (port : List ℕ × ℕ). port.0) all) (map declared_text ds) fits.apart (declared_apart net.nodes 0 (length net.nodes) few_enough)
    (λ x i j. not_numbered x _ (port_name x i) (numbered_in net.nodes 0 (length net.nodes) x j).is) in
    let clock = none_in (codes "clk") (map (λ (port : List ℕ × ℕ). port.0) all ++ map declared_text ds) (λ h. by_side (port_name (codes "clk")) (numbered_in net.nodes 0 (length net.nodes) (codes "clk")) (in_cases (codes "clk") _ _ h)) in
    subst (λ l. AreApart (codes "clk" ∷ l)) (sym (names_are all ds)) (clock, body)
  where
    by_side : (IsIn (codes "clk") (map (λ (port : List ℕ × ℕ). port.0) (ports.inputs ++ ports.outputs)) → IsName (codes "clk"))
        → (IsIn (codes "clk") (map declared_text (filter_map (declared net.nodes) (from 0 (length net.nodes)))) → Numbers net.nodes 0 (length net.nodes) (codes "clk"))
        → IsIn (codes "clk") (map (λ (port : List ℕ × ℕ). port.0) (ports.inputs ++ ports.outputs)) ⊎ IsIn (codes "clk") (map declared_text (filter_map (declared net.nodes) (from 0 (length net.nodes)))) → ⊥
    by_side f g (inl i) = (f i).free keyword.Clk refl
    by_side f g (inr j) = not_clk (g j).number (g j).is
