-- What is written of a net's run tells the run when it is read.
use Rattle.std.proofs.Common.{◌≡◌, ℕ, zero, suc, ◌+◌, ◌*◌, ◌<◌, ◌≤◌, ◌^◌, ◌==◌, Bool, true, false, true≢false, List, [], ◌∷◌, ◌++◌, length, map, get_or, codes, Option, Some, None, ◌⊎◌, inl, inr, refl, sym, ap, ap₂, ◌∙◌, subst, arith}
use Rattle.std.specs.Prelude.{slice_get, not, ◌&&◌}
use Rattle.std.specs.List.{list_all}
use Rattle.std.specs.Fmt.{decimal}
use Rattle.std.proofs.lemmas.Bool.Decides.{nat_tests}
use Rattle.std.proofs.lemmas.List.{length-map, map-append}
use Rattle.bv_core.specs.Value.{Bits, IsBits}
use Rattle.bv_core.specs.declared.reference.Sample.{Sample}
use Rattle.bv_core.specs.declared.reference.Sample.TheVariants.{Known}
use Rattle.gen_token.specs.Bytes.{is_name_byte}
use Rattle.gen_token.specs.Spelling.{IsName}
use Rattle.list_core.specs.Lists.{EachOf, IsIn, from}
use Rattle.design_core.specs.declared.Ports.{Ports}
use Rattle.design_core.proofs.PortNames.{are_named}
use Rattle.net_core.specs.Nodes.{Shape, width_at}
use Rattle.net_core.specs.Nets.{NetParts, IsNet}
use Rattle.verilog_out.specs.Printed.{FitsPorts}
use Rattle.verilog_out.specs.ReadBack.{HaveNames}
use Rattle.verilog_out.specs.Syntax.{Numbered}
use Rattle.verilog_out.specs.Meaning.{name_of}
use Rattle.verilog_out.proofs.Alike.{name_bytes}
use Rattle.verilog_out.proofs.Widths.{node_some, node_most}
use Rattle.stim_text.specs.Stimulus.{Stimulus, IsStimulus}
use Rattle.sim_hist.specs.Run.{run_samples}
use Rattle.sim_hist.proofs.Samples.{have_widths}
use Rattle.vcd_read.specs.Words.{has_bytes}
use Rattle.vcd_read.specs.Changes.{Change}
use Rattle.vcd_samples.specs.Samples.{var_named, rises, sample_before, samples_told}
use Rattle.vcd_text.specs.Dump.{Variable, dump_text}
use Rattle.vcd_text.specs.Told.{is_plain_byte, is_plain, IsVariable, IsShort, told}
use Rattle.vcd_text.specs.Waves.{Waves, AreWaves, AreTold, dump_of}
use Rattle.vcd_text.proofs.Words.{both}
use Rattle.vcd_text.proofs.Digits.{decimal_all}
use Rattle.vcd_text.proofs.Whole.{dumps_are_read}
use Rattle.vcd_text.proofs.Writing.{waves_are_dumps}
use Rattle.vcd_text.proofs.Sampling.{waves_are_told}
use Rattle.vcd_write.specs.Run.{node_variable, output_variable, variables_of, shown_of, value_in, row_of, waves_of, waves_text}
use Rattle.vcd_write.specs.ReadBack.{node_names, AreSame, ReadsBack, WavesReadBack}
use Rattle.vcd_write.proofs.Pieces.{length_from}
use Rattle.vcd_write.proofs.Fitting.{row_bits}
use Rattle.vcd_write.proofs.Naming.{name_at, NamedInput, kind_of, input_name, output_name, names_apart}

-- ---- names

byte_plain : (byte : ℕ) → is_name_byte byte ≡ true → is_plain_byte byte ≡ true
byte_plain byte h = grind (arith, nat_tests)

bytes_plain : (bytes : List ℕ) → list_all is_name_byte bytes ≡ true → list_all is_plain_byte bytes ≡ true
bytes_plain [] h = refl
bytes_plain (byte ∷ bytes) h = both (is_plain_byte byte) (list_all is_plain_byte bytes) (byte_plain byte (left (is_name_byte byte) (list_all is_name_byte bytes) h)) (bytes_plain bytes (right (is_name_byte byte) (list_all is_name_byte bytes) h))
  where
    left : (b c : Bool) → (b && c) ≡ true → b ≡ true
    left true c e = refl
    left false c e = e

    right : (b c : Bool) → (b && c) ≡ true → c ≡ true
    right true c e = e
    right false c e = absurd (true≢false (sym e))

name_some : (name : List ℕ) → IsName name → has_bytes name ≡ true
name_some [] is = absurd (true≢false (sym is.text))
name_some (byte ∷ bytes) is = refl

name_plain : (name : List ℕ) → IsName name → is_plain name ≡ true
name_plain name is = both (has_bytes name) (list_all is_plain_byte name) (name_some name is) (bytes_plain name (name_bytes name is))

digit_plain : (d : ℕ) → d < 10 → is_plain_byte (48 + d) ≡ true
digit_plain d l = grind (arith, nat_tests)

number_plain : (i : ℕ) → i < 2 ^ 64 → is_plain (name_of (Numbered i)) ≡ true
number_plain i l = decimal_all is_plain_byte digit_plain i l

each_joined : {A : Type 0} (P : A → Type 0) (xs ys : List A) → EachOf P xs → EachOf P ys → EachOf P (xs ++ ys)
each_joined P [] ys h k = k
each_joined P (x ∷ xs) ys h k = (h.0, each_joined P xs ys h.1 k)

have_names : (ports : Ports) → HaveNames ports
have_names ports =
    let named = are_named ports.module ports.inputs ports.outputs ports.names in
    record { module_name = named.module; port_names = each_joined (λ (p : List ℕ × ℕ). IsName p.0) ports.inputs ports.outputs named.ins named.outs }

-- ---- what stands at a number

front_at : {A : Type 0} (f : ℕ → A) (a n k : ℕ) (rest : List A) → k < n → slice_get (map f (from a n) ++ rest) k ≡ Some (f (a + k))
front_at f a zero k rest l = absurd (omega arith)
front_at f a (suc n) zero rest l = ap (λ i. Some (f i)) (let z : a ≡ a + 0 = omega arith in z)
front_at f a (suc n) (suc k) rest l = front_at f (a + 1) n k rest (omega arith) ∙ ap (λ i. Some (f i)) (let z : a + 1 + k ≡ a + suc k = omega arith in z)

behind_at : {A : Type 0} (f : ℕ → A) (a n k : ℕ) (rest : List A) → slice_get (map f (from a n) ++ rest) (n + k) ≡ slice_get rest k
behind_at f a zero k rest = ap (slice_get rest) (let z : 0 + k ≡ k = omega arith in z)
behind_at f a (suc n) k rest = ap (slice_get (f a ∷ (map f (from (a + 1) n) ++ rest))) (let z : suc n + k ≡ suc (n + k) = omega arith in z) ∙ behind_at f (a + 1) n k rest

number_at : {A : Type 0} (f : ℕ → A) (a n k : ℕ) (d : A) → k < n → get_or (map f (from a n)) k d ≡ f (a + k)
number_at f a zero k d l = absurd (omega arith)
number_at f a (suc n) zero d l = ap f (let z : a ≡ a + 0 = omega arith in z)
number_at f a (suc n) (suc k) d l = number_at f (a + 1) n k d (omega arith) ∙ ap f (let z : a + 1 + k ≡ a + suc k = omega arith in z)

mapped_at : {A B : Type 0} (f : A → B) (xs : List A) (k : ℕ) (d : A) → k < length xs → slice_get (map f xs) k ≡ Some (f (get_or xs k d))
mapped_at f [] k d l = absurd (omega arith)
mapped_at f (x ∷ xs) zero d l = refl
mapped_at f (x ∷ xs) (suc k) d l = mapped_at f xs k d (omega arith)

default_at : {A B : Type 0} (f : A → B) (xs : List A) (k : ℕ) (d : A) (e : B) → k < length xs → get_or (map f xs) k e ≡ f (get_or xs k d)
default_at f [] k d e l = absurd (omega arith)
default_at f (x ∷ xs) zero d e l = refl
default_at f (x ∷ xs) (suc k) d e l = default_at f xs k d e (omega arith)

module _ (net : NetParts) (s : Stimulus) (few : length net.nodes < 2 ^ 64) (is : IsNet net) (kept : IsStimulus s) (fits : FitsPorts net s.ports) where
  names : HaveNames s.ports
  names = have_names s.ports

  node_plain : (i : ℕ) → i < length net.nodes → is_plain (name_at net.nodes i) ≡ true
  node_plain i l = by (kind_of net is s.ports fits few names i l)
    where
      by : NamedInput net.nodes s.ports i ⊎ (name_at net.nodes i ≡ name_of (Numbered i)) → is_plain (name_at net.nodes i) ≡ true
      by (inl a) = ap is_plain a.is ∙ name_plain a.name (input_name net is s.ports fits few names (a.name, a.width) a.port)
      by (inr b) = ap is_plain b ∙ number_plain i (omega arith)

  node_is : (i : ℕ) → i < length net.nodes → IsVariable (node_variable net.nodes i)
  node_is i l = record { name = node_plain i l; some = node_some net is i l; most = node_most net is i l }

  outputs_are : (outs : List (List ℕ × ℕ)) → ((k : ℕ) (o : List ℕ × ℕ) → slice_get outs k ≡ Some o → o.1 < length net.nodes) → ((name : List ℕ) → IsIn name (map (λ (o : List ℕ × ℕ). o.0) outs) → IsName name)
      → EachOf IsVariable (map (output_variable net.nodes) outs)
  outputs_are [] h g = tt
  outputs_are (o ∷ outs) h g = (
    record { name = name_plain o.0 (g o.0 (inl refl)); some = node_some net is o.1 (h 0 o refl); most = node_most net is o.1 (h 0 o refl) },
    outputs_are outs (λ k. h (suc k)) (λ name i. g name (inr i)),
  )

  nodes_are : (a k : ℕ) → a + k ≤ length net.nodes → EachOf IsVariable (map (node_variable net.nodes) (from a k))
  nodes_are a zero l = tt
  nodes_are a (suc k) l = (node_is a (omega arith), nodes_are (a + 1) k (omega arith))

  abbrev width : Bits → ℕ
  width value = value.width

  abbrev size : Variable → ℕ
  size var = var.size

  outputs_sized : (t : ℕ) → t < length s.rows → (outs : List (List ℕ × ℕ)) → ((k : ℕ) (o : List ℕ × ℕ) → slice_get outs k ≡ Some o → o.1 < length net.nodes)
      → map width (map (value_in net s t) (map (λ (o : List ℕ × ℕ). o.1) outs)) ≡ map size (map (output_variable net.nodes) outs)
  outputs_sized t l [] h = refl
  outputs_sized t l (o ∷ outs) h = ap₂ (λ (x : ℕ) (xs : List ℕ). x ∷ xs) (have_widths net is s kept t o.1 l (h 0 o refl) (value_in net s t o.1) refl) (outputs_sized t l outs (λ k. h (suc k)))

  all_sized : (t : ℕ) → t < length s.rows → (a k : ℕ) → a + k ≤ length net.nodes
      → map width (map (value_in net s t) (from a k ++ map (λ (o : List ℕ × ℕ). o.1) net.outputs)) ≡ map size (map (node_variable net.nodes) (from a k) ++ map (output_variable net.nodes) net.outputs)
  all_sized t l a zero m = outputs_sized t l net.outputs is.outputs.nodes
  all_sized t l a (suc k) m = ap₂ (λ (x : ℕ) (xs : List ℕ). x ∷ xs) (have_widths net is s kept t a l (omega arith) (value_in net s t a) refl) (all_sized t l (a + 1) k (omega arith))

  are_waves : AreWaves (waves_of net s)
  are_waves = record {
    scope = name_plain s.ports.module names.module_name;
    variables = each_joined IsVariable (map (node_variable net.nodes) (from 0 (length net.nodes))) (map (output_variable net.nodes) net.outputs) (nodes_are 0 (length net.nodes) (omega arith)) (outputs_are net.outputs is.outputs.nodes (output_name net is s.ports fits few names));
    apart = names_apart net is s.ports fits few names;
    few = (let some = kept.few in omega (arith, some));
    sizes = λ t l. all_sized t l 0 (length net.nodes) (omega arith);
    bits = λ t l. row_bits net is s kept t l;
  }

  tells : AreTold (waves_of net s)
  tells = waves_are_told (waves_of net s) are_waves

  cycles_told : length (rises (told (dump_of (waves_of net s))) s.ports.module) ≡ length s.rows
  cycles_told = ap length tells.times ∙ length-map (from 0 (length s.rows)) (λ t. 10 * t + 5) ∙ length_from 0 (length s.rows)

  rise_at : (t : ℕ) → t < length s.rows → get_or (rises (told (dump_of (waves_of net s))) s.ports.module) t 0 ≡ 10 * t + 5
  rise_at t l =
      ap (λ (times : List ℕ). get_or times t 0) tells.times ∙ number_at (λ t. 10 * t + 5) 0 (length s.rows) t 0 l ∙ ap (λ t. 10 * t + 5) (let z : 0 + t ≡ t = omega arith in z)

  abbrev names_of_outputs : List (List ℕ)
  names_of_outputs = map (λ (o : List ℕ × ℕ). o.0) net.outputs

  node_told : (t n : ℕ) → t < length s.rows → n < length net.nodes → (samples_told (told (dump_of (waves_of net s))) s.ports.module (node_names net)).sample t n ≡ Known (value_in net s t n)
  node_told t n l m =
      let z : 0 + n ≡ n = omega arith in
      let name : get_or (node_names net) n [] ≡ name_at net.nodes n = number_at (name_at net.nodes) 0 (length net.nodes) n [] m ∙ ap (name_at net.nodes) z in
      let var : slice_get (variables_of net) n ≡ Some (node_variable net.nodes n) =
      front_at (node_variable net.nodes) 0 (length net.nodes) n (map (output_variable net.nodes) net.outputs) m ∙ ap (λ i. Some (node_variable net.nodes i)) z in
      let value : slice_get (row_of net s t) n ≡ Some (value_in net s t n) =
      ap (λ (l : List Bits). slice_get l n) (map-append (value_in net s t) (from 0 (length net.nodes)) (map (λ (o : List ℕ × ℕ). o.1) net.outputs))
      ∙ front_at (value_in net s t) 0 (length net.nodes) n (map (value_in net s t) (map (λ (o : List ℕ × ℕ). o.1) net.outputs)) m ∙ ap (λ i. Some (value_in net s t i)) z in
      ap₂ (λ (x : List ℕ) (time : ℕ). sample_before (told (dump_of (waves_of net s))).changes (var_named (told (dump_of (waves_of net s))) s.ports.module x) time) name (rise_at t l)
      ∙ tells.values t n (node_variable net.nodes n) (value_in net s t n) l var value

  output_told : (t k : ℕ) → t < length s.rows → k < length net.outputs
      → (samples_told (told (dump_of (waves_of net s))) s.ports.module names_of_outputs).sample t k ≡ Known (value_in net s t (get_or net.outputs k ([], 0)).1)
  output_told t k l m =
      let o = get_or net.outputs k ([], 0) in
      let name : get_or names_of_outputs k [] ≡ o.0 = default_at (λ (o : List ℕ × ℕ). o.0) net.outputs k ([], 0) [] m in
      let var : slice_get (variables_of net) (length net.nodes + k) ≡ Some (output_variable net.nodes o) =
      behind_at (node_variable net.nodes) 0 (length net.nodes) k (map (output_variable net.nodes) net.outputs) ∙ mapped_at (output_variable net.nodes) net.outputs k ([], 0) m in
      let node : slice_get (map (value_in net s t) (map (λ (o : List ℕ × ℕ). o.1) net.outputs)) k ≡ Some (value_in net s t o.1) =
      mapped_at (value_in net s t) (map (λ (o : List ℕ × ℕ). o.1) net.outputs) k 0 (let q : k < length (map (λ (o : List ℕ × ℕ). o.1) net.outputs) = omega (arith, length-map net.outputs (λ (o : List ℕ × ℕ). o.1)) in q)
      ∙ ap (λ i. Some (value_in net s t i)) (default_at (λ (o : List ℕ × ℕ). o.1) net.outputs k ([], 0) 0 m) in
      let value : slice_get (row_of net s t) (length net.nodes + k) ≡ Some (value_in net s t o.1) =
      ap (λ (l : List Bits). slice_get l (length net.nodes + k)) (map-append (value_in net s t) (from 0 (length net.nodes)) (map (λ (o : List ℕ × ℕ). o.1) net.outputs))
      ∙ behind_at (value_in net s t) 0 (length net.nodes) k (map (value_in net s t) (map (λ (o : List ℕ × ℕ). o.1) net.outputs)) ∙ node in
      ap₂ (λ (x : List ℕ) (time : ℕ). sample_before (told (dump_of (waves_of net s))).changes (var_named (told (dump_of (waves_of net s))) s.ports.module x) time) name (rise_at t l)
      ∙ tells.values t (length net.nodes + k) (output_variable net.nodes o) (value_in net s t o.1) l var value

pub waves_read_back : WavesReadBack
unfolding waves_text
waves_read_back net s few is kept fits short = record {
  means = dumps_are_read (dump_of (waves_of net s)) (waves_are_dumps (waves_of net s) (are_waves net s few is kept fits)) short;
  nodes = record {
    cycles = cycles_told net s few is kept fits;
    nodes = length-map (from 0 (length net.nodes)) (λ i. (node_variable net.nodes i).name) ∙ length_from 0 (length net.nodes);
    each = λ t n l m. node_told net s few is kept fits t n l m;
  };
  outputs = record {
    cycles = cycles_told net s few is kept fits;
    nodes = length-map net.outputs (λ (o : List ℕ × ℕ). o.0);
    each = λ t k l m. output_told net s few is kept fits t k l m;
  };
}
