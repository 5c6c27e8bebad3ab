-- The instances, signals, statements and parts of a source are counted, and each instance's module stands in the source.
use Rattle.std.proofs.Common.{◌≡◌, ℕ, zero, suc, ◌+◌, ◌<◌, ◌≤◌, Bool, true, false, ◌&&◌, List, [], ◌∷◌, ◌++◌, length, length-append, Option, Some, None, Ok, if◌then◌else◌, bytes_eq, nat_lt, codes, map, true≢false, zero-add, refl, sym, ap, ap₂, ◌∙◌, arith}
use Rattle.std.proofs.lemmas.Bool.{lt-ltb}
use Rattle.gen_tree.specs.Tree as tree
use Rattle.gen_tree.specs.Tree.{Fam, Int, Lit, Param, wire, reg, inst, comb, ff, repeat_items, given_items, Items, no_item, item, ElseItems, no_else_items, otherwise_items, Port, Module}
use Rattle.elab_core.specs.declared.Count.TheVariants.{Instances, Signals, Turns}
use Rattle.elab_core.specs.Walk.{and_then, counts, Seen, none_seen, one_more, judge}
use Rattle.elab_core.specs.Numbers.{bound, number, fam_name, two_numbers, turn_count, holds}
use Rattle.design_core.specs.declared.Signal.{Signal}
use Rattle.design_core.specs.declared.Kind.{Kind}
use Rattle.design_core.specs.declared.Kind.TheVariants.{Input, Output, Wire, Reg, ChildOut}
use Rattle.design_core.specs.WellFormed.{if_reg, regs}
use Rattle.exec_core.specs.Block.{Name}
use Rattle.design_core.specs.Design.{Gens, Body, Done, Conn, Block}
use Rattle.std.proofs.lemmas.List.{length-map}
use Rattle.elab_core.specs.declared.Instance as code_instance
use Rattle.elab_core.specs.View.{instance_of}
use Rattle.elab_core.specs.Elaborated.{Child, Instance}
use Rattle.elab_core.specs.Design.{size, blocks_size, firsts, variant_of, variants_of}
use Rattle.elab_core.specs.Elab.{literal, statements, port_kind, output_as, child_outputs, first_signals, places, only, module_named, values, conns, Asked, asked, Made, nothing, with_signal, with_block, with_child, child_of, Here, Enter, count_outputs, register, wire_signal, item_walk, items_walk, else_walk, ports, module_walk, instances_of, instance, top_values, top_walk}
use Rattle.design_core.specs.Sizes.{conns_parts, body_parts, blocks_parts}
use Rattle.elab_laws.specs.Sizes.{all_statements, all_signals, children_parts, all_parts, all_registers, places_below}
use Rattle.elab_laws.proofs.Counts.{Ends, ends_then, ends_as, after_any, Rises, rises_on, stays, one_rises, judged, turns_keep, ends_either}
use Rattle.elab_laws.proofs.PartCounts.{Spends, ConnsGrow, conns_counts}
use Rattle.elab_laws.proofs.BodyCounts.{Grows, stmts_counts}
use Rattle.elab_laws.proofs.Variants.{variants_within}
use Rattle.elab_laws.proofs.Sums.{where_both}

-- ---- modules by their places

abbrev EachAt : ℕ → List (ℕ × Module) → Type 0
EachAt n [] = Unit {0}
EachAt n (m ∷ found) = (m.0 < n) × EachAt n found

places_at : (x : Name) (at n : ℕ) (modules : List Module) → at + length modules ≤ n → EachAt n (places x at modules)
places_at x at n [] h = tt
places_at x at n (m ∷ modules) h = elim (bytes_eq m.name x) as (λ b. EachAt n (if b then (at, m) ∷ places x (at + 1) modules else places x (at + 1) modules)) [
  | true ↦ (omega (arith, h), places_at x (at + 1) n modules (omega (arith, h)))
  | false ↦ places_at x (at + 1) n modules (omega (arith, h))
]

only_at : (line n : ℕ) (x : Name) (found : List (ℕ × Module)) (seen : Seen) → EachAt n found → Ends (λ s m. Rises seen s × (m.0 < n)) seen (only line x found)
unfolding Ends
only_at line n x [] seen h = tt
only_at line n x (m ∷ []) seen h = (stays seen, h.0)
only_at line n x (m ∷ (again ∷ more)) seen h = tt

named_at : (modules : List Module) (line : ℕ) (x : Name) (seen : Seen) → Ends (λ s m. Rises seen s × (m.0 < length modules)) seen (module_named modules line x)
named_at modules line x seen = only_at line (length modules) x (places x 0 modules) seen (places_at x 0 (length modules) modules (omega arith))

asked_at : (modules : List Module) (line : ℕ) (gens : Gens) (f : Fam) (x : Name) (args : List Param) (cs : List tree.Conn) (seen : Seen)
    → Ends (λ s want. Spends (conns_parts want.conns) seen s × (want.found.0 < length modules)) seen (asked modules line gens f x args cs)
unfolding asked Ends
asked_at modules line gens f x args cs seen =
    after_any _ (fam_name line gens f) _ seen (λ s name r. ends_then _ _ (module_named modules line x) _ s (named_at modules line x s) (λ t found p.
    after_any _ (values line gens found.1 args) _ t (λ u params q. ends_then _ _ (conns cs gens []) _ u (conns_counts cs gens [] u) (λ v made w.
    (spent seen u v made (rises_on seen s u r (rises_on s t u p.0 q)) w, p.1)))))
  where
    spent : (a b c : Seen) (made : List Conn) → Rises a b → ConnsGrow b [] c made → Spends (conns_parts made) a c
    spent a b c made r p = record { rises = rises_on a b c r p.rises; parts = omega (arith, r.parts, p.parts) }

-- ---- lists of instances

places_both : (n : ℕ) (first second : List Instance) → places_below n first ≡ true → places_below n second ≡ true → places_below n (first ++ second) ≡ true
places_both n [] second h g = g
places_both n (i ∷ first) second h g =
    elim (nat_lt i.place n) as (λ b. b && places_below n first ≡ true → b && places_below n (first ++ second) ≡ true) [ true ↦ λ e. places_both n first second e g | false ↦ λ e. e ] h

-- ---- what was made so far

abbrev made_size : Made → ℕ
made_size made = blocks_size made.content.blocks + all_statements made.below

abbrev pub made_signals : Made → ℕ
made_signals made = length made.content.signals + all_signals made.below

abbrev pub made_parts : Made → ℕ
made_parts made = children_parts made.content.children + blocks_parts made.content.blocks + all_parts made.below

-- ---- outputs among signals

abbrev pub if_output : Kind → ℕ
if_output Input = 0
if_output Output = 1
if_output Wire = 0
if_output (Reg start) = 0
if_output (ChildOut k port) = 0

abbrev pub outs : List Signal → ℕ
outs [] = 0
outs (s ∷ signals) = if_output s.kind + outs signals

outs_both : (first second : List Signal) → outs (first ++ second) ≡ outs first + outs second
outs_both [] second = sym (zero-add (outs second))
outs_both (s ∷ first) second = ap (λ n. if_output s.kind + n) (outs_both first second) ∙ omega arith

-- as many outputs of a child as it has
one_out : (line at : ℕ) (child : Name) (s : Signal) (k : Kind) → length (output_as line at child s k) ≡ if_output k
one_out line at child s Input = refl
one_out line at child s Output = refl
one_out line at child s Wire = refl
one_out line at child s (Reg start) = refl
one_out line at child s (ChildOut k port) = refl

all_outs : (line at : ℕ) (child : Name) (signals : List Signal) → length (child_outputs line at child signals) ≡ outs signals
all_outs line at child [] = refl
all_outs line at child (s ∷ signals) =
    length-append (output_as line at child s s.kind) (child_outputs line at child signals) ∙ ap₂ (λ m n. m + n) (one_out line at child s s.kind) (all_outs line at child signals)

-- of which none is an output of the parent
no_out : (line at : ℕ) (child : Name) (s : Signal) (k : Kind) → outs (output_as line at child s k) ≡ 0
no_out line at child s Input = refl
no_out line at child s Output = refl
no_out line at child s Wire = refl
no_out line at child s (Reg start) = refl
no_out line at child s (ChildOut k port) = refl

no_outs : (line at : ℕ) (child : Name) (signals : List Signal) → outs (child_outputs line at child signals) ≡ 0
no_outs line at child [] = refl
no_outs line at child (s ∷ signals) =
    outs_both (output_as line at child s s.kind) (child_outputs line at child signals) ∙ ap₂ (λ m n. m + n) (no_out line at child s s.kind) (no_outs line at child signals)

-- ---- sums over instances

signals_both : (first second : List Instance) → all_signals (first ++ second) ≡ all_signals first + all_signals second
signals_both [] second = sym (zero-add (all_signals second))
signals_both (i ∷ first) second = ap (λ n. length i.content.signals + n) (signals_both first second) ∙ omega arith

parts_both : (first second : List Instance) → all_parts (first ++ second) ≡ all_parts first + all_parts second
parts_both [] second = sym (zero-add (all_parts second))
parts_both (i ∷ first) second = ap (λ n. children_parts i.content.children + blocks_parts i.content.blocks + n) (parts_both first second) ∙ omega arith

-- registers are signals
one_reg : (k : Kind) → if_reg k ≤ 1
one_reg Input = omega arith
one_reg Output = omega arith
one_reg Wire = omega arith
one_reg (Reg start) = omega arith
one_reg (ChildOut k port) = omega arith

regs_within : (signals : List Signal) → regs signals ≤ length signals
regs_within [] = omega arith
regs_within (s ∷ signals) = omega (arith, one_reg s.kind, regs_within signals)

registers_within : (list : List Instance) → all_registers list ≤ all_signals list
registers_within [] = omega arith
registers_within (i ∷ list) = omega (arith, regs_within i.content.signals, registers_within list)

-- ---- ports

abbrev pub one_if : Bool → ℕ
one_if true = 1
one_if false = 0

-- the outputs among ports
abbrev pub port_outs : List Port → ℕ
port_outs [] = 0
port_outs (p ∷ ps) = one_if p.output + port_outs ps

port_out : (output : Bool) → if_output (port_kind output) ≡ one_if output
port_out true = refl
port_out false = refl

abbrev CountsOutputs : ℕ → List Port → Seen → Type 0
CountsOutputs line ps seen = Ends (λ s u. Rises seen s × (port_outs ps + seen.signals ≤ s.signals)) seen (count_outputs line ps)

outputs_counted : (line : ℕ) (ps : List Port) (seen : Seen) → CountsOutputs line ps seen
unfolding count_outputs Ends and_then
outputs_counted line [] seen = (stays seen, omega arith)
outputs_counted line (p ∷ ps) seen = by_test p.output (outputs_counted line ps (one_more Signals seen)) (outputs_counted line ps seen)
  where
    by_test : (b : Bool) → CountsOutputs line ps (one_more Signals seen) → CountsOutputs line ps seen
        → Ends (λ s u. Rises seen s × (one_if b + port_outs ps + seen.signals ≤ s.signals)) seen (if b then and_then (counts Signals line) (λ counted. count_outputs line ps) else count_outputs line ps)
    by_test true more same = ends_as _ _ (count_outputs line ps) (one_more Signals seen) more (λ s u p. (rises_on seen (one_more Signals seen) s (one_rises Signals seen) p.0, omega (arith, p.1)))
    by_test false more same = ends_as _ _ (count_outputs line ps) seen same (λ s u p. (p.0, omega (arith, p.1)))

-- each port is a signal, and each output one
pub record PortsGrow (ps : List Port) (before : Seen) (made : List Signal) (after : Seen) (more : List Signal) : Type 0 where
  pub rises : Rises before after
  pub signals : length more + before.signals ≤ after.signals + length made
  pub outputs : outs more ≡ outs made + port_outs ps

ports_counts : (ps : List Port) (gens : Gens) (made : List Signal) (seen : Seen) → Ends (λ s signals. PortsGrow ps seen made s signals) seen (ports ps gens made)
unfolding ports Ends and_then
ports_counts [] gens made seen = record { rises = stays seen; signals = omega arith; outputs = omega arith }
ports_counts (p ∷ ps) gens made seen =
    after_any _ (number p.line gens p.width) _ seen (λ s w r.
    let signal : Signal = record { line = p.line; name = p.name; kind = port_kind p.output; width = w } in
    let more = made ++ signal ∷ [] in
    ends_as _ _ (ports ps gens more) (one_more Signals s) (ports_counts ps gens more (one_more Signals s)) (λ t signals q. record {
      rises = rises_on seen (one_more Signals s) t (rises_on seen s (one_more Signals s) r (one_rises Signals s)) q.rises;
      signals = omega (arith, r.signals, q.signals, length-append made (signal ∷ []));
      outputs = q.outputs ∙ ap (λ n. n + port_outs ps) (outs_both made (signal ∷ [])) ∙ omega (arith, port_out p.output);
    }))

-- wires and registers are no outputs
wire_counts : (line : ℕ) (gens : Gens) (f : Fam) (w : Int) (seen : Seen) → Ends (λ s signal. Rises seen s × (if_output signal.kind ≡ 0)) seen (wire_signal line gens f w)
unfolding wire_signal Ends and_then
wire_counts line gens f w seen = after_any _ (fam_name line gens f) _ seen (λ s x r. after_any _ (number line gens w) _ s (λ t n q. (rises_on seen s t r q, refl)))

reg_counts : (line : ℕ) (gens : Gens) (f : Fam) (w : Int) (l : Lit) (seen : Seen) → Ends (λ s signal. Rises seen s × (if_output signal.kind ≡ 0)) seen (register line gens f w l)
unfolding register Ends and_then
reg_counts line gens f w l seen =
    after_any _ (fam_name line gens f) _ seen (λ s x r. after_any _ (number line gens w) _ s (λ t n q. after_any _ (literal line gens l) _ t (λ u v p. (rises_on seen s u r (rises_on s t u q p), refl))))

blocks_added : (blocks : List Block) (b : Block) → blocks_size (blocks ++ b ∷ []) ≡ blocks_size blocks + size b.body
blocks_added [] b = omega arith
blocks_added (c ∷ blocks) b = ap (λ n. size c.body + n) (blocks_added blocks b) ∙ omega arith

parts_added : (blocks : List Block) (b : Block) → blocks_parts (blocks ++ b ∷ []) ≡ blocks_parts blocks + body_parts b.body
parts_added [] b = omega arith
parts_added (c ∷ blocks) b = ap (λ n. body_parts c.body + n) (parts_added blocks b) ∙ omega arith

child_added : (children : List Child) (c : Child) → children_parts (children ++ c ∷ []) ≡ children_parts children + conns_parts c.conns
child_added [] c = omega arith
child_added (d ∷ children) c = ap (λ n. conns_parts d.conns + n) (child_added children c) ∙ omega arith

-- as many instances, signals, statements and parts more as were counted, at most, no output more, and all of modules at places
-- below a number
pub record MadeGrows (n : ℕ) (before : Seen) (made : Made) (after : Seen) (more : Made) : Type 0 where
  pub rises : Rises before after
  pub statements : made_size more + before.statements ≤ after.statements + made_size made
  pub signals : made_signals more + before.signals ≤ after.signals + made_signals made
  pub parts : made_parts more + before.parts ≤ after.parts + made_parts made
  pub instances : length more.below + before.instances ≤ after.instances + length made.below
  pub outputs : outs more.content.signals ≡ outs made.content.signals
  pub places : places_below n made.below ≡ true → places_below n more.below ≡ true

made_on : (n : ℕ) (a b c : Seen) (x y z : Made) → MadeGrows n a x b y → MadeGrows n b y c z → MadeGrows n a x c z
made_on n a b c x y z p q = record {
  rises = rises_on a b c p.rises q.rises;
  statements = omega (arith, p.statements, q.statements);
  signals = omega (arith, p.signals, q.signals);
  parts = omega (arith, p.parts, q.parts);
  instances = omega (arith, p.instances, q.instances);
  outputs = q.outputs ∙ p.outputs;
  places = λ h. q.places (p.places h);
}

made_same : (n : ℕ) (seen after : Seen) (made : Made) → Rises seen after → MadeGrows n seen made after made
made_same n seen after made r = record {
  rises = r;
  statements = omega (arith, r.statements);
  signals = omega (arith, r.signals);
  parts = omega (arith, r.parts);
  instances = omega (arith, r.instances);
  outputs = refl;
  places = λ h. h;
}

made_later : (n : ℕ) (a b c : Seen) (made more : Made) → Rises a b → MadeGrows n b made c more → MadeGrows n a made c more
made_later n a b c made more r p = made_on n a b c made made more (made_same n a b made r) p

made_sooner : (n : ℕ) (a b c : Seen) (made more : Made) → MadeGrows n a made b more → Rises b c → MadeGrows n a made c more
made_sooner n a b c made more p r = made_on n a b c made more more p (made_same n b c more r)

-- instances, each counted, and so many signals beside theirs
pub record ListGrows (n beside : ℕ) (before after : Seen) (list : List Instance) : Type 0 where
  pub rises : Rises before after
  pub statements : all_statements list + before.statements ≤ after.statements
  pub signals : all_signals list + beside + before.signals ≤ after.signals
  pub parts : all_parts list + before.parts ≤ after.parts
  pub instances : length list + before.instances ≤ after.instances
  pub places : places_below n list ≡ true

-- what an instance gives is counted, and beside it its outputs, which are signals of its parent
abbrev pub Counted : ℕ → Enter → Type 0
Counted n enter = (want : Asked) (here : Here) (at : ℕ) (seen : Seen) → want.found.0 < n → Ends (λ s list. ListGrows n (outs (first_signals list)) seen s list) seen (enter want here at)

with_signal_grows : (n : ℕ) (seen s : Seen) (made : Made) (signal : Signal) → Rises seen s → if_output signal.kind ≡ 0 → MadeGrows n seen made (one_more Signals s) (with_signal made signal)
with_signal_grows n seen s made signal r inner = record {
  rises = rises_on seen s (one_more Signals s) r (one_rises Signals s);
  statements = omega (arith, r.statements);
  signals = omega (arith, r.signals, length-append made.content.signals (signal ∷ []));
  parts = omega (arith, r.parts);
  instances = omega (arith, r.instances);
  outputs = outs_both made.content.signals (signal ∷ []) ∙ omega (arith, inner);
  places = λ h. h;
}

with_block_grows : (n line : ℕ) (clocked : Bool) (seen s : Seen) (made : Made) (body : Body) → Grows seen Done s body → MadeGrows n seen made s (with_block made (record { line = line; clocked = clocked; body = body }))
with_block_grows n line clocked seen s made body p = record {
  rises = p.rises;
  statements = omega (arith, blocks_added made.content.blocks (record { line = line; clocked = clocked; body = body }), p.size);
  signals = omega (arith, p.rises.signals);
  parts = omega (arith, parts_added made.content.blocks (record { line = line; clocked = clocked; body = body }), p.parts);
  instances = omega (arith, p.rises.instances);
  outputs = refl;
  places = λ h. h;
}

with_child_grows : (n : ℕ) (seen s t : Seen) (made : Made) (want : Asked) (list : List Instance) → Spends (conns_parts want.conns) seen s → ListGrows n (outs (first_signals list)) s t list → MadeGrows n seen made t (with_child made want list)
with_child_grows n seen s t made want list w p =
    let new = child_outputs want.line (length made.content.children) want.name (first_signals list) in
    record {
      rises = rises_on seen s t w.rises p.rises;
      statements = omega (arith, where_both (λ v. true) made.below list, p.statements, w.rises.statements);
      signals = omega (
        arith,
        length-append made.content.signals new,
        all_outs want.line (length made.content.children) want.name (first_signals list),
        signals_both made.below list,
        p.signals,
        w.rises.signals,
      );
      parts = omega (arith, child_added made.content.children (child_of want), parts_both made.below list, p.parts, w.parts);
      instances = omega (arith, length-append made.below list, p.instances, w.rises.instances);
      outputs = outs_both made.content.signals new ∙ omega (arith, no_outs want.line (length made.content.children) want.name (first_signals list));
      places = λ h. places_both n made.below list h p.places;
    }

-- the same of what a module's body gives, whose outputs are those of its ports
pub record ModuleGrows (n : ℕ) (m : Module) (before after : Seen) (made : Made) : Type 0 where
  pub rises : Rises before after
  pub statements : made_size made + before.statements ≤ after.statements
  pub signals : made_signals made + before.signals ≤ after.signals
  pub parts : made_parts made + before.parts ≤ after.parts
  pub instances : length made.below + before.instances ≤ after.instances
  pub outputs : outs made.content.signals ≡ port_outs m.ports
  pub places : places_below n made.below ≡ true

module _ (modules : List Module) (enter : Enter) (counted : Counted (length modules) enter) where
  mutual
    unfolding item_walk Ends and_then

    item_counts : (here : Here) (i : tree.Item) (gens : Gens) (made : Made) (seen : Seen) → Ends (λ s more. MadeGrows (length modules) seen made s more) seen (item_walk modules enter here i gens made)
    item_counts here (wire line f w) gens made seen =
        ends_then _ _ (wire_signal line gens f w) _ seen (wire_counts line gens f w seen) (λ s signal r. with_signal_grows (length modules) seen s made signal r.0 r.1)
    item_counts here (reg line f w l) gens made seen =
        ends_then _ _ (register line gens f w l) _ seen (reg_counts line gens f w l seen) (λ s signal r. with_signal_grows (length modules) seen s made signal r.0 r.1)
    item_counts here (inst line f x args cs) gens made seen =
        ends_then _ _ (asked modules line gens f x args cs) _ seen (asked_at modules line gens f x args cs seen) (λ s want p.
        ends_then _ _ (enter want here (here.number + 1 + length made.below)) _ s (counted want here (here.number + 1 + length made.below) s p.1) (λ t list q.
        with_child_grows (length modules) seen s t made want list p.0 q))
    item_counts here (comb line body) gens made seen =
        ends_then _ _ (statements body gens Done) _ seen (stmts_counts body gens Done seen) (λ s b p. with_block_grows (length modules) line false seen s made b p)
    item_counts here (ff line body) gens made seen =
        ends_then _ _ (statements body gens Done) _ seen (stmts_counts body gens Done seen) (λ s b p. with_block_grows (length modules) line true seen s made b p)
    item_counts here (repeat_items line x from to body) gens made seen =
        after_any _ (two_numbers line gens from to) _ seen (λ s range r. after_any _ (turn_count line range.0 range.1) _ s (λ t count q.
        turns_keep (λ u more. MadeGrows (length modules) seen made u more) line (λ k more. items_walk modules enter here body (bound x k gens) more) range.0 count made t
        (λ what u more p. made_sooner (length modules) seen u (one_more Turns u) made more p (one_rises Turns u))
        (λ k u more p. ends_as _ _ (items_walk modules enter here body (bound x k gens) more) u (items_counts here body (bound x k gens) more u) (λ v then_more g. made_on (length modules) seen u v made more then_more p g))
        (made_same (length modules) seen t made (rises_on seen s t r q))))
    item_counts here (given_items line left cmp right first second) gens made seen =
        after_any _ (two_numbers line gens left right) _ seen (λ s pair r.
        ends_either _ (holds cmp pair.0 pair.1) (items_walk modules enter here first gens made) (else_walk modules enter here second gens made) s
        (ends_as _ _ (items_walk modules enter here first gens made) s (items_counts here first gens made s) (λ t more p. made_later (length modules) seen s t made more r p))
        (ends_as _ _ (else_walk modules enter here second gens made) s (else_counts here second gens made s) (λ t more p. made_later (length modules) seen s t made more r p)))

    pub items_counts : (here : Here) (body : Items) (gens : Gens) (made : Made) (seen : Seen) → Ends (λ s more. MadeGrows (length modules) seen made s more) seen (items_walk modules enter here body gens made)
    items_counts here no_item gens made seen = made_same (length modules) seen seen made (stays seen)
    items_counts here (item i rest) gens made seen =
        ends_then _ _ (item_walk modules enter here i gens made) (λ more. items_walk modules enter here rest gens more) seen (item_counts here i gens made seen) (λ t more p.
        ends_as _ _ (items_walk modules enter here rest gens more) t (items_counts here rest gens more t) (λ u all q. made_on (length modules) seen t u made more all p q))

    else_counts : (here : Here) (e : ElseItems) (gens : Gens) (made : Made) (seen : Seen) → Ends (λ s more. MadeGrows (length modules) seen made s more) seen (else_walk modules enter here e gens made)
    else_counts here no_else_items gens made seen = made_same (length modules) seen seen made (stays seen)
    else_counts here (otherwise_items body) gens made seen = items_counts here body gens made seen

  -- what a module's body gives is counted
  module_counts : (here : Here) (m : Module) (params : Gens) (seen : Seen) → Ends (λ s made. ModuleGrows (length modules) m seen s made) seen (module_walk modules enter here m params)
  unfolding module_walk
  module_counts here m params seen =
      ends_then _ _ (ports m.ports params []) _ seen (ports_counts m.ports params [] seen) (λ s signals r.
      ends_as _ _ (items_walk modules enter here m.items params (record nothing { content = record (nothing.content) { signals = signals } })) s
      (items_counts here m.items params (record nothing { content = record (nothing.content) { signals = signals } }) s)
      (λ t made p. record {
        rises = rises_on seen s t r.rises p.rises;
        statements = omega (arith, p.statements, r.rises.statements);
        signals = omega (arith, p.signals, r.signals);
        parts = omega (arith, p.parts, r.rises.parts);
        instances = omega (arith, p.instances, r.rises.instances);
        outputs = p.outputs ∙ r.outputs ∙ omega arith;
        places = p.places refl;
      }))

-- an instance with those below it, behind its own count and those of its outputs
whole_list : (n beside : ℕ) (m : Module) (seen s t : Seen) (path : Name) (parent : Option ℕ) (place : ℕ) (params : Gens) (made : Made) → place < n → Rises (one_more Instances seen) s → beside + seen.signals ≤ s.signals → ModuleGrows n m s t made
    → ListGrows n beside seen t (instances_of path parent place params made)
whole_list n beside m seen s t path parent place params made inside r more p = record {
  rises = rises_on seen s t (rises_on seen (one_more Instances seen) s (one_rises Instances seen) r) p.rises;
  statements = omega (arith, p.statements, r.statements);
  signals = omega (arith, p.signals, more);
  parts = omega (arith, p.parts, r.parts);
  instances = omega (arith, p.instances, r.instances);
  places = both_true _ _ (lt-ltb place n inside) p.places;
}
  where
    both_true : (a b : Bool) → a ≡ true → b ≡ true → a && b ≡ true
    both_true a b e f = rw e f

pub instance_counts : (modules : List Module) (room : ℕ) → Counted (length modules) (instance modules room)
unfolding instance Ends and_then
instance_counts modules zero want here at seen inside = tt
instance_counts modules (suc room) want here at seen inside =
    ends_then _ _ (count_outputs want.line want.found.1.ports) _ (one_more Instances seen) (outputs_counted want.line want.found.1.ports (one_more Instances seen)) (λ s outputs r.
    ends_then _ _ (module_walk modules (instance modules room) (record { path = here.path ++ (codes "." ++ want.name); number = at }) want.found.1 want.params) _ s
    (module_counts modules (instance modules room) (instance_counts modules room) (record { path = here.path ++ (codes "." ++ want.name); number = at }) want.found.1 want.params s) (λ t made p.
    whole_list (length modules) (outs made.content.signals) want.found.1 seen s t (here.path ++ (codes "." ++ want.name)) (Some here.number) want.found.0 want.params made inside r.0 (omega (arith, r.1, p.outputs)) p))

top_counts : (modules : List Module) (top : Name) (given_so : Gens) (seen : Seen) → Ends (λ s list. ListGrows (length modules) 0 seen s list) seen (top_walk modules top given_so)
unfolding top_walk Ends and_then
top_counts modules top given_so seen =
    ends_then _ _ (module_named modules 0 top) _ seen (named_at modules 0 top seen) (λ s found p.
    after_any _ (top_values found.1 given_so) _ s (λ t params r.
    ends_then _ _ (module_walk modules (instance modules 32) (record { path = top; number = 0 }) found.1 params) _ (one_more Instances t)
    (module_counts modules (instance modules 32) (instance_counts modules 32) (record { path = top; number = 0 }) found.1 params (one_more Instances t)) (λ u made q.
    whole_list (length modules) 0 found.1 seen (one_more Instances t) u top None found.0 params made p.1 (counted_too seen t (rises_on seen s t p.0 r)) (omega (arith, p.0.signals, r.signals)) q)))
  where
    counted_too : (a b : Seen) → Rises a b → Rises (one_more Instances a) (one_more Instances b)
    counted_too a b r = record { instances = omega (arith, r.instances); statements = omega (arith, r.statements); signals = omega (arith, r.signals); parts = omega (arith, r.parts) }

-- what a walk from the top gives, where no limit is passed
pub record Small (modules : List Module) (list : List Instance) : Type 0 where
  pub instances : length list ≤ 4096
  pub statements : all_statements list ≤ 200000
  pub signals : all_signals list ≤ 200000
  pub parts : all_parts list ≤ 2000000
  pub registers : all_registers list ≤ 200000
  pub places : places_below (length modules) list ≡ true

pub walk_small : (modules : List Module) (top : Name) (given_so : Gens) (list : List Instance) (seen : Seen) → judge none_seen (top_walk modules top given_so) ≡ Ok (list, seen) → Small modules list
walk_small modules top given_so list seen e =
    let found = judged (λ s l. ListGrows (length modules) 0 none_seen s l) (top_walk modules top given_so) none_seen seen list (top_counts modules top given_so none_seen) (record { instances = omega arith; statements = omega arith; signals = omega arith; parts = omega arith }) e in
    record {
      instances = omega (arith, found.0.instances, found.1.instances);
      statements = omega (arith, found.0.statements, found.1.statements);
      signals = omega (arith, found.0.signals, found.1.signals);
      parts = omega (arith, found.0.parts, found.1.parts);
      registers = omega (arith, registers_within list, found.0.signals, found.1.signals);
      places = found.0.places;
    }

-- ---- the first instances are among all

pub firsts_few : (variants list : List Instance) → all_statements (firsts variants list) ≤ all_statements variants + all_statements list
firsts_few variants [] = omega arith
firsts_few variants (i ∷ list) =
    elim (nat_lt (variant_of i.place i.params variants) (length variants)) as (λ b. all_statements (if b then firsts variants list else firsts (variants ++ i ∷ []) list) ≤ all_statements variants + all_statements (i ∷ list)) [
      | true ↦ omega (arith, firsts_few variants list)
      | false ↦ omega (arith, firsts_few (variants ++ i ∷ []) list, where_both (λ v. true) variants (i ∷ []))
    ]

firsts_inside : (n : ℕ) (variants list : List Instance) → places_below n variants ≡ true → places_below n list ≡ true → places_below n (firsts variants list) ≡ true
firsts_inside n variants [] h g = h
firsts_inside n variants (i ∷ list) h g =
    let parts = split_true _ _ g in
    elim (nat_lt (variant_of i.place i.params variants) (length variants)) as (λ b. places_below n (if b then firsts variants list else firsts (variants ++ i ∷ []) list) ≡ true) [
      | true ↦ firsts_inside n variants list h parts.1
      | false ↦ firsts_inside n (variants ++ i ∷ []) list (places_both n variants (i ∷ []) h (both_so _ _ parts.0 refl)) parts.1
    ]
  where
    split_true : (a b : Bool) → a && b ≡ true → (a ≡ true) × (b ≡ true)
    split_true true b e = (refl, e)
    split_true false b e = absurd (true≢false (sym e))

    both_so : (a b : Bool) → a ≡ true → b ≡ true → a && b ≡ true
    both_so a b e f = rw e f

pub variants_few : (list : List Instance) (n : ℕ) → all_statements list < n → all_statements (variants_of list) < n
variants_few list n h = omega (arith, h, firsts_few [] list)

pub variants_inside : (n : ℕ) (list : List Instance) → places_below n list ≡ true → places_below n (variants_of list) ≡ true
variants_inside n list h = firsts_inside n [] list refl h

-- ---- the same of the code's first instances

pub first_places : (n : ℕ) (all now : List code_instance.Instance) → map instance_of now ≡ variants_of (map instance_of all) → places_below n (map instance_of all) ≡ true → places_below n (map instance_of now) ≡ true
first_places n all now is h = ap (places_below n) is ∙ variants_inside n (map instance_of all) h

pub first_small : (all now : List code_instance.Instance) → map instance_of now ≡ variants_of (map instance_of all) → all_statements (map instance_of all) ≤ 200000 → all_statements (map instance_of now) < 4294967296
first_small all now is h = omega (arith, h, ap all_statements is, firsts_few [] (map instance_of all))

pub first_few : (all now : List code_instance.Instance) → map instance_of now ≡ variants_of (map instance_of all) → length all ≤ 4096 → length now < 4294967295
first_few all now is h =
    omega (arith, h, ap (λ (l : List Instance). length l) is, length-map now instance_of, length-map all instance_of, variants_within [] (map instance_of all))
