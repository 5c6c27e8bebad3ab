-- Ports, connections and outputs one after another.
use Rattle.std.proofs.Common.{◌≡◌, ℕ, ◌+◌, ◌<◌, ◌≤◌, Bool, true, false, if◌then◌else◌, List, [], ◌∷◌, ◌++◌, map, length, get_or, drop, Ok, Err, refl, sym, ap, ◌∙◌}
use Rattle.std.proofs.Math.ListN.{drop_of_length-le}
use Rattle.std.proofs.lemmas.List.{map-append}
use Rattle.gen_tree.specs.Tree.{Port}
use Rattle.gen_tree.specs.Tree as tree
use Rattle.gen_tree.specs.declared.Port as source_port
use Rattle.gen_tree.specs.declared.Conn as source_conn
use Rattle.gen_tree.specs.View as source
use Rattle.gen_tree.specs.View.{port_of}
use Rattle.elab_core.specs.declared.Count.TheVariants.{Signals}
use Rattle.elab_core.specs.Walk.{Gives, Counted, Fault, Seen, and_then, judge, counts}
use Rattle.elab_core.specs.Numbers.{number}
use Rattle.elab_core.specs.Elab.{expr, ports, conns, count_outputs, port_kind}
use Rattle.design_core.specs.declared.Signal.{Signal}
use Rattle.design_core.specs.declared.Conn as code_conn
use Rattle.design_core.specs.Design.{Gens, Conn}
use Rattle.design_core.specs.View.{conn_of}
use Rattle.elab_base.proofs.Steps.{counted, refused, ends, then_assoc}
use Rattle.elab_body.proofs.StmtLoops.{next_of}
use Rattle.elab_walk.specs.Walked.{port_signal, connection}

ports_first : (p : Port) (ps : List Port) (gens : Gens) (made : List Signal) → ports (p ∷ ps) gens made ≡ and_then (port_signal p gens) (λ s. ports ps gens (made ++ s ∷ []))
unfolding ports port_signal and_then
ports_first p ps gens made = sym (
    then_assoc (number p.line gens p.width) (λ w. Counted Signals p.line (Gives (record { line = p.line; name = p.name; kind = port_kind p.output; width = w }))) (λ s. ports ps gens (made ++ s ∷ [])))

ports_none : (gens : Gens) (made : List Signal) (seen : Seen) → judge seen (ports [] gens made) ≡ Ok (made, seen)
unfolding ports
ports_none gens made seen = ends _ _

pub ports_at : (xs : List source_port.Port) (i : ℕ) (x : source_port.Port) (gens : Gens) (made more : List Signal) (s : Signal) (seen after : Seen) → i < length xs → x ≡ get_or xs i x → judge seen (port_signal (port_of x) gens) ≡ Ok (s, after) → more ≡ made ++ s ∷ [] →
    judge seen (ports (map port_of (drop i xs)) gens made) ≡ judge after (ports (map port_of (drop (i + 1) xs)) gens more)
ports_at xs i x gens made more s seen after h e p put =
    ap (λ ys. judge seen (ports (map port_of ys) gens made)) (next_of xs i x h e)
    ∙ ap (judge seen) (ports_first (port_of x) (map port_of (drop (i + 1) xs)) gens made)
    ∙ counted _ _ _ _ _ _ p (ap (λ ss. judge after (ports (map port_of (drop (i + 1) xs)) gens ss)) (sym put))

pub ports_fault_at : (xs : List source_port.Port) (i : ℕ) (x : source_port.Port) (gens : Gens) (made : List Signal) (seen : Seen) (f : Fault) → i < length xs → x ≡ get_or xs i x → judge seen (port_signal (port_of x) gens) ≡ Err f →
    judge seen (ports (map port_of (drop i xs)) gens made) ≡ Err f
ports_fault_at xs i x gens made seen f h e p =
    ap (λ ys. judge seen (ports (map port_of ys) gens made)) (next_of xs i x h e)
    ∙ ap (judge seen) (ports_first (port_of x) (map port_of (drop (i + 1) xs)) gens made)
    ∙ refused _ _ _ _ p

pub ports_end : (xs : List source_port.Port) (i : ℕ) (gens : Gens) (made : List Signal) (seen : Seen) → length xs ≤ i → judge seen (ports (map port_of (drop i xs)) gens made) ≡ Ok (made, seen)
ports_end xs i gens made seen h = ap (λ ys. judge seen (ports (map port_of ys) gens made)) (drop_of_length-le xs h) ∙ ports_none gens made seen

pub ruleset ports_steps = (ports_at, ports_fault_at, ports_end)

conns_first : (c : tree.Conn) (cs : List tree.Conn) (gens : Gens) (made : List Conn) → conns (c ∷ cs) gens made ≡ and_then (connection c gens) (λ v. conns cs gens (made ++ v ∷ []))
unfolding conns connection and_then
conns_first c cs gens made = sym (
    then_assoc (expr c.line gens c.value) (λ v. Gives (record { line = c.line; port = c.port; value = v })) (λ v. conns cs gens (made ++ v ∷ [])))

conns_none : (gens : Gens) (made : List Conn) (seen : Seen) → judge seen (conns [] gens made) ≡ Ok (made, seen)
unfolding conns
conns_none gens made seen = ends _ _

pub conns_at : (xs : List source_conn.Conn) (i : ℕ) (x : source_conn.Conn) (gens : Gens) (made more : List code_conn.Conn) (v : code_conn.Conn) (seen after : Seen) → i < length xs → x ≡ get_or xs i x → judge seen (connection (source.conn_of x) gens) ≡ Ok (conn_of v, after) → more ≡ made ++ v ∷ [] →
    judge seen (conns (map source.conn_of (drop i xs)) gens (map conn_of made)) ≡ judge after (conns (map source.conn_of (drop (i + 1) xs)) gens (map conn_of more))
conns_at xs i x gens made more v seen after h e p put =
    ap (λ ys. judge seen (conns (map source.conn_of ys) gens (map conn_of made))) (next_of xs i x h e)
    ∙ ap (judge seen) (conns_first (source.conn_of x) (map source.conn_of (drop (i + 1) xs)) gens (map conn_of made))
    ∙ counted _ _ _ _ _ _ p (ap (λ cs. judge after (conns (map source.conn_of (drop (i + 1) xs)) gens cs)) (sym (ap (map conn_of) put ∙ map-append conn_of made (v ∷ []))))

pub conns_fault_at : (xs : List source_conn.Conn) (i : ℕ) (x : source_conn.Conn) (gens : Gens) (made : List Conn) (seen : Seen) (f : Fault) → i < length xs → x ≡ get_or xs i x → judge seen (connection (source.conn_of x) gens) ≡ Err f →
    judge seen (conns (map source.conn_of (drop i xs)) gens made) ≡ Err f
conns_fault_at xs i x gens made seen f h e p =
    ap (λ ys. judge seen (conns (map source.conn_of ys) gens made)) (next_of xs i x h e)
    ∙ ap (judge seen) (conns_first (source.conn_of x) (map source.conn_of (drop (i + 1) xs)) gens made)
    ∙ refused _ _ _ _ p

pub conns_end : (xs : List source_conn.Conn) (i : ℕ) (gens : Gens) (made : List Conn) (seen : Seen) → length xs ≤ i → judge seen (conns (map source.conn_of (drop i xs)) gens made) ≡ Ok (made, seen)
conns_end xs i gens made seen h = ap (λ ys. judge seen (conns (map source.conn_of ys) gens made)) (drop_of_length-le xs h) ∙ conns_none gens made seen

pub ruleset conns_steps = (conns_at, conns_fault_at, conns_end)

outputs_first : (line : ℕ) (p : Port) (ps : List Port) (b : Bool) → p.output ≡ b → count_outputs line (p ∷ ps) ≡ (if b then and_then (counts Signals line) (λ u. count_outputs line ps) else count_outputs line ps)
unfolding count_outputs
outputs_first line p ps b e = ap (λ c. if c then and_then (counts Signals line) (λ u. count_outputs line ps) else count_outputs line ps) e

outputs_none : (line : ℕ) (seen : Seen) → judge seen (count_outputs line []) ≡ Ok (tt, seen)
unfolding count_outputs
outputs_none line seen = ends _ _

pub outputs_at : (line : ℕ) (xs : List source_port.Port) (i : ℕ) (x : source_port.Port) (seen after : Seen) → i < length xs → x ≡ get_or xs i x → x.output ≡ true → judge seen (counts Signals line) ≡ Ok (tt, after) →
    judge seen (count_outputs line (map port_of (drop i xs))) ≡ judge after (count_outputs line (map port_of (drop (i + 1) xs)))
outputs_at line xs i x seen after h e o p =
    ap (λ ys. judge seen (count_outputs line (map port_of ys))) (next_of xs i x h e)
    ∙ ap (judge seen) (outputs_first line (port_of x) (map port_of (drop (i + 1) xs)) true o) ∙ counted _ _ _ _ _ _ p refl

pub outputs_over : (line : ℕ) (xs : List source_port.Port) (i : ℕ) (x : source_port.Port) (seen : Seen) → i < length xs → x ≡ get_or xs i x → x.output ≡ false →
    judge seen (count_outputs line (map port_of (drop i xs))) ≡ judge seen (count_outputs line (map port_of (drop (i + 1) xs)))
outputs_over line xs i x seen h e o =
    ap (λ ys. judge seen (count_outputs line (map port_of ys))) (next_of xs i x h e)
    ∙ ap (judge seen) (outputs_first line (port_of x) (map port_of (drop (i + 1) xs)) false o)

pub outputs_fault_at : (line : ℕ) (xs : List source_port.Port) (i : ℕ) (x : source_port.Port) (seen : Seen) (f : Fault) → i < length xs → x ≡ get_or xs i x → x.output ≡ true → judge seen (counts Signals line) ≡ Err f →
    judge seen (count_outputs line (map port_of (drop i xs))) ≡ Err f
outputs_fault_at line xs i x seen f h e o p =
    ap (λ ys. judge seen (count_outputs line (map port_of ys))) (next_of xs i x h e)
    ∙ ap (judge seen) (outputs_first line (port_of x) (map port_of (drop (i + 1) xs)) true o) ∙ refused _ _ _ _ p

pub outputs_end : (line : ℕ) (xs : List source_port.Port) (i : ℕ) (seen : Seen) → length xs ≤ i → judge seen (count_outputs line (map port_of (drop i xs))) ≡ Ok (tt, seen)
outputs_end line xs i seen h = ap (λ ys. judge seen (count_outputs line (map port_of ys))) (drop_of_length-le xs h) ∙ outputs_none line seen

pub ruleset outputs_steps = (outputs_at, outputs_over, outputs_fault_at, outputs_end)
