-- The ports of connections, one after another.
use Rattle.std.proofs.Common.{◌≡◌, ℕ, ◌+◌, ◌<◌, ◌≤◌, Bool, true, false, ◌||◌, bytes_eq, List, map, length, drop, get_or, refl, sym, ap, ◌∙◌}
use Rattle.std.proofs.lemmas.List.{drop_more}
use Rattle.std.proofs.Math.ListN.{drop_of_length-le}
use Rattle.design_core.specs.declared.variant.Conn as code_conn
use Rattle.design_core.specs.View.{conn_of}
use Rattle.design_core.specs.declared.variant.Signal.{Signal}
use Rattle.check_core.specs.Faults.{first_of}
use Rattle.check_core.specs.Ports.{unbound_at, connected}
use Rattle.names.specs.Known.{Name, Known, with, either}

either_end : (a : Bool) → (a || false) ≡ a
either_end true = refl
either_end false = refl

swap : (a b c : Bool) → ((a || b) || c) ≡ (b || (a || c))
swap true true c = refl
swap true false c = refl
swap false true c = refl
swap false false c = refl

pub conn_next : (conns : List code_conn.Conn) (i : ℕ) (c : code_conn.Conn) (old new : Known) (name : Name) → i < length conns → c ≡ get_or conns i c
    → name ≡ c.port → new ≡ with name old → either new (connected (map conn_of (drop (i + 1) conns))) ≡ either old (connected (map conn_of (drop i conns)))
conn_next conns i c old new name inside at called is =
    λ j x. (ap (λ (k : Known). k x || connected (map conn_of (drop (i + 1) conns)) x) (is ∙ ap (λ (y : Name). with y old) called)
    ∙ swap (bytes_eq x c.port) (old x) (connected (map conn_of (drop (i + 1) conns)) x)
    ∙ ap (λ (d : code_conn.Conn). old x || (bytes_eq x d.port || connected (map conn_of (drop (i + 1) conns)) x)) at
    ∙ ap (λ (l : List code_conn.Conn). old x || connected (map conn_of l) x) (sym (drop_more conns i c inside))) j

pub conn_end : (conns : List code_conn.Conn) (i : ℕ) (known : Known) → length conns ≤ i → either known (connected (map conn_of (drop i conns))) ≡ known
conn_end conns i known past = λ j x. (ap (λ (l : List code_conn.Conn). known x || connected (map conn_of l) x) (drop_of_length-le conns past) ∙ either_end (known x)) j

-- the same, told of what is the same
pub unbound_as : (line : ℕ) (child name : Name) (ports now : Known) (signals all : List Signal) → child ≡ name → ports ≡ now → signals ≡ all
    → first_of (unbound_at line child ports) signals ≡ first_of (unbound_at line name now) all
unbound_as line child name ports now signals all e f g = λ i. first_of (unbound_at line (e i) (f i)) (g i)
