-- Ports and modules are read as they are spelled.
use Rattle.std.proofs.Common.{◌≡◌, ◌<◌, ◌-◌, ℕ, suc, Bool, true, false, List, [], ◌∷◌, length, Option, Some, None, is_some, Result, Ok, Err, refl, arith, inl, inr}
use Rattle.gen_token.specs.declared.Keyword.TheVariants as keyword
use Rattle.gen_token.specs.declared.Mark.TheVariants as mark
use Rattle.gen_token.specs.Words.{Word, Name, Number, Literal, Reserved, Sign, Tok}
use Rattle.gen_tree.specs.declared.Dialect.TheVariants as dialect
use Rattle.gen_tree.specs.Brackets.{room_after}
use Rattle.gen_tree.specs.Tree.{Param, Items, Port, Module}
use Rattle.gen_tree.specs.Grammar.{SpellsPort, SpellsModule, direction}
use Rattle.gen_text.specs.Forms.{is_keyword, port_form}
use Rattle.gen_text.specs.Reading.{Read, ◌>>=◌, each_at, open_at, params_at, items_until, item_at, port_at, port_by, port_rest_at, begins_port, content_at, module_at, module_rest_at, module_body_at}
use Rattle.gen_text.proofs.Machine.{Symbol, sign, a_port, ports_end, items_end, a_module, port_symbols, module_symbols, settle, run, at_end}
use Rattle.gen_text.proofs.Moves.{Comes, Reads, then_read, then_word, done, begins as takes_first, refuses, refuses_end}
use Rattle.gen_text.proofs.WordsRead.{test, is_keyword_is, word_reads, then_open, name_reads}
use Rattle.gen_text.proofs.IntsRead.{int_reads}
use Rattle.gen_text.proofs.Lists.{EachReads, each_reads, then_each, takes}
use Rattle.gen_text.proofs.Loops.{Shortens}
use Rattle.gen_text.proofs.ItemsRead.{params_read, items_read}

-- ---- ports

abbrev PortIs : Option Bool → Word → Type 0
PortIs None w = Unit {0}
PortIs (Some output) w = w ≡ Reserved (direction output)

port_is : (w : Word) → PortIs (port_form w) w
port_is (Name x) = tt
port_is (Number n) = tt
port_is (Literal w v) = tt
port_is (Reserved keyword.Output) = refl
port_is (Reserved keyword.Input) = refl
port_is (Reserved _) = tt
port_is (Sign m) = tt

port_side : (output : Bool) (room : ℕ) → room_after room (Reserved (direction output)) ≡ Some room
port_side true room = refl
port_side false room = refl

port_rest_reads : (room : ℕ) (output : Bool) (t : Tok) (ts : List Tok) → t.word ≡ Reserved (direction output)
    → Reads dialect.Source room port_symbols ts room (λ p rest. SpellsPort p (t ∷ ts) rest × (length rest < suc (length ts))) (port_rest_at room t.line output ts)
port_rest_reads room output t ts is =
    then_read _ (name_reads room ts) (λ x t1 gx lx.
    then_word _ (word_reads (sign mark.Colon) room room t1 refl) (λ t2 g2 l2.
    then_read _ (int_reads dialect.Source room t2) (λ w t3 gw lw.
    then_word _ (word_reads (sign mark.Semicolon) room room t3 refl) (λ rest gr lr.
    done ((refl, (ts, (is, refl), (t1, gx, (t2, g2, (t3, gw, gr))))), omega arith)))))

port_by_reads : (f : Option Bool) (room : ℕ) (t : Tok) (ts : List Tok) → port_form t.word ≡ f → PortIs f t.word
    → Reads dialect.Source room (a_port ∷ []) (t ∷ ts) room (λ p rest. SpellsPort p (t ∷ ts) rest × (length rest < suc (length ts))) (port_by room f t.line ts)
port_by_reads None room t ts e is = refuses (rw e refl)
port_by_reads (Some output) room t ts e is = takes_first (rw e refl) (rw (is, port_side output room) refl) (port_rest_reads room output t ts is)

pub port_reads : (room : ℕ) (ts : List Tok) → Reads dialect.Source room (a_port ∷ []) ts room (λ p rest. SpellsPort p ts rest × (length rest < length ts)) (port_at room ts)
port_reads room [] = refuses_end refl
port_reads room (t ∷ ts) = port_by_reads (port_form t.word) room t ts refl (port_is t.word)

settle_ports : (f : Option Bool) (stack : List Symbol) (w : Word) → port_form w ≡ f → is_some f ≡ true → settle dialect.Source (ports_end ∷ stack) w ≡ settle dialect.Source (a_port ∷ ports_end ∷ stack) w
unfolding settle
settle_ports None stack w e h = absurd cc
settle_ports (Some output) stack w e h = rw e refl

opens_ports : (room : ℕ) (ts : List Tok) → begins_port ts ≡ true → Comes dialect.Source room (ports_end ∷ []) ts room (a_port ∷ ports_end ∷ []) ts
unfolding run at_end
opens_ports room [] h = absurd cc
opens_ports room (t ∷ ts) h = record { comes = λ stack. rw (settle_ports (port_form t.word) stack t.word refl h) refl }

pub ports_read : (room : ℕ) (ts : List Tok) → EachReads dialect.Source room ports_end begins_port SpellsPort ts (each_at begins_port (port_at room) ts)
ports_read room ts = each_reads dialect.Source (suc (length ts)) room ports_end a_port begins_port SpellsPort (port_at room) ts (record { opens = opens_ports room; reads = port_reads room }) (omega arith)

-- behind the ports
settle_last_port : (stack : List Symbol) (w : Word) (f : Option Bool) → port_form w ≡ f → is_some f ≡ false → settle dialect.Source (ports_end ∷ stack) w ≡ settle dialect.Source (items_end ∷ stack) w
unfolding settle
settle_last_port stack w None e h = rw e refl
settle_last_port stack w (Some output) e h = absurd cc

after_ports : (room : ℕ) (ts : List Tok) → begins_port ts ≡ false → Comes dialect.Source room (ports_end ∷ []) ts room (items_end ∷ []) ts
unfolding run at_end
after_ports room [] h = record { comes = λ stack. refl }
after_ports room (t ∷ ts) h = record { comes = λ stack. rw (settle_last_port stack t.word (port_form t.word) refl h) refl }

-- ---- modules

-- the body of a module, one step after another
abbrev pub module_flat_at : ℕ → ℕ → List ℕ → List Tok → Read Module
module_flat_at room line x ts = do
  pars ← params_at room ts
  t1 ← open_at mark.LeftBrace room pars.1
  ports ← each_at begins_port (port_at (room - 1)) t1
  body ← items_until (item_at (room - 1)) ports.1
  Ok (record { line = line; name = x; params = pars.0; ports = ports.0; items = body.0 }, body.1)

abbrev both : List Port → Items → List Tok → Read (List Port × Items)
both ports body ts = Ok ((ports, body), ts)

-- ports that were read, and then the items
abbrev with_ports : ℕ → List Port → List Tok → Read (List Port × Items)
with_ports room ports ts = items_until (item_at (room - 1)) ts >>= λ body. both ports body.0 body.1

abbrev named : ℕ → List ℕ → List Param → List Port × Items → List Tok → Read Module
named line x pars content ts = Ok (record { line = line; name = x; params = pars; ports = content.0; items = content.1 }, ts)

abbrev named_so : ℕ → List ℕ → List Param → List Port → Items → List Tok → Read Module
named_so line x pars ports body ts = Ok (record { line = line; name = x; params = pars; ports = ports; items = body }, ts)

pub module_flat : (room line : ℕ) (x : List ℕ) (ts : List Tok) → module_body_at room line x ts ≡ module_flat_at room line x ts
module_flat room line x ts = first (params_at room ts)
  where
    fourth : (pars : List Param) (ports : List Port) (o : Read Items) → ((o >>= λ body. both ports body.0 body.1) >>= λ content. named line x pars content.0 content.1) ≡ (o >>= λ body. named_so line x pars ports body.0 body.1)
    fourth pars ports (Err left) = refl
    fourth pars ports (Ok body) = refl

    third : (pars : List Param) (o : Read (List Port)) → ((o >>= λ ports. with_ports room ports.0 ports.1) >>= λ content. named line x pars content.0 content.1)
        ≡ (o >>= λ ports. items_until (item_at (room - 1)) ports.1 >>= λ body. named_so line x pars ports.0 body.0 body.1)
    third pars (Err left) = refl
    third pars (Ok ports) = fourth pars ports.0 (items_until (item_at (room - 1)) ports.1)

    second : (pars : List Param) (o : Result (List Tok) ℕ) → (((o >>= λ t. each_at begins_port (port_at (room - 1)) t) >>= λ ports. with_ports room ports.0 ports.1) >>= λ content. named line x pars content.0 content.1)
        ≡ (o >>= λ t. each_at begins_port (port_at (room - 1)) t >>= λ ports. items_until (item_at (room - 1)) ports.1 >>= λ body. named_so line x pars ports.0 body.0 body.1)
    second pars (Err left) = refl
    second pars (Ok t) = third pars (each_at begins_port (port_at (room - 1)) t)

    first : (o : Read (List Param)) → (o >>= λ pars. content_at room pars.1 >>= λ content. named line x pars.0 content.0 content.1)
        ≡ (o >>= λ pars. open_at mark.LeftBrace room pars.1 >>= λ t. each_at begins_port (port_at (room - 1)) t >>= λ ports. items_until (item_at (room - 1)) ports.1 >>= λ body. named_so line x pars.0 ports.0 body.0 body.1)
    first (Err left) = refl
    first (Ok pars) = second pars.0 (open_at mark.LeftBrace room pars.1)

module_rest_reads : (room : ℕ) (t : Tok) (ts : List Tok) → t.word ≡ Reserved keyword.Module
    → Reads dialect.Source room module_symbols ts room (λ m rest. SpellsModule m (t ∷ ts) rest × (length rest < suc (length ts))) (module_rest_at room t.line ts)
module_rest_reads room t ts is =
    then_read _ (name_reads room ts) (λ x t1 gx lx.
    rw (module_flat room t.line x t1) (
    then_read _ (params_read room t1) (λ ps t2 gp lp.
    then_open mark.LeftBrace room t2 _ refl (λ room2 room-is t3 g3 l3.
    let same : room - 1 ≡ room2 = omega arith in
    rw (same, room-is) (
    then_each _ (ports_read room2 t3) (after_ports room2) (λ ports t4 gs ls.
    then_read _ (items_read room2 t4) (λ body rest gb lb.
    done ((refl, (ts, (is, refl), (t1, gx, (t2, gp, (t3, g3, (t4, gs, (gb.0, gb.1, gb.2))))))), omega arith))))))))

pub module_reads : (room : ℕ) (ts : List Tok) → Reads dialect.Source room (a_module ∷ []) ts room (λ m rest. SpellsModule m ts rest × (length rest < length ts)) (module_at room ts)
unfolding module_at
module_reads room [] = refuses_end refl
module_reads room (t ∷ ts) = elim (test (is_keyword keyword.Module t.word)) [
  | inl e ↦
      let is : t.word ≡ Reserved keyword.Module = is_keyword_is keyword.Module t.word e in
      rw e (takes_first (rw e refl) (rw is refl) (module_rest_reads room t ts is))
  | inr e ↦ rw e (refuses (rw e refl))
]

pub ports_shorten : (room : ℕ) → Shortens (port_at room)
ports_shorten room = record { shortens = λ ts x rest e. takes dialect.Source room _ SpellsPort ts x rest _ (port_reads room ts) e }
