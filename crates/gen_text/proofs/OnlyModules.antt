-- What a tree spells is read as that tree: modules.
use Rattle.std.proofs.Common.{◌≡◌, ◌≤◌, ◌<◌, ℕ, zero, suc, Bool, true, false, List, [], ◌∷◌, length, is_some, Ok, refl, sym, ap, ◌∙◌, arith}
use Rattle.gen_token.specs.declared.Mark.TheVariants as mark
use Rattle.gen_token.specs.Words.{Reserved, Sign, Tok}
use Rattle.gen_tree.specs.declared.Dialect.TheVariants as dialect
use Rattle.gen_tree.specs.Tree.{Items, no_item, item, Port, Module}
use Rattle.gen_tree.specs.Grammar.{Sym, Key, Each, SpellsItems, SpellsPort, SpellsModule, direction}
use Rattle.gen_text.specs.Forms.{is_mark, port_form}
use Rattle.gen_text.specs.Reading.{port_at, begins_port, module_at, none_left, modules_by}
use Rattle.gen_text.proofs.Lists.{each_only, takes}
use Rattle.gen_text.proofs.ModulesRead.{port_reads, module_reads, module_flat}
use Rattle.gen_text.proofs.Depth.{each_depth, port_depth, module_depth}
use Rattle.gen_text.proofs.OnlyExprs.{mark_only, not_next, name_only, less_one, int_only}
use Rattle.gen_text.proofs.OnlyItems.{within_each, params_only, NoItem, item_not, items_until_only}

port_begins : (output : Bool) (ts rest : List Tok) → Key (direction output) ts rest → begins_port ts ≡ true
port_begins output [] rest h = absurd h
port_begins true (t ∷ ts) rest h = rw h.0 refl
port_begins false (t ∷ ts) rest h = rw h.0 refl

port_only_by : (b : Bool) (p : Port) (room : ℕ) (t : Tok) (ts rest : List Tok) → b ≡ p.output → port_depth p ≤ room → SpellsPort p (t ∷ ts) rest → port_at room (t ∷ ts) ≡ Ok (p, rest)
port_only_by true p room t ts rest b le (ln, (t1, w, (t2, x, (t3, c, (t4, i, s))))) =
    rw (w.0 ∙ ap (λ o. Reserved (direction o)) (sym b), w.1, ln, name_only p.name t1 t2 x, mark_only mark.Colon t2 t3 c, int_only dialect.Source p.width room t3 t4 le i, mark_only mark.Semicolon t4 rest s, b) refl
port_only_by false p room t ts rest b le (ln, (t1, w, (t2, x, (t3, c, (t4, i, s))))) =
    rw (w.0 ∙ ap (λ o. Reserved (direction o)) (sym b), w.1, ln, name_only p.name t1 t2 x, mark_only mark.Colon t2 t3 c, int_only dialect.Source p.width room t3 t4 le i, mark_only mark.Semicolon t4 rest s, b) refl

port_only : (room : ℕ) (p : Port) (ts rest : List Tok) → SpellsPort p ts rest × (port_depth p ≤ room) → (begins_port ts ≡ true) × (port_at room ts ≡ Ok (p, rest)) × (length rest < length ts)
port_only room p [] rest h = absurd h.0.0
port_only room p (t ∷ ts) rest h =
    let e : port_at room (t ∷ ts) ≡ Ok (p, rest) = port_only_by p.output p room t ts rest refl h.1 h.0 in
    (port_begins p.output (t ∷ ts) h.0.1.0 h.0.1.1, e, takes dialect.Source room _ SpellsPort (t ∷ ts) p rest _ (port_reads room (t ∷ ts)) e)

no_port : NoItem (λ w. is_some (port_form w))
no_port = record { wires = refl; regs = refl; insts = refl; combs = refl; ffs = refl; fors = refl; gens = refl }

items_no_port : (b : Items) (ts mid rest : List Tok) → SpellsItems b ts mid → Sym mark.RightBrace mid rest → begins_port ts ≡ false
items_no_port no_item ts mid rest h w = rw h (not_next (λ w. is_some (port_form w)) (Sign mark.RightBrace) mid rest refl w)
items_no_port (item i more) ts mid rest (t1, hs, hm) w = item_not (λ w. is_some (port_form w)) i ts t1 no_port hs

pub module_only : (m : Module) (room : ℕ) (ts rest : List Tok) → module_depth m ≤ room → SpellsModule m ts rest → module_at room ts ≡ Ok (m, rest)
unfolding module_at
module_only m room [] rest le h = absurd h.0
module_only m zero (t ∷ ts) rest le h = absurd (omega arith)
module_only m (suc room) (t ∷ ts) rest le (ln, (t1, w, (t2, x, (t3, ps, (t4, o, (t5, qs, (t6, is, c))))))) =
    rw (
      w.0,
      w.1,
      ln,
      name_only m.name t1 t2 x,
      module_flat (suc room) m.line m.name t2,
      params_only m.params (suc room) t2 t3 (omega arith) ps (not_next (is_mark mark.LeftParen) (Sign mark.LeftBrace) t3 t4 refl o),
      mark_only mark.LeftBrace t3 t4 o,
      less_one room,
      each_only m.ports (suc (length t4)) begins_port (λ p ts rest. SpellsPort p ts rest × (port_depth p ≤ room)) (port_at room) t4 t5 (port_only room) (items_no_port m.items t5 t6 rest is c) (omega arith) (within_each SpellsPort port_depth room m.ports t4 t5 (omega arith) qs),
      items_until_only m.items room t5 t6 rest (omega arith) is c,
    ) refl

pub module_shorter : (m : Module) (room : ℕ) (ts rest : List Tok) → module_at room ts ≡ Ok (m, rest) → length rest < length ts
module_shorter m room ts rest e = takes dialect.Source room _ SpellsModule ts m rest _ (module_reads room ts) e

pub modules_only : (m : Module) (ms : List Module) (n room : ℕ) (ts : List Tok) → each_depth module_depth (m ∷ ms) ≤ room → length ts < n → Each SpellsModule (m ∷ ms) ts [] → modules_by n room ts ≡ Ok (m ∷ ms)
unfolding modules_by
modules_only m ms zero room ts le lt h = absurd (omega arith)
modules_only m [] (suc n) room ts le lt (t1, s, more) = rw (module_only m room ts t1 (omega arith) s, more) refl
modules_only m (m2 ∷ ms) (suc n) room ts le lt (t1, s, more) =
    let e : module_at room ts ≡ Ok (m, t1) = module_only m room ts t1 (omega arith) s in
    let l : length t1 < length ts = module_shorter m room ts t1 e in
    rw (e, some_left t1 more, modules_only m2 ms n room t1 (omega arith) (omega arith) more) refl
  where
    some_left : (t1 : List Tok) → Each SpellsModule (m2 ∷ ms) t1 [] → none_left t1 ≡ false
    some_left [] h = absurd h.1.0
    some_left (t ∷ ts) h = refl
