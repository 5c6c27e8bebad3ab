-- Elaboration of items, modules and instances by substitution: no name is ever looked up.
use Rattle.std.specs.Prelude.{ℕ, zero, suc, ◌+◌, ◌<◌, max, true, false, List, [], ◌∷◌, ◌++◌, length, Some, None, if◌then◌else◌, codes}
use Rattle.gen_tree.specs.Tree.{Stmts, wire, reg, inst, comb, ff, repeat_items, given_items, Items, no_item, item, ElseItems, no_else_items, otherwise_items, Module}
use Rattle.gen_tree.specs.Tree as tree
use Rattle.elab_core.specs.declared.fault.Count.TheVariants.{Instances, Signals}
use Rattle.elab_core.specs.Walk.{Walk, Gives, Faulty, ◌>>=◌, counts, TooDeep}
use Rattle.exec_core.specs.Block.{Name}
use Rattle.elab_core.specs.Numbers.{find, bound, two_numbers, turn_count, holds}
use Rattle.design_core.specs.Design.{Gens, Body, Done}
use Rattle.elab_core.specs.Elaborated.{Instance}
use Rattle.elab_core.specs.Elab.{turns, module_named, asked, register, wire_signal, ports, count_outputs, Made, nothing, with_signal, with_block, with_child, Here, Enter, instances_of, top_values}
use Rattle.elab_core.specs.Replace.{only_this, closed_stmts, closed_body, loops_stmts, put_ports, put_items}

-- ---- items; `turn_body` and `turn` are what a loop's turn gives, among statements and among items
module _ (turn_body : Gens → Stmts → Body → Walk Body) (turn : Gens → Items → Made → Walk Made) (modules : List Module) (enter : Enter) (here : Here) where
  unfoldable mutual
    pub closed_item : Gens → tree.Item → Made → Walk Made
    closed_item shown (wire line f w) made = do
      s ← wire_signal line [] f w
      counted ← counts Signals line
      Gives (with_signal made s)
    closed_item shown (reg line f w l) made = do
      s ← register line [] f w l
      counted ← counts Signals line
      Gives (with_signal made s)
    closed_item shown (inst line f x args cs) made = do
      want ← asked modules line [] f x args cs
      instances ← enter want here (here.number + 1 + length made.below)
      Gives (with_child made want instances)
    closed_item shown (comb line body) made = do
      b ← closed_stmts turn_body shown body Done
      Gives (with_block made (record { line = line; clocked = false; body = b }))
    closed_item shown (ff line body) made = do
      b ← closed_stmts turn_body shown body Done
      Gives (with_block made (record { line = line; clocked = true; body = b }))
    closed_item shown (repeat_items line x from to body) made = do
      range ← two_numbers line [] from to
      count ← turn_count line range.0 range.1
      turns line (λ k more. turn (bound x k shown) (put_items (only_this x k) body) more) range.0 count made
    closed_item shown (given_items line left c right first second) made = do
      pair ← two_numbers line [] left right
      if holds c pair.0 pair.1 then closed_items shown first made else closed_else_items shown second made

    pub closed_items : Gens → Items → Made → Walk Made
    closed_items shown no_item made = Gives made
    closed_items shown (item i rest) made = do
      more ← closed_item shown i made
      closed_items shown rest more

    pub closed_else_items : Gens → ElseItems → Made → Walk Made
    closed_else_items shown no_else_items made = Gives made
    closed_else_items shown (otherwise_items body) made = closed_items shown body made

-- with loops that nest at most so deep
unfoldable pub closed_all : ℕ → List Module → Enter → Here → Gens → Items → Made → Walk Made
closed_all zero modules enter here shown body made = Gives made
closed_all (suc depth) modules enter here shown body made = closed_items (closed_body depth) (closed_all depth modules enter here) modules enter here shown body made

-- how deep loops nest, those of blocks in those of items
unfoldable mutual
  pub loops_item : tree.Item → ℕ
  loops_item (wire line f w) = 0
  loops_item (reg line f w l) = 0
  loops_item (inst line f x args cs) = 0
  loops_item (comb line body) = loops_stmts body
  loops_item (ff line body) = loops_stmts body
  loops_item (repeat_items line x from to body) = suc (loops_items body)
  loops_item (given_items line left c right first second) = max (loops_items first) (loops_else_items second)

  pub loops_items : Items → ℕ
  loops_items no_item = 0
  loops_items (item i rest) = max (loops_item i) (loops_items rest)

  pub loops_else_items : ElseItems → ℕ
  loops_else_items no_else_items = 0
  loops_else_items (otherwise_items body) = loops_items body

-- ---- modules and instances: a module is its body with the parameters replaced

unfoldable pub closed_module : ℕ → List Module → Enter → Here → Module → Gens → Walk Made
closed_module depth modules enter here m params = do
  signals ← ports (put_ports (find params) m.ports) [] []
  closed_all depth modules enter here params (put_items (find params) m.items) (record nothing { content = record (nothing.content) { signals = signals } })

-- a child is its module's body under a longer path
unfoldable pub closed_instance : ℕ → List Module → ℕ → Enter
closed_instance depth modules zero want here at = Faulty (TooDeep want.line want.name)
closed_instance depth modules (suc room) want here at = do
  counted ← counts Instances want.line
  outputs ← count_outputs want.line want.found.1.ports
  made ← closed_module depth modules (closed_instance depth modules room) (record { path = here.path ++ (codes "." ++ want.name); number = at }) want.found.1 want.params
  Gives (instances_of (here.path ++ (codes "." ++ want.name)) (Some here.number) want.found.0 want.params made)

unfoldable pub closed_top : ℕ → List Module → Name → Gens → Walk (List Instance)
closed_top depth modules top rest = do
  found ← module_named modules 0 top
  params ← top_values found.1 rest
  counted ← counts Instances 0
  made ← closed_module depth modules (closed_instance depth modules 32) (record { path = top; number = 0 }) found.1 params
  Gives (instances_of top None found.0 params made)

-- loops nest less deep than that in each module
abbrev pub NestBelow : ℕ → List Module → Type 0
NestBelow depth [] = Unit {0}
NestBelow depth (m ∷ modules) = (loops_items m.items < depth) × NestBelow depth modules
