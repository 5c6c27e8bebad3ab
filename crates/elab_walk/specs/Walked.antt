-- What the body of an instance gave so far, and the steps of the walk over items.
use Rattle.std.specs.Prelude.{ℕ, ◌+◌, ℤ, Bool, true, false, List, [], ◌∷◌, ◌++◌, length, map, Result, Ok, Err}
use Rattle.gen_tree.specs.Tree.{Int, Fam, Lit, Items, no_item, ElseItems, no_else_items, otherwise_items, wire, reg, inst, comb, ff, repeat_items, given_items, Port, Module}
use Rattle.gen_tree.specs.Tree as tree
use Rattle.gen_tree.specs.View.{lent_of}
use Rattle.elab_core.specs.declared.Count.TheVariants.{Instances, Signals, Turns}
use Rattle.elab_core.specs.declared.Instance as code_instance
use Rattle.elab_core.specs.Walk.{Walk, Gives, ◌>>=◌, counts, Fault, Seen}
use Rattle.elab_core.specs.Numbers.{bound, number}
use Rattle.elab_core.specs.Elaborated.{Child, Instance}
use Rattle.elab_core.specs.Elab.{expr, Here, Enter, Made, Asked, wire_signal, register, port_kind, with_child, items_walk, instance, count_outputs, child_outputs, first_signals}
use Rattle.elab_core.specs.View.{content_of, instance_of}
use Rattle.design_core.specs.declared.Signal.{Signal}
use Rattle.exec_core.specs.Block.{Name}
use Rattle.design_core.specs.Design.{Gens, Conn}
use Rattle.design_core.specs.View.{conn_of}
use Rattle.elab_walk.specs.declared.made.Made as code_made
use Rattle.elab_walk.specs.declared.made.Here as code_here
use Rattle.elab_walk.specs.declared.asked.Asked as code_asked
use Rattle.elab_walk.specs.declared.walker.Walker as code_walker

unfoldable pub placed_of : List code_instance.Instance → List Instance
placed_of all = map instance_of all

unfoldable pub made_of : code_made.Made → Made
made_of made = record { content = content_of made.content; below = placed_of made.below.items }

abbrev pub here_of : code_here.Here → Here
here_of here = record { path = here.path; number = here.number }

-- the modules that a walker finds, and how it enters an instance
abbrev pub modules_in : code_walker.Walker → List Module
modules_in walker = lent_of walker.modules.now.all.now

abbrev pub enter_in : code_walker.Walker → Enter
enter_in walker = instance (modules_in walker) walker.room

-- an item that stands for none of its own: those of its turns, or of one of its branches, stand there
abbrev pub is_generated : tree.Item → Bool
is_generated (wire line f w) = false
is_generated (reg line f w l) = false
is_generated (inst line f x args cs) = false
is_generated (comb line body) = false
is_generated (ff line body) = false
is_generated (repeat_items line x from to body) = true
is_generated (given_items line left cmp right first second) = true

-- a child as it is asked for, of this module
abbrev pub asked_of : code_asked.Asked → Module → Asked
asked_of want found = record { line = want.line; name = want.name; found = (want.place, found); params = want.params; conns = map conn_of want.conns.items }

-- the child that is made of it
abbrev pub child_in : code_asked.Asked → Child
child_in want = record { line = want.line; name = want.name; place = want.place; params = want.params; conns = map conn_of want.conns.items }

-- a body with this child and its instances
abbrev pub with_asked : Made → code_asked.Asked → List Instance → Made
with_asked made want instances = record {
  content = record {
    signals = made.content.signals ++ child_outputs want.line (length made.content.children) want.name (first_signals instances);
    children = made.content.children ++ child_in want ∷ [];
    blocks = made.content.blocks;
  };
  below = made.below ++ instances;
}

-- a port, and its count as a signal
unfoldable pub port_signal : Port → Gens → Walk Signal
port_signal p gens = do
  w ← number p.line gens p.width
  counted ← counts Signals p.line
  Gives (record { line = p.line; name = p.name; kind = port_kind p.output; width = w })

unfoldable pub connection : tree.Conn → Gens → Walk Conn
connection c gens = do
  v ← expr c.line gens c.value
  Gives (record { line = c.line; port = c.port; value = v })

-- a wire, and its count
unfoldable pub counted_wire : ℕ → Gens → Fam → Int → Walk Signal
counted_wire line gens f w = do
  s ← wire_signal line gens f w
  counted ← counts Signals line
  Gives s

-- a register, and its count
unfoldable pub counted_register : ℕ → Gens → Fam → Int → Lit → Walk Signal
counted_register line gens f w l = do
  s ← register line gens f w l
  counted ← counts Signals line
  Gives s

-- a child that was asked for: its instances get the next numbers
unfoldable pub child_walk : Enter → Here → Asked → Made → Walk Made
child_walk enter here want made = do
  instances ← enter want here (here.number + 1 + length made.below)
  Gives (with_child made want instances)

-- the count of an instance, and of its outputs as signals of its parent
unfoldable pub entry : ℕ → List Port → Walk (Unit {0})
entry line ps = do
  counted ← counts Instances line
  count_outputs line ps

-- a turn of a loop, with the names inside
unfoldable pub turn : List Module → Enter → Here → ℕ → Items → Gens → Made → Walk Made
turn modules enter here line body inner made = do
  counted ← counts Turns line
  items_walk modules enter here body inner made

-- what a turn gives, by its number
unfoldable pub in_turn : List Module → Enter → Here → Items → Name → Gens → ℤ → Made → Walk Made
in_turn modules enter here body x gens k made = items_walk modules enter here body (bound x k gens) made

-- the items of an `else`
abbrev pub else_items : ElseItems → Items
else_items no_else_items = no_item
else_items (otherwise_items body) = body

-- what came out of a walk that was judged, without its counts
abbrev pub uncounted : {A : Type 0} → Result (A × Seen) Fault → Result A Fault
uncounted (Ok p) = Ok p.0
uncounted (Err fault) = Err fault
