-- What it is that the names of a source are texts.
use Rattle.std.proofs.Common.{IsUtf8}
use Rattle.gen_tree.specs.Tree as tree
use Rattle.gen_tree.specs.Tree.{assign, bind, choose, select, repeat, given, Stmts, no_stmt, stmt, no_else, otherwise, no_arm, arm, Param, wire, reg, inst, comb, ff, repeat_items, given_items, Items, no_item, item, ElseItems, no_else_items, otherwise_items, Port, Module}
use Rattle.list_core.specs.Lists.{EachOf}

-- the names of `let`s and of the variables of loops
abbrev mutual
  pub StmtNamed : tree.Stmt → Type 0
  StmtNamed (assign line f p e) = Unit {0}
  StmtNamed (bind line f e) = IsUtf8 f.name
  StmtNamed (choose line c first second) = StmtsNamed first × ElseNamed second
  StmtNamed (select line v all other) = ArmsNamed all × ElseNamed other
  StmtNamed (repeat line x from to body) = IsUtf8 x × StmtsNamed body
  StmtNamed (given line left c right first second) = StmtsNamed first × ElseNamed second

  pub StmtsNamed : Stmts → Type 0
  StmtsNamed no_stmt = Unit {0}
  StmtsNamed (stmt s rest) = StmtNamed s × StmtsNamed rest

  pub ElseNamed : tree.Else → Type 0
  ElseNamed no_else = Unit {0}
  ElseNamed (otherwise body) = StmtsNamed body

  pub ArmsNamed : tree.Arms → Type 0
  ArmsNamed no_arm = Unit {0}
  ArmsNamed (arm tests body more) = StmtsNamed body × ArmsNamed more

-- and those of signals and instances
abbrev mutual
  pub ItemNamed : tree.Item → Type 0
  ItemNamed (wire line f w) = IsUtf8 f.name
  ItemNamed (reg line f w l) = IsUtf8 f.name
  ItemNamed (inst line f x args cs) = IsUtf8 f.name
  ItemNamed (comb line body) = StmtsNamed body
  ItemNamed (ff line body) = StmtsNamed body
  ItemNamed (repeat_items line x from to body) = IsUtf8 x × ItemsNamed body
  ItemNamed (given_items line left c right first second) = ItemsNamed first × ElseItemsNamed second

  pub ItemsNamed : Items → Type 0
  ItemsNamed no_item = Unit {0}
  ItemsNamed (item i rest) = ItemNamed i × ItemsNamed rest

  pub ElseItemsNamed : ElseItems → Type 0
  ElseItemsNamed no_else_items = Unit {0}
  ElseItemsNamed (otherwise_items body) = ItemsNamed body

abbrev pub ParamNamed : Param → Type 0
ParamNamed p = IsUtf8 p.name

abbrev pub PortNamed : Port → Type 0
PortNamed p = IsUtf8 p.name

-- a module's, with its own, those of its parameters and its ports
pub record ModuleNamed (m : Module) : Type 0 where
  pub name : IsUtf8 m.name
  pub params : EachOf ParamNamed m.params
  pub ports : EachOf PortNamed m.ports
  pub items : ItemsNamed m.items
