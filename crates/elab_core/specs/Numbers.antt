-- The whole numbers of elaboration, and the names that have one.
use Rattle.std.specs.Prelude.{ℕ, Bool, ◌&&◌, not, ℤ, pos, negsuc, ◌+ℤ◌, ◌-ℤ◌, ◌*ℤ◌, int_lt, int_le, ◌++◌, Option, Some, None, if◌then◌else◌, nat_le, codes, decimal}
use Rattle.gen_tree.specs.declared.IntOp.{IntOp}
use Rattle.gen_tree.specs.declared.IntOp.TheVariants as int_op
use Rattle.gen_tree.specs.declared.Cmp.{Cmp}
use Rattle.gen_tree.specs.declared.Cmp.TheVariants as cmp
use Rattle.gen_tree.specs.Tree.{Int, num, var, bin, Fam}
use Rattle.exec_core.specs.Block.{Name}
pub use Rattle.design_core.specs.Design.{in_range, IsInRange, AreInRange}
use Rattle.design_core.specs.Design.{Gens}
pub use Rattle.gen_scope.specs.Gens.{find, without, bound}
use Rattle.elab_core.specs.Walk.{Walk, Gives, Faulty, ◌>>=◌, and_then, UnknownParameter, ElabRange}

abbrev pub apply_op : IntOp → ℤ → ℤ → ℤ
apply_op int_op.Add a b = a +ℤ b
apply_op int_op.Sub a b = a -ℤ b
apply_op int_op.Mul a b = a *ℤ b

abbrev pub holds : Cmp → ℤ → ℤ → Bool
holds cmp.Eq a b = int_le a b && int_le b a
holds cmp.Ne a b = not (int_le a b && int_le b a)
holds cmp.Lt a b = int_lt a b
holds cmp.Le a b = int_le a b

-- what a name stands for; it is a fault if it stands for nothing
abbrev pub named : ℕ → Name → Option ℤ → Walk ℤ
named line x None = Faulty (UnknownParameter line x)
named line x (Some n) = Gives n

-- a result that leaves the range is a fault
abbrev pub ranged : ℕ → ℤ → Walk ℤ
ranged line n = if in_range n then Gives n else Faulty (ElabRange line)

-- an integer's number, with the faults on this line
unfoldable pub number : ℕ → Gens → Int → Walk ℤ
number line gens (num n) = ranged line (pos n)
number line gens (var x) = named line x (find gens x)
number line gens (bin op a b) = do
  m ← number line gens a
  n ← number line gens b
  ranged line (apply_op op m n)

-- `t#2`; a negative index is a fault
abbrev pub family : ℕ → Name → ℤ → Walk Name
family line x (pos n) = Gives (x ++ (codes "#" ++ decimal n))
family line x (negsuc n) = Faulty (ElabRange line)

unfoldable pub index_name : ℕ → Gens → Name → Option Int → Walk Name
index_name line gens x None = Gives x
index_name line gens x (Some i) = and_then (number line gens i) (family line x)

-- the name of a member of a family, or a plain name
abbrev pub fam_name : ℕ → Gens → Fam → Walk Name
fam_name line gens fam = index_name line gens fam.name fam.index

-- two numbers, the left one first
unfoldable pub two_numbers : ℕ → Gens → Int → Int → Walk (ℤ × ℤ)
two_numbers line gens a b = do
  m ← number line gens a
  n ← number line gens b
  Gives (m, n)

abbrev pub turns_of : ℤ → ℕ
turns_of (pos n) = n
turns_of (negsuc n) = 0

-- how many turns a loop has from the first bound to below the second: at most 4,096
abbrev pub turn_count : ℕ → ℤ → ℤ → Walk ℕ
turn_count line from to = if nat_le (turns_of (to -ℤ from)) 4096 then Gives (turns_of (to -ℤ from)) else Faulty (ElabRange line)
