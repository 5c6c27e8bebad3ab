-- The names that a condition reads.
use Rattle.std.specs.Prelude.{ℕ, List, [], ◌++◌, Option, Some, None, codes, decimal}
use Rattle.gen_tree.specs.Tree.{Int, num, var, bin, Fam}

-- a name, as its bytes
abbrev pub Name : Type 0
Name = List ℕ

-- the number that an integer of a condition is; the other forms stand in no condition
abbrev pub number : Int → ℕ
number (num n) = n
number (var x) = 0
number (bin o a b) = 0

-- `#2`, without leading zeros; or nothing
abbrev pub index_name : Option Int → Name
index_name None = []
index_name (Some i) = codes "#" ++ decimal (number i)

-- `t`, `t#2`
abbrev pub fam_name : Fam → Name
fam_name f = f.name ++ index_name f.index

-- an output of a child: `u.q`, `u#0.q`
abbrev pub output_name : Fam → List ℕ → Name
output_name f q = fam_name f ++ (codes "." ++ q)
