-- Small sources, elaborated by hand.
use Rattle.std.specs.Prelude.{◌≡◌, ℕ, Bool, true, false, ℤ, pos, List, [], ◌∷◌, map, Option, Some, None, Result, Ok, Err, codes}
use Rattle.gen_tree.specs.declared.Op.TheVariants as op
use Rattle.gen_tree.specs.declared.UnOp.TheVariants as un_op
use Rattle.gen_tree.specs.Tree.{Int, num, var, Fam, plain, Expr, read, out, value, unary, binary, zext, Stmt, assign, bind, choose, repeat, Stmts, no_stmt, stmt, no_else, Conn, inst, comb, no_item, item, Port, Module, Source}
use Rattle.elab_core.specs.Walk.{Fault, UnknownModule, UnknownParameter, ElabRange, TooDeep}
use Rattle.exec_core.specs.Block.{Name}
use Rattle.design_core.specs.Design.{Gens, Design}
use Rattle.elab_core.specs.Elaborated.{Instance}
use Rattle.design_core.specs.Slots.{Head, variant_heads}
use Rattle.elab_core.specs.Design.{variants_of, variant_of, cells, elab, elaborated, elaborated_files}
use Rattle.places.specs.Places.{place}

abbrev plainly : Name → Fam
plainly x = record { name = x; index = None }

abbrev member : Name → Int → Fam
member x i = record { name = x; index = Some i }

abbrev reads : Name → Expr
reads x = read (plainly x)

abbrev two : Stmt → Stmt → Stmts
two a b = stmt a (stmt b no_stmt)

abbrev one_of : Stmt → Stmts
one_of a = stmt a no_stmt

-- 1: module D(N = 3) {
-- 2:   input a : 4;
-- 3:   output s : 4;
-- 4:   comb { s = 4'h0; for i in 0..N {
-- 5:     s = (s + a); } } }
abbrev pub loops : Module
loops = record {
  line = 1;
  name = codes "D";
  params = record { name = codes "N"; value = num 3 } ∷ [];
  ports = record { line = 2; output = false; name = codes "a"; width = num 4 } ∷ record { line = 3; output = true; name = codes "s"; width = num 4 } ∷ [];
  items = item (comb 4 (two (assign 4 (plainly (codes "s")) None (value (plain 4 0))) (repeat 4 (codes "i") (num 0) (var (codes "N")) (one_of (assign 5 (plainly (codes "s")) None (binary op.Add (reads (codes "s")) (reads (codes "a")))))))) no_item;
}

-- the statements of each variant
abbrev heads_in : Result Design Fault → List (List Head)
heads_in (Ok design) = map variant_heads design.variants
heads_in (Err fault) = []

abbrev head : ℕ → ℕ → Gens → Head
head slot line gens = record { slot = slot; line = line; gens = gens }

abbrev three : Name × ℤ
three = (codes "N", pos 3)

abbrev pub loops_is_elaborated : Type 0
loops_is_elaborated =
    heads_in (elaborated (loops ∷ []) (codes "D") [])
    ≡ (head 0 4 (three ∷ []) ∷ head 1 5 (three ∷ (codes "i", pos 0) ∷ []) ∷ head 2 5 (three ∷ (codes "i", pos 1) ∷ []) ∷ head 3 5 (three ∷ (codes "i", pos 2) ∷ []) ∷ []) ∷ []

-- with N = 4097 the loop of line 4 has a turn too many; a parameter that is none has line 0
abbrev pub loops_is_refused : Type 0
loops_is_refused =
    (elab (loops ∷ []) (codes "D") ((codes "N", pos 4097) ∷ []) ≡ Err (ElabRange 4))
    × (elab (loops ∷ []) (codes "D") ((codes "M", pos 1) ∷ []) ≡ Err (UnknownParameter 0 (codes "M")))

-- module X { inst u : X { } }
abbrev pub endless : Module
endless = record { line = 1; name = codes "X"; params = []; ports = []; items = item (inst 1 (plainly (codes "u")) (codes "X") [] []) no_item }

abbrev pub endless_is_refused : Type 0
endless_is_refused =
    (elab (endless ∷ []) (codes "X") [] ≡ Err (TooDeep 1 (codes "u")))
    × (elab (endless ∷ []) (codes "Y") [] ≡ Err (UnknownModule 0 (codes "Y")))

-- 1:  module L(W = 4) {
-- 2:    input a : W;
-- 3:    output y : W;
-- 4:    comb { y = a; if a { y = ~(a); } } }
-- 5:  module C { input a : 4;
-- 6:    inst u#0 : L { a = a; }
-- 7:    inst u#1 : L { a = u#0.y; }
-- 8:    inst v : L(W = 8) { a = zext(a, 8); }
-- 9:    comb { let t = a; } }
abbrev pub leaf : Module
leaf = record {
  line = 1;
  name = codes "L";
  params = record { name = codes "W"; value = num 4 } ∷ [];
  ports = record { line = 2; output = false; name = codes "a"; width = var (codes "W") } ∷ record { line = 3; output = true; name = codes "y"; width = var (codes "W") } ∷ [];
  items = item (comb 4 (two (assign 4 (plainly (codes "y")) None (reads (codes "a"))) (choose 4 (reads (codes "a")) (one_of (assign 4 (plainly (codes "y")) None (unary un_op.Not (reads (codes "a"))))) no_else))) no_item;
}

abbrev joined : ℕ → Expr → Conn
joined line e = record { line = line; port = codes "a"; value = e }

abbrev pub family : Module
family = record {
  line = 5;
  name = codes "C";
  params = [];
  ports = record { line = 5; output = false; name = codes "a"; width = num 4 } ∷ [];
  items =
      item (inst 6 (member (codes "u") (num 0)) (codes "L") [] (joined 6 (reads (codes "a")) ∷ []))
      (item (inst 7 (member (codes "u") (num 1)) (codes "L") [] (joined 7 (out (member (codes "u") (num 0)) (codes "y")) ∷ []))
      (item (inst 8 (plainly (codes "v")) (codes "L") (record { name = codes "W"; value = num 8 } ∷ []) (joined 8 (zext (reads (codes "a")) (num 8)) ∷ []))
      (item (comb 9 (one_of (bind 9 (plainly (codes "t")) (reads (codes "a"))))) no_item)));
}

abbrev instances_in : Result (List Instance) Fault → List Instance
instances_in (Ok instances) = instances
instances_in (Err fault) = []

abbrev family_instances : List Instance
family_instances = instances_in (elab (leaf ∷ family ∷ []) (codes "C") [])

-- each instance in preorder: its path, the number of its parent, the number of its variant
abbrev shapes : List Instance → List (Name × Option ℕ × ℕ)
shapes instances = map (λ i. (i.path, i.parent, variant_of i.place i.params (variants_of instances))) instances

abbrev four_wide : Gens
four_wide = (codes "W", pos 4) ∷ []

abbrev eight_wide : Gens
eight_wide = (codes "W", pos 8) ∷ []

abbrev pub family_is_elaborated : Type 0
family_is_elaborated =
    (shapes family_instances
    ≡ (codes "C", None, 0) ∷ (codes "C.u#0", Some 0, 1) ∷ (codes "C.u#1", Some 0, 1) ∷ (codes "C.v", Some 0, 2) ∷ [])
    × (heads_in (elaborated (leaf ∷ family ∷ []) (codes "C") [])
    ≡ (head 6 9 [] ∷ []) ∷ (head 0 4 four_wide ∷ head 1 4 four_wide ∷ head 2 4 four_wide ∷ []) ∷ (head 3 4 eight_wide ∷ head 4 4 eight_wide ∷ head 5 4 eight_wide ∷ []) ∷ [])
    × (cells family_instances ≡ 23)

-- a file that imports another, and that other:
-- 1:  import leaf;
-- 2:  module T { input a : 4; output z : 4; inst u : Leaf { a = a; } comb { z = u.y; } }
-- and
-- 1:  module Leaf { input a : 4; output y : 4;
-- 2:    comb { y = ~(a); } }
abbrev four_port : ℕ → Bool → Name → Port
four_port line output x = record { line = line; output = output; name = x; width = num 4 }

-- the first of them, as the source of a file
abbrev upper : ℕ → Source
upper file = record {
  imports = record { line = place file 1; name = codes "leaf" } ∷ [];
  modules =
      record {
        line = place file 2;
        name = codes "T";
        params = [];
        ports = four_port (place file 2) false (codes "a") ∷ four_port (place file 2) true (codes "z") ∷ [];
        items =
            item (inst (place file 2) (plainly (codes "u")) (codes "Leaf") [] (joined (place file 2) (reads (codes "a")) ∷ []))
            (item (comb (place file 2) (one_of (assign (place file 2) (plainly (codes "z")) None (out (plainly (codes "u")) (codes "y"))))) no_item);
      } ∷ [];
}

-- the second
abbrev lower : ℕ → Source
lower file = record {
  imports = [];
  modules =
      record {
        line = place file 1;
        name = codes "Leaf";
        params = [];
        ports = four_port (place file 1) false (codes "a") ∷ four_port (place file 1) true (codes "y") ∷ [];
        items = item (comb (place file 2) (one_of (assign (place file 2) (plainly (codes "y")) None (unary un_op.Not (reads (codes "a")))))) no_item;
      } ∷ [];
}

-- slots go by the number of the file: here the top is variant 0 both times
abbrev pub files_are_elaborated : Type 0
files_are_elaborated =
    (heads_in (elaborated_files (upper 0 ∷ lower 1 ∷ []) (codes "T") []) ≡ (head 0 2 [] ∷ []) ∷ (head 1 16777218 [] ∷ []) ∷ [])
    × (heads_in (elaborated_files (lower 0 ∷ upper 1 ∷ []) (codes "T") []) ≡ (head 1 16777218 [] ∷ []) ∷ (head 0 2 [] ∷ []) ∷ [])

-- a module that no file has, and one that two files have, are told at the place of the instance
abbrev pub files_are_refused : Type 0
files_are_refused =
    (elaborated_files (upper 0 ∷ []) (codes "T") [] ≡ Err (UnknownModule 2 (codes "Leaf")))
    × (elaborated_files (lower 0 ∷ upper 1 ∷ lower 2 ∷ []) (codes "T") [] ≡ Err (UnknownModule 16777218 (codes "Leaf")))
