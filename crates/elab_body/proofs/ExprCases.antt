-- Each case of the walk over an expression.
use Rattle.std.proofs.Common.{◌≡◌, ℕ, ℤ, Option, Ok, Err}
use Rattle.gen_tree.specs.Tree as tree
use Rattle.gen_tree.specs.Tree.{Int, Lit, read, out, value, unary, binary, mux, zext, slice}
use Rattle.gen_tree.specs.declared.UnOp as source_unary
use Rattle.gen_tree.specs.declared.Op as source_binary
use Rattle.elab_core.specs.declared.Count.TheVariants.{Parts}
use Rattle.elab_core.specs.Walk.{Gives, Faulty, Fault, Seen, judge, counts}
use Rattle.elab_core.specs.Numbers.{number, index_name, two_numbers}
use Rattle.elab_core.specs.Operators.{unary_of, binary_of}
use Rattle.elab_core.specs.Elab.{literal, expr}
use Rattle.design_core.specs.declared.Literal.{Literal}
use Rattle.exec_core.specs.Block.{Name}
use Rattle.design_core.specs.Design.{Gens, Expr, Read, Out, Value, Unary, Binary, Mux, Zext, Slice}
use Rattle.elab_base.proofs.Steps.{counted, refused, given, faulty, ends}

-- a part too many, whatever the expression is
pub part_refused : (line : ℕ) (gens : Gens) (e : tree.Expr) (seen : Seen) (x : Fault) → judge seen (counts Parts line) ≡ Err x → judge seen (expr line gens e) ≡ Err x
unfolding expr
part_refused line gens (read f) seen x h = refused _ _ _ _ h
part_refused line gens (out f q) seen x h = refused _ _ _ _ h
part_refused line gens (value l) seen x h = refused _ _ _ _ h
part_refused line gens (unary o e) seen x h = refused _ _ _ _ h
part_refused line gens (binary o e f) seen x h = refused _ _ _ _ h
part_refused line gens (mux e f g) seen x h = refused _ _ _ _ h
part_refused line gens (zext e w) seen x h = refused _ _ _ _ h
part_refused line gens (slice e h' l) seen x h = refused _ _ _ _ h

pub read_fault_2 : (line : ℕ) (gens : Gens) (f : Name) (i : Option Int) (seen s1 : Seen) (x : Fault) → judge seen (counts Parts line) ≡ Ok (tt, s1) → index_name line gens f i ≡ Faulty x →
    judge seen (expr line gens (read (record { name = f; index = i }))) ≡ Err x
unfolding expr
read_fault_2 line gens f i seen s1 x e1 e2 = counted _ _ _ _ _ _ e1 (faulty _ _ _ _ e2)

pub read_done : (line : ℕ) (gens : Gens) (f : Name) (i : Option Int) (y : Name) (seen s1 : Seen) → judge seen (counts Parts line) ≡ Ok (tt, s1) → index_name line gens f i ≡ Gives y →
    judge seen (expr line gens (read (record { name = f; index = i }))) ≡ Ok (Read y, s1)
unfolding expr
read_done line gens f i y seen s1 e1 e2 = counted _ _ _ _ _ _ e1 (given _ _ _ _ _ e2 (ends _ _))

pub out_fault_2 : (line : ℕ) (gens : Gens) (f : Name) (i : Option Int) (q : Name) (seen s1 : Seen) (x : Fault) → judge seen (counts Parts line) ≡ Ok (tt, s1) → index_name line gens f i ≡ Faulty x →
    judge seen (expr line gens (out (record { name = f; index = i }) q)) ≡ Err x
unfolding expr
out_fault_2 line gens f i q seen s1 x e1 e2 = counted _ _ _ _ _ _ e1 (faulty _ _ _ _ e2)

pub out_done : (line : ℕ) (gens : Gens) (f : Name) (i : Option Int) (q : Name) (y : Name) (seen s1 : Seen) → judge seen (counts Parts line) ≡ Ok (tt, s1) → index_name line gens f i ≡ Gives y →
    judge seen (expr line gens (out (record { name = f; index = i }) q)) ≡ Ok (Out y q, s1)
unfolding expr
out_done line gens f i q y seen s1 e1 e2 = counted _ _ _ _ _ _ e1 (given _ _ _ _ _ e2 (ends _ _))

pub value_fault_2 : (line : ℕ) (gens : Gens) (l : Lit) (seen s1 : Seen) (x : Fault) → judge seen (counts Parts line) ≡ Ok (tt, s1) → literal line gens l ≡ Faulty x →
    judge seen (expr line gens (value l)) ≡ Err x
unfolding expr
value_fault_2 line gens l seen s1 x e1 e2 = counted _ _ _ _ _ _ e1 (faulty _ _ _ _ e2)

pub value_done : (line : ℕ) (gens : Gens) (l : Lit) (v : Literal) (seen s1 : Seen) → judge seen (counts Parts line) ≡ Ok (tt, s1) → literal line gens l ≡ Gives v →
    judge seen (expr line gens (value l)) ≡ Ok (Value v, s1)
unfolding expr
value_done line gens l v seen s1 e1 e2 = counted _ _ _ _ _ _ e1 (given _ _ _ _ _ e2 (ends _ _))

pub unary_fault_2 : (line : ℕ) (gens : Gens) (o : source_unary.UnOp) (e : tree.Expr) (seen s1 : Seen) (x : Fault) → judge seen (counts Parts line) ≡ Ok (tt, s1) → judge s1 (expr line gens e) ≡ Err x →
    judge seen (expr line gens (unary o e)) ≡ Err x
unfolding expr
unary_fault_2 line gens o e seen s1 x e1 e2 = counted _ _ _ _ _ _ e1 (refused _ _ _ _ e2)

pub unary_done : (line : ℕ) (gens : Gens) (o : source_unary.UnOp) (e : tree.Expr) (a : Expr) (seen s1 s2 : Seen) → judge seen (counts Parts line) ≡ Ok (tt, s1) → judge s1 (expr line gens e) ≡ Ok (a, s2) →
    judge seen (expr line gens (unary o e)) ≡ Ok (Unary (unary_of o) a, s2)
unfolding expr
unary_done line gens o e a seen s1 s2 e1 e2 = counted _ _ _ _ _ _ e1 (counted _ _ _ _ _ _ e2 (ends _ _))

pub binary_fault_2 : (line : ℕ) (gens : Gens) (o : source_binary.Op) (e f : tree.Expr) (seen s1 : Seen) (x : Fault) → judge seen (counts Parts line) ≡ Ok (tt, s1) → judge s1 (expr line gens e) ≡ Err x →
    judge seen (expr line gens (binary o e f)) ≡ Err x
unfolding expr
binary_fault_2 line gens o e f seen s1 x e1 e2 = counted _ _ _ _ _ _ e1 (refused _ _ _ _ e2)

pub binary_fault_3 : (line : ℕ) (gens : Gens) (o : source_binary.Op) (e f : tree.Expr) (a : Expr) (seen s1 s2 : Seen) (x : Fault) → judge seen (counts Parts line) ≡ Ok (tt, s1) → judge s1 (expr line gens e) ≡ Ok (a, s2) → judge s2 (expr line gens f) ≡ Err x →
    judge seen (expr line gens (binary o e f)) ≡ Err x
unfolding expr
binary_fault_3 line gens o e f a seen s1 s2 x e1 e2 e3 = counted _ _ _ _ _ _ e1 (counted _ _ _ _ _ _ e2 (refused _ _ _ _ e3))

pub binary_done : (line : ℕ) (gens : Gens) (o : source_binary.Op) (e f : tree.Expr) (a : Expr) (b : Expr) (seen s1 s2 s3 : Seen) → judge seen (counts Parts line) ≡ Ok (tt, s1) → judge s1 (expr line gens e) ≡ Ok (a, s2) → judge s2 (expr line gens f) ≡ Ok (b, s3) →
    judge seen (expr line gens (binary o e f)) ≡ Ok (Binary (binary_of o) a b, s3)
unfolding expr
binary_done line gens o e f a b seen s1 s2 s3 e1 e2 e3 = counted _ _ _ _ _ _ e1 (counted _ _ _ _ _ _ e2 (counted _ _ _ _ _ _ e3 (ends _ _)))

pub mux_fault_2 : (line : ℕ) (gens : Gens) (e f g : tree.Expr) (seen s1 : Seen) (x : Fault) → judge seen (counts Parts line) ≡ Ok (tt, s1) → judge s1 (expr line gens e) ≡ Err x →
    judge seen (expr line gens (mux e f g)) ≡ Err x
unfolding expr
mux_fault_2 line gens e f g seen s1 x e1 e2 = counted _ _ _ _ _ _ e1 (refused _ _ _ _ e2)

pub mux_fault_3 : (line : ℕ) (gens : Gens) (e f g : tree.Expr) (c : Expr) (seen s1 s2 : Seen) (x : Fault) → judge seen (counts Parts line) ≡ Ok (tt, s1) → judge s1 (expr line gens e) ≡ Ok (c, s2) → judge s2 (expr line gens f) ≡ Err x →
    judge seen (expr line gens (mux e f g)) ≡ Err x
unfolding expr
mux_fault_3 line gens e f g c seen s1 s2 x e1 e2 e3 = counted _ _ _ _ _ _ e1 (counted _ _ _ _ _ _ e2 (refused _ _ _ _ e3))

pub mux_fault_4 : (line : ℕ) (gens : Gens) (e f g : tree.Expr) (c : Expr) (a : Expr) (seen s1 s2 s3 : Seen) (x : Fault) → judge seen (counts Parts line) ≡ Ok (tt, s1) → judge s1 (expr line gens e) ≡ Ok (c, s2) → judge s2 (expr line gens f) ≡ Ok (a, s3) → judge s3 (expr line gens g) ≡ Err x →
    judge seen (expr line gens (mux e f g)) ≡ Err x
unfolding expr
mux_fault_4 line gens e f g c a seen s1 s2 s3 x e1 e2 e3 e4 = counted _ _ _ _ _ _ e1 (counted _ _ _ _ _ _ e2 (counted _ _ _ _ _ _ e3 (refused _ _ _ _ e4)))

pub mux_done : (line : ℕ) (gens : Gens) (e f g : tree.Expr) (c : Expr) (a : Expr) (b : Expr) (seen s1 s2 s3 s4 : Seen) → judge seen (counts Parts line) ≡ Ok (tt, s1) → judge s1 (expr line gens e) ≡ Ok (c, s2) → judge s2 (expr line gens f) ≡ Ok (a, s3) → judge s3 (expr line gens g) ≡ Ok (b, s4) →
    judge seen (expr line gens (mux e f g)) ≡ Ok (Mux c a b, s4)
unfolding expr
mux_done line gens e f g c a b seen s1 s2 s3 s4 e1 e2 e3 e4 = counted _ _ _ _ _ _ e1 (counted _ _ _ _ _ _ e2 (counted _ _ _ _ _ _ e3 (counted _ _ _ _ _ _ e4 (ends _ _))))

pub zext_fault_2 : (line : ℕ) (gens : Gens) (e : tree.Expr) (w : Int) (seen s1 : Seen) (x : Fault) → judge seen (counts Parts line) ≡ Ok (tt, s1) → judge s1 (expr line gens e) ≡ Err x →
    judge seen (expr line gens (zext e w)) ≡ Err x
unfolding expr
zext_fault_2 line gens e w seen s1 x e1 e2 = counted _ _ _ _ _ _ e1 (refused _ _ _ _ e2)

pub zext_fault_3 : (line : ℕ) (gens : Gens) (e : tree.Expr) (w : Int) (a : Expr) (seen s1 s2 : Seen) (x : Fault) → judge seen (counts Parts line) ≡ Ok (tt, s1) → judge s1 (expr line gens e) ≡ Ok (a, s2) → number line gens w ≡ Faulty x →
    judge seen (expr line gens (zext e w)) ≡ Err x
unfolding expr
zext_fault_3 line gens e w a seen s1 s2 x e1 e2 e3 = counted _ _ _ _ _ _ e1 (counted _ _ _ _ _ _ e2 (faulty _ _ _ _ e3))

pub zext_done : (line : ℕ) (gens : Gens) (e : tree.Expr) (w : Int) (a : Expr) (n : ℤ) (seen s1 s2 : Seen) → judge seen (counts Parts line) ≡ Ok (tt, s1) → judge s1 (expr line gens e) ≡ Ok (a, s2) → number line gens w ≡ Gives n →
    judge seen (expr line gens (zext e w)) ≡ Ok (Zext a n, s2)
unfolding expr
zext_done line gens e w a n seen s1 s2 e1 e2 e3 = counted _ _ _ _ _ _ e1 (counted _ _ _ _ _ _ e2 (given _ _ _ _ _ e3 (ends _ _)))

pub slice_fault_2 : (line : ℕ) (gens : Gens) (e : tree.Expr) (h l : Int) (seen s1 : Seen) (x : Fault) → judge seen (counts Parts line) ≡ Ok (tt, s1) → judge s1 (expr line gens e) ≡ Err x →
    judge seen (expr line gens (slice e h l)) ≡ Err x
unfolding expr
slice_fault_2 line gens e h l seen s1 x e1 e2 = counted _ _ _ _ _ _ e1 (refused _ _ _ _ e2)

pub slice_fault_3 : (line : ℕ) (gens : Gens) (e : tree.Expr) (h l : Int) (a : Expr) (seen s1 s2 : Seen) (x : Fault) → judge seen (counts Parts line) ≡ Ok (tt, s1) → judge s1 (expr line gens e) ≡ Ok (a, s2) → two_numbers line gens h l ≡ Faulty x →
    judge seen (expr line gens (slice e h l)) ≡ Err x
unfolding expr
slice_fault_3 line gens e h l a seen s1 s2 x e1 e2 e3 = counted _ _ _ _ _ _ e1 (counted _ _ _ _ _ _ e2 (faulty _ _ _ _ e3))

pub slice_done : (line : ℕ) (gens : Gens) (e : tree.Expr) (h l : Int) (a : Expr) (m n : ℤ) (seen s1 s2 : Seen) → judge seen (counts Parts line) ≡ Ok (tt, s1) → judge s1 (expr line gens e) ≡ Ok (a, s2) → two_numbers line gens h l ≡ Gives (m, n) →
    judge seen (expr line gens (slice e h l)) ≡ Ok (Slice a m n, s2)
unfolding expr
slice_done line gens e h l a m n seen s1 s2 e1 e2 e3 = counted _ _ _ _ _ _ e1 (counted _ _ _ _ _ _ e2 (given _ _ _ _ _ e3 (ends _ _)))

pub ruleset expr_steps = (part_refused, read_fault_2, read_done, out_fault_2, out_done, value_fault_2, value_done, unary_fault_2, unary_done, binary_fault_2, binary_fault_3, binary_done, mux_fault_2, mux_fault_3, mux_fault_4, mux_done, zext_fault_2, zext_fault_3, zext_done, slice_fault_2, slice_fault_3, slice_done)
