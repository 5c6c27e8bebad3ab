-- The design that the instances of a walk are: variants, names in scope, the count of cells, slots.
use Rattle.std.specs.Prelude.{ℕ, ◌+◌, ◌*◌, Bool, ◌&&◌, ◌==◌, List, [], ◌∷◌, ◌++◌, length, map, Result, Ok, Err, if◌then◌else◌, bytes_eq, nat_lt, unwrap_or, option_map, slice_get, take}
use Rattle.std.specs.Cmp.Lexicographic.{pointwise}
use Rattle.std.specs.List.{enumerate_from, position_or_len}
use Rattle.std.specs.Ordering.{int_eq}
use Rattle.gen_tree.specs.Tree.{Module, Source, all_modules}
use Rattle.elab_core.specs.declared.fault.Count.TheVariants.{Cells}
use Rattle.elab_core.specs.Walk.{Fault, too_large, limit, Seen, none_seen, judge}
use Rattle.exec_core.specs.Block.{Name}
use Rattle.design_core.specs.Design.{Gens, Stmt, Assign, Let, If, Case, Body, Done, Then, Else, NoElse, Otherwise, Arms, NoArms, ThenArm, Block, Variant}
use Rattle.design_core.specs.declared.Instance as design_instance
use Rattle.design_core.specs.Design as design
pub use Rattle.design_core.specs.Slots.{stmt_size, size, else_size, arms_size, lets_of, blocks_size}
use Rattle.elab_core.specs.Elaborated.{Child, Content, Instance}
use Rattle.elab_core.specs.Elab.{top_walk}

-- ---- variants: a module with its parameter values

-- the same names with the same numbers
abbrev pub same_gens : Gens → Gens → Bool
same_gens a b = pointwise (λ g h. bytes_eq g.0 h.0 && int_eq g.1 h.1) a b

-- an instance of the module at this place with these parameters
abbrev pub is_of : ℕ → Gens → Instance → Bool
is_of place params v = place == v.place && same_gens params v.params

-- the place in a list of the first instance of a module with parameters; the list's length where there is none
abbrev pub variant_of : ℕ → Gens → List Instance → ℕ
variant_of place params variants = position_or_len (is_of place params) variants

-- the instances of a list that are like none before them, behind those
abbrev pub firsts : List Instance → List Instance → List Instance
firsts variants [] = variants
firsts variants (i ∷ instances) =
    if nat_lt (variant_of i.place i.params variants) (length variants) then firsts variants instances else firsts (variants ++ i ∷ []) instances

-- the first instance of each variant, in preorder
abbrev pub variants_of : List Instance → List Instance
variants_of instances = firsts [] instances

-- ---- names in scope

-- the names in scope in a block: the signals in the order of their declaration, then the lets of the block in preorder
abbrev pub scope : Content → Block → List Name
scope content block = map (λ s. s.name) content.signals ++ lets_of block.body

-- ---- cells: pairs of a statement and a name, over all instances

abbrev pub block_cells : Content → Block → ℕ
block_cells content block = size block.body * length (scope content block)

abbrev pub blocks_cells : Content → List Block → ℕ
blocks_cells content [] = 0
blocks_cells content (block ∷ blocks) = block_cells content block + blocks_cells content blocks

abbrev pub cells : List Instance → ℕ
cells [] = 0
cells (i ∷ instances) = blocks_cells i.content i.content.blocks + cells instances

-- ---- the elaborated source, or its first fault

abbrev pub unless_large : Result (List Instance × Seen) Fault → Result (List Instance) Fault
unless_large (Ok found) = if nat_lt (limit Cells) (cells found.0) then Err (too_large 0 Cells) else Ok found.0
unless_large (Err fault) = Err fault

-- the instances of a source from its top with these parameters
abbrev pub elab : List Module → Name → Gens → Result (List Instance) Fault
elab modules top rest = unless_large (judge none_seen (top_walk modules top rest))

-- ---- the elaborated design

-- the same with slots from a number on, in preorder
abbrev mutual
  pub numbered_stmt : ℕ → Stmt → Stmt
  numbered_stmt k (Assign slot line gens x part e) = Assign k line gens x part e
  numbered_stmt k (Let slot line gens x e) = Let k line gens x e
  numbered_stmt k (If slot line gens c first second) = If k line gens c (numbered (k + 1) first) (numbered_else (k + 1 + size first) second)
  numbered_stmt k (Case slot line gens v arms other) = Case k line gens v (numbered_arms (k + 1) arms) (numbered_else (k + 1 + arms_size arms) other)

  pub numbered : ℕ → Body → Body
  numbered k Done = Done
  numbered k (Then s rest) = Then (numbered_stmt k s) (numbered (k + stmt_size s) rest)

  pub numbered_else : ℕ → Else → Else
  numbered_else k NoElse = NoElse
  numbered_else k (Otherwise body) = Otherwise (numbered k body)

  pub numbered_arms : ℕ → Arms → Arms
  numbered_arms k NoArms = NoArms
  numbered_arms k (ThenArm tests body rest) = ThenArm tests (numbered k body) (numbered_arms (k + size body) rest)

abbrev pub block_from : ℕ → Block → Block
block_from k b = record b { body = numbered k b.body }

abbrev pub numbered_blocks : ℕ → List Block → List Block
numbered_blocks k [] = []
numbered_blocks k (b ∷ blocks) = block_from k b ∷ numbered_blocks (k + size b.body) blocks

-- the statements of those variants that pass a test
abbrev pub statements_where : (Instance → Bool) → List Instance → ℕ
statements_where p [] = 0
statements_where p (v ∷ variants) = (if p v then blocks_size v.content.blocks else 0) + statements_where p variants

-- the first slot of a variant, by its number: behind the statements of those whose modules stand earlier in the source, and of
-- those of its module with smaller numbers
abbrev pub first_slot : List Instance → ℕ × Instance → ℕ
first_slot variants v =
    statements_where (λ w. nat_lt w.place v.1.place) variants + statements_where (λ w. w.place == v.1.place) (take v.0 variants)

-- a child, with its variant by number
abbrev pub child_in : List Instance → Child → design.Child
child_in variants c = record { line = c.line; name = c.name; variant = variant_of c.place c.params variants; conns = c.conns }

abbrev pub name_at : ℕ → List Module → Name
name_at place modules = unwrap_or (option_map (λ m. m.name) (slice_get modules place)) []

-- the variant of a first instance, whose slots begin with this one
abbrev pub variant_from : List Module → List Instance → ℕ → Instance → Variant
variant_from modules variants slot i = record {
  «module» = name_at i.place modules;
  params = i.params;
  signals = i.content.signals;
  children = map (child_in variants) i.content.children;
  blocks = numbered_blocks slot i.content.blocks;
}

-- a first instance with its number, as a variant of the design
abbrev pub numbered_variant : List Module → List Instance → ℕ × Instance → Variant
numbered_variant modules variants v = variant_from modules variants (first_slot variants v) v.1

abbrev pub instance_in : List Instance → Instance → design_instance.Instance
instance_in variants i = record { path = i.path; variant = variant_of i.place i.params variants; parent = i.parent }

-- the design of all instances, with this module at its top
abbrev pub designed : List Module → Name → List Instance → design.Design
designed modules top instances =
    let variants = variants_of instances in
    record {
      top = top;
      variants = map (numbered_variant modules variants) (enumerate_from 0 variants);
      instances = map (instance_in variants) instances;
    }

abbrev pub design_from : List Module → Name → Result (List Instance) Fault → Result design.Design Fault
design_from modules top (Ok instances) = Ok (designed modules top instances)
design_from modules top (Err fault) = Err fault

-- the elaborated design of a source from its top with these parameters, or the first fault
abbrev pub elaborated : List Module → Name → Gens → Result design.Design Fault
elaborated modules top rest = design_from modules top (elab modules top rest)

-- the same of the sources of several files: of the modules of all of them, one file after the other
abbrev pub elaborated_files : List Source → Name → Gens → Result design.Design Fault
elaborated_files sources top rest = elaborated (all_modules sources) top rest
